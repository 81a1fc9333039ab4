-- Rendering: what it writes, what it answers, what is proved of it, and what the private functions promise each other.
pub mod Rendering
pub mod Answers
pub mod Theorems
pub mod Steps
