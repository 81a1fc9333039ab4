-- The figures program's output, what is proved of it, and what the private functions promise each other.
pub mod Report
pub mod Theorems
pub mod Steps
