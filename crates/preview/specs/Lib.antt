-- A preview: what it gives back, what is proved of it, and what the private functions promise each other.
pub mod Preview
pub mod Theorems
pub mod Steps
