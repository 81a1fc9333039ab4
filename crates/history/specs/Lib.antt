-- Histories: the view of one, opening, and what the private functions promise each other.
pub mod States
pub mod Opening
pub mod Answers
pub mod Promises
pub mod Steps
