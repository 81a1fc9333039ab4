-- Lists of ticks on states that are words: the words, answers as numbers, what is given back, and what the private functions promise each
-- other.
pub mod Codes
pub mod Words
pub mod Scripts
pub mod Theorems
pub mod Answers
pub mod Steps
pub mod Runs
