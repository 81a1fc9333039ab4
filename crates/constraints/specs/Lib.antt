-- Reading constraint text: what it stands for, what reading answers, what is proved of it, and what the private functions promise each
-- other.
pub mod Constraints
pub mod Reading
pub mod Answers
pub mod Theorems
pub mod Steps
