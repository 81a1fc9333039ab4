-- The limits of a pair: the questions that every operation on a pair asks, and what asking them answers.
pub mod Bounds
pub mod Answers
