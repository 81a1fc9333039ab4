-- A record of constraint text: what reading one answers, and what the private functions promise each other.
pub mod Recording
pub mod Answers
pub mod Steps
