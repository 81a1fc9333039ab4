-- The generator: what it answers, lists of calls, and what the private functions promise each other.
pub mod Generating
pub mod Opening
pub mod Answers
pub mod Promises
pub mod Calls
pub mod Steps
