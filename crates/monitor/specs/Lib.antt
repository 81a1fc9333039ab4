-- The monitor: what it answers, lists of ticks, and what the private functions promise each other.
pub mod Monitoring
pub mod Margins
pub mod Opening
pub mod Answers
pub mod Promises
pub mod Calls
pub mod Steps
