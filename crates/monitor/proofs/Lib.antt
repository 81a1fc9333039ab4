-- What is proved of the monitor's functions, and of what they answer.
pub mod Said
pub mod Opening
mod Judging
pub mod Ruling
mod Examples
