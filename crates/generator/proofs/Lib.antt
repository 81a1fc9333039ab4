-- What is proved of the generator's functions, and of what they answer.
pub mod Said
pub mod Opening
pub mod Sendable
mod Ranging
mod Examples
