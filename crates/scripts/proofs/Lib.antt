-- What is proved of the functions that run lists of ticks.
mod Coded
mod Worded
pub mod Pieces
mod Asked
mod Running
mod Held
pub mod Given
mod Written
mod Opened
pub mod InPieces
pub mod Fresh
pub mod Told
mod Examples
mod Adding
mod Growing
mod Twice
mod Keeping
mod Counting
mod Raising
mod Narrowing
mod Choosing
