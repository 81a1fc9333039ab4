-- What is proved of closing, and the laws that the functions' proofs cite. Assumes nothing.
pub mod Said
pub mod Given
pub mod Room
pub mod Promised
pub mod Widths
mod Floats
mod Rows
mod Passes
mod Convolving
mod Deconvolving
mod Tightening
mod Rounding
mod Running
mod Progress
mod StandIns
mod Answered
mod Examples
