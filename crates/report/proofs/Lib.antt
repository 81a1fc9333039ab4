-- What is proved of the program's output, and the laws that the functions' proofs cite. Assumes nothing.
pub mod Said
mod Answered
