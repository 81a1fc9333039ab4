-- What is proved of rendering, and the laws that the functions' proofs cite. Assumes nothing.
pub mod Said
mod Answered
mod Laws
