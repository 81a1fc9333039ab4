-- What is proved of the questions on a pair, and the laws that the functions' proofs cite. Assumes nothing.
pub mod Said
pub mod Laws
