-- What is proved of reading, and the laws that the functions' proofs cite. Assumes nothing.
pub mod Said
pub mod Faulty
pub mod Named
pub mod Streams
mod Examples
mod Tables
mod Asking
mod Answered
