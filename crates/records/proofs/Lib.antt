-- What reading one record says, and the laws that the functions' proofs cite. Assumes nothing.
pub mod Said
mod Spelling
mod Fields
mod Examples
