-- What is proved of histories.
pub mod Said
pub mod Histories
pub mod Slicing
