-- What a copy leaves, for those who call for one, and the laws of a push. Assumes nothing.
pub mod Whole
mod Copying
mod Pushing
mod Examples
