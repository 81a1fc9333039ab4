-- What is proved of previews.
mod Fed
mod Ran
mod Turn
pub mod Said
mod Examples
