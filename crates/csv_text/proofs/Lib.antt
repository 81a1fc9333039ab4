-- Laws of the layout: splitting, putting together, numbers as text, and that form and range can be decided. Assumes nothing.
pub mod Splitting
pub mod Joining
pub mod Numbers
pub mod Decisions
mod Examples
