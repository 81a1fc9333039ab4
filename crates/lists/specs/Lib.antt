-- Copying a list, and putting a count behind its held entries.
pub mod Copying
pub mod Pushing
