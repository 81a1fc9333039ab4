-- The boundary: what each call gives back, and what the private functions promise each other.
pub mod Boundary
pub mod Steps
