-- Document 01's terms, in its order, with request P5's margins and request P7's unlimited pairs, and what is proved of them.
pub mod Streams
pub mod Pairs
pub mod Conformance
pub mod Ticks
pub mod Rounds
pub mod Unlimited
pub mod Margins
pub mod Questions
pub mod Theorems
