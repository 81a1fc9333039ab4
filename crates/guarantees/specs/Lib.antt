-- What the customer was promised, over the definitions that the promises cite.
pub mod Total
pub mod Exact
pub mod Lost
pub mod NeverRefused
pub mod Margins
pub mod Cost
pub mod Marked
pub mod ReadBack
