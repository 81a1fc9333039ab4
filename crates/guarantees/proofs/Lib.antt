-- What the customer was promised, proved. Assumes nothing.
pub mod Total
pub mod Held
pub mod Rulings
pub mod Monitoring
pub mod Generating
pub mod Lost
pub mod Opens
pub mod NeverRefused
pub mod Margins
pub mod Unlimited
pub mod Cost
pub mod Marked
pub mod ReadBack
