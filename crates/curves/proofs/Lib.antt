-- The theory of curves, at any horizon and for any figures (natural numbers). Assumes nothing.
pub mod Figures
pub mod Tightened
pub mod Slack
pub mod Sums
pub mod Closed
pub mod NextTick
pub mod Highest
pub mod Verdicts
pub mod Margins
pub mod Extension
pub mod Followed
pub mod Kept
pub mod CutOff
pub mod Agreement
mod Edges
mod Walks
mod Loops
mod Combinations
mod Walkable
pub mod Bound
pub mod Arrival
pub mod Closure
pub mod Standing
pub mod Unlimited
pub mod Parts
pub mod Filled
pub mod Asked
pub mod Computed
mod Examples
