-- The layout of constraint text: records and fields, the numbers in them, and the constraint that a record spells.
pub mod Text
pub mod Numbers
pub mod Records
