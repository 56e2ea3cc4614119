-- What helpers give, run alone and called in expressions.
pub mod Returned
pub mod Helping
mod Rows
