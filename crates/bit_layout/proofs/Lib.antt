-- That segments by numbers are the groups of places by bytes, and what they tell.
pub mod Places
pub mod Runs
pub mod Grouping
pub mod Covering
pub mod Walking
pub mod Rows
