pub mod Bounds
-- Worked values, by computation.
mod IntegerTypes
