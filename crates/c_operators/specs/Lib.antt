-- What the promises rest on.
pub mod Value
pub mod Sign
pub mod Shift
pub mod Arithmetic
pub mod PointerEquality
pub mod Operator
