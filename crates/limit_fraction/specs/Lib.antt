-- What the promises rest on.
pub mod Number
pub mod Decimal
pub mod Negated
pub mod Digits
pub mod Spelling
pub mod Reading
pub mod Unit
pub mod Scale
pub mod Limits
