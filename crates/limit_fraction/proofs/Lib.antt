mod Values
pub mod Tens
pub mod Texts
pub mod Keeping
pub mod Wholes
pub mod Signs
pub mod Units
pub mod Unique
pub mod Spelled
pub mod ReadBack
pub mod SpelledDecimals
pub mod WholeNumbers
pub mod Quotients
pub mod Rounding
pub mod Meeting
pub mod SameLimits
pub mod SameScale
