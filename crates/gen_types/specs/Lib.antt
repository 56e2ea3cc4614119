-- What the promises rest on.
pub mod HelperList
