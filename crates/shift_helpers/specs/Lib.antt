-- What the promises rest on.
pub mod HelperResult
pub mod HelperTree
pub mod HelperMeaning
