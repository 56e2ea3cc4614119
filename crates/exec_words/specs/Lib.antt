-- What the promises rest on.
pub mod NumberWord
pub mod StructWord
pub mod ObjectWord
pub mod ArgumentWord
pub mod CallReport
