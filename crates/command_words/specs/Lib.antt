-- What the promises rest on.
pub mod CutWord
pub mod NumberWord
