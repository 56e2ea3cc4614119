-- What the promises rest on.
pub mod DatabaseOfText
pub mod Answer
