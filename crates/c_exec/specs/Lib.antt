-- What the promises rest on.
pub mod Ready
-- What the functions inside promise each other.
pub mod Shown
pub mod Answers
