-- What the promises rest on.
pub mod Place
pub mod RawValue
pub mod Active
pub mod Frame
pub mod InRange
pub mod Validity
pub mod Formed
pub mod Refusal
pub mod CheckRefusal
