-- What is proved of them.
pub mod OneLevel
mod Bodies
-- Numbers: the parts of a signal, joined, and their sign.
pub mod SegmentParts
pub mod Sums
pub mod Signs
mod Widths
-- What each statement does, and all of them.
mod FieldChanges
pub mod Joining
mod Extending
pub mod Reading
mod Declarations
mod Steps
mod RawFields
pub mod Expanding
pub mod Running
pub mod Anywhere
-- Worked values.
mod WorkedReading
