-- What is proved of them.
pub mod Members
pub mod InPairs
pub mod Numbers
mod SegmentBits
pub mod Segments
pub mod OwnLocals
pub mod Putting
pub mod Fields
mod Declarations
pub mod Flat
mod Frames
mod Steps
pub mod Expanding
pub mod Running
pub mod Anywhere
-- Worked values.
mod WorkedPremises
