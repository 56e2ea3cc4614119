-- What the promises rest on.
pub mod SegmentMove
pub mod StructFields
pub mod Parts
pub mod Switches
pub mod PackTree
pub mod Named
pub mod Packs
