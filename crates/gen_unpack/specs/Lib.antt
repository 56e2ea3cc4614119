-- What the promises rest on.
pub mod SegmentRead
pub mod UnpackTree
pub mod Unpacks
