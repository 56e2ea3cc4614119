-- What the segments of a signal are.
pub mod Segments
pub mod Covers
pub mod Taken
pub mod Numbers
