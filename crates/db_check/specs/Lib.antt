-- What the promises rest on.
pub mod Answer
-- What the functions inside promise each other.
pub mod Counts
pub mod Kinds
pub mod OfSignal
pub mod OfSignals
pub mod OfMessage
pub mod OfMessages
