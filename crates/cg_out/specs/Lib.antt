-- What the promises rest on.
pub mod Words
pub mod Text
pub mod Outside
pub mod InMemory
pub mod MemoryFolder
pub mod MemoryFiles
pub mod MemorySink
-- What the functions inside promise each other.
pub mod Slots
-- What lets a type lead back to itself through a list or a box.
pub mod formers
