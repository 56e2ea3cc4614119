-- What is proved of them.
mod Words
pub mod Settling
pub mod Fitting
pub mod Room
