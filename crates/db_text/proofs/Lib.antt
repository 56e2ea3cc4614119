pub mod Refusing
pub mod OneAnswer
