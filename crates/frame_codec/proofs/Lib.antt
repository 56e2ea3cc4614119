pub mod SingleBits
pub mod Putting
pub mod Getting
pub mod OneFrame
