pub mod Putting
pub mod Noting
pub mod Kept
pub mod Worked
pub mod Alike
