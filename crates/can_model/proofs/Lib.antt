pub mod Worked
pub mod Elements
pub mod Chains
pub mod Placed
