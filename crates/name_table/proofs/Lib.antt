pub mod Tables
pub mod Adding
