pub mod Numbers
pub mod Places
pub mod WordValues
pub mod Lines
