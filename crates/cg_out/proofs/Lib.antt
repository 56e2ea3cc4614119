pub mod WordLaws
pub mod Counts
pub mod SlotLemmas
