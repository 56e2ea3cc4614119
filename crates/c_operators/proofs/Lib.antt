-- Laws of numbers under the models, for proofs about C.
pub mod Models
pub mod Numbers
pub mod Exact
