-- The lemmas of callers.
pub mod Answering
pub mod Trails
