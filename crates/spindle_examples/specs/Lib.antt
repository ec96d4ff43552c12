-- The definitions that contracts of this crate cite.
pub mod Wrapping
pub mod Prefix
pub mod Product
pub mod Batch
pub mod Checked
pub mod Stencil
pub mod Chomp
pub mod Ranks
pub mod Solver
pub mod Decimals
pub mod Runs
