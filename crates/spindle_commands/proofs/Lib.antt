-- Lemmas of the program.
pub mod Grids
pub mod Outcomes
pub mod Said
