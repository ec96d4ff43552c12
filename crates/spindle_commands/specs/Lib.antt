-- The words of the program's contracts.
pub mod Faults
pub mod Grid
pub mod Numbers
pub mod StepLines
pub mod Stop
pub mod Words
