-- The lemmas of this crate.
pub mod Jobs
pub mod FreeLists
pub mod Folds
mod KernelLists
pub mod PassLists
mod AttemptLists
mod Pairs
mod TryLists
mod Divisions
-- Those of the crates below that callers cite.
pub use Rattle.spindle_parts.proofs.Deals
pub use Rattle.spindle_parts.proofs.ListLaws
pub use Rattle.spindle_parts.proofs.GatheredLists
pub use Rattle.spindle_parts.proofs.ListChunks
pub use Rattle.spindle_parts.proofs.ListRuns
pub use Rattle.spindle_parts.proofs.StripLists
pub use Rattle.spindle_locks.proofs.ChunkRounds
pub use Rattle.spindle_locks.proofs.Outputs
pub use Rattle.spindle_locks.proofs.Reports
