-- The lemmas of this crate.
pub mod Addresses
pub mod Outputs
pub mod Places
pub mod TrayPlaces
pub mod PieceRuns
pub mod Reports
pub mod ChunkRounds
mod LeaderRounds
pub mod Buffers
mod SlotRounds
mod SlotMembers
mod InPlace
