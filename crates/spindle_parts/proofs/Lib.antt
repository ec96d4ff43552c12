-- The lemmas of this crate.
pub mod ListLaws
pub mod ListRuns
pub mod GatheredLists
pub mod ListChunks
pub mod StripLists
pub mod Deals
pub mod Parties
pub mod Fates
pub mod Soundness
pub mod Frames
pub mod LedgerKept
pub mod LedgerMoves
mod NumberBits
mod NumbersKept
mod NumberSearch
pub mod Shares
pub mod Following
pub mod Claiming
pub mod Fairness
pub mod Tests
pub mod Waiting
pub mod Schedules
pub mod Reached
pub mod Marks
pub mod Turning
pub mod Serving
