-- The lemmas of this crate.
pub mod Lists
pub mod RoundQuiet
pub mod RoundMoves
pub mod RoundWords
pub mod KeptLoads
pub mod KeptBarrier
pub mod KeptFill
pub mod RoundNumbers
pub mod KeptClaims
pub mod RoundOpening
pub mod RoundTrails
pub mod KeptSteals
pub mod RoundSearch
pub mod RoundChanges
pub mod KeptShares
pub mod KeptFinish
pub mod KeptStops
pub mod RoundFilled
pub mod PlainRounds
pub mod KeptSlots
pub mod SlotsTold
pub mod PieceClients
pub mod RoundOnward
pub mod RoundClients
pub mod KeptLeaving
pub mod KeptEnding
pub mod BarrierClients
pub mod Workers
pub mod PartyWork
pub mod PieceRounds
pub mod SlotLoops
pub mod KeptLeftovers
pub mod Leftovers
pub mod SlotHands
mod SpareSeats
mod Helpers
pub mod Leaving
mod Waits
