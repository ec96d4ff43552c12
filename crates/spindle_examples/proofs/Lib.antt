-- The lemmas of this crate.
mod Numbers
mod Wrapped
mod Prefixes
mod Products
mod Passes
mod Evaluations
mod Reports
mod Counts
mod SumLists
