pub mod Cites
pub mod Notes
pub mod SeenNotes
pub mod Maps
pub mod Commits
pub mod Passes
pub mod Opening
pub mod Growing
pub mod Present
pub mod Listed
mod NewestNotes
pub mod Joined
pub mod Joins
pub mod Stable
pub mod Runs
mod GivenBack
pub mod Counted
mod Copying
mod NameCounts
mod Swaps
mod ByKind
mod Both
mod FewNames
mod Makers
