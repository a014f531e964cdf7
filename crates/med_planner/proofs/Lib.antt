pub mod Promise
mod Reading
mod Pairs
mod Pulling
mod Planning
mod Seen
mod SeenJoins
mod Splits
mod Safe
mod Stretches
mod Counting
mod Viewing
mod Widening
mod Typing
mod Matching
mod Beginning
pub mod Sounds
mod Orders
mod Ordering
