pub mod Pinned
pub mod Levels
pub mod Ordering
pub mod Sound
pub mod Looks
pub mod Begins
