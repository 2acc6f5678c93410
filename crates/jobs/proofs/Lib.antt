pub mod Runs
pub mod Cards
