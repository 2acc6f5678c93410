pub mod Pairs
pub mod Striking
pub mod Waiting
pub mod Asking
