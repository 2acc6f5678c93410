pub mod Laws
pub mod Theory
pub mod Strikes
pub mod Steps
pub mod Waits
