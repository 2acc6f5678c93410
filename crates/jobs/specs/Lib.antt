pub mod Answering
pub mod JobCards
pub mod Running
