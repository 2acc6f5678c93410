pub mod Cutting
pub mod Words
