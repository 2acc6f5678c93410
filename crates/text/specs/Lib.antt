pub mod Written
pub mod Writers
pub mod Cards
