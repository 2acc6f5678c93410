pub mod Meters
pub mod Orders
pub mod Plans
pub mod Sheets
pub mod TwoSteps
pub mod Worked
