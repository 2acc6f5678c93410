pub mod Entering
pub mod Saying
pub mod Telling
pub mod Obeying
pub mod Lawfulness
pub mod Carrying
