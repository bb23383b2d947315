-- Written: a number and the bytes that go with it. Then a folder for each module.
pub mod Written
pub mod choice
pub mod gather
pub mod prediction
pub mod replay
pub mod sums
