-- Answers: what the check's answers say. RecordPlan: a plan as bytes. Then a folder for each module: tiling, what blocks cover; verdict; records.
pub mod Answers
pub mod RecordPlan
pub mod tiling
pub mod verdict
pub mod records
