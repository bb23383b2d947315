-- Document 01's table of numbers for plan check, walk, replay, the camera's entries and the program, over the rows of tables; and
-- what a refused one leaves. Laws alone. TableWalk: document 01's table of numbers for the plan check, walk and replay. TableBytes:
-- for the camera's entries. TableChecksum: for the picture checksum. TableChoose: for the chooser. TableProgram: what intrawalk prints
-- of a refused input, exactly when.
pub mod TableWalk
pub mod TableBytes
pub mod TableChecksum
pub mod TableChoose
pub mod TableErrors
pub mod TableProgram
-- Refused: what a refused walk, replay or entry gives back, and that it leaves what is lent untouched.
pub mod Refused
