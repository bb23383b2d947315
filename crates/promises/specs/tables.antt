-- Document 01's table of numbers at each door before plan, walk and replay: each is given exactly when its row says, and a refused
-- call leaves what it is lent. Laws alone. Exact: rows of document 01's table, and what it means that a number is given exactly when
-- its row says.
pub mod Exact
-- Table: document 01's table of numbers at each door.
pub mod Table
-- Refused: what a refused call gives back, and that it leaves what is lent untouched.
pub mod Refused
-- Enums: what each case of an answer that is an enum says.
pub mod Enums
