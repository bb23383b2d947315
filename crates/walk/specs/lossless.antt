-- Demand 3 over planes: walk and replay of a good plan give the source back. Laws alone, which no code cites.
-- Replay: walk and replay over any planes, whose prediction looks at earlier blocks alone.
pub mod Replay
-- Picture: the same for a plan over flat planes.
pub mod Picture
