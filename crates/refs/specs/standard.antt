-- That the gathers are H.265's, and that a gather reads no missing sample. Laws alone, which no code cites.
-- The gathers against H.265 8.4.4.2.2 (Shorter: a line of fewer places; Standard), that no missing sample is read (Unread), and what
-- stands in a missing entry, by 6.4.1 (Missing).
pub mod Shorter
pub mod Standard
pub mod Unread
pub mod Missing
