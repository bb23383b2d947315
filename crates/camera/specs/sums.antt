-- Entry: what the checksum entry gives back and writes. Laws: the room for a sum, and its four bytes stored.
pub mod Entry
pub mod Laws
