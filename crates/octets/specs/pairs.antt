-- Into: what a list holds after samples were read or stored. Words: samples in pairs. Laws: what is done where lists are long enough.
pub mod Into
pub mod Words
pub mod Laws
