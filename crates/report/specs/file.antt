-- File: the input's trailer and regions, number 12, and what the file asks to be walked. Laws: what its readers go by.
pub mod File
pub mod Laws
