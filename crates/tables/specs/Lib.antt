pub mod Keys
pub mod Tables
pub mod Searching
pub mod Hashing
pub mod Probes
pub mod Numbering
