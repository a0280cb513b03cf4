pub mod Places
pub mod Slots
pub mod Probing
pub mod TableFacts
