pub mod Ascii
pub mod Value
pub mod Pieces
pub mod Readers
pub mod Corner
pub mod Face
pub mod Laws
pub mod Examples
