pub mod CellFacts
pub mod RowFacts
pub mod FirstFacts
pub mod TileFacts
pub mod ZeroFacts
