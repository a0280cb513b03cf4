mod ValueFacts
mod PieceFacts
mod TokenFacts
mod CornerFacts
mod FaceFacts
mod TokenLaws
mod PartLaws
mod ValueLaws
pub mod AsciiLaws
pub mod Theorems
