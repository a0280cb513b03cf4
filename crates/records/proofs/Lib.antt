pub mod PlayFacts
pub mod LayoutFacts
