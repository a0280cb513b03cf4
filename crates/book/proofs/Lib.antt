pub mod StoreFacts
pub mod WaitFacts
pub mod FaceFacts
pub mod HistoryFacts
pub mod CaseFacts
pub mod UnnamedFacts
