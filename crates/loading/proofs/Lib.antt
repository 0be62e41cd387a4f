pub mod InputsLemmas
pub mod OneLoading
pub mod ReadingLemmas
pub mod StopLemmas
