pub mod ReadLemmas
pub mod KeepLemmas
pub mod StepLemmas
pub mod SpanLemmas
pub mod FaultLemmas
pub mod WalkLemmas
pub mod BackLemmas
pub mod PlaceLemmas
pub mod RiseLemmas
pub mod TimeLemmas
pub mod PeriodLemmas
mod AgainLemmas
pub mod LiveLemmas
pub mod SieveLemmas
