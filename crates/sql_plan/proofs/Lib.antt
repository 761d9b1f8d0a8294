pub mod PlanLemmas
pub mod IntervalLemmas
