pub mod NodePlans
pub mod Plan
