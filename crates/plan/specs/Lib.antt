pub mod Lists
pub mod Plan
pub mod Visits
pub mod Afresh
pub mod Calls
pub mod Demand
