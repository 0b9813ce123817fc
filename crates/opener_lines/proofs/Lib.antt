pub mod OneMeaning
pub mod Outcomes
pub mod Done
pub mod Fairness
pub mod Results
