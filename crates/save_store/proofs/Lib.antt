pub mod Asked
pub mod Jobs
pub mod Published
pub mod Results
pub mod Temp
