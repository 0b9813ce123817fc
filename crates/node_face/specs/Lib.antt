pub mod Answering
pub mod BanFiles
pub mod Files
pub mod Sampling
pub mod Taking
