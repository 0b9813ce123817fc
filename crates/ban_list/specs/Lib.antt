pub mod Subnet
pub mod SubnetText
pub mod Bans
pub mod BanFile
pub mod NewFile
pub mod OldFile
pub mod FaultTexts
