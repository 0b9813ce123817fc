pub mod Choosing
pub mod WithCore
pub mod Marking
pub mod Colourings
pub mod Groupings
pub mod WithRaw
pub mod BesideAnchors
pub mod BanForms
pub mod OpenerOptions
pub mod Asking
pub mod Names
mod OptionExamples
