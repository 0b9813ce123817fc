pub mod Spelling
pub mod Laws
pub mod Replies
