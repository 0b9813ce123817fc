pub mod Seeded
pub mod Inside
