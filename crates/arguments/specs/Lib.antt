pub mod Help
pub mod Inside
pub mod Options
pub mod Table
