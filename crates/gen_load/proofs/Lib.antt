mod Examples
mod Lines
mod Spelled
mod LineLaws
