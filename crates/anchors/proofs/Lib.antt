mod NoMemory
mod FileLaws
mod TextLaws
mod WholeLaws
mod Lines
