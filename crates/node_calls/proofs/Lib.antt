mod Shuffled
mod Found
mod FileLengths
