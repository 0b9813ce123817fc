mod Bounded
mod Known
mod Least
mod LeastSums
mod Sums
mod TriesOf
