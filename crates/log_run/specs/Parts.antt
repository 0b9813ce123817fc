-- A part of a list.
use Rattle.std.specs.Prelude.{ℕ, List, take, drop}

-- the elements from `start` on, before `end`
abbrev pub between : ℕ → ℕ → List ℕ → List ℕ
between start end items = drop start (take end items)
