-- How the list of a record's buckets changes.
use Rattle.std.specs.Prelude.{ℕ, List, ◌∷◌, ◌++◌, filter, not, ◌==◌, nat_lt}

-- a rising list of buckets with one more
abbrev pub with_bucket : ℕ → List ℕ → List ℕ
with_bucket bucket buckets =
    filter (λ b. nat_lt b bucket) buckets ++ bucket ∷ filter (λ b. nat_lt bucket b) buckets

-- the list of buckets without one
abbrev pub without_bucket : ℕ → List ℕ → List ℕ
without_bucket bucket buckets = filter (λ b. not (b == bucket)) buckets
