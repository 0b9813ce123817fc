-- What a reader of a log has read.
use Rattle.std.specs.Prelude.{◌≡◌, ◌≢◌, ◌⊎◌, ℕ, ◌+◌, ◌≤◌, ◌<◌, Bool, IsTrue, List, [], ◌∷◌, ◌++◌, false, length, take, drop, Option, Some}
use Rattle.log_run.specs.Log.{HasNoFeed}
use Rattle.log_run.specs.declared.sizes.TheConstants.{MAX_LINE, MAX_READ}

-- The bytes that wait to be used, how many were read in all, and whether the log has ended.
pub record Reading : Type 0 where
  pub waiting : List ℕ
  pub taken : ℕ
  pub is_ended : Bool

-- fewer bytes than one read may take wait after the end of the next line
abbrev pub IsRecent : List ℕ → Type 0
IsRecent waiting =
    (line : List ℕ) → (after : List ℕ) → waiting ≡ line ++ 10 ∷ after → length after < MAX_READ

-- these bytes were read since
abbrev pub HasRead : List ℕ → Reading → Reading → Type 0
HasRead piece old new =
    (new.waiting ≡ old.waiting ++ piece) × (new.taken ≡ old.taken + length piece)

-- The first n bytes that wait are the next line: a line feed follows, or the log has ended.
pub data IsNext (now : Reading) (n : ℕ) : Type 0 where
  fed : (after : List ℕ) → now.waiting ≡ take n now.waiting ++ 10 ∷ after
      → length after < MAX_READ → now.is_ended ≡ false → IsNext now n
  last : length now.waiting ≡ n → 0 < n → IsTrue now.is_ended → IsNext now n

-- The next line, within its limit.
abbrev pub IsLine : Reading → ℕ → Type 0
IsLine now n = (n ≤ MAX_LINE) × HasNoFeed (take n now.waiting) × IsNext now n

-- no line waits, and the bytes that wait are within the limit of a line
abbrev pub HasNoLine : Reading → Type 0
HasNoLine now = HasNoFeed now.waiting × (length now.waiting ≤ MAX_LINE)

-- More bytes wait than a line may have, before the end of the next line, and no more than a line
-- and one read.
abbrev pub IsLong : Reading → Type 0
IsLong now =
    HasNoFeed (take (MAX_LINE + 1) now.waiting) × (MAX_LINE < length now.waiting)
    × (length now.waiting ≤ MAX_LINE + MAX_READ)

-- the log has ended, or the next line has no line feed yet, or is too long
abbrev pub WaitsForMore : Reading → Type 0
WaitsForMore now = IsTrue now.is_ended ⊎ (HasNoLine now ⊎ IsLong now)

-- The first `MAX_LOG` bytes were taken, and there is one more.
abbrev pub HasMore : Reading → Reading → Option (List ℕ) → Option (List ℕ) → Type 0
HasMore old now before after =
    (bytes : List ℕ) → before ≡ Some bytes →
    (more : List ℕ) × (more ≢ []) × (old.waiting ++ bytes ≡ now.waiting ++ more)
    × (after ≡ Some (drop 1 more))
