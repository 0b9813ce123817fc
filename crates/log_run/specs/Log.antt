-- The lines of a log that is read in pieces, and its limits.
use Rattle.std.specs.Prelude.{◌≡◌, ◌≢◌, ℕ, ◌≤◌, ◌<◌, List, ◌++◌, [], length, All, drop, Option, Some, IfSome}
use Rattle.host_io.specs.Lines.{lines_of}
use Rattle.log_run.specs.declared.sizes.TheConstants.{MAX_LINE, MAX_LOG, MAX_READ}

-- no line ends in these bytes
abbrev pub HasNoFeed : List ℕ → Type 0
HasNoFeed bytes = All (λ b. b ≢ 10) bytes

-- The log begins with these lines, each within its limit. They end within its first `MAX_LOG`
-- bytes, and `rest` comes after them.
pub record BeginsWith (log : List ℕ) (lines : List (List ℕ)) (rest : List ℕ) : Type 0 where
  pub bytes : List ℕ
  pub whole : log ≡ bytes ++ rest
  pub split : lines_of log ≡ lines ++ lines_of rest
  pub within : length bytes ≤ MAX_LOG
  pub short : All (λ line. length line ≤ MAX_LINE) lines

-- Of these bytes, fewer were taken than one read may take.
abbrev pub IsNear : List ℕ → Option (List ℕ) → Option (List ℕ) → Type 0
IsNear after old new = IfSome old (λ _. (n : ℕ) × (n < MAX_READ) × (new ≡ Some (drop n after)))

-- nothing is left
abbrev pub IsAtEnd : Option (List ℕ) → Type 0
IsAtEnd left = IfSome left (λ bytes. bytes ≡ [])
