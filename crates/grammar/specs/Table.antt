-- A grammar of lines: a table of keywords, each with the kinds of the fields after it.
use Rattle.std.specs.Prelude.{◌≡◌, ◌^◌, ℕ, List, [], ◌∷◌, get_or, Option, Some, None, Bool, true, ◌&&◌, if◌then◌else◌, bytes_eq, ltb, not}
use Rattle.grammar.specs.Fields.{Kind, Number, Either, Value, AllMean, AreAtFault}
use Rattle.grammar.specs.declared.fault.LineFault.{LineFault}
use Rattle.grammar.specs.declared.fault.LineFault.TheVariants as fault

-- keywords, each with the kinds of the fields after it
abbrev pub Table : Type 0
Table = List (List ℕ × List Kind)

-- the kinds of the fields after a word, if it is a keyword
abbrev pub kinds_after : Table → List ℕ → Option (List Kind)
kinds_after [] word = None
kinds_after (row ∷ rows) word = if bytes_eq row.0 word then Some row.1 else kinds_after rows word

-- the texts after a keyword are of its kinds and have these values
abbrev pub ValuesAfter : Option (List Kind) → List (List ℕ) → List Value → Type 0
ValuesAfter None texts values = ⊥
ValuesAfter (Some kinds) texts values = AllMean kinds texts values

-- what is wrong after a first word: that it is no keyword, or else in the fields
abbrev pub FaultAfter : Option (List Kind) → List (List ℕ) → LineFault → Type 0
FaultAfter None texts f = f ≡ fault.Word
FaultAfter (Some kinds) texts f = AreAtFault kinds texts f

-- each keyword begins with a byte above 96, as small letters do
abbrev pub begin_with_letters : Table → Bool
begin_with_letters [] = true
begin_with_letters (row ∷ rows) = ltb 96 (get_or row.0 0 0) && begin_with_letters rows

-- the texts of the kind have at most one value each: its numbers have 64 bits, its two keywords
-- differ
abbrev pub is_definite : Kind → Bool
is_definite (Number least most) = ltb most (2 ^ 64)
is_definite (Either first second) = not (bytes_eq first second)
is_definite other = true

-- all kinds of a list are definite
abbrev pub all_definite : List Kind → Bool
all_definite [] = true
all_definite (kind ∷ kinds) = is_definite kind && all_definite kinds

-- all kinds of a table are definite
abbrev pub are_definite : Table → Bool
are_definite [] = true
are_definite (row ∷ rows) = all_definite row.1 && are_definite rows
