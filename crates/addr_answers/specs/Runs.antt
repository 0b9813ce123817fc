-- Requests of any keys, one after another.
use Rattle.std.specs.Prelude.{⊤, ◌≡◌, ℕ, ◌+◌, ◌<◌, ◌≤◌, ◌==◌, Bool, ◌&&◌, List, [], ◌∷◌, Contains, Option, Some, None, is_none, if◌then◌else◌}
use Rattle.net_addr.specs.declared.peer.Entry.{Entry}
use Rattle.addr_answers.specs.Answers.{Answer, answer, answer_at, after_put, has_room, least_of}

-- a request: its key, the time, how many records there are, the random word of an answer that is
-- made now, and the entries that such an answer has
pub record Ask : Type 0 where
  pub key : ℕ
  pub now : ℕ
  pub records : ℕ
  pub word : ℕ
  pub fresh : List Entry

-- whether an answer is made for the request: none is current, and there is room for it
abbrev pub is_made : List Answer → Ask → Bool
is_made kept ask = is_none (answer_at ask.key ask.now kept) && has_room ask.key kept

-- The answer that is made for a request.
abbrev pub made_answer : Ask → Answer
made_answer ask = answer ask.key ask.now ask.records ask.word ask.fresh

-- what is kept after a request
abbrev pub after_ask : List Answer → Ask → List Answer
after_ask kept ask = if is_made kept ask then after_put (made_answer ask) kept else kept

-- what is kept after some requests
abbrev pub after_asks : List Answer → List Ask → List Answer
after_asks kept [] = kept
after_asks kept (ask ∷ asks) = after_asks (after_ask kept ask) asks

-- the entries of an answer, or nothing
abbrev pub entries_of : Option Answer → List Entry
entries_of (Some a) = a.entries
entries_of None = []

-- what is answered: what is kept of the key after the request
abbrev pub told : List Answer → Ask → List Entry
told kept ask = entries_of (answer_at ask.key ask.now (after_ask kept ask))

-- two times are less than so many seconds apart
abbrev pub IsNear : ℕ → ℕ → ℕ → Type 0
IsNear seconds t u = (t < u + seconds) × (u < t + seconds)

-- a time is within what the answer that is made for a request is kept at least
abbrev pub IsWithin : Ask → ℕ → Type 0
IsWithin first now = IsNear (least_of first.records) first.now now

-- the entries are what one of the requests, of this key, would get as a new answer
abbrev pub IsOneOf : ℕ → List Ask → List Entry → Type 0
IsOneOf key asks entries =
    (ask : Ask) × Contains asks ask × (ask.key ≡ key) × (ask.fresh ≡ entries)

-- the requests of a key for which an answer is made: each shows a new sample
abbrev pub makers : ℕ → List Answer → List Ask → List Ask
makers key kept [] = []
makers key kept (ask ∷ asks) =
    if ask.key == key && is_made kept ask
    then ask ∷ makers key (after_ask kept ask) asks
    else makers key (after_ask kept ask) asks

-- the first of some requests comes when the answer to an earlier one was kept as long as it must
abbrev pub IsAfter : Ask → List Ask → Type 0
IsAfter first [] = ⊤
IsAfter first (ask ∷ asks) = first.now + least_of first.records ≤ ask.now

-- each comes so long after the one before it
abbrev pub AreApart : List Ask → Type 0
AreApart [] = ⊤
AreApart (ask ∷ asks) = IsAfter ask asks × AreApart asks

-- the clock does not go back, from a time on to another
abbrev pub IsBetween : ℕ → ℕ → List Ask → Type 0
IsBetween start end [] = start ≤ end
IsBetween start end (ask ∷ asks) = (start ≤ ask.now) × IsBetween ask.now end asks
