-- The answers to `getaddr` that a node keeps (`CConnman::GetAddresses` in net.cpp of Bitcoin Core).
-- Times are in seconds since 1970.
use Rattle.std.specs.Prelude.{ℕ, ◌+◌, ◌-◌, ◌*◌, ◌/◌, ◌%◌, ◌≤◌, ◌==◌, ◌++◌, Bool, ◌&&◌, not, nat_lt, List, [], ◌∷◌, All, Option, filter, find, length, if◌then◌else◌}
use Rattle.net_addr.specs.Address.{net_number}
use Rattle.net_addr.specs.declared.peer.Entry.{Entry}
use Rattle.net_addr.specs.declared.net.Net.{Net}
use Rattle.addr_answers.specs.declared.answers.TheConstants.{MAX_KEYS, MAX_TOLD}
use Rattle.addr_answers.specs.declared.kept.TheConstants.{KEPT_SECONDS, EXTRA_SECONDS, FEW_RECORDS, FEW_SECONDS}
use Rattle.addr_answers.specs.declared.hiding.TheConstants.{MIN_AGE, EXTRA_AGE}

-- an answer of a key: when it was made, for how many seconds it is kept at least, the time from
-- which it is over, and its entries
pub record Answer : Type 0 where
  pub key : ℕ
  pub made : ℕ
  pub least : ℕ
  pub until : ℕ
  pub entries : List Entry

-- one number for a network class and a local socket
abbrev pub key_of : Net → ℕ → ℕ
key_of net socket = socket * 8 + net_number net

-- an answer is kept for at least 21 hours, but for an hour if it was made of few records
abbrev pub least_of : ℕ → ℕ
least_of records = if nat_lt records FEW_RECORDS then FEW_SECONDS else KEPT_SECONDS

-- and for up to six hours more by a random word, unless it was made of few records
abbrev pub more_of : ℕ → ℕ → ℕ
more_of records word = if nat_lt records FEW_RECORDS then 0 else word % (EXTRA_SECONDS + 1)

-- an answer that is made at a time, of so many records, by a random word
abbrev pub answer : ℕ → ℕ → ℕ → ℕ → List Entry → Answer
answer key made records word entries = record {
  key = key;
  made = made;
  least = least_of records;
  until = made + least_of records + more_of records word;
  entries = entries;
}

-- The time that all entries of an answer have if their own is hidden: 8 to 12 days before it was
-- made, by the part of its random word that does not select how long it is kept.
abbrev pub told_time : ℕ → ℕ → ℕ
told_time made word = made - (MIN_AGE + word / (EXTRA_SECONDS + 1) % (EXTRA_AGE + 1))

-- The answer is kept for this key.
abbrev pub is_of : ℕ → Answer → Bool
is_of key a = a.key == key

-- the answer is not over, and the clock is not set back by as much as it is kept at least
abbrev pub is_current : ℕ → Answer → Bool
is_current now a = nat_lt now a.until && nat_lt a.made (now + a.least)

-- the answer of the key that is current
abbrev pub answer_at : ℕ → ℕ → List Answer → Option Answer
answer_at key now kept = find (λ a. is_of key a && is_current now a) kept

-- the answers of other keys
abbrev pub without : ℕ → List Answer → List Answer
without key kept = filter (λ a. not (is_of key a)) kept

-- whether there is room for an answer of the key
abbrev pub has_room : ℕ → List Answer → Bool
has_room key kept = nat_lt (length (without key kept)) MAX_KEYS

-- the answers with a new one, which is the only one of its key; none gives way to it
abbrev pub after_put : Answer → List Answer → List Answer
after_put a kept = if has_room a.key kept then without a.key kept ++ a ∷ [] else kept

-- the answers that are kept: of at most 64 keys, each with at most 1,000 entries
pub record AreAnswers (kept : List Answer) : Type 0 where
  pub keys : length kept ≤ MAX_KEYS
  pub entries : All (λ a. length a.entries ≤ MAX_TOLD) kept
