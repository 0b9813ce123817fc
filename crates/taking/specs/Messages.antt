-- What a message of entries does to the tables (`ProcessMessage` in net_processing.cpp of Bitcoin
-- Core).
use Rattle.std.specs.Prelude.{ℕ, ◌+◌, ◌-◌, List, [], ◌∷◌, ◌||◌, nat_lt, nat_le, Option, Some, None, if◌then◌else◌, Bool}
use Rattle.net_addr.specs.Address.{Address}
use Rattle.net_addr.specs.declared.peer.Entry.{Entry}
use Rattle.table_machine.specs.State.{State, After, outcome}
use Rattle.table_machine.specs.Entries.{add, no}

-- a time long past or ahead counts as five days ago
abbrev pub clamp_time : Entry → ℕ → Entry
clamp_time entry now =
    if nat_le entry.time 100000000 || nat_lt (now + 600) entry.time
    then record entry { time = now - 432000 }
    else entry

-- what is subtracted from the time of an entry that a peer announces of another, in seconds
abbrev pub message_penalty : ℕ
message_penalty = 7200

-- an entry of a message, with its word; a skipped one changes nothing
abbrev pub take_entry : State → ℕ → Option Entry → Address → ℕ → After Bool
take_entry st now None source word = no st
take_entry st now (Some entry) source word =
    add st now (clamp_time entry now) source message_penalty word

-- the count of entries that got a slot, with one more entry before the rest
abbrev pub with_entry : After Bool → After ℕ → After ℕ
with_entry first rest = outcome ((if first.answer then 1 else 0) + rest.answer) rest.state

-- how many of the entries got a slot; in order, each with the word at its index
abbrev pub take_entries : State → ℕ → List (Option Entry) → Address → List ℕ → After ℕ
take_entries st now [] source words = outcome 0 st
take_entries st now (entry ∷ entries) source [] = outcome 0 st
take_entries st now (entry ∷ entries) source (word ∷ words) =
    let first = take_entry st now entry source word in
    with_entry first (take_entries first.state now entries source words)
