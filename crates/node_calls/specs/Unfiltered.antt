-- A sample of all records, terrible ones among them (`AddrManImpl::GetAddr_` in addrman.cpp of
-- Bitcoin Core, with `filtered` false).
use Rattle.std.specs.Prelude.{ℕ, List, length, filter, take, Bool}
use Rattle.net_addr.specs.NetSet.{has}
use Rattle.net_addr.specs.Ranges.{net_class}
use Rattle.peer_rec.specs.declared.rec.Rec.{Rec}
use Rattle.table_machine.specs.Picks.{sample_limit}
use Rattle.table_machine.specs.State.{State}
use Rattle.node_calls.specs.Chosen.{shuffled}

-- whether the class of a record's address is in the set
abbrev pub is_in : List ℕ → Rec → Bool
is_in classes r = has classes (net_class r.peer.addr)

-- The records of a set of classes, by increasing numbers, are shuffled by random words, and the
-- first ones are taken: at most so many, and at most a part of all records in percent.
abbrev pub sample_unfiltered : State → ℕ → ℕ → List ℕ → List ℕ → List Rec
sample_unfiltered st most percent classes words =
    take (sample_limit (length st.order) most percent)
    (shuffled (filter (is_in classes) st.records) 0 words)
