-- How a node of Bitcoin Core loads a file of peers (`AddrManImpl::Unserialize` in addrman.cpp, from
-- memory): its tables are those of `restored`, under the key of the file and the node's own asmap,
-- and are tested at the end.
use Rattle.std.specs.Prelude.{ℕ, Option}
use Rattle.asmap_vm.specs.Asmap.{Asmap}
use Rattle.peer_rec.specs.Snapshot.{Snapshot}
use Rattle.placing.specs.Places.{Places}
use Rattle.placing.specs.declared.sum.SumRule.{SumRule}
use Rattle.table_machine.specs.Restoring.{restored, with_records}
use Rattle.table_machine.specs.State.{State}
use Rattle.node_check.specs.Check.{check_code}

-- By what a node computes the places of records: the key of the file, and its own asmap.
abbrev pub node_places : Snapshot → Option Asmap → SumRule → Places
node_places snap map rule = record { key = snap.key; map = map; rule = rule }

-- The tables of a node with this asmap.
abbrev pub loaded : Snapshot → Option Asmap → SumRule → State
loaded snap map rule = restored snap (node_places snap map rule)

-- The code with which it ends the loading.
abbrev pub load_code : Snapshot → Option Asmap → SumRule → ℕ
load_code snap map rule =
    check_code (with_records snap (node_places snap map rule)).records (loaded snap map rule)
