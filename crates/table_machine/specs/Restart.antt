-- The state after a restart: what a file leaves out is gone, and what it keeps has the order of the
-- file.
use Rattle.std.specs.Prelude.{ℕ, ◌+◌, List, [], ◌∷◌, ◌++◌, length}
use Rattle.std.specs.List.{range_with_len}
use Rattle.peer_rec.specs.declared.rec.Rec.{Rec}
use Rattle.table_machine.specs.State.{State}
use Rattle.table_machine.specs.Snapshot.{new_records, tried_records}

-- the records with the numbers from n on, not tried since the restart
abbrev pub with_numbers : ℕ → List Rec → List Rec
with_numbers n [] = []
with_numbers n (r ∷ rs) =
    record r { number = n; last_try = 0; last_count = 0 } ∷ with_numbers (n + 1) rs

-- The state after a restart: the records of the new table first, and each kind by rising number.
abbrev pub restart : State → State
restart st =
    let records = new_records st ++ tried_records st in
    record {
      places = st.places;
      records = with_numbers 0 records;
      order = range_with_len 0 (length records);
      collisions = [];
      last_good = 1;
      next_number = length records;
    }
