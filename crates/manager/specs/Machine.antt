-- The tables and the clock.
use Rattle.std.specs.Prelude.{ℕ}
use Rattle.placing.specs.Places.{Places}
use Rattle.table_machine.specs.State.{State, empty_state}

-- the tables' state, and the time in seconds since 1970
pub record Machine : Type 0 where
  pub tables : State
  pub clock : ℕ

-- the machine with other tables
abbrev pub with_tables : Machine → State → Machine
with_tables old tables = record old { tables = tables }

-- no records, at the time 0
abbrev pub empty_machine : Places → Machine
empty_machine places = record { tables = empty_state places; clock = 0 }
