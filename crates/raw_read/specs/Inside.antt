-- The members of a value as it is in memory.
use Rattle.std.specs.Prelude.{ℕ, List}
use Rattle.std.specs.Borrow.{Bor}
use Rattle.json.specs.Value.{value_view}
use Rattle.json.specs.declared.value.Value.{Value}
use Rattle.raw_read.specs.Rows.{Member}

-- A member as it is in memory, as its name and value.
abbrev pub member_view : {A : Type 0} → Bor (List ℕ) × Value A → Member
member_view m = (m.0.now, value_view m.1)
