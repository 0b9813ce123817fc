-- The ids of collisions' records.
use Rattle.std.specs.Prelude.{ℕ, ◌==◌, Option, None, Some, if◌then◌else◌}
use Rattle.table_plan.specs.declared.waiter.Waiter.{Waiter}

-- a collision's id after the record of an id is deleted
abbrev pub id_without : ℕ → Option ℕ → Option ℕ
id_without gone None = None
id_without gone (Some id) = if id == gone then None else Some id

-- A collision after the record of an id is deleted.
abbrev pub forget : ℕ → Waiter → Waiter
forget gone w = record { number = w.number; id = id_without gone w.id }
