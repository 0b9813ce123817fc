-- What a call does to a handle that is open, and to one that is closed.
use Rattle.std.specs.Prelude.{◌≡◌, ℕ, List, Option, Some, None}
use Rattle.ban_list.specs.declared.ban.Ban.{Ban}
use Rattle.table_machine.specs.State.{State}
use Rattle.c_handles.specs.declared.bans_handle.KeptBans.{KeptBans}
use Rattle.c_handles.specs.declared.handle.Kept.{Kept}
use Rattle.c_values.specs.declared.code.TheConstants.{CLOSED}

-- What the handle keeps before the call, the code, and what it keeps after. A closed one stays
-- closed. An open one stays open, and what it keeps before and after is as the call says.
abbrev pub OnHandle : Option Kept → ℕ → Option Kept → (Kept → Kept → Type 0) → Type 0
OnHandle None code new Call = (code ≡ CLOSED) × (new ≡ None)
OnHandle (Some kept) code None Call = ⊥
OnHandle (Some kept) code (Some after) Call = Call kept after

-- the same of a call that leaves the outbound peers as they are
abbrev pub OnTables : Option Kept → ℕ → Option Kept → (State → State → Type 0) → Type 0
OnTables old code new Call =
    OnHandle old code new
    (λ kept after. (after.opener ≡ kept.opener) × Call kept.tables after.tables)

-- What the handles of tables and bans keep before the call, the code, and what they keep after. If
-- both are open, they stay open, and the tables before and after are as the call says; it changes
-- neither the outbound peers nor the bans. If one is closed, both are as they were.
abbrev pub OnTwo : Option Kept → Option KeptBans → ℕ → Option Kept → Option KeptBans
    → (State → List Ban → State → Type 0) → Type 0
OnTwo (Some kept) (Some bans) code new_kept new_bans Call =
    (tables : State) × (new_kept ≡ Some (record kept { tables = tables }))
    × (new_bans ≡ Some bans) × Call kept.tables bans.bans tables
OnTwo kept bans code new_kept new_bans Call =
    (code ≡ CLOSED) × (new_kept ≡ kept) × (new_bans ≡ bans)
