-- An open handle whose box was taken out, used and put back.
use Rattle.std.proofs.Common.{◌≡◌, ℕ, Option, Some, sym, subst}
use Rattle.table_machine.specs.State.{State}
use Rattle.c_handles.specs.declared.handle.Kept.{Kept}
use Rattle.addrman_c.specs.OnHandle.{OnTables}

pub done : (old new : Option Kept) (code : ℕ) (kept after : Kept) (Call : State → State → Type 0) → Some kept ≡ old → new ≡ Some after
    → after.opener ≡ kept.opener → Call kept.tables after.tables → OnTables old code new Call
done old new code kept after Call is put same called =
    subst (λ (o : Option Kept). OnTables o code new Call) is (subst (λ (n : Option Kept). OnTables (Some kept) code n Call) (sym put) (same, called))
