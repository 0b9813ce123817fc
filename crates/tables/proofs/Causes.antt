-- Why tables are not restored.
use Rattle.std.proofs.Common.{◌≡◌, Ok, Err, Result, sym, subst}
use Rattle.std.specs.Prelude.{◌<◌, All, IfErr, IsErrAnd}
use Rattle.peer_rec.specs.Snapshot.{Snapshot}
use Rattle.table_machine.proofs.RestoredSound.{IsFile}
use Rattle.tables.specs.Duplicates.{AreFileRecs}
use Rattle.tables.specs.declared.restore_fault.RestoreFault.{RestoreFault}
use Rattle.tables.specs.declared.restore_fault.RestoreFault.TheVariants.{Memory}
use Rattle.tables.specs.Restored.{IsCause}

-- a call that ran out of memory
pub cause-memory : {T : Type 0} (snap : Snapshot) (result : Result T RestoreFault) → IsErrAnd result (λ e. e ≡ Memory) → IfErr result (IsCause snap)
cause-memory snap (Ok x) is = tt
cause-memory snap (Err e) is = subst (IsCause snap) (sym is) tt

-- what is restored of a snapshot, whose records are in their ranges
pub file-of : (snap : Snapshot) → AreFileRecs snap → All (λ pair. pair.0 < snap.bucket_count) snap.listed → IsFile snap
file-of snap fit buckets = record {
  few_new = fit.few_new;
  few_tried = fit.few_tried;
  new_recs = fit.new_recs;
  tried_recs = fit.tried_recs;
  buckets = buckets;
}
