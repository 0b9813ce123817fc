use Rattle.std.proofs.Common.{◌≡◌, sym, subst}
use Rattle.std.specs.List.{range_with_len}
use Rattle.table_machine.specs.Sound.{IsSound}
use Rattle.table_machine.specs.Restoring.{drop_all, restored}
use Rattle.table_machine.proofs.RestoredSound.{restored_sound}
use Rattle.table_plan.specs.Planned.{state_of}
use Rattle.tables.proofs.Causes.{file-of}
use Rattle.tables.proofs.parts.final_plan.Goals as goal

pub settle-requires-clause-sound : goal.settle-requires-clause-sound
settle-requires-clause-sound g c =
    let snap = c.args.snap.now in
    let same : drop_all (state_of c.in_ok-plan.plan.placer c.in_ok-plan.plan.recs.items) (range_with_len 0 c.in_ok-plan.plan.news) ≡ restored snap c.args.placer =
    λ i. drop_all (c.in_ok-plan.ensures.state i) (range_with_len 0 (c.in_ok-plan.ensures.news i)) in
    subst IsSound (sym same) (restored_sound snap c.args.placer (file-of snap c.requires.fit c.in_ok-plan.ensures.buckets) c.requires.places c.requires.no_duplicate)

pub returns-clause-sound : goal.returns-clause-sound
returns-clause-sound g c =
    let snap = c.args.snap.now in
    restored_sound snap c.args.placer (file-of snap c.requires.fit c.in_ok-plan.ensures.buckets) c.requires.places c.requires.no_duplicate
