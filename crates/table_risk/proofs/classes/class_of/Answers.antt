use Rattle.std.proofs.Common.{◌≡◌, ◌≤◌, ◌+◌, ◌==◌, true, sym, arith, ◌∙◌}
use Rattle.std.proofs.lemmas.Bool.{eq-eqb}
use Rattle.peer_rec.specs.Rec.{chance}
use Rattle.std.specs.List.{flat_map}
use Rattle.std.specs.Prelude.{take}
use Rattle.table_groups.specs.Tally.{by_bytes}
use Rattle.table_risk.specs.Inside.{visits_for}
use Rattle.table_risk.proofs.KindsOf.{group_fits, sum_fits}
use Rattle.table_risk.proofs.classes.class_of.Goals as goal

pub overflow_add-all : goal.overflow_add-all
overflow_add-all g c =
    let likely : (chance c.occupant-item.result.rec c.args.what.now == c.args.chance) ≡ true =
    eq-eqb (chance c.occupant-item.result.rec c.args.what.now) c.args.chance (sym c.chance.ensures ∙ c.if-chance-from.true ∙ c.from.ensures) in
    omega (
      arith,
      sum_fits c.args.placer.now c.args.what c.args.chance c.loop-occupant.occupant-index c.args.occupants.now c.occupant-item.result c.loop-occupant-test.true c.occupant-item.is likely c.loop-occupant.all
          c.loop-occupant.invariant.all c.requires,
    )

pub add_starts-requires : goal.add_starts-requires
add_starts-requires g c =
    let likely : (chance c.occupant-item.result.rec c.args.what.now == c.args.chance) ≡ true =
    eq-eqb (chance c.occupant-item.result.rec c.args.what.now) c.args.chance (sym c.chance.ensures ∙ c.if-chance-from.true ∙ c.from.ensures) in
    let few : c.loop-occupant.all + c.occupant-item.result.starts ≤ 65536 =
    sum_fits c.args.placer.now c.args.what c.args.chance c.loop-occupant.occupant-index c.args.occupants.now c.occupant-item.result c.loop-occupant-test.true c.occupant-item.is likely
    c.loop-occupant.all c.loop-occupant.invariant.all c.requires in
    λ h. group_fits (flat_map (visits_for c.args.placer.now c.args.what c.args.chance) (take c.loop-occupant.occupant-index c.args.occupants.now)) (by_bytes c.loop-occupant.groups.entries) h
    c.loop-occupant.all c.occupant-item.result.starts c.loop-occupant.invariant.groups c.loop-occupant.invariant.all few
