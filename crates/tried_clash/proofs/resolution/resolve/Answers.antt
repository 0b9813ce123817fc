use Rattle.std.proofs.Common.{◌≡◌, subst, arith, sym}
use Rattle.table_machine.proofs.Folds.{resolve-sound}
use Rattle.table_machine.specs.Sound.{IsSound}
use Rattle.table_machine.specs.Clashes.{resolve}
use Rattle.std.proofs.lemmas.Grind.{common_steps}
use Rattle.tried_clash.proofs.Turns.{left-next, one_more-counts, left-start, left-waits}
use Rattle.tried_clash.proofs.resolution.resolve.Goals as goal

pub loop-number-init : goal.loop-number-init
loop-number-init g c = record {
  left = left-start c.args.tables.now c.args.now c.waiting-numbers.ensures.sound;
  counts = omega arith;
  few = c.waiting-numbers.ensures.sound.few_collisions;
  steps = omega arith;
}

pub settle-fate-requires : goal.settle-fate-requires
settle-fate-requires g c =
    let l = c.loop-number in
    let ns = c.args.tables.now.collisions in
    record { waits = left-waits c.args.tables.now l.tables c.args.now l.number-index l.resolved ns c.as_slice-number-items.result.now (cc) c.loop-number-test.true l.invariant.left }

pub loop-number-preserved : goal.loop-number-preserved
loop-number-preserved g c =
    let l = c.loop-number in
    let ns = c.args.tables.now.collisions in
    record {
      left = left-next c.args.tables.now l.tables c.settle-fate.new.tables c.args.now l.number-index l.resolved c.one_more-resolved.result c.settle-fate.result ns c.as_slice-number-items.result.now (cc) c.loop-number-test.true l.invariant.left
          c.settle-fate.ensures.fate c.settle-fate.ensures.state c.one_more-resolved.ensures;
      counts = one_more-counts c.settle-fate.result l.resolved c.one_more-resolved.result l.number-index c.one_more-resolved.ensures l.invariant.counts;
      few = l.invariant.few;
      steps = omega (arith, l.invariant.steps, c.settle-fate.ensures.steps);
    }

pub returns-clause-sound : goal.returns-clause-sound
returns-clause-sound g c =
    let old = c.args.tables.now in
    let is : c.loop-number.tables ≡ (resolve old c.args.now).state = grind (arith, common_steps) in
    subst IsSound (sym is) (resolve-sound old c.args.now c.waiting-numbers.ensures.sound c.ranges.now.fits)
