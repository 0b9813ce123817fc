use Rattle.std.proofs.Common.{◌∙◌, ap, rules, if◌then◌else◌}
use Rattle.opener_lines.specs.Tries.{Next, Take, ToTest, try_by}
use Rattle.opener_lines.proofs.Outcomes.{none_before_next, of_peer, words_end}
use Rattle.opener_lines.proofs.tries.find_feeler.Goals as goal
use Rattle.opener_lines.proofs.tries.find_feeler.Goals.{in-One+else-is_taken, in-Exhausted}

pub returns-then-is_taken : goal.returns-then-is_taken
returns-then-is_taken g c =
    let peer = c.in-One.peer in
    let told = c.is_taken.ensures c.args.occupant.now ∙ ap (λ b. if b then Take peer else Next) c.if-is_taken.true in
    record {
      least = search rules;
      most = search rules;
      before = c.loop-number.invariant;
      comes = of_peer c.args.rules.now c.args.manager.now c.args.opener.now (ToTest c.args.occupant.now) c.args.seed c.loop-number.number c.pick_of_feeler.result peer
          c.in-One.last_try (Take peer) c.pick_of_feeler.ensures c.in-One.is told;
    }

pub loop-number-preserved : goal.loop-number-preserved
loop-number-preserved g c =
    let o = c.args.rules.now in
    let m = c.args.manager.now in
    let peers = c.args.opener.now in
    let goal = ToTest c.args.occupant.now in
    let i = c.loop-number.number in
    none_before_next (try_by o m peers goal c.args.seed) i c.loop-number.invariant (elim c.match-pick_of_feeler.branch [
      | in-One+else-is_taken w ↦
          let told = w.is_taken.ensures c.args.occupant.now ∙ ap (λ b. if b then Take w.in-One.peer else Next) w.if-is_taken.false in
          of_peer o m peers goal c.args.seed i c.pick_of_feeler.result w.in-One.peer w.in-One.last_try Next c.pick_of_feeler.ensures w.in-One.is told
      | in-Exhausted w ↦ words_end o m peers goal c.args.seed i c.pick_of_feeler.result c.pick_of_feeler.ensures w.in-Exhausted.is
    ])
