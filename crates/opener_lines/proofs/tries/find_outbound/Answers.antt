use Rattle.opener_lines.specs.Tries.{Next, ToKeep, try_by}
use Rattle.opener_lines.proofs.Outcomes.{none_before_next, of_peer, words_end}
use Rattle.opener_lines.proofs.tries.find_outbound.Goals as goal
use Rattle.opener_lines.proofs.tries.find_outbound.Goals.{in-One+in_default, in-Exhausted}

pub loop-number-preserved : goal.loop-number-preserved
loop-number-preserved g c =
    let o = c.args.rules.now in
    let m = c.args.manager.now in
    let peers = c.args.opener.now in
    let i = c.loop-number.number in
    none_before_next (try_by o m peers ToKeep c.args.seed) i c.loop-number.invariant (elim c.match-pick_of_try.branch [
      | in-One+in_default w ↦
          of_peer o m peers ToKeep c.args.seed i c.pick_of_try.result w.in-One.peer w.in-One.last_try Next c.pick_of_try.ensures w.in-One.is w.in_default.ensures.next
      | in-Exhausted w ↦ words_end o m peers ToKeep c.args.seed i c.pick_of_try.result c.pick_of_try.ensures w.in-Exhausted.is
    ])
