use Rattle.std.proofs.Common.{◌≡◌, sym, subst, arith}
use Rattle.std.proofs.lemmas.Grind.{common_steps}
use Rattle.table_machine.specs.Clashes.{clash_pick}
use Rattle.table_machine.specs.Sound.{IsSound}
use Rattle.table_machine.proofs.Folds.{clash_pick-sound}
use Rattle.tried_clash.proofs.clash.clash_pick.Goals as goal

pub returns-clause-sound : goal.returns-clause-sound
returns-clause-sound g c =
    let old = c.args.tables.now in
    let is : c.occupant.new.tables ≡ (clash_pick old c.args.word).state = grind (arith, common_steps) in
    subst IsSound (sym is) (clash_pick-sound old c.args.word c.clashes-numbers.ensures.sound)
