use Rattle.std.proofs.Common.{refl, ap, ◌∙◌}
use Rattle.asmap_vm.specs.Matches.{match_size}
use Rattle.asmap_vm.proofs.MatchLaws.{leads_at, match_size-wanted}
use Rattle.asmap_vm.proofs.instruction.match_size.Goals as goal

pub returns-clause-size : goal.returns-clause-size
unfolding match_size
returns-clause-size c = refl

pub returns-clause-least : goal.returns-clause-least
unfolding match_size
returns-clause-least c = (leads_at c.args.number c.requires.low c.requires.high).some

pub returns-clause-most : goal.returns-clause-most
unfolding match_size
returns-clause-most c = (leads_at c.args.number c.requires.low c.requires.high).most

pub returns-clause-wanted : goal.returns-clause-wanted
unfolding match_size
returns-clause-wanted c = λ wanted few e. ap match_size e ∙ match_size-wanted wanted few
