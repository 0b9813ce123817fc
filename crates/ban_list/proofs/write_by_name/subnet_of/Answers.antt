use Rattle.std.proofs.Common.{◌≡◌, None, Some}
use Rattle.ban_list.specs.declared.ban.Ban.{Ban}
use Rattle.ban_list.proofs.write_by_name.subnet_of.Goals as goal

none_is : (ban : Ban) → None ≡ Some ban → ⊥
none_is ban e = cc

pub returns-in-None : goal.returns-in-None
returns-in-None c = λ ban is. none_is ban (c.in-None.ensures.only ban is)
