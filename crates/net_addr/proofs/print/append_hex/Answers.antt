use Rattle.std.proofs.Common.{arith, rules}
use Rattle.std.proofs.lemmas.Grind.{common_steps}
use Rattle.std.specs.Net.Text.{hex}
use Rattle.net_addr.proofs.print.append_hex.Goals as goal

pub returns-clause-items : goal.returns-clause-items
unfolding hex
returns-clause-items g c = first_of (search rules, grind (arith, common_steps))
