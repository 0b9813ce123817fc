use Rattle.std.proofs.Common.{arith, rules}
use Rattle.std.proofs.lemmas.Grind.{common_steps}
use Rattle.std.specs.Net.Text.{hex_groups_text}
use Rattle.net_addr.proofs.Ascii.{hex_groups_ascii}
use Rattle.net_addr.proofs.print.compressed.Goals as goal

pub returns-then-len-gt1-clause-text : goal.returns-then-len-gt1-clause-text
unfolding hex_groups_text
returns-then-len-gt1-clause-text c = first_of (search rules, grind (arith, common_steps))

pub returns-else-len-gt1-clause-text : goal.returns-else-len-gt1-clause-text
unfolding hex_groups_text
returns-else-len-gt1-clause-text c = first_of (search rules, grind (arith, common_steps))

pub returns-then-len-gt1-clause-ascii : goal.returns-then-len-gt1-clause-ascii
returns-then-len-gt1-clause-ascii c = hex_groups_ascii c.args.segments.now (λ i. omega (arith, c.type_inv.segments i))

pub returns-else-len-gt1-clause-ascii : goal.returns-else-len-gt1-clause-ascii
returns-else-len-gt1-clause-ascii c = hex_groups_ascii c.args.segments.now (λ i. omega (arith, c.type_inv.segments i))
