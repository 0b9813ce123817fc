use Rattle.std.proofs.Common.{subst}
use Rattle.ban_list.specs.SubnetText.{IsSubnetTextBy}
use Rattle.ban_list.proofs.subnet_names.parse_subnet_by.Goals as goal

pub returns-in-Labels-clause-only : goal.returns-in-Labels-clause-only
returns-in-Labels-clause-only c = λ s h. c.parse_subnet.ensures.only s (subst (λ r. IsSubnetTextBy r c.args.text.now s) c.in-Labels.is h)

pub returns-in-Names-clause-only : goal.returns-in-Names-clause-only
returns-in-Names-clause-only c = λ s h. c.parse_by_name.ensures.only s (subst (λ r. IsSubnetTextBy r c.args.text.now s) c.in-Names.is h)
