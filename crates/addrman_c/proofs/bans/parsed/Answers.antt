use Rattle.std.proofs.Common.{◌≡◌, List, ℕ, Option, Some, None}
use Rattle.std.specs.Prelude.{IfSome}
use Rattle.ban_list.specs.SubnetText.{IsSubnetText}
use Rattle.ban_list.specs.declared.subnet.Subnet.{Subnet}
use Rattle.addrman_c.specs.Banning.{IsParsed}
use Rattle.addrman_c.proofs.bans.parsed.Goals as goal

parsed_by : (text : List ℕ) (r : Option Subnet) → IfSome r (IsSubnetText text) → ((s : Subnet) → IsSubnetText text s → r ≡ Some s) → IsParsed text r
parsed_by text None found only = λ s is. cc (only s is)
parsed_by text (Some s) found only = found

pub returns-clause-found : goal.returns-clause-found
returns-clause-found c = parsed_by c.args.text.now c.parse_subnet.result c.parse_subnet.ensures.found c.parse_subnet.ensures.only
