use Rattle.std.proofs.Common.{arith}
use Rattle.asmap_vm.specs.Matches.{match_bits}
use Rattle.asmap_vm.proofs.AddressLaws.{is_matched_by}
use Rattle.asmap_vm.proofs.walk.is_matched.Goals as goal

pub returns : goal.returns
unfolding match_bits
returns c =
    rw c.match_size.ensures.size (is_matched_by _ c.args.left c.args.address c.args.number (omega (arith, c.match_size.ensures.size, c.match_size.ensures.most)))
