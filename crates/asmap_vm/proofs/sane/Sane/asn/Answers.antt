use Rattle.std.proofs.Common.{arith}
use Rattle.asmap_vm.specs.Code.{asn_of}
use Rattle.asmap_vm.specs.Held.{tree_held}
use Rattle.asmap_vm.proofs.WalkLaws.{sane_ahead}
use Rattle.asmap_vm.proofs.sane.Sane.asn.Goals as goal

pub of-requires : goal.of-requires
of-requires c = c.args.self.now.small

pub follow-requires-clause-size : goal.follow-requires-clause-size
follow-requires-clause-size c =
    omega (arith, c.of.ensures.len, c.args.self.now.small)

pub follow-requires-clause-ahead : goal.follow-requires-clause-ahead
follow-requires-clause-ahead c =
    rw c.of.ensures.bits (asn_of (tree_held c.args.self.now) c.args.address, sane_ahead c.args.self.now.code.now c.args.address c.args.self.now.sane)

pub returns : goal.returns
returns c =
    c.follow.ensures (asn_of (tree_held c.args.self.now) c.args.address) (rw c.of.ensures.bits (sane_ahead c.args.self.now.code.now c.args.address c.args.self.now.sane))
