use Rattle.std.proofs.Common.{◌^◌, ap, arith}
use Rattle.std.proofs.lemmas.Nat.{one_shl}
use Rattle.asmap_vm.proofs.MatchLaws.{leads_at}
use Rattle.asmap_back.proofs.part.after_match.Goals as goal

pub overflow_sub-digits : goal.overflow_sub-digits
overflow_sub-digits c =
    let size = c.match_size-size in
    rw (one_shl size.result 32 (omega (arith, size.ensures.most)))
    (omega (arith, ap (λ n. 2 ^ n) size.ensures.size, (leads_at c.args.number c.requires.low c.requires.high).low))
