use Rattle.std.proofs.Common.{◌+◌, ap, arith, length, nat_eq, subst, sym}
use Rattle.log_run.specs.Inside.{IsReader}
use Rattle.log_run.specs.Log.{HasNoFeed}
use Rattle.log_run.proofs.Readers.{grown}
use Rattle.log_run.proofs.log_reader.LogReader.read_more.Goals as goal

pub invariant_of-self-in-Ok-read : goal.invariant_of-self-in-Ok-read
invariant_of-self-in-Ok-read g c =
    subst (λ n. IsReader c.read-2.new.self n (c.self.inside.taken + c.in-Ok-read.count) (nat_eq c.in-Ok-read.count 0)) (sym (ap length c.bytes-waiting.ensures))
    (grown c.self.inside.buffer c.read-2.new.self c.self.inside.searched c.self.inside.taken c.in-Ok-read.count _ c.self.inside.is_ended
    c.self.invariant (subst HasNoFeed (sym (ap (λ r. r.waiting) c.self.view_is)) c.requires.none)
    (omega (arith, ap (λ r. length r.waiting) c.self.view_is, c.requires.few)) c.in-Ok-read.ensures.grown.1 c.in-Ok-read.ensures.grown.0
    (omega (arith, c.min-max.ensures)) (omega (arith, c.min-max.ensures, c.self.invariant.bound)))
