use Rattle.std.proofs.Common.{◌∙◌, ap, arith, false, length, refl, subst}
use Rattle.log_run.specs.Log.{HasNoFeed}
use Rattle.log_run.proofs.Readers.{fed_line, long_line, long_rest}
use Rattle.log_run.proofs.log_reader.LogReader.find_line.Goals as goal

pub returns-then-count-le-MAX_LINE-clause-found : goal.returns-then-count-le-MAX_LINE-clause-found
returns-then-count-le-MAX_LINE-clause-found c =
    fed_line c.args.self.now c.bytes.result.now c.self.inside.buffer c.in-Some.count c.bytes.ensures (ap (λ r. r.waiting) c.self.view_is)
    (omega arith) c.self.invariant.recent c.in-Some.ensures.first c.in-Some.ensures.found.1 c.requires.goes_on

pub returns-in-Some-clause-long : goal.returns-in-Some-clause-long
returns-in-Some-clause-long c =
    long_line c.args.self.now c.bytes.result.now c.in-Some.count (c.bytes.ensures ∙ ap (λ r. r.waiting) c.self.view_is)
    (omega arith) (omega (arith, c.in-Some.ensures.found.0)) c.in-Some.ensures.first (omega (arith, c.self.invariant.few, ap length c.bytes.ensures))

pub returns-clause-long : goal.returns-clause-long
returns-clause-long c =
    long_rest (record { waiting = c.self.inside.buffer; taken = 0; is_ended = false }) c.self.inside.buffer refl
    (omega (arith, ap length c.bytes-count.ensures)) (subst HasNoFeed c.bytes.ensures c.in_default.ensures.none) c.self.invariant.few
