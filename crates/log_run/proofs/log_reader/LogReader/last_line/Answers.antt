use Rattle.std.proofs.Common.{◌∙◌, ap, arith, length, subst, sym}
use Rattle.std.specs.Prelude.{IsTrue}
use Rattle.log_run.specs.Log.{HasNoFeed}
use Rattle.log_run.proofs.Readers.{long_rest}
use Rattle.log_run.proofs.log_reader.LogReader.last_line.Goals as goal

pub returns-clause-long : goal.returns-clause-long
returns-clause-long c =
    long_rest c.args.self.now c.bytes-length.result.now (c.bytes-length.ensures ∙ ap (λ r. r.waiting) c.self.view_is) (omega arith)
    (subst HasNoFeed (sym c.bytes-length.ensures) (c.self.invariant.ended (subst IsTrue (sym (ap (λ r. r.is_ended) c.self.view_is)) c.requires.ended)))
    (omega (arith, c.self.invariant.few, ap length c.bytes-length.ensures))
