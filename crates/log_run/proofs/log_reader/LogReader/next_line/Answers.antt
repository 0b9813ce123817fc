use Rattle.std.proofs.Common.{◌<◌, arith, subst, sym, ap, ◌∙◌}
use Rattle.log_run.proofs.Readers.{SoFar, left_to_read, less_to_read, none_read, one_read}
use Rattle.log_run.proofs.log_reader.LogReader.next_line.Goals as goal

pub loop-self-init : goal.loop-self-init
loop-self-init g c = record { so_far = none_read c.args.self.now (g.L.Source.left c.args.source.now); never_falls = omega arith }

pub loop-self-preserved : goal.loop-self-preserved
loop-self-preserved g c = record {
  so_far =
      one_read c.args.self.now c.find_line.new.self c.read_more.new.self (g.L.Source.left c.args.source.now) (g.L.Source.left c.loop-self.source) (g.L.Source.left c.read_more.new.source)
      (subst (λ s. SoFar c.args.self.now s (g.L.Source.left c.args.source.now) (g.L.Source.left c.loop-self.source)) (sym c.find_line.ensures.same) c.loop-self.invariant.so_far)
      (ap (λ r. r.is_ended) c.find_line.ensures.same ∙ sym (ap (λ r. r.is_ended) c.self.view_is) ∙ c.loop-self-test.true)
      (c.in_default.ensures.read.0, c.in_default.ensures.read.1) c.in_default.ensures.moved (λ ended. (c.in_default.ensures.end ended).1)
      c.in_default.ensures.within c.in_default.ensures.unknown;
  never_falls = omega (arith, c.loop-self.invariant.never_falls, c.in_default.ensures.never_falls);
}

pub loop-self-smaller : goal.loop-self-smaller
loop-self-smaller g c =
    subst (λ s. left_to_read c.read_more.new.self < left_to_read s) c.find_line.ensures.same
    (less_to_read c.find_line.new.self c.read_more.new.self (ap (λ r. r.is_ended) c.find_line.ensures.same ∙ sym (ap (λ r. r.is_ended) c.self.view_is) ∙ c.loop-self-test.true) c.in_default.ensures.read c.in_default.ensures.within)
