use Rattle.std.proofs.Common.{◌∙◌, sym, arith}
use Rattle.picking.proofs.Candidates.{candidate-none, candidate-one, candidate-other, to_next}
use Rattle.picking.proofs.bucket.candidate_in.Goals as goal

pub returns-then-is_candidate-clause-found : goal.returns-then-is_candidate-clause-found
returns-then-is_candidate-clause-found g c =
    sym (candidate-one c.args.tables.now c.args.in_new c.args.nets c.args.bucket c.in-Some.slot c.args.to c.occupant-rec.result.now
    c.in-Some.ensures.within.1 c.occupant-rec.ensures.record (sym c.is_candidate.ensures ∙ c.if-is_candidate.true))
    ∙ sym (to_next c.args.tables.now c.args.in_new c.args.nets c.args.bucket c.args.mask c.loop-slot.at c.in-Some.slot c.args.to
    c.requires.mask c.in-Some.ensures.within.0 (omega (arith, c.in-Some.ensures.within.1)) c.requires.slots c.in-Some.ensures.first)
    ∙ c.loop-slot.invariant.rest

pub loop-slot-preserved : goal.loop-slot-preserved
loop-slot-preserved g c = record {
  rest =
      sym (candidate-other c.args.tables.now c.args.in_new c.args.nets c.args.bucket c.in-Some.slot c.args.to c.occupant-rec.result.now
      c.in-Some.ensures.within.1 c.occupant-rec.ensures.record (sym c.is_candidate.ensures ∙ c.if-is_candidate.false))
      ∙ sym (to_next c.args.tables.now c.args.in_new c.args.nets c.args.bucket c.args.mask c.loop-slot.at c.in-Some.slot c.args.to
      c.requires.mask c.in-Some.ensures.within.0 (omega (arith, c.in-Some.ensures.within.1)) c.requires.slots c.in-Some.ensures.first)
      ∙ c.loop-slot.invariant.rest;
  after = omega (arith, c.in-Some.ensures.within.0);
  within = omega (arith, c.in-Some.ensures.within.1);
  steps = omega (arith, c.in-Some.ensures.within.0);
}

pub returns-clause-found : goal.returns-clause-found
returns-clause-found g c =
    sym (
    to_next c.args.tables.now c.args.in_new c.args.nets c.args.bucket c.args.mask c.loop-slot.at c.args.to c.args.to
    c.requires.mask c.loop-slot.invariant.within (omega arith) c.requires.slots c.in_default.ensures.none
    ∙ candidate-none c.args.tables.now c.args.in_new c.args.nets c.args.bucket c.args.to)
    ∙ c.loop-slot.invariant.rest
