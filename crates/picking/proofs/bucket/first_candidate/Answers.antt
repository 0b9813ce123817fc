use Rattle.std.proofs.Common.{◌∙◌, sym}
use Rattle.picking.proofs.Candidates.{candidate-first, candidate-second}
use Rattle.picking.proofs.bucket.first_candidate.Goals as goal

pub returns-in-Some-clause-found : goal.returns-in-Some-clause-found
returns-in-Some-clause-found g c =
    sym (candidate-first c.args.tables.now c.args.in_new c.args.nets c.args.bucket c.args.start c.in-Some.rec.now (sym c.in-Some.ensures.found))

pub returns-in-None-clause-found : goal.returns-in-None-clause-found
returns-in-None-clause-found g c =
    c.candidate_in-in-None.ensures.found
    ∙ sym (candidate-second c.args.tables.now c.args.in_new c.args.nets c.args.bucket c.args.start (sym c.in-None.ensures.found))
