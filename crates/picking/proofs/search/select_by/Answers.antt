use Rattle.std.proofs.Common.{◌≤◌, ◌∙◌, length, sym, arith}
use Rattle.std.proofs.lemmas.Grind.{common_steps}
use Rattle.table_machine.specs.Picks.{candidates_of_either}
use Rattle.table_machine.proofs.Refusals.{few_refusals}
use Rattle.picking.proofs.search.select_by.Goals as goal

-- both tables have wanted records
pub returns-clause-few : goal.returns-clause-few
returns-clause-few g c = λ exhausted.
    let few : length (candidates_of_either c.args.tables.now c.args.nets c.args.words) ≤ 44 =
    few_refusals c.args.now (candidates_of_either c.args.tables.now c.args.nets c.args.words) (sym c.search_either.ensures.picked ∙ exhausted) in
    grind (arith, common_steps)
