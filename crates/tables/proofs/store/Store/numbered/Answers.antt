use Rattle.std.proofs.Common.{rules, ◌∙◌, ◌≤◌, ◌<◌, length, map, arith}
use Rattle.std.proofs.lemmas.List.{length-map, take_all}
use Rattle.tables.specs.Saving.{number_id}
use Rattle.tables.proofs.Gathered.{pairs-more}
use Rattle.tables.proofs.store.Store.numbered.Goals as goal

pub loop-position-preserved : goal.loop-position-preserved
loop-position-preserved g c =
    let l = c.loop-position in
    let order = c.args.self.now.index in
    let within : l.position < length order = search rules in
    record {
      sofar =
          c.in_ok-push.ensures.items
          ∙ pairs-more order l.pairs.items l.position c.at-id.result c.get.result.now l.invariant.sofar within c.at-id.ensures.found c.at-id.ensures.rec c.get.ensures.found;
      end = c.len-position-end.ensures.count;
      steps = omega (arith, l.invariant.steps, c.at-id.ensures.steps, c.get.ensures.steps);
    }

pub returns-clause-listed : goal.returns-clause-listed
returns-clause-listed g c =
    let l = c.loop-position in
    let order = c.args.self.now.index in
    let over : length order ≤ l.position = search rules in
    l.invariant.sofar ∙ take_all l.position (map number_id order) (omega (arith, length-map order number_id, over))
