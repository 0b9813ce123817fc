use Rattle.std.proofs.Common.{rules, ◌≡◌, ◌∙◌, ◌<◌, sym, subst, get_or, length, arith}
use Rattle.std.proofs.lemmas.List.{get_or_default, get_or_read, length-set}
use Rattle.peer_index.specs.Order.{id_of, with_item}
use Rattle.tables.specs.Filled.{blank, rec_at}
use Rattle.tables.proofs.Filled.{absent, filled-more}
use Rattle.tables.proofs.parts.fill.Goals as goal

pub add-requires-clause-absent : goal.add-requires-clause-absent
add-requires-clause-absent g c =
    let l = c.loop-number in
    let k = l.number-index in
    let order = c.args.order.now in
    let recs = c.args.recs.now in
    let n = get_or order k 0 in
    let within : k < length order = search rules in
    let is : n ≡ get_or order k n = get_or_default order k 0 n within in
    let rec : c.to_rec.result ≡ rec_at recs n = c.to_rec.ensures ∙ get_or_read recs n c.index-recs-number.result (c.requires.within k 0 within) c.index-recs-number.is blank in
    (λ i. id_of (l.invariant.filled i) (rec i).peer)
    ∙ absent l.ids.items recs order c.requires.apart k n within is

pub loop-number-preserved : goal.loop-number-preserved
loop-number-preserved g c =
    let l = c.loop-number in
    let k = l.number-index in
    let order = c.args.order.now in
    let recs = c.args.recs.now in
    let n = get_or order k 0 in
    let within : k < length order = search rules in
    let is : n ≡ get_or order k n = get_or_default order k 0 n within in
    let low : n < length recs = c.requires.within k 0 within in
    let rec : c.to_rec.result ≡ rec_at recs n = c.to_rec.ensures ∙ get_or_read recs n c.index-recs-number.result low c.index-recs-number.is blank in
    record {
      filled = c.in_ok-id.ensures.added
          ∙ (λ i. with_item (l.invariant.filled i) c.in_ok-id.id (rec i))
          ∙ sym (filled-more l.ids.items recs order c.requires.apart k n within is c.in_ok-id.id (subst (λ m. n < m) (sym l.invariant.long) low));
      long = length-set l.ids.items n c.in_ok-id.id ∙ l.invariant.long;
      order = c.add.ensures.order;
      steps = omega (arith, l.invariant.steps, c.add.ensures.steps);
    }
