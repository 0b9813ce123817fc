use Rattle.std.proofs.Common.{◌∙◌, ◌++◌, ◌∷◌, [], ap, refl, rules, sym, take}
use Rattle.std.proofs.lemmas.List.{take_all}
use Rattle.raw_read.specs.declared.raw.RawTable.TheVariants.{New}
use Rattle.raw_file.specs.Listing.{again_at, firsts, peers_of, recs_of, spot_of, with_rec}
use Rattle.raw_file.proofs.Agains.{again_is, firsts_more, found_again, map_more, no_again, none_left}
use Rattle.raw_file.proofs.peers.read_new.Goals as goal

pub loop-row-init : goal.loop-row-init
loop-row-init c = record {
  spots = c.new-spots.ensures.empty;
  recs = c.new-recs.ensures.items;
  peers = c.requires ∙ sym (ap peers_of c.new-recs.ensures.items);
  again = refl;
}

pub loop-row-preserved : goal.loop-row-preserved
loop-row-preserved c =
    let rows = c.args.rows.now in
    let i = c.loop-row.row-index in
    let row = c.row-item.result in
    let before = c.loop-row.invariant in
    record {
      spots = c.in_ok-add_row.ensures.spots c.if-branch.false ∙ ap (λ spots. spots ++ spot_of row ∷ []) before.spots ∙ sym (map_more spot_of rows i row c.loop-row-test.true c.row-item.is);
      recs = c.in_ok-add_row.ensures.recs ∙ ap (λ recs. with_rec recs row.rec) before.recs ∙ sym (firsts_more rows i row c.loop-row-test.true c.row-item.is);
      peers = c.in_ok-add_row.ensures.peers;
      again = no_again rows i row c.loop-row-test.true c.row-item.is before.again
          (sym (again_is _ _ (take i rows) row before.spots before.recs) ∙ sym c.in_ok-add_row.ensures.again ∙ c.if-branch.false);
    }

pub returns-then-branch-clause-cause : goal.returns-then-branch-clause-cause
returns-then-branch-clause-cause c = λ some.
    let rows = c.args.rows.now in
    let i = c.loop-row.row-index in
    let row = c.row-item.result in
    let before = c.loop-row.invariant in
    ap (again_at New) (found_again rows i row c.loop-row-test.true c.row-item.is before.again
    (sym (again_is _ _ (take i rows) row before.spots before.recs) ∙ sym c.in_ok-add_row.ensures.again ∙ c.if-branch.true))

pub returns-clause-none : goal.returns-clause-none
returns-clause-none c = none_left c.args.rows.now c.loop-row.row-index (search rules) c.loop-row.invariant.again

pub returns-clause-recs : goal.returns-clause-recs
returns-clause-recs c =
    c.loop-row.invariant.recs ∙ ap (λ rows. firsts (recs_of rows)) (take_all c.loop-row.row-index c.args.rows.now (search rules))
