use Rattle.std.proofs.Common.{◌≡◌, ℕ, List, ◌++◌, rules, ap, subst, ◌∙◌}
use Rattle.std.specs.Prelude.{OnOk}
use Rattle.table_groups.specs.View.{View}
use Rattle.table_picture.specs.By.{newest_in, view_by}
use Rattle.table_picture.specs.Facts.{facts_of}
use Rattle.table_picture.specs.Picture.{picture_with}
use Rattle.table_picture.proofs.picture.put_picture_by.Goals as goal

pub returns : goal.returns
returns g c =
    let view : View = g.T.TableView.view c.args.tables.now in
    let newest : c.newest_of-newest.result ≡ newest_in view.records = search rules in
    let facts : c.as_slice-facts.result.now ≡ facts_of c.args.chain.now view = search rules in
    record {
      text = subst (λ (t : List ℕ). OnOk c.put_picture_with.result (c.put_picture_with.new.out.items ≡ c.args.out.now.items ++ t))
          (ap (picture_with c.args.by c.as_slice-facts.result.now c.newest_of-newest.result view) c.in_ok-other.ensures
          ∙ ap (λ (n : ℕ). picture_with c.args.by c.as_slice-facts.result.now n view (view_by c.args.by n view)) newest
          ∙ ap (λ (t : List ℕ). picture_with c.args.by t (newest_in view.records) view (view_by c.args.by (newest_in view.records) view)) facts)
          c.put_picture_with.ensures.text;
    }
