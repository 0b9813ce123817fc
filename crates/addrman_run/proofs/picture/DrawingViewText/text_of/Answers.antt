use Rattle.std.proofs.Common.{◌++◌, ap, subst, sym, ◌∙◌}
use Rattle.addrman_run.specs.Picture.{HaveAddresses, picture_for}
use Rattle.table_picture.specs.Picture.{picture_by}
use Rattle.addrman_run.proofs.picture.DrawingViewText.text_of.Goals as goal

pub returns-in_ok-put_picture_by-in-By : goal.returns-in_ok-put_picture_by-in-By
returns-in_ok-put_picture_by-in-By g c =
    let view = g.V.TableView.view c.args.tables.now in (
      c.in_ok-put_picture_by-in-By.ensures.text
          ∙ ap (λ before. before ++ picture_by c.by_of-by.result c.chain_name-name.result.now view) c.new-text.ensures.items
          ∙ (λ i. picture_by (c.by_of-by.ensures i) (c.chain_name-name.ensures i) view)
          ∙ ap (λ colours. picture_for colours c.args.self.now.chain view) (sym c.in-By.is),
      subst HaveAddresses (sym c.in-By.is) tt,
    )
