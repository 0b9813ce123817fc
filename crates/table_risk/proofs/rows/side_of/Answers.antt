use Rattle.std.proofs.Common.{◌≡◌, ◌≤◌, List, ap, length, map, rules, subst, sym, ◌∙◌}
use Rattle.table_risk.specs.Inside.{class_by}
use Rattle.table_risk.specs.Occupants.{starts_in}
use Rattle.table_risk.specs.declared.occupants.Occupant.{Occupant}
use Rattle.risk_laws.specs.Classes.{chances}
use Rattle.table_risk.proofs.Slots.{few}
use Rattle.table_risk.proofs.rows.side_of.Goals as goal

pub classes_of-requires : goal.classes_of-requires
classes_of-requires g c =
    subst (λ (os : List Occupant). starts_in os ≤ 65536) (sym (c.as_slice.ensures.value ∙ c.in_ok-occupants.ensures)) (few (g.T.TableView.view c.args.tables.now) c.args.what.in_new)

pub returns : goal.returns
returns g c =
    let counted : c.len.result ≡ length c.in_ok-occupants.occupants.items = search rules in
    λ i. record {
      classes = (c.in_ok-classes.ensures ∙ (λ j. map (class_by (c.places.ensures j) c.args.what ((c.as_slice.ensures.value ∙ c.in_ok-occupants.ensures) j)) chances)) i;
      wanted = c.wanted_in-wanted.ensures i;
      slots = (counted ∙ ap length c.in_ok-occupants.ensures) i;
    }
