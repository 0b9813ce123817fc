use Rattle.std.proofs.Common.{◌≡◌, ◌∙◌, ap}
use Rattle.table_groups.proofs.Counting.{groups-are-in, if_ok, rows-are-of}
use Rattle.table_groups.specs.Groups.{groups_in, rows_of}
use Rattle.table_groups.specs.Inside.{records_by, slots_by}
use Rattle.table_groups.specs.Order.{in_order}
use Rattle.table_groups.specs.Tally.{by_bytes}
use Rattle.table_groups.proofs.ranked_groups.rows_of.Goals as goal

pub returns : goal.returns
unfolding groups_in
returns g c =
    let view = (g.T.TableView.view c.args.tables.now) in
    let records : by_bytes c.in_ok-records.records.entries ≡ records_by view.places view.records =
    c.in_ok-records.ensures ∙ (λ i. records_by (c.places.ensures i) (c.requires.all i)) in
    let slots : by_bytes c.in_ok-slots.slots.entries ≡ slots_by view = c.in_ok-slots.ensures.visits in
    let groups : c.as_slice.result.now ≡ groups_in view =
    c.as_slice.ensures.value ∙ c.put_in_order.ensures
    ∙ ap in_order (groups-are-in view c.in_ok-records.records.entries c.in_ok-slots.slots.entries c.in_ok-groups.groups.items records slots c.in_ok-groups.ensures) in
    if_ok _ (λ rows. rows.items ≡ rows_of view) c.list_rows.result
    (λ rows h. rows-are-of view c.in_ok-records.records.entries c.in_ok-slots.slots.entries c.as_slice.result.now rows.items records slots groups h)
    c.list_rows.ensures
