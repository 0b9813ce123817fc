use Rattle.std.proofs.Common.{◌≡◌, ◌∙◌, false, ap, fold, map}
use Rattle.table_groups.proofs.Counting.{if_ok, sources-are-in, sources-are-of}
use Rattle.table_groups.specs.Inside.{all_by}
use Rattle.table_groups.specs.Order.{in_order}
use Rattle.table_groups.specs.Sources.{bucket_groups, counted_source, slot_groups, sources_of}
use Rattle.table_groups.specs.Tally.{by_bytes, noted, once}
use Rattle.table_groups.specs.Visits.{no_slots, visits_of, with_slot}
use Rattle.table_groups.proofs.sources.sources_of.Goals as goal

pub returns : goal.returns
unfolding all_by
returns g c =
    let view = (g.T.TableView.view c.args.tables.now) in
    let slots : by_bytes c.note_table.new.tally.entries ≡ all_by view =
    c.in_ok-note_table.ensures.visits ∙ ap (λ es. fold (noted no_slots (with_slot false)) es (visits_of (bucket_groups view false) 0 256)) c.in_ok-tally.ensures.visits in
    let groups : c.as_slice.result.now ≡ in_order (map (counted_source view) (once (slot_groups view))) =
    c.as_slice.ensures.value ∙ c.put_in_order.ensures
    ∙ ap in_order (sources-are-in view c.note_table.new.tally.entries c.in_ok-groups.groups.items slots c.in_ok-groups.ensures) in
    if_ok _ (λ sources. sources.items ≡ sources_of view) c.list_sources.result
    (λ sources h. sources-are-of view c.note_table.new.tally.entries c.as_slice.result.now sources.items slots groups h)
    c.list_sources.ensures
