use Rattle.std.proofs.Common.{true, ap, fold, ◌∙◌}
use Rattle.table_groups.specs.Inside.{slots_by}
use Rattle.table_groups.specs.Sources.{bucket_groups}
use Rattle.table_groups.specs.Tally.{by_bytes, noted}
use Rattle.table_groups.specs.Visits.{no_slots, visits_of, with_slot}
use Rattle.table_groups.proofs.group_slots.tally_slots.Goals as goal

pub returns-clause-visits : goal.returns-clause-visits
unfolding slots_by
returns-clause-visits g c = c.in_ok-note_table.ensures.visits ∙ ap (λ es. fold (noted no_slots (with_slot true)) (by_bytes es) (visits_of (bucket_groups (g.T.TableView.view c.args.tables.now) true) 0 1024)) c.with_hasher-tally.ensures.empty
