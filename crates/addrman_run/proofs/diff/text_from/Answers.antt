use Rattle.std.proofs.Common.{Some, Err, ap, ◌∙◌, rules, subst}
use Rattle.placing.specs.Inside.{asmap_of}
use Rattle.addrman_run.specs.Asmaps.{IsMapIn, RefusesAsmap}
use Rattle.addrman_run.specs.Diff.{AreRecordLines}
use Rattle.addrman_run.specs.Inside.{IsNoRecords}
use Rattle.addrman_run.proofs.Diffs.{no_new_map, no_records}
use Rattle.addrman_run.proofs.diff.text_from.Goals as goal

pub returns-in-Err-clause-cause : goal.returns-in-Err-clause-cause
returns-in-Err-clause-cause g c =
    no_new_map c.args.peers (g.F.Folder.past c.args.folder.now) (asmap_of c.args.old.now) c.in-Err.status c.requires c.in-Err.ensures.cause

pub returns-in-Err-check-clause-cause : goal.returns-in-Err-check-clause-cause
returns-in-Err-check-clause-cause g c =
    let why : RefusesAsmap (g.F.Folder.past c.args.folder.now) c.in-Err-check.fault = search rules in
    ((asmap_of c.args.old.now, c.requires), why)

pub returns-in-Err-records_text-clause-cause : goal.returns-in-Err-records_text-clause-cause
returns-in-Err-records_text-clause-cause g c =
    let past = g.F.Folder.past c.args.folder.now in
    let new : IsMapIn past (Some (asmap_of c.in-Ok-check.new)) = search rules in
    no_records c.args.peers past (asmap_of c.args.old.now) (asmap_of c.in-Ok-check.new) c.in-Err-records_text.status (c.requires, new)
    (subst (λ p. IsNoRecords c.args.peers p c.in-Err-records_text.status) c.load_present.ensures.same c.in-Err-records_text.ensures.cause)

pub returns-in-Err-TooMany-clause-cause : goal.returns-in-Err-TooMany-clause-cause
returns-in-Err-TooMany-clause-cause g c =
    let past = g.F.Folder.past c.args.folder.now in
    let new : IsMapIn past (Some (asmap_of c.in-Ok-check.new)) = search rules in
    let records = subst (λ p. AreRecordLines c.args.peers (asmap_of c.args.old.now) (asmap_of c.in-Ok-check.new) p c.in-Ok-records_text.records.items)
    c.load_present.ensures.same c.in-Ok-records_text.ensures.found in (
      asmap_of c.args.old.now,
      asmap_of c.in-Ok-check.new,
      (c.requires, new),
      c.changes_text.ensures.cause (c.in-Err-TooMany.is ∙ ap Err c.in-Err-TooMany.field-0-is),
      (c.in-Ok-records_text.records.items, records),
    )
