-- The disk and the past of a folder in memory after one change more.
use Rattle.std.proofs.Common.{◌≡◌, List, [], ◌∷◌, ◌++◌, refl, sym, ap, ◌∙◌, inl, inr, Some}
use Rattle.host_io.specs.Disk.{Disk, IsBetween, Partly}
use Rattle.host_io.specs.Files.{Files}
use Rattle.host_io.specs.MemFolder.{after_change, past_after, past_of, disk_of, log_with, DiskLog}
use Rattle.host_io.specs.Past.{Past, later, after, AfterFault}
use Rattle.host_io.specs.declared.call.Change.{Change}

past_after-append : (past : Past) (changes : List Change) (change : Change)
    → past_after past (changes ++ change ∷ [])
    ≡ later (after_change change (past_after past changes).now) (past_after past changes)
past_after-append past [] change = refl
past_after-append past (first ∷ changes) change =
    past_after-append (later (after_change first past.now) past) changes change

-- the past goes on by the change
past_with : (log : DiskLog) (change : Change)
    → past_of (log_with log change) ≡ later (after_change change (disk_of log)) (past_of log)
unfolding past_of
past_with log change = past_after-append _ log.changes change

-- what the names have after the change
pub entries_with : (first : Files) (changes more : List Change) (change : Change) (entries new : Disk)
    → entries ≡ disk_of (record { first = first; changes = changes })
    → new ≡ after_change change entries → more ≡ changes ++ change ∷ []
    → new ≡ disk_of (record { first = first; changes = more })
entries_with first changes more change entries new is made all =
    made
    ∙ ap (after_change change) is
    ∙ sym (ap (λ (past : Past). past.now) (past_with (record { first = first; changes = changes }) change))
    ∙ ap (λ cs. disk_of (record { first = first; changes = cs })) (sym all)

-- a call that changes the disk, as contracts see it
pub moved : (change : Change) (old new : DiskLog) → new ≡ log_with old change
    → Some (past_of new) ≡ after (after_change change) (Some (past_of old))
moved change old new is = ap (λ log. Some (past_of log)) is ∙ ap Some (past_with old change)

whole : (old made : Disk) → IsBetween old made made
whole old made = record {
  reads = inr refl;
  leaves = λ name found may. inr may;
  same = λ name is. is;
}

-- a call that fails and changes the disk all the same
pub late : (change : Change) (old new : DiskLog) → new ≡ log_with old change
    → AfterFault (Partly (after_change change)) (Some (past_of old)) (Some (past_of new))
late change old new is = inr (
  after_change change (disk_of old),
  whole (disk_of old) (after_change change (disk_of old)),
  moved change old new is,
)

-- a call that fails and changes nothing
pub stayed : (change : Change) (old new : DiskLog) → new ≡ old
    → AfterFault (Partly (after_change change)) (Some (past_of old)) (Some (past_of new))
stayed change old new is = inl (ap (λ log. Some (past_of log)) is)
