-- What has been read of a log that names sets, and what is written then.
use Rattle.std.proofs.Common.{◌≡◌, ◌⊎◌, ℕ, List, [], ◌∷◌, ◌++◌, refl, sym, ap, ◌∙◌, subst, inl, inr}
use Rattle.std.specs.Prelude.{All, None}
use Rattle.std.proofs.lemmas.List.{append-nil, append_assoc}
use Rattle.std.proofs.lemmas.List.Elements.{All-cons, All-nil}
use Rattle.ban_list.specs.Subnet.{IsProper}
use Rattle.ban_list.specs.SubnetText.{IsSubnetText}
use Rattle.ban_list.specs.declared.subnet.Subnet.{Subnet}
use Rattle.host_io.specs.Lines.{IsPassedOver}
use Rattle.host_io.specs.Outside.{Outside}
use Rattle.host_io.specs.Writing.{Appended}
use Rattle.log_run.specs.Run.{Ran, Run, Streams}
use Rattle.log_run.specs.declared.run.LogEnd.{LogEnd}
use Rattle.log_run.specs.declared.run.LogEnd.TheVariants as end
use Rattle.arguments.specs.declared.file_kind.FileKind.{FileKind}
use Rattle.risk_parts.specs.Sets.{IsProperSet, IsSetText}
use Rattle.risk_parts.specs.declared.addr_set.AddrSet.{AddrSet}
use Rattle.risk_parts.specs.declared.addr_set.AddrSet.TheVariants as set
use Rattle.table_machine.specs.State.{State}
use Rattle.table_risk.specs.SetTexts.{sets_text}
use Rattle.addrman_run.specs.EachLine.{Mean}
use Rattle.addrman_run.specs.Inside.{TextEnds, IsNoTables, status_of}
use Rattle.addrman_run.specs.Log.{LogOutcome, streams_of}
use Rattle.addrman_run.specs.Opening.{Opened}
use Rattle.addrman_run.specs.Replay.{IsUntouched}
use Rattle.addrman_run.specs.RiskLines.{HasSetFault, LacksTables, RiskedSets, SetStep, SetsRan, SetsRead}
use Rattle.addrman_run.specs.declared.risk.TheConstants.{AFTER_RESTART}
use Rattle.addrman_run.specs.declared.status.Status.{Status}
use Rattle.addrman_run.specs.declared.status.Status.TheVariants as status
use Rattle.addrman_run.proofs.Seen.{Seen, now_of, ran_of}

-- the sets that some lines name
record Named (old : List AddrSet) (lines : List (List ℕ)) (text : List ℕ) (new : List AddrSet) : Type 0 where
  sets : List AddrSet
  each : Mean IsSetText lines sets
  whole : new ≡ old ++ sets
  silent : text ≡ []

named : (old : List AddrSet) (lines : List (List ℕ)) (text : List ℕ) (new : List AddrSet) → Run SetStep old lines text new → Named old lines text new
named old [] text new run = record { sets = []; each = refl; whole = run.1 ∙ sym (append-nil old); silent = run.0 }
named old (line ∷ lines) text new run = by run.4.1 (named run.2 lines run.1 new run.5)
  where
    none : text ≡ run.0 ++ run.1 → run.0 ≡ [] → run.1 ≡ [] → text ≡ []
    none is first rest = is ∙ (λ i. first i ++ rest i)

    by : (IsPassedOver line × (run.2 ≡ old)) ⊎ ((own : AddrSet) × IsSetText line own × (run.2 ≡ old ++ own ∷ [])) → Named run.2 lines run.1 new → Named old (line ∷ lines) text new
    by (inl passed) rest = record {
      sets = rest.sets;
      each = inl (passed.0, rest.each);
      whole = rest.whole ∙ ap (λ (xs : List AddrSet). xs ++ rest.sets) passed.1;
      silent = none run.3 run.4.0 rest.silent;
    }
    by (inr (own, means, is)) rest = record {
      sets = own ∷ rest.sets;
      each = inr (own, rest.sets, refl, means, rest.each);
      whole = rest.whole ∙ ap (λ (xs : List AddrSet). xs ++ rest.sets) is ∙ append_assoc old (own ∷ []) rest.sets;
      silent = none run.3 run.4.0 rest.silent;
    }

nothing_left : (text unwritten : List ℕ) → [] ≡ text ++ unwritten → text ≡ []
nothing_left [] unwritten is = refl
nothing_left (b ∷ text) unwritten is = absurd (cc)

-- a run over the log has read the sets
sets_read : (old new : Streams) (sets : List AddrSet) (how : LogEnd) (ran : Ran SetStep HasSetFault [] old new how) → sets ≡ ran.now → SetsRead old new sets how
sets_read old new sets how ran is =
    let run = named [] ran.carried ran.replies ran.now ran.runs in
    record {
      ran = ran;
      now = sym is;
      silent = subst (Appended old.written new.written) (nothing_left ran.text ran.unwritten (sym run.silent ∙ ran.whole)) ran.written;
      each = subst (Mean IsSetText ran.carried) (sym (is ∙ run.whole)) run.each;
    }

-- a run from the same start
from_same : (old new : Streams) (how : LogEnd) (a b : List AddrSet) → a ≡ b → (r : Ran SetStep HasSetFault a old new how) → (moved : Ran SetStep HasSetFault b old new how) × (moved.now ≡ r.now)
from_same old new how a b same r = subst (λ (start : List AddrSet). (moved : Ran SetStep HasSetFault start old new how) × (moved.now ≡ r.now)) same (r, refl)

-- the same of a run whose world has the sets
pub sets_read_by : {S W : Type 0} (seen : W → List AddrSet) (s : S) (w after : W) (old new : Streams) (how : LogEnd)
    → (ran : Ran (Seen {S = S × W} (λ p. seen p.1) SetStep HasSetFault) HasSetFault (s, w) old new how) → seen w ≡ [] → after ≡ ran.now.1 → SetsRead old new (seen after) how
sets_read_by {S = S} {W = W} seen s w after old new how ran empty is =
    let moved = from_same old new how (seen w) [] empty (ran_of {S = S × W} (λ p. seen p.1) SetStep HasSetFault (s, w) old new how ran) in
    sets_read old new (seen after) how moved.0 (ap seen is ∙ sym (moved.1 ∙ now_of {S = S × W} (λ p. seen p.1) SetStep HasSetFault (s, w) old new how ran))

-- the sets that were read are proper
module _ (law : (text : List ℕ) (s : Subnet) → IsSubnetText text s → IsProper s) where
  proper_set : (text : List ℕ) (own : AddrSet) → IsSetText text own → IsProperSet own
  proper_set text (set.Subnet s) is = law text s is.1
  proper_set text (set.Number n) is = tt

  proper_mean : (lines : List (List ℕ)) (sets : List AddrSet) → Mean IsSetText lines sets → All IsProperSet sets
  proper_mean [] sets is = subst (All IsProperSet) (sym is) (All-nil IsProperSet)
  proper_mean (line ∷ lines) sets (inl passed) = proper_mean lines sets passed.1
  proper_mean (line ∷ lines) sets (inr (own, rest, is, means, each)) =
      subst (All IsProperSet) (sym is) (All-cons IsProperSet own rest (proper_set line own means) (proper_mean lines rest each))

  pub proper_read : (old new : Streams) (sets : List AddrSet) (how : LogEnd) → SetsRead old new sets how → All IsProperSet sets
  proper_read old new sets how read = proper_mean read.ran.carried sets read.each

-- ---- how it ends

-- what was read, and how the text was written
written : (st : State) (old middle new : Streams) (sets : List AddrSet) (read : LogEnd) (answer : Status) → SetsRead old middle sets read → read ≡ end.Done
    → new.left ≡ middle.left → TextEnds (sets_text st AFTER_RESTART sets) middle.written new.written answer → LogOutcome (SetsRan st old new) (λ status. ⊥) answer
written st old middle new sets read answer lines done same (inl none) =
    subst (LogOutcome (SetsRan st old new) (λ status. ⊥)) (sym none.0)
    (inr (record { sets = sets; middle = middle; read = end.Done; lines = subst (SetsRead old middle sets) done lines; wrote = (same, none.1) }))
written st old middle new sets read answer lines done same (inr (inl whole)) =
    subst (LogOutcome (SetsRan st old new) (λ status. ⊥)) (sym whole.0)
    (record { sets = sets; middle = middle; read = end.Done; lines = subst (SetsRead old middle sets) done lines; wrote = (same, whole.1) })
written st old middle new sets read answer lines done same (inr (inr part)) =
    subst (LogOutcome (SetsRan st old new) (λ status. ⊥)) (sym part.0)
    (record { sets = sets; middle = middle; read = end.Done; lines = subst (SetsRead old middle sets) done lines; wrote = (same, part.1) })

-- the same of the list that was handed on
pub written_by : (st : State) (old middle new : Streams) (sets shown : List AddrSet) (read : LogEnd) (answer : Status) → SetsRead old middle sets read → read ≡ end.Done
    → new.left ≡ middle.left → shown ≡ sets → TextEnds (sets_text st AFTER_RESTART shown) middle.written new.written answer → LogOutcome (SetsRan st old new) (λ status. ⊥) answer
written_by st old middle new sets shown read answer lines done same is text =
    written st old middle new sets read answer lines done same (subst (λ (xs : List AddrSet). TextEnds (sets_text st AFTER_RESTART xs) middle.written new.written answer) is text)

-- the reading ended before the end of the log
pub stopped_by : (st : State) (old middle : Streams) (sets : List AddrSet) (read : LogEnd) → SetsRead old middle sets read → (read ≡ end.Done → ⊥)
    → LogOutcome (SetsRan st old middle) (λ status. ⊥) (status_of read)
stopped_by st old middle sets end.Done lines other = absurd (other refl)
stopped_by st old middle sets (end.Fault n fault) lines other = record { sets = sets; middle = middle; read = end.Fault n fault; lines = lines; wrote = (refl, refl) }
stopped_by st old middle sets (end.LineTooLong n) lines other = record { sets = sets; middle = middle; read = end.LineTooLong n; lines = lines; wrote = (refl, refl) }
stopped_by st old middle sets end.LogTooLong lines other = record { sets = sets; middle = middle; read = end.LogTooLong; lines = lines; wrote = (refl, refl) }
stopped_by st old middle sets end.ReadFault lines other = record { sets = sets; middle = middle; read = end.ReadFault; lines = lines; wrote = (refl, refl) }
stopped_by st old middle sets end.WriteFault lines other = record { sets = sets; middle = middle; read = end.WriteFault; lines = lines; wrote = (refl, refl) }
stopped_by st old middle sets end.Memory lines other = inr (record { sets = sets; middle = middle; read = end.Memory; lines = lines; wrote = (refl, refl) })

-- the tables were opened
module _ (kind : FileKind) (old new : Outside) (tables : State) (opened : Opened None kind old.past tables) where
  with_tables : (how : LogEnd) → SetsRan tables (streams_of old) (streams_of new) how → RiskedSets kind old.past (streams_of old) (streams_of new) how
  with_tables how ran = record { tables = tables; opened = opened; ran = ran }

  pub risked_by : (answer : Status) → LogOutcome (SetsRan tables (streams_of old) (streams_of new)) (λ status. ⊥) answer
      → LogOutcome (RiskedSets kind old.past (streams_of old) (streams_of new)) (λ other. LacksTables kind old.past other × IsUntouched old new) answer
  risked_by status.Done ran = with_tables end.Done ran
  risked_by (status.LogLine n fault) ran = with_tables (end.Fault n fault) ran
  risked_by (status.LineTooLong n) ran = with_tables (end.LineTooLong n) ran
  risked_by status.LogTooLong ran = with_tables end.LogTooLong ran
  risked_by status.ReadFault ran = with_tables end.ReadFault ran
  risked_by status.WriteFault ran = with_tables end.WriteFault ran
  risked_by status.Memory (inl none) = absurd none
  risked_by status.Memory (inr ran) = inr (with_tables end.Memory ran)
  risked_by other none = absurd none

-- or not
pub unopened_by : (Runs : LogEnd → Type 0) (kind : FileKind) (old new : Outside) (answer : Status) → IsNoTables kind.chain old.past answer → IsUntouched old new
    → LogOutcome Runs (λ other. LacksTables kind old.past other × IsUntouched old new) answer
unopened_by Runs kind old new status.DiskFault why same = (tt, same)
unopened_by Runs kind old new status.Memory why same = inl (tt, same)
unopened_by Runs kind old new status.Done why same = absurd why
unopened_by Runs kind old new (status.LogLine n fault) why same = absurd why
unopened_by Runs kind old new (status.LineTooLong n) why same = absurd why
unopened_by Runs kind old new status.LogTooLong why same = absurd why
unopened_by Runs kind old new status.ReadFault why same = absurd why
unopened_by Runs kind old new status.WriteFault why same = absurd why
unopened_by Runs kind old new other why same = (why, same)
