-- Over each line of a log, records stay or are lost with a cause.
use Rattle.std.proofs.Common.{ℕ, ◌+◌, ◌<◌, ◌≤◌, ◌^◌, false, List, [], ◌∷◌, length, Contains, Option, Some, None, ap, subst, inl, inr, ⊎_elim, ◌⊎◌, arith}
use Rattle.net_addr.specs.Address.{Address, IsAddress}
use Rattle.net_addr.specs.declared.peer.Entry.{Entry}
use Rattle.addr_codecs.specs.Entries.{IsEntry}
use Rattle.peer_rec.specs.declared.rec.Rec.{Rec}
use Rattle.peer_rec.specs.declared.answers.Fate.{Fate}
use Rattle.peer_rec.specs.declared.answers.Fate.TheVariants.{Erased, Kept, Moved}
use Rattle.log_lines.specs.declared.command.Command.{Command}
use Rattle.log_lines.specs.declared.reply.Reply.{Reply}
use Rattle.manager.specs.Machine.{Machine}
use Rattle.taking.specs.Messages.{clamp_time, message_penalty, take_entries, take_entry}
use Rattle.manager.specs.Step.{take_message}
use Rattle.manager.specs.Step.{Step}
use Rattle.table_machine.specs.Clashes.{after_fate, erase_clash, fate_of, resolve_all}
use Rattle.table_machine.specs.Sound.{IsSound}
use Rattle.table_machine.specs.State.{State, by_number}
use Rattle.table_machine.specs.Tried.{good}
use Rattle.table_machine.proofs.Exchanged.{erase_clash-sound}
use Rattle.table_machine.proofs.Lists.{Contains-head, Contains-tail}
use Rattle.table_machine.proofs.Reached.{good-sound}
use Rattle.log_laws.proofs.Fits.{IsFit}
use Rattle.log_laws.proofs.StepKinds.{Kind, kind_of}
use Rattle.log_laws.proofs.StepKinds.Kind.{Decides, Keeps, Succeeds, Takes, Takes2}
use Rattle.log_laws.proofs.Sound.{entry-sound}
use Rattle.table_laws.specs.Losses.{HasRecord, LosesBySuccess}
use Rattle.log_laws.specs.LostLines.{LosesAt, LosesBy, LosesByDecisions, LosesByEntries}
use Rattle.table_laws.proofs.There.{entry_there, itself, success_there, there-trans}

entry_over : (st : State) (now : ℕ) (entry : Option Entry) (source : Address) (word : ℕ) → IsSound st → (r : Rec) → HasRecord st r
    → HasRecord (take_entry st now entry source word).state r ⊎ LosesAt st now entry (take_entry st now entry source word).state r
entry_over st now None source word sound r there = inl there
entry_over st now (Some entry) source word sound r there =
    let e = clamp_time entry now in
    ⊎_elim (λ t. inl (there-trans (take_entry st now (Some entry) source word).state there.0 r there.2 there.3 t)) (λ lost. inr (there, lost))
    (entry_there st sound now e source message_penalty word there.0 there.1)

pub entries_over : (st : State) (now : ℕ) (entries : List (Option Entry)) (source : Address) (words : List ℕ) → IsSound st → st.next_number + length entries < 2 ^ 63 → now < 2 ^ 32 → IsAddress source
    → ((e : Entry) → Contains entries (Some e) → IsEntry e) → (r : Rec) → HasRecord st r
    → HasRecord (take_entries st now entries source words).state r ⊎ LosesByEntries st now entries source words r
entries_over st now [] source words sound room low from fits r there = inl there
entries_over st now (entry ∷ entries) source [] sound room low from fits r there = inl there
entries_over st now (entry ∷ entries) source (word ∷ words) sound room low from fits r there =
    let one = entry-sound st now entry source word sound (omega arith) low from (λ e is. fits e (subst (λ o. Contains (entry ∷ entries) o) is (Contains-head entry entries))) in
    let grows = one.1 in
    let rest = entries_over (take_entry st now entry source word).state now entries source words one.0 (omega (arith, grows)) low from (λ e c. fits e (Contains-tail entry entries (Some e) c)) r in
    ⊎_elim (λ t. ⊎_elim inl (λ l. inr (inr l)) (rest t)) (λ l. inr (inl l)) (entry_over st now entry source word sound r there)

-- a collision is dropped: the records stay
erased_lost : (st : State) (new : State) (number : ℕ) (r : Rec) → LosesBySuccess st new r → LosesBySuccess st (erase_clash new number) r
erased_lost st new number r l = (l.0, record { bucket = l.1.bucket; last = l.1.last; has = l.1.has; other = l.1.other; at = l.1.at }, l.2)

module _ (now : ℕ) (low : now < 2 ^ 32) (r : Rec) where
  -- one decision, and that it leaves a sound state
  abbrev Over : State → State → Type 0
  Over st new = IsSound new × (HasRecord new r ⊎ ((was : HasRecord st r) × LosesBySuccess st new was.0))

  decision_over : (st : State) (number : ℕ) → IsSound st → HasRecord st r → (fate : Fate) (o : Option Rec) → Over st (after_fate fate st o number now)
  decision_over st number sound there Erased o = (erase_clash-sound st number sound, inl there)
  decision_over st number sound there Kept o = (sound, inl there)
  decision_over st number sound there Moved None = (erase_clash-sound st number sound, inl there)
  decision_over st number sound there Moved (Some newcomer) =
      let moved = (good st now newcomer.peer false).state in (
        erase_clash-sound moved number (good-sound st now newcomer.peer false sound low),
        ⊎_elim (λ t. inl (there-trans moved there.0 r there.2 there.3 t)) (λ l. inr (there, erased_lost st moved number there.0 l))
            (success_there st sound now newcomer.peer false there.0 there.1),
      )

  pub decisions_over : (st : State) (numbers : List ℕ) → IsSound st → HasRecord st r
      → HasRecord (resolve_all st now numbers).state r ⊎ LosesByDecisions st now numbers r
  decisions_over st [] sound there = inl there
  decisions_over st (number ∷ numbers) sound there =
      let newcomer = by_number st number in
      let next = after_fate (fate_of st newcomer now) st newcomer number now in
      let one = decision_over st number sound there (fate_of st newcomer now) newcomer in
      let rest = decisions_over next numbers one.0 in
      ⊎_elim (λ t. ⊎_elim inl (λ l. inr (inr l)) (rest t)) (λ l. inr (inl l)) one.1

-- a command
pub command_over : (old : Machine) (asked : Command) (answer : Reply) (new : Machine) → IsSound old.tables → old.clock < 2 ^ 32 → old.tables.next_number < 2 ^ 62
    → IsFit asked → Step old asked answer new → (r : Rec) → Contains old.tables.records r → HasRecord new.tables r ⊎ LosesBy old asked r
command_over old asked answer new sound low room fits step r has = by (kind_of old asked answer new step) fits
  where
    there : HasRecord old.tables r
    there = itself old.tables r has

    taken : (entries : List (Option Entry)) (source : Address) (words : List ℕ) → IsAddress source → (length entries ≤ 1000) × ((e : Entry) → Contains entries (Some e) → IsEntry e)
        → HasRecord (take_message old entries source words).state r ⊎ LosesByEntries old.tables old.clock entries source words r
    taken entries source words from fits =
        let few = fits.0 in
        entries_over old.tables old.clock entries source words sound (omega (arith, few, room)) low from fits.1 r there

    by : {c : Command} {m : Machine} → Kind old c m → IsFit c → HasRecord m.tables r ⊎ LosesBy old c r
    by (Keeps c m is keeps) fit = let k = keeps.there sound r has in inl (k.0, k.1, ap (λ (q : Rec). q.number) k.2, ap (λ (q : Rec). q.peer) k.2)
    by (Takes source payload words entries is enough) fit = ⊎_elim inl (λ l. inr (entries, is, l)) (taken entries source words fit.0 (fit.1 entries is))
    by (Takes2 source payload words entries is enough) fit = ⊎_elim inl (λ l. inr (entries, is, l)) (taken entries source words fit.0 (fit.1 entries is))
    by (Succeeds peer testing) fit = success_there old.tables sound old.clock peer testing r has
    by Decides fit = decisions_over old.clock low r old.tables old.tables.collisions sound there
