-- What holds of each bucket by the record's number, peer and source holds after each command.
use Rattle.std.proofs.Common.{◌≡◌, ℕ, ◌+◌, ◌-◌, ◌||◌, nat_lt, nat_le, Bool, true, false, List, [], ◌∷◌, Contains, Option, Some, None, refl, sym, subst, ◌∙◌, if◌then◌else◌}
use Rattle.std.proofs.lemmas.List.Elements.{Contains-append_left, Contains-append_right}
use Rattle.net_addr.specs.Address.{Address}
use Rattle.net_addr.specs.declared.peer.Entry.{Entry}
use Rattle.net_addr.specs.declared.peer.Peer.{Peer}
use Rattle.placing.specs.Places.{Places, new_bucket}
use Rattle.log_lines.specs.declared.command.Command.{Command}
use Rattle.log_lines.specs.declared.reply.Reply.{Reply}
use Rattle.table_machine.specs.State.{State}
use Rattle.table_machine.specs.Tried.{good}
use Rattle.table_machine.proofs.Lists.{Contains-head}
use Rattle.table_machine.proofs.Rest.{add-rest}
use Rattle.table_machine.proofs.Unchanged.{good-rest}
use Rattle.manager.specs.Machine.{Machine}
use Rattle.taking.specs.Messages.{clamp_time, message_penalty, take_entries, take_entry}
use Rattle.manager.specs.Step.{Step}
use Rattle.log_laws.specs.Accepted.{Accepts, peer_if, peers_taken}
use Rattle.table_machine.proofs.Folds.{resolve-keeps}
use Rattle.log_laws.proofs.Caused.{EachBucket, EachRecord, added, reached}
use Rattle.log_laws.proofs.StepKinds.{Kind, kind_of}
use Rattle.log_laws.proofs.StepKinds.Kind.{Decides, Keeps, Succeeds, Takes, Takes2}

clamped : (entry : Entry) (now : ℕ) → (clamp_time entry now).peer ≡ entry.peer
clamped entry now =
    elim (nat_le entry.time 100000000 || nat_lt (now + 600) entry.time) as (λ b. (if b then record entry { time = now - 432000 } else entry).peer ≡ entry.peer)
    [ true ↦ refl | false ↦ refl ]

-- The key and map stay, and what holds of each bucket does.
abbrev pub Holds : (ℕ → Peer → Address → ℕ → Type 0) → Places → State → Type 0
Holds C places st = (st.places ≡ places) × EachRecord C st.records

module _ (C : ℕ → Peer → Address → ℕ → Type 0) (places : Places) where
  -- each bucket that a source gave the peer of one of these entries
  abbrev Gave : Address → Peer → Type 0
  Gave source peer = (number : ℕ) (own : Address) → C number peer own (new_bucket places peer source)

  entry-holds : (st : State) (now : ℕ) (entry : Option Entry) (source : Address) (word : ℕ) → Holds C places st
      → ((peer : Peer) → Contains (peer_if (take_entry st now entry source word).answer entry) peer → Gave source peer)
      → Holds C places (take_entry st now entry source word).state
  entry-holds st now None source word holds gave = holds
  entry-holds st now (Some entry) source word holds gave =
      let e = clamp_time entry now in (
        (add-rest st now e source message_penalty word).places ∙ holds.0,
        added C st now e source message_penalty word holds.1
            (λ yes number own.
            let has = subst (λ a. Contains (peer_if a (Some entry)) entry.peer) (sym yes) (Contains-head entry.peer []) in
            subst (λ (p : Places). C number e.peer own (new_bucket p e.peer source)) (sym holds.0)
            (subst (λ (p : Peer). C number p own (new_bucket places p source)) (sym (clamped entry now)) (gave entry.peer has number own))),
      )

  entries-hold : (st : State) (now : ℕ) (entries : List (Option Entry)) (source : Address) (words : List ℕ) → Holds C places st
      → ((peer : Peer) → Contains (peers_taken st now entries source words) peer → Gave source peer)
      → Holds C places (take_entries st now entries source words).state
  entries-hold st now [] source words holds gave = holds
  entries-hold st now (entry ∷ entries) source [] holds gave = holds
  entries-hold st now (entry ∷ entries) source (word ∷ words) holds gave =
      let outcome = take_entry st now entry source word in
      let first = peer_if outcome.answer entry in
      let rest = peers_taken outcome.state now entries source words in
      entries-hold outcome.state now entries source words
      (entry-holds st now entry source word holds (λ peer c. gave peer (Contains-append_left first rest peer c)))
      (λ peer c. gave peer (Contains-append_right first rest peer c))

  module _ (own : (number : ℕ) (peer : Peer) (source : Address) → C number peer source (new_bucket places peer source)) where
    good-holds : (st : State) (now : ℕ) (peer : Peer) (testing : Bool) → Holds C places st → Holds C places (good st now peer testing).state
    good-holds st now peer testing holds =
        ((good-rest st now peer testing).places ∙ holds.0, reached C places own st now peer testing holds.0 holds.1)

    pub step-holds : (old : Machine) (command : Command) (answer : Reply) (new : Machine)
        → ((peer : Peer) (source : Address) → Accepts old command peer source → Gave source peer)
        → Holds C places old.tables → Step old command answer new → Holds C places new.tables
    step-holds old cmd answer new gave holds step = by (kind_of old cmd answer new step) gave
      where
        by : {c : Command} {m : Machine} → Kind old c m → ((peer : Peer) (source : Address) → Accepts old c peer source → Gave source peer) → Holds C places m.tables
        by (Keeps c m is keeps) gave = (keeps.places ∙ holds.0, λ r has. let h = keeps.only r has in subst (EachBucket C) h.2 (holds.1 h.0 h.1))
        by (Takes source payload words entries is enough) gave =
            entries-hold old.tables old.clock entries source words holds (λ peer c. gave peer source (refl, (entries, is, enough, c)))
        by (Takes2 source payload words entries is enough) gave =
            entries-hold old.tables old.clock entries source words holds (λ peer c. gave peer source (refl, (entries, is, enough, c)))
        by (Succeeds peer testing) gave = good-holds old.tables old.clock peer testing holds
        by Decides gave = resolve-keeps old.clock (Holds C places) (λ s number h. h) (λ s peer. good-holds s old.clock peer false) old.tables holds
