-- What a command does to the machine, by kinds.
use Rattle.std.proofs.Common.{◌≡◌, ◌≢◌, ℕ, ◌+◌, ◌<◌, ◌≤◌, ◌^◌, ◌&&◌, nat_lt, Bool, true, false, List, length, Contains, Option, Some, None, refl, sym, ap, subst, ◌∙◌, inl, inr, ⊎_elim, ◌⊎◌, if◌then◌else◌}
use Rattle.std.proofs.lemmas.Bool.{cases_eq}
use Rattle.net_addr.specs.Address.{Address}
use Rattle.net_addr.specs.declared.peer.Entry.{Entry}
use Rattle.net_addr.specs.declared.peer.Peer.{Peer}
use Rattle.addr_codecs.specs.Layout.{IsAddrMessage, IsAddrv2Message, HasAddrFault, HasAddrv2Fault}
use Rattle.addr_codecs.specs.declared.fault.MsgFault.{MsgFault}
use Rattle.peer_rec.specs.declared.rec.Rec.{Rec}
use Rattle.log_lines.specs.declared.command.Command.{Command}
use Rattle.log_lines.specs.declared.command.Command.TheVariants as command
use Rattle.log_lines.specs.declared.reply.Reply.{Reply}
use Rattle.table_machine.specs.Clashes.{resolve}
use Rattle.table_machine.specs.Entries.{with_record}
use Rattle.table_machine.specs.Sound.{IsSound}
use Rattle.table_machine.specs.State.{State, find_peer}
use Rattle.table_machine.specs.Tried.{after_try, good, mark, still_connected, with_services}
use Rattle.table_machine.proofs.EachRec.{EachRec}
use Rattle.table_machine.proofs.Folds.{clash_pick-keeps, clash_pick-sound, sample-keeps, sample-sound}
use Rattle.table_machine.proofs.Marks.{attempt-sound, connected-sound, services-sound}
use Rattle.table_machine.proofs.Records.{changed_cases, changed_other, changed_own, peer_found, same_record}
use Rattle.manager.specs.Machine.{Machine, with_tables}
use Rattle.manager.specs.Step.{take_message}
use Rattle.manager.specs.Step.{MessageStep, Step}
use Rattle.log_laws.proofs.Fits.{IsFit}

-- A record without what a try, a connection and new services change: its number, peer, source, last
-- success and place.
abbrev pub lasting : Rec → Rec
lasting r = record r { time = 0; services = 0; last_try = 0; last_count = 0; attempts = 0 }

-- one of the records is this one, but for what does not last
abbrev pub HasLike : List Rec → Rec → Type 0
HasLike records r = (q : Rec) × Contains records q × (lasting q ≡ lasting r)

-- The key, the map and the next number are the same, and so are the records, but for what does not
-- last.
abbrev pub KeepsAll : State → State → Type 0
KeepsAll old new = record {
  places : new.places ≡ old.places;
  next : new.next_number ≡ old.next_number;
  there : IsSound old → EachRec (HasLike new.records) old.records;
  only : EachRec (HasLike old.records) new.records;
}

-- it keeps all, takes the entries of a message, has a success, or decides on all collisions
pub data Kind (old : Machine) : Command → Machine → Type 0 where
  Keeps : (asked : Command) (new : Machine) → (IsFit asked → IsSound old.tables → old.clock < 2 ^ 32 → IsSound new.tables × (new.clock < 2 ^ 32))
      → KeepsAll old.tables new.tables → Kind old asked new
  Takes : (source : Address) (payload words : List ℕ) (entries : List (Option Entry)) → IsAddrMessage payload entries → length entries ≤ length words
      → Kind old (command.Addr source payload words) (with_tables old (take_message old entries source words).state)
  Takes2 : (source : Address) (payload words : List ℕ) (entries : List (Option Entry)) → IsAddrv2Message payload entries → length entries ≤ length words
      → Kind old (command.Addr2 source payload words) (with_tables old (take_message old entries source words).state)
  Succeeds : (peer : Peer) (testing : Bool) → Kind old (command.Good peer testing) (with_tables old (good old.tables old.clock peer testing).state)
  Decides : Kind old command.Resolve (with_tables old (resolve old.tables old.clock).state)

itself : (st : State) → KeepsAll st st
itself st = record { places = refl; next = refl; there = λ sound r c. (r, c, refl); only = λ r c. (r, c, refl) }

marked : (change : Rec → Rec) (st : State) (peer : Peer) → ((r : Rec) → lasting (change r) ≡ lasting r) → KeepsAll st (mark change st (find_peer st peer)).state
marked change st peer lasts = by (find_peer st peer) refl
  where
    there : (r : Rec) → Contains st.records r → IsSound st → (q : Rec) → Contains st.records q → (q.number ≡ (change r).number) ⊎ (q.number ≢ (change r).number)
        → HasLike (with_record st (change r)).records q
    there r has sound q c (inl same) =
        let one = same_record st.records r q sound.rising has c (sym (same ∙ ap (λ (x : Rec). x.number) (lasts r))) in
        (change r, changed_own (change r).number (change r) st.records q c same, lasts r ∙ ap lasting one)
    there r has sound q c (inr other) = (q, changed_other (change r).number (change r) st.records q c other, refl)

    by : (o : Option Rec) → find_peer st peer ≡ o → KeepsAll st (mark change st o).state
    by None missing = itself st
    by (Some r) found =
        let has = (peer_found st.records peer r found).0 in
        record {
          places = refl;
          next = refl;
          there = λ sound q c. there r has sound q c (cases_eq q.number (change r).number);
          only = λ q c. ⊎_elim (λ same. (r, has, sym (lasts r) ∙ ap lasting same)) (λ h. (q, h.0, refl)) (changed_cases (change r).number (change r) st.records q c);
        }

tried_lasts : (last_good now : ℕ) (count : Bool) (r : Rec) → lasting (after_try last_good now count r) ≡ lasting r
tried_lasts last_good now count r =
    elim (count && nat_lt r.last_count last_good) as (λ b. lasting (if b then after_try 1 now true (record r { last_count = 0 }) else after_try 0 now false r) ≡ lasting r) [ true ↦ refl | false ↦ refl ]

connected_lasts : (now : ℕ) (r : Rec) → lasting (still_connected now r) ≡ lasting r
connected_lasts now r = elim (nat_lt (r.time + 1200) now) as (λ b. lasting (if b then record r { time = now } else r) ≡ lasting r) [ true ↦ refl | false ↦ refl ]

pub kind_of : (old : Machine) (asked : Command) (answer : Reply) (new : Machine) → Step old asked answer new → Kind old asked new
kind_of old asked answer new = by asked
  where
    to : {c : Command} {m : Machine} → new ≡ m → Kind old c m → Kind old c new
    to is kind = subst (Kind old _) (sym is) kind

    -- to tables that keep all
    kept : {c : Command} {st : State} → new ≡ with_tables old st → (IsFit c → IsSound old.tables → old.clock < 2 ^ 32 → IsSound st) → KeepsAll old.tables st → Kind old c new
    kept is sound keeps = to is (Keeps _ _ (λ fit s low. (sound fit s low, low)) keeps)

    same : {c : Command} → new ≡ old → Kind old c new
    same is = kept is (λ fit sound low. sound) (itself old.tables)

    message : {c : Command} (IsMessage : List (Option Entry) → Type 0) (HasFault : MsgFault → Type 0) (source : Address) (words : List ℕ)
        → ((entries : List (Option Entry)) → IsMessage entries → length entries ≤ length words → Kind old c (with_tables old (take_message old entries source words).state))
        → MessageStep IsMessage HasFault old source words answer new → Kind old c new
    message IsMessage HasFault source words takes =
        ⊎_elim (λ refused. same refused.4) (λ m. ⊎_elim (λ short. same short.2) (λ all. to all.2 (takes m.0 m.1 all.0)) m.2)

    by : (c : Command) → Step old c answer new → Kind old c new
    by (command.Now time) h = to h.1 (Keeps _ (record old { clock = time }) (λ fit sound low. (sound, fit)) (itself old.tables))
    by (command.Addr source payload words) h = message (IsAddrMessage payload) (HasAddrFault payload) source words (Takes source payload words) h
    by (command.Addr2 source payload words) h = message (IsAddrv2Message payload) (HasAddrv2Fault payload) source words (Takes2 source payload words) h
    by (command.Good peer testing) h = to h.1 (Succeeds peer testing)
    by (command.Attempt peer count) h =
        kept h.1 (λ fit. attempt-sound old.tables old.clock peer count) (marked (after_try old.tables.last_good old.clock count) old.tables peer (tried_lasts old.tables.last_good old.clock count))
    by (command.Connected peer) h =
        kept h.1 (λ fit. connected-sound old.tables old.clock peer) (marked (still_connected old.clock) old.tables peer (connected_lasts old.clock))
    by (command.Services peer services) h =
        kept h.1 (λ fit sound low. services-sound old.tables peer services sound fit) (marked (with_services services) old.tables peer (λ r. refl))
    by (command.Find peer) h = same h.1
    by command.Size h = same h.1
    by (command.Select new_only net words) h = same h.1
    by (command.Sample max pct class words) h =
        ⊎_elim (λ short. same short.1.1) (λ drawn. kept drawn.1.1 (λ fit sound low. sample-sound old.tables max pct class words old.clock sound)
        (sample-keeps class old.clock (KeepsAll old.tables) (λ st i j k. k) old.tables max pct words (itself old.tables))) h
    by command.Resolve h = to h.1 Decides
    by (command.Clash word) h =
        kept h.1 (λ fit sound low. clash_pick-sound old.tables word sound) (clash_pick-keeps old.tables (KeepsAll old.tables) (itself old.tables) (λ number. itself old.tables) word)
    by command.Dump h = same h.1
    by other h = absurd h
