-- A record leaves tried only by `good PEER force` or `resolve`, for a record of the same slot.
use Rattle.std.proofs.Common.{◌≡◌, ◌≢◌, ℕ, ◌+◌, ◌<◌, ◌≤◌, ◌^◌, nat_lt, Bool, true, false, List, [], ◌∷◌, Contains, Option, Some, None, refl, sym, ap, subst, ◌∙◌, inl, inr, ⊎_elim, ◌⊎◌, arith, true≢false, if◌then◌else◌}
use Rattle.std.specs.Bool.{⊤}
use Rattle.std.proofs.lemmas.Bool.{ltb-false}
use Rattle.std.proofs.lemmas.List.Elements.{All-contains}
use Rattle.net_addr.specs.Address.{Address}
use Rattle.net_addr.specs.declared.peer.Entry.{Entry}
use Rattle.net_addr.specs.declared.peer.Peer.{Peer}
use Rattle.placing.specs.Places.{Places, tried_bucket, tried_slot}
use Rattle.peer_rec.specs.Rec.{is_tried, tried_by}
use Rattle.peer_rec.specs.declared.rec.Rec.{Rec}
use Rattle.peer_rec.specs.declared.place.Place.{Place}
use Rattle.peer_rec.specs.declared.place.Place.TheVariants.{New, Tried}
use Rattle.log_lines.specs.declared.command.Command.{Command}
use Rattle.log_lines.specs.declared.command.Command.TheVariants as command
use Rattle.log_lines.specs.declared.reply.Reply.{Reply}
use Rattle.table_machine.specs.State.{State, by_number, tried_occupant}
use Rattle.table_machine.specs.Sound.{IsSound}
use Rattle.table_machine.specs.Tried.{after_success, good}
use Rattle.peer_rec.specs.declared.answers.Fate.{Fate}
use Rattle.table_machine.specs.Clashes.{after_fate, erase_clash, fate_against, fate_by, fate_of, resolve, resolve_all}
use Rattle.peer_rec.specs.declared.answers.Fate.TheVariants.{Erased, Kept, Moved}
use Rattle.table_machine.proofs.Buckets.{placed}
use Rattle.table_machine.proofs.Exchanged.{erase_clash-sound}
use Rattle.table_machine.proofs.Lists.{find_only}
use Rattle.table_machine.proofs.Reached.{good-sound}
use Rattle.table_machine.proofs.Records.{own_slot, peer_found, same_record, tried_at_parts}
use Rattle.table_machine.proofs.Rest.{add-rest}
use Rattle.table_machine.proofs.SoundBut.{is_at_own}
use Rattle.table_machine.proofs.Tried.{SharesTried}
use Rattle.table_machine.proofs.Unchanged.{good-rest}
use Rattle.manager.specs.Machine.{Machine}
use Rattle.taking.specs.Messages.{clamp_time, message_penalty, take_entries, take_entry}
use Rattle.manager.specs.Step.{take_message}
use Rattle.manager.specs.Step.{Step}
use Rattle.log_laws.specs.Tried.{MayDisplace, StaysTried, TakesSlot}
use Rattle.log_laws.proofs.Displaced.{Displacing, reached-stays}
use Rattle.log_laws.proofs.StepKinds.{Kind, kind_of}
use Rattle.log_laws.proofs.StepKinds.Kind.{Decides, Keeps, Succeeds, Takes, Takes2}
use Rattle.log_laws.proofs.Stays.{Fits, IsDisplaced, Stays, added-stays}

tried-place : (place : Place) → tried_by place ≡ true → place ≡ Tried
tried-place (New buckets) is = absurd (true≢false (sym is))
tried-place Tried is = refl

-- a tried record of a sound state stays at first
start : (Success : ℕ → Type 0) (st : State) (p : Rec) → IsSound st → Contains st.records p → is_tried p ≡ true → Success p.last_success → Stays Tried p.number p.peer Success st.records
start Success st p sound has tried success = record {
  there = (p, has, refl);
  each = λ q c same. subst (Fits Tried p.peer Success) (sym (same_record st.records q p sound.rising c has same)) (refl, tried-place p.place tried, success);
}

-- the occupant of a tried slot of a sound state is found
occupant-is : (st : State) (peer : Peer) (old : Rec) → IsSound st → Contains st.records old → is_at_own st.places peer old ≡ true → tried_occupant st peer ≡ Some old
occupant-is st peer old sound has at =
    find_only (is_at_own st.places peer) st.records old has at
    (λ q c at_q. same_record st.records q old sound.rising c has (sound.tried_slots (tried_bucket st.places peer) (own_slot st.places peer) q old c has at_q at))

abbrev is_moved : Fate → Bool
is_moved Erased = false
is_moved Kept = false
is_moved Moved = true

moved-late : (newcomer old : Rec) (now : ℕ) → fate_against newcomer old now ≡ Moved → old.last_success + 14400 ≤ now
moved-late newcomer old now is = by (nat_lt now (old.last_success + 14400)) refl is
  where
    by : (b : Bool) → nat_lt now (old.last_success + 14400) ≡ b
        → (if b then Erased else if nat_lt now (old.last_try + 14400) then (if nat_lt (old.last_try + 60) now then Moved else Kept) else if nat_lt (newcomer.last_success + 2400) now then Moved else Kept) ≡ Moved
        → old.last_success + 14400 ≤ now
    by true recent same = absurd (true≢false (sym (ap is_moved same)))
    by false late same = let h = ltb-false now (old.last_success + 14400) late in omega (arith, h)

-- the record that is displaced shares its slot with the other
shares : (n : ℕ) (st : State) (r old : Rec) (new : State) → IsDisplaced n st r old new → SharesTried st.places old.peer r.peer
shares n st r old new is =
    let parts = tried_at_parts st.places (tried_bucket st.places r.peer) (own_slot st.places r.peer) old is.at in
    (parts.0, ap (tried_slot st.places old.peer) parts.0 ∙ parts.1)

module _ (p : Rec) (now : ℕ) (low : now < 2 ^ 32) (places : Places) where
  abbrev IsStill : State → Type 0
  IsStill st = Stays Tried p.number p.peer (λ s. (s ≡ p.last_success) ⊎ (s ≡ now)) st.records

  -- another record, which was reached now, has the slot
  pub record IsTaken (st : State) (q : Rec) : Type 0 where
    pub stays : Stays Tried q.number q.peer (λ s. s ≡ now) st.records
    pub shares : SharesTried places p.peer q.peer
    pub other : q.number ≢ p.number
    pub late : p.last_success + 14400 ≤ now

  pub record Meanwhile (st : State) : Type 0 where
    pub sound : IsSound st
    pub at : st.places ≡ places
    pub over : IsStill st ⊎ ((q : Rec) × IsTaken st q)

  moved-over : (st : State) (newcomer : Rec) → Meanwhile st → fate_by newcomer (tried_occupant st newcomer.peer) now ≡ Moved
      → Meanwhile (good st now newcomer.peer false).state
  moved-over st newcomer m fate = record {
    sound = sound;
    at = (good-rest st now newcomer.peer false).places ∙ m.at;
    over = ⊎_elim still taken m.over;
  }
    where
      new : State
      new = (good st now newcomer.peer false).state

      sound : IsSound new
      sound = good-sound st now newcomer.peer false m.sound low

      late : (n : ℕ) (d : Displacing n st now newcomer.peer false new) → d.1.last_success + 14400 ≤ now
      late n d =
          let same = (peer_found st.records newcomer.peer d.0 d.2).1 in
          let at = subst (λ (x : Peer). is_at_own st.places x d.1 ≡ true) (sym same) d.4.at in
          moved-late newcomer d.1 now (subst (λ o. fate_by newcomer o now ≡ Moved) (occupant-is st newcomer.peer d.1 m.sound d.4.was at) fate)

      still : IsStill st → IsStill new ⊎ ((q : Rec) × IsTaken new q)
      still s = ⊎_elim inl (λ d. inr (placed (after_success d.0 now) Tried, leaves d)) (reached-stays p.number p.peer (λ t. (t ≡ p.last_success) ⊎ (t ≡ now)) st now newcomer.peer false (inr refl) s)
        where
          leaves : (d : Displacing p.number st now newcomer.peer false new) → IsTaken new (placed (after_success d.0 now) Tried)
          leaves d =
              let q = placed (after_success d.0 now) Tried in
              let fits = s.each d.1 d.4.was d.4.number in
              let l = late p.number d in
              record {
                stays = record {
                  there = (q, d.4.there, refl);
                  each = λ x c same. subst (Fits Tried q.peer (λ t. t ≡ now)) (sym (same_record new.records x q sound.rising c d.4.there same)) (refl, refl, refl);
                };
                shares = subst (λ (w : Places). SharesTried w p.peer q.peer) m.at (subst (λ (x : Peer). SharesTried st.places x q.peer) fits.0 (shares p.number st (after_success d.0 now) d.1 new d.4));
                other = d.4.other;
                late = ⊎_elim (λ e. omega (arith, e, l)) (λ e. absurd (omega (arith, e, l))) fits.2;
              }

      taken : (q : Rec) × IsTaken st q → IsStill new ⊎ ((q : Rec) × IsTaken new q)
      taken t =
          ⊎_elim (λ s. inr (t.0, record { stays = s; shares = t.1.shares; other = t.1.other; late = t.1.late }))
          (λ d. let l = late t.0.number d in let e = (t.1.stays.each d.1 d.4.was d.4.number).2 in absurd (omega (arith, l, e)))
          (reached-stays t.0.number t.0.peer (λ s. s ≡ now) st now newcomer.peer false refl t.1.stays)

  erased-over : (st : State) (number : ℕ) → Meanwhile st → Meanwhile (erase_clash st number)
  erased-over st number m = record {
    sound = erase_clash-sound st number m.sound;
    at = m.at;
    over = ⊎_elim inl (λ t. inr (t.0, record { stays = t.1.stays; shares = t.1.shares; other = t.1.other; late = t.1.late })) m.over;
  }

  decided-over : (st : State) (number : ℕ) → Meanwhile st → Meanwhile (after_fate (fate_of st (by_number st number) now) st (by_number st number) number now)
  decided-over st number m = by (by_number st number)
    where
      fate : (newcomer : Rec) (f : Fate) → fate_by newcomer (tried_occupant st newcomer.peer) now ≡ f → Meanwhile (after_fate f st (Some newcomer) number now)
      fate newcomer Erased is = erased-over st number m
      fate newcomer Kept is = m
      fate newcomer Moved is = erased-over (good st now newcomer.peer false).state number (moved-over st newcomer m is)

      by : (o : Option Rec) → Meanwhile (after_fate (fate_of st o now) st o number now)
      by None = erased-over st number m
      by (Some newcomer) = fate newcomer (fate_by newcomer (tried_occupant st newcomer.peer) now) refl

  pub resolved-over : (st : State) (numbers : List ℕ) → Meanwhile st → Meanwhile (resolve_all st now numbers).state
  resolved-over st [] m = m
  resolved-over st (number ∷ numbers) m =
      resolved-over (after_fate (fate_of st (by_number st number) now) st (by_number st number) number now) numbers (decided-over st number m)

-- entries take no record out of tried
module _ (n : ℕ) (peer : Peer) where
  abbrev Still : State → Type 0
  Still st = Stays Tried n peer (λ t. ⊤) st.records

  entry-still : (st : State) (now : ℕ) (entry : Option Entry) (source : Address) (word : ℕ) → n < st.next_number → Still st
      → (n < (take_entry st now entry source word).state.next_number) × Still (take_entry st now entry source word).state
  entry-still st now None source word old s = (old, s)
  entry-still st now (Some entry) source word old s =
      let e = clamp_time entry now in
      let grows = (add-rest st now e source message_penalty word).least in
      (omega (arith, grows), added-stays n peer (λ t. ⊤) st now e source message_penalty word (λ same. omega (arith, same)) s)

  entries-still : (st : State) (now : ℕ) (entries : List (Option Entry)) (source : Address) (words : List ℕ) → n < st.next_number → Still st
      → Still (take_entries st now entries source words).state
  entries-still st now [] source words old s = s
  entries-still st now (entry ∷ entries) source [] old s = s
  entries-still st now (entry ∷ entries) source (word ∷ words) old s =
      let one = entry-still st now entry source word old s in
      entries-still (take_entry st now entry source word).state now entries source words one.0 one.1

-- what stays in the sense of the proof does in that of the promise
stays-tried : (p : Rec) (Success : ℕ → Type 0) (st : State) → Stays Tried p.number p.peer Success st.records → StaysTried st p
stays-tried p Success st s =
    let fits = s.each s.there.0 s.there.1 s.there.2 in
    (s.there.0, s.there.1, s.there.2, fits.0, ap tried_by fits.1)

takes-slot : (p q : Rec) (st : State) → Contains st.records q → is_tried q ≡ true → SharesTried st.places p.peer q.peer → q.number ≢ p.number → TakesSlot st p q
takes-slot p q st has tried shared other = record { has = has; tried = tried; bucket = sym shared.0; slot = sym shared.1; other = other }

-- over a command each tried record stays, or another one takes its slot
abbrev pub KeepsOver : Machine → Command → Machine → Type 0
KeepsOver old command new =
    (r : Rec) → Contains old.tables.records r → is_tried r ≡ true
    → StaysTried new.tables r ⊎ ((q : Rec) × TakesSlot new.tables r q × MayDisplace old command r q)

pub step-keeps_tried : (old : Machine) (command : Command) (answer : Reply) (new : Machine) → IsSound old.tables → old.clock < 2 ^ 32
    → Step old command answer new → KeepsOver old command new
step-keeps_tried old cmd answer new sound low step p has tried = by (kind_of old cmd answer new step)
  where
    s : Stays Tried p.number p.peer (λ t. ⊤) old.tables.records
    s = start (λ t. ⊤) old.tables p sound has tried tt

    below : p.number < old.tables.next_number
    below = All-contains (λ r. r.number < old.tables.next_number) old.tables.records p sound.below_next has

    Result : Command → State → Type 0
    Result c st = StaysTried st p ⊎ ((q : Rec) × TakesSlot st p q × MayDisplace old c p q)

    taken : (c : Command) (entries : List (Option Entry)) (source : Address) (words : List ℕ) → Result c (take_message old entries source words).state
    taken c entries source words =
        inl (stays-tried p (λ t. ⊤) (take_message old entries source words).state (entries-still p.number p.peer old.tables old.clock entries source words below s))

    forced : (peer : Peer) (testing : Bool) → Result (command.Good peer testing) (good old.tables old.clock peer testing).state
    forced peer testing =
        ⊎_elim (λ h. inl (stays-tried p (λ t. ⊤) (good old.tables old.clock peer testing).state h)) (λ d. inr (placed (after_success d.0 old.clock) Tried, (displaced d).0, (displaced d).1))
        (reached-stays p.number p.peer (λ t. ⊤) old.tables old.clock peer testing tt s)
      where
        displaced : (d : Displacing p.number old.tables old.clock peer testing (good old.tables old.clock peer testing).state)
            → TakesSlot (good old.tables old.clock peer testing).state p (placed (after_success d.0 old.clock) Tried) × MayDisplace old (command.Good peer testing) p (placed (after_success d.0 old.clock) Tried)
        displaced d =
            let fits = s.each d.1 d.4.was d.4.number in
            let at = (good-rest old.tables old.clock peer testing).places in (
              takes-slot p (placed (after_success d.0 old.clock) Tried) (good old.tables old.clock peer testing).state d.4.there refl
                  (subst (λ (w : Places). SharesTried w p.peer d.0.peer) (sym at) (subst (λ (x : Peer). SharesTried old.tables.places x d.0.peer) fits.0 (shares p.number old.tables (after_success d.0 old.clock) d.1 (good old.tables old.clock peer testing).state d.4))) d.4.other,
              ((peer_found old.tables.records peer d.0 d.2).1, d.3),
            )

    resolved : Result command.Resolve (resolve old.tables old.clock).state
    resolved =
        ⊎_elim (λ h. inl (stays-tried p (λ t. (t ≡ p.last_success) ⊎ (t ≡ old.clock)) (resolve old.tables old.clock).state h))
        (λ t. let fits = t.1.stays.each t.1.stays.there.0 t.1.stays.there.1 t.1.stays.there.2 in
        inr (
          t.1.stays.there.0,
          takes-slot p t.1.stays.there.0 (resolve old.tables old.clock).state t.1.stays.there.1 (ap tried_by fits.1)
              (subst (λ (w : Places). SharesTried w p.peer t.1.stays.there.0.peer) (sym m.at) (subst (λ (x : Peer). SharesTried old.tables.places p.peer x) (sym fits.0) t.1.shares))
              (λ is. t.1.other (sym t.1.stays.there.2 ∙ is)),
          t.1.late,
        )) m.over
      where
        m : Meanwhile p old.clock low old.tables.places (resolve old.tables old.clock).state
        m = resolved-over p old.clock low old.tables.places old.tables old.tables.collisions record {
          sound = sound;
          at = refl;
          over = inl (start (λ t. (t ≡ p.last_success) ⊎ (t ≡ old.clock)) old.tables p sound has tried (inl refl));
        }

    by : {c : Command} {m : Machine} → Kind old c m → Result c m.tables
    by (Keeps c m is keeps) =
        let k = keeps.there sound p has in
        inl (k.0, k.1, ap (λ (q : Rec). q.number) k.2, ap (λ (q : Rec). q.peer) k.2, ap is_tried k.2 ∙ tried)
    by (Takes source payload words entries is enough) = taken (command.Addr source payload words) entries source words
    by (Takes2 source payload words entries is enough) = taken (command.Addr2 source payload words) entries source words
    by (Succeeds peer testing) = forced peer testing
    by Decides = resolved
