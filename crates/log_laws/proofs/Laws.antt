-- What holds after each line of a run.
use Rattle.std.proofs.Common.{◌≡◌, ℕ, ◌+◌, ◌*◌, ◌<◌, ◌≤◌, ◌^◌, List, [], ◌∷◌, ◌++◌, length, Contains, Option, refl, sym, ap, subst, ◌∙◌, append_assoc, length-append, inl, inr, ⊎_elim, ◌⊎◌, arith}
use Rattle.std.proofs.lemmas.List.{append-nil}
use Rattle.net_addr.specs.Address.{Address}
use Rattle.net_addr.specs.declared.peer.Peer.{Peer}
use Rattle.placing.specs.Places.{Places}
use Rattle.peer_rec.specs.Rec.{buckets_of}
use Rattle.peer_rec.specs.Snapshot.{Snapshot}
use Rattle.peer_rec.specs.declared.rec.Rec.{Rec}
use Rattle.log_lines.specs.Spelling.{SpellsCommand}
use Rattle.log_lines.specs.declared.command.Command.{Command}
use Rattle.log_lines.specs.declared.reply.Reply.{Reply}
use Rattle.manager.specs.Machine.{Machine}
use Rattle.manager.specs.Step as manager
use Rattle.session.specs.History.{History, HistoryStep, fresh}
use Rattle.log_run.specs.Run.{Run}
use Rattle.session.specs.State.{SessionState}
use Rattle.table_machine.specs.Sound.{IsSound}
use Rattle.table_machine.specs.State as tables
use Rattle.log_laws.specs.Accepted.{Accepts, IsAccepted}
use Rattle.log_laws.specs.Buckets.{AreCaused, IsCaused, IsListed}
use Rattle.log_laws.specs.Buckets.IsCaused.{Told, Own, InFile}
use Rattle.log_laws.specs.Kept.{IsAfter, IsOpening, KeepsCauses}
use Rattle.log_laws.specs.Tried.{IsDisplaced, KeepsTried, StaysTried}
use Rattle.log_laws.proofs.Fits.{spelled-fits}
use Rattle.log_laws.proofs.KeptTried.{step-keeps_tried}
use Rattle.log_laws.proofs.Reach.{bounded}
use Rattle.log_laws.proofs.Restored.{opened-caused}
use Rattle.log_run.proofs.OneMore.{Run-more}
use Rattle.log_laws.proofs.Runs.{line_moves}
use Rattle.log_laws.proofs.Sound.{step-sound}
use Rattle.log_laws.proofs.Steps.{Holds, step-holds}

-- a cause by fewer accepted entries is one by more
more-causes : (One Two : Peer → Address → Type 0) (Listed : ℕ → Peer → ℕ → Type 0) (places : Places) (number : ℕ) (peer : Peer) (own : Address) (b : ℕ)
    → ((p : Peer) (s : Address) → One p s → Two p s) → IsCaused One Listed places number peer own b → IsCaused Two Listed places number peer own b
more-causes One Two Listed places number peer own b more (Told source told is) = Told source (more peer source told) is
more-causes One Two Listed places number peer own b more (Own is) = Own is
more-causes One Two Listed places number peer own b more (InFile listed) = InFile listed

-- over a line tried records stay, or are displaced
line-keeps_tried : (old : History) (line text : List ℕ) (new : History) → IsSound old.now.machine.tables → old.now.machine.clock < 2 ^ 32
    → HistoryStep old line text new → KeepsTried old.now.machine line new.now.machine
line-keeps_tried old line text new sound low step r has tried = ⊎_elim same moved (line_moves old line text new step)
  where
    same : new.now.machine ≡ old.now.machine → StaysTried new.now.machine.tables r ⊎ IsDisplaced old.now.machine line new.now.machine r
    same is = inl (r, subst (λ (m : Machine). Contains m.tables.records r) (sym is) has, refl, refl, tried)

    moved : ((asked : Command) × (answer : Reply) × SpellsCommand line asked × manager.Step old.now.machine asked answer new.now.machine)
        → StaysTried new.now.machine.tables r ⊎ IsDisplaced old.now.machine line new.now.machine r
    moved h = ⊎_elim inl (λ taken. inr (h.0, h.2, taken)) (step-keeps_tried old.now.machine h.0 h.1 new.now.machine sound low h.3 r has tried)

module _ (file : Option Snapshot) (places : Places) (st : SessionState) (opening : IsOpening file places st) where
  abbrev C : List (List ℕ) → ℕ → Peer → Address → ℕ → Type 0
  C lines = IsCaused (IsAccepted st lines) (IsListed file places) places

  -- what each line keeps
  record IsKept (lines : List (List ℕ)) (h : History) : Type 0 where
    pub sound : IsSound h.now.machine.tables
    pub clock : h.now.machine.clock < 2 ^ 32
    pub numbers : h.now.machine.tables.next_number ≤ st.machine.tables.next_number + 1000 * length lines
    pub caused : Holds (C lines) places h.now.machine.tables

  kept-first : IsKept [] (fresh st)
  kept-first = record {
    sound = opening.sound;
    clock = opening.clock;
    numbers = omega arith;
    caused = subst (λ (t : tables.State). Holds (C []) places t) (sym opening.tables) (opened-caused (IsAccepted st []) file places);
  }

  module _ (done : List (List ℕ)) (text : List ℕ) (mid : History) (run : Run HistoryStep (fresh st) done text mid) (kept : IsKept done mid) (few : length done < 2 ^ 30)
      (line reply : List ℕ) (next : History) (step : HistoryStep mid line reply next) where
    abbrev longer : List (List ℕ)
    longer = done ++ line ∷ []

    one_more : length longer ≡ length done + 1
    one_more = length-append done (line ∷ [])

    earlier : (p : Peer) (s : Address) → IsAccepted st done p s → IsAccepted st longer p s
    earlier p s a = record {
      before = a.before;
      line = a.line;
      after = a.after ++ line ∷ [];
      cut = ap (λ ls. ls ++ line ∷ []) a.cut ∙ append_assoc a.before (a.line ∷ a.after) (line ∷ []);
      text = a.text;
      at = a.at;
      run = a.run;
      asked = a.asked;
      spells = a.spells;
      accepts = a.accepts;
    }

    now : (asked : Command) → SpellsCommand line asked → (p : Peer) (s : Address) → Accepts mid.now.machine asked p s → IsAccepted st longer p s
    now asked spells p s accepts = record {
      before = done;
      line = line;
      after = [];
      cut = refl;
      text = text;
      at = mid;
      run = run;
      asked = asked;
      spells = spells;
      accepts = accepts;
    }

    before : Holds (C longer) places mid.now.machine.tables
    before = (kept.caused.0, λ r c b l. more-causes (IsAccepted st done) (IsAccepted st longer) (IsListed file places) places r.number r.peer r.source b earlier (kept.caused.1 r c b l))

    kept-more : IsKept longer next
    kept-more = ⊎_elim same moved (line_moves mid line reply next step)
      where
        numbers : mid.now.machine.tables.next_number ≤ st.machine.tables.next_number + 1000 * length done
        numbers = kept.numbers

        low : st.machine.tables.next_number < 2 ^ 61
        low = opening.numbers

        same : next.now.machine ≡ mid.now.machine → IsKept longer next
        same is =
            let as_before = sym is in
            record {
              sound = subst (λ (m : Machine). IsSound m.tables) as_before kept.sound;
              clock = subst (λ (m : Machine). m.clock < 2 ^ 32) as_before kept.clock;
              numbers = subst (λ (m : Machine). m.tables.next_number ≤ st.machine.tables.next_number + 1000 * length longer) as_before (omega (arith, numbers, one_more));
              caused = subst (λ (m : Machine). Holds (C longer) places m.tables) as_before before;
            }

        moved : ((asked : Command) × (answer : Reply) × SpellsCommand line asked × manager.Step mid.now.machine asked answer next.now.machine) → IsKept longer next
        moved h =
            let sound = step-sound mid.now.machine h.0 h.1 next.now.machine kept.sound kept.clock (omega (arith, numbers, low, few)) (spelled-fits line h.0 h.2) h.3 in
            let most = sound.0.1 in
            record {
              sound = sound.0.0;
              clock = sound.1;
              numbers = omega (arith, numbers, one_more, most);
              caused =
                  step-holds (C longer) places (λ number peer source. Own refl) mid.now.machine h.0 h.1 next.now.machine
                  (λ peer source accepts number own. Told source (now h.0 h.2 peer source accepts) refl) before h.3;
            }

  kept-after : (done lines : List (List ℕ)) (text more : List ℕ) (mid h : History) → Run HistoryStep (fresh st) done text mid → IsKept done mid → length done + length lines ≤ 2 ^ 30
      → Run HistoryStep mid lines more h → IsKept (done ++ lines) h
  kept-after done [] text more mid h run kept few rest =
      subst (λ ls. IsKept ls h) (sym (append-nil done)) (subst (IsKept done) (sym rest.1) kept)
  kept-after done (line ∷ lines) text more mid h run kept few rest =
      let longer = length-append done (line ∷ []) in
      subst (λ ls. IsKept ls h) (append_assoc done (line ∷ []) lines)
      (kept-after (done ++ line ∷ []) lines (text ++ rest.0) rest.1 rest.2 h
      (Run-more HistoryStep done (fresh st) mid rest.2 line text rest.0 run rest.4)
      (kept-more done text mid run kept (omega (arith, few)) line rest.0 rest.2 rest.4) (omega (arith, few, longer)) rest.5)

  kept-at : (lines before : List (List ℕ)) (h : History) → IsAfter st lines before h → IsKept before h
  kept-at lines front h at = let few = at.few in kept-after [] front [] at.text (fresh st) h (refl, refl) kept-first (omega (arith, few)) at.run

  caused-at : (before : List (List ℕ)) (h : History) → IsKept before h → AreCaused (IsAccepted st before) (IsListed file places) h.now.machine.tables
  caused-at before h kept =
      subst (λ (w : Places). (r : Rec) → Contains h.now.machine.tables.records r → (b : ℕ) → Contains (buckets_of r) b → IsCaused (IsAccepted st before) (IsListed file places) w r.number r.peer r.source b)
      (sym kept.caused.0) kept.caused.1

  -- a run from sound tables keeps causes
  pub keeps_causes : (lines : List (List ℕ)) → KeepsCauses file places st lines
  keeps_causes lines = record {
    sound = λ before h at. (kept-at lines before h at).sound;
    same_places = λ before h at. (kept-at lines before h at).caused.0;
    causes = λ before h at. caused-at before h (kept-at lines before h at);
    reach = λ before h at. bounded (IsAccepted st before) h.now.machine.tables;
    tried = λ before h at line text next step. let kept = kept-at lines before h at in line-keeps_tried h line text next kept.sound kept.clock step;
  }
