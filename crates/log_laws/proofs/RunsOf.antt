-- Over each line and over each run of lines, records stay or are lost with a cause.
use Rattle.std.proofs.Common.{◌≡◌, ℕ, suc, ◌+◌, ◌*◌, ◌<◌, ◌≤◌, ◌^◌, List, [], ◌∷◌, ◌++◌, length, Option, refl, sym, ap, subst, inl, inr, ⊎_elim, ◌⊎◌, arith}
use Rattle.placing.specs.Places.{Places}
use Rattle.peer_rec.specs.Snapshot.{Snapshot}
use Rattle.peer_rec.specs.declared.rec.Rec.{Rec}
use Rattle.log_lines.specs.Spelling.{SpellsCommand}
use Rattle.log_lines.specs.declared.command.Command.{Command}
use Rattle.log_lines.specs.declared.reply.Reply.{Reply}
use Rattle.manager.specs.Machine.{Machine}
use Rattle.manager.specs.Step as manager
use Rattle.log_run.specs.Run.{Run}
use Rattle.session.specs.History.{History, HistoryStep, fresh}
use Rattle.session.specs.State.{SessionState}
use Rattle.table_machine.specs.Sound.{IsSound}
use Rattle.table_machine.proofs.Kept.{KeepsPeers}
use Rattle.log_laws.specs.Kept.{IsAfter, IsOpening}
use Rattle.log_laws.proofs.Fits.{spelled-fits}
use Rattle.log_laws.proofs.Runs.{line_moves}
use Rattle.log_laws.proofs.Sound.{step-sound}
use Rattle.table_laws.specs.Losses.{HasRecord}
use Rattle.log_laws.specs.LostLines.{CountsAgree, IsLost, IsMessage, KeepsLosses, KeepsRecords, LosesInLine}
use Rattle.table_laws.proofs.Balance.{balance, none_made}
use Rattle.log_laws.proofs.PeersOf.{command_keeps, same}
use Rattle.log_laws.proofs.LinesOf.{command_over}
use Rattle.table_laws.proofs.There.{itself, there-trans}

-- what each line keeps, after n of them
pub record IsKept (n : ℕ) (m : Machine) : Type 0 where
  pub sound : IsSound m.tables
  pub clock : m.clock < 2 ^ 32
  pub numbers : m.tables.next_number < 2 ^ 61 + 1000 * n

-- a line leaves the machine as it is, or moves it by a command
abbrev Moved : Machine → List ℕ → Machine → Type 0
Moved old line new = (asked : Command) × (answer : Reply) × SpellsCommand line asked × manager.Step old asked answer new

kept-more : (n : ℕ) (old : History) (line text : List ℕ) (new : History) → IsKept n old.now.machine → n < 2 ^ 30 → HistoryStep old line text new → IsKept (n + 1) new.now.machine
kept-more n old line text new kept few step = ⊎_elim same moved (line_moves old line text new step)
  where
    low : old.now.machine.tables.next_number < 2 ^ 61 + 1000 * n
    low = kept.numbers

    same : new.now.machine ≡ old.now.machine → IsKept (n + 1) new.now.machine
    same is = subst (IsKept (n + 1)) (sym is) record { sound = kept.sound; clock = kept.clock; numbers = omega (arith, low) }

    moved : Moved old.now.machine line new.now.machine → IsKept (n + 1) new.now.machine
    moved h =
        let sound = step-sound old.now.machine h.0 h.1 new.now.machine kept.sound kept.clock (omega (arith, low, few)) (spelled-fits line h.0 h.2) h.3 in
        let most = sound.0.1 in
        record { sound = sound.0.0; clock = sound.1; numbers = omega (arith, low, most) }

kept-after : (n : ℕ) (lines : List (List ℕ)) (old : History) (text : List ℕ) (new : History) → IsKept n old.now.machine → n + length lines ≤ 2 ^ 30 → Run HistoryStep old lines text new
    → IsKept (n + length lines) new.now.machine
kept-after n [] old text new kept few run =
    let same : n ≡ n + 0 = omega arith in
    subst (λ (h : History). IsKept (n + 0) h.now.machine) (sym run.1) (subst (λ k. IsKept k old.now.machine) same kept)
kept-after n (line ∷ lines) old text new kept few run =
    let more : n + 1 + length lines ≡ n + suc (length lines) = omega arith in
    subst (λ k. IsKept k new.now.machine) more
    (kept-after (n + 1) lines run.2 run.1 new (kept-more n old line run.0 run.2 kept (omega (arith, few)) run.4) (omega (arith, few)) run.5)

module _ (n : ℕ) (old : History) (line text : List ℕ) (new : History) (kept : IsKept n old.now.machine) (few : n < 2 ^ 30) (step : HistoryStep old line text new) where
  -- over the line each record stays, or is lost
  line_over : KeepsRecords old.now.machine line new.now.machine
  line_over r has = ⊎_elim same moved (line_moves old line text new step)
    where
      low : old.now.machine.tables.next_number < 2 ^ 61 + 1000 * n
      low = kept.numbers

      same : new.now.machine ≡ old.now.machine → HasRecord new.now.machine.tables r ⊎ LosesInLine old.now.machine line r
      same is = inl (subst (λ (m : Machine). HasRecord m.tables r) (sym is) (itself old.now.machine.tables r has))

      moved : Moved old.now.machine line new.now.machine → HasRecord new.now.machine.tables r ⊎ LosesInLine old.now.machine line r
      moved h =
          ⊎_elim inl (λ lost. inr (h.0, h.2, lost))
          (command_over old.now.machine h.0 h.1 new.now.machine kept.sound kept.clock (omega (arith, low, few)) (spelled-fits line h.0 h.2) h.3 r has)

-- over a run each record stays, or is lost in one of its lines
run_over : (n : ℕ) (lines : List (List ℕ)) (old : History) (text : List ℕ) (new : History) → IsKept n old.now.machine → n + length lines ≤ 2 ^ 30 → Run HistoryStep old lines text new
    → (r : Rec) → HasRecord old.now.machine.tables r → HasRecord new.now.machine.tables r ⊎ IsLost old lines r
run_over n [] old text new kept few run r there = inl (subst (λ (h : History). HasRecord h.now.machine.tables r) (sym run.1) there)
run_over n (line ∷ lines) old text new kept few run r there =
    let rest = run_over (n + 1) lines run.2 run.1 new (kept-more n old line run.0 run.2 kept (omega (arith, few)) run.4) (omega (arith, few)) run.5 r in
    ⊎_elim (λ t. ⊎_elim inl (λ l. inr (later l)) (rest (there-trans run.2.now.machine.tables there.0 r there.2 there.3 t))) (λ lost. inr (first lost))
    (line_over n old line run.0 run.2 kept (omega (arith, few)) run.4 there.0 there.1)
  where
    first : LosesInLine old.now.machine line there.0 → IsLost old (line ∷ lines) r
    first lost = record { before = []; line = line; after = lines; cut = refl; text = []; at = old; run = (refl, refl); there = there; lost = lost }

    later : IsLost run.2 lines r → IsLost old (line ∷ lines) r
    later l = record {
      before = line ∷ l.before;
      line = l.line;
      after = l.after;
      cut = ap (λ ls. line ∷ ls) l.cut;
      text = run.0 ++ l.text;
      at = l.at;
      run = (run.0, l.text, run.2, refl, run.4, l.run);
      there = l.there;
      lost = l.lost;
    }

-- peers are kept, and numbers are given only by messages
abbrev Keeps : Machine → List ℕ → Machine → Type 0
Keeps old line new =
    KeepsPeers old.tables new.tables
    × ((new.tables.next_number ≤ old.tables.next_number) ⊎ ((asked : Command) × SpellsCommand line asked × IsMessage asked))

line_keeps : (old : History) (line text : List ℕ) (new : History) → HistoryStep old line text new → Keeps old.now.machine line new.now.machine
line_keeps old line text new step =
    ⊎_elim (λ is. subst (Keeps old.now.machine line) (sym is) (same old.now.machine.tables, inl (omega arith)))
    (λ h. let k = command_keeps old.now.machine h.0 h.1 new.now.machine h.3 in (k.0, ⊎_elim inl (λ m. inr (h.0, h.2, m)) k.1))
    (line_moves old line text new step)

module _ (file : Option Snapshot) (places : Places) (st : SessionState) (opening : IsOpening file places st) (lines : List (List ℕ)) where
  kept-at : (before : List (List ℕ)) (h : History) → IsAfter st lines before h → IsKept (length before) h.now.machine
  kept-at before h at =
      let few = at.few in
      let low = opening.numbers in
      subst (λ n. IsKept n h.now.machine) (zero_plus (length before))
      (kept-after 0 before (fresh st) at.text h record { sound = opening.sound; clock = opening.clock; numbers = omega (arith, low) } (omega (arith, few)) at.run)
    where
      zero_plus : (n : ℕ) → 0 + n ≡ n
      zero_plus n = omega arith

  counts_over : (before : List (List ℕ)) (old : History) → IsAfter st lines before old → (line text : List ℕ) (new : History) → length before < 2 ^ 30 → HistoryStep old line text new
      → CountsAgree old.now.machine line new.now.machine
  counts_over before old at line text new few step = record {
    balance = balance old.now.machine.tables new.now.machine.tables kept.sound later.sound moves.0;
    made = ⊎_elim (λ low. inl (none_made old.now.machine.tables new.now.machine.tables later.sound low)) inr moves.1;
  }
    where
      kept : IsKept (length before) old.now.machine
      kept = kept-at before old at

      later : IsKept (length before + 1) new.now.machine
      later = kept-more (length before) old line text new kept few step

      moves : Keeps old.now.machine line new.now.machine
      moves = line_keeps old line text new step

  -- a run from sound tables keeps records
  pub keeps_losses : KeepsLosses st lines
  keeps_losses = record {
    next = λ before h at line text new few step. line_over (length before) h line text new (kept-at before h at) few step;
    counts = counts_over;
    later = λ before h at more text new few run r has. run_over (length before) more h text new (kept-at before h at) few run r (itself h.now.machine.tables r has);
  }
