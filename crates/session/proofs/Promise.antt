-- The promises on peers.dat that each line of a run keeps.
use Rattle.std.proofs.Common.{◌≡◌, ℕ, ◌≤◌, List, [], inl, inr, sym, subst, arith}
use Rattle.std.specs.Prelude.{Option, Some, None, IfSome}
use Rattle.host_io.specs.Faults.{RoseBy}
use Rattle.host_io.specs.Disk.{Disk}
use Rattle.host_io.specs.Past.{Always, Past}
use Rattle.host_io.proofs.Moments.{begun as nothing_since, joined, now_has}
use Rattle.session_saves.specs.Events.{Ended}
use Rattle.session.specs.Folders.{Turn, published_in}
use Rattle.session_saves.specs.Folders.{AtMost, IsOpen}
use Rattle.session.specs.History.{AtExit, History, Now, SinceEntry, failed, fresh, onto}
use Rattle.session.specs.State.{SessionState}
use Rattle.session.proofs.Files.{EndedAt, ended_at, next_any, next_failed, next_last}

abbrev pub history : SessionState → List Ended → History
history st ended = record { now = st; ended = ended }

-- what holds between two lines
pub record IsKept (st : SessionState) (ended : List Ended) (old now : Option Past) (faults_before faults_now : ℕ) : Type 0 where
  pub exit : Now (AtExit (history st ended)) old now
  pub since : Always old now (SinceEntry (history st ended))
  pub rises : faults_before ≤ faults_now
  pub failures : RoseBy (failed ended) faults_before faults_now
  pub is_open : IsOpen st.job now

now_here : (P : Disk → Disk → Type 0) (p : Option Past) → ((d : Disk) → P d d) → Now P p p
now_here P None here = tt
now_here P (Some p) here = here p.now

-- at the start, where no save is open
pub kept_start : (st : SessionState) (past : Option Past) (f : ℕ) → st.job ≡ None → IsKept st [] past past f f
kept_start st past f none = record {
  exit = now_here (AtExit (fresh st)) past (λ d found may. inr may);
  since = nothing_since (SinceEntry (fresh st)) past (λ d. record { at = λ found may. inr may; others = λ n t m found may. may });
  rises = omega arith;
  failures = inl (omega arith);
  is_open = subst (λ j. IsOpen j past) (sym none) tt;
}

-- what holds now after more calls
later : (P Q R : Disk → Disk → Type 0) (H : Disk → Type 0) (old mid after : Option Past) → Now P old mid → Always mid after Q
    → IfSome after (λ p. H p.now) → ((start d e : Disk) → P start d → Q d e → H e → R start e) → Now R old after
later P Q R H None mid after now always has on = tt
later P Q R H (Some o) None after now always has on = subst (λ a. IfSome a (λ q. R o.now q.now)) (sym always) tt
later P Q R H (Some o) (Some m) after now always has on =
    subst (λ a. IfSome a (λ q. R o.now q.now)) (sym always.1)
    (on o.now m.now always.0.now now (now_has (Q m.now) m always.0 always.2) (subst (λ a. IfSome a (λ q. H q.now)) always.1 has))

-- a line that was carried out
pub kept_line : (s t : SessionState) (ended : List Ended) (line text : List ℕ) (old mid new : Option Past) (f g h : ℕ) → IsKept s ended old mid f g
    → (turn : Turn s line text t mid new g h) → IsOpen t.job new → g ≤ h → IsKept t (onto turn.ended ended) old new f h
kept_line s t ended line text old mid new f g h k turn opened le =
    let published = published_in s line text t turn.ended turn.step in
    record {
      exit = later (AtExit (history s ended)) (AtMost published) (AtExit (history t (onto turn.ended ended))) (EndedAt turn.ended) old mid new
          k.exit turn.moments (ended_at turn.ended new g h turn.has)
          (λ start d e exit most is found may. next_last start e s t line text turn.ended ended found turn.step is may
          (elim (most.at found may) [ inl was ↦ inl (exit found was) | inr is ↦ inr is ]));
      since = joined (SinceEntry (history s ended)) (AtMost published) (SinceEntry (history t (onto turn.ended ended))) old mid new k.since turn.moments
          (λ start d p. record {
            at = λ found may. next_any start s t line text turn.ended ended found turn.step (inl (p.at found may));
            others = p.others;
          })
          (λ start d e p most. record {
            at = λ found may. next_any start s t line text turn.ended ended found turn.step
                (elim (most.at found may) [ inl was ↦ inl (p.at found was) | inr is ↦ inr is ]);
            others = λ n t m found may. p.others n t m found (most.others n t m found may);
          });
      rises = omega (arith, k.rises, le);
      failures = next_failed turn.ended ended f g h new turn.has k.rises le k.failures;
      is_open = opened;
    }
