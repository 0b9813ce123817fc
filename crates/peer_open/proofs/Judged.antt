-- When a verdict comes.
use Rattle.std.proofs.Common.{◌≡◌, ◌↔◌, ◌-◌, ◌<◌, ◌≤◌, ◌∙◌, inl, inr, arith, ℕ, List, Bool, true, false, nat_lt, nat_le, IsTrue, Contains, if◌then◌else◌, refl, sym, subst}
use Rattle.std.specs.Bool.{Decides}
use Rattle.std.proofs.lemmas.Bool.{le-leb, leb-true}
use Rattle.std.proofs.lemmas.Bool.Decides.{Decides-and, Decides-ltb, leb_tells}
use Rattle.peer_open.specs.Groups.{Outbound, groups, has_group}
use Rattle.peer_open.specs.Verdicts.{is_recent, judge, judge_feeler}
use Rattle.peer_open.specs.declared.outbound.Verdict.{Verdict}
use Rattle.peer_open.specs.declared.outbound.Verdict.TheVariants.{Take, SameGroup, Recent}
use Rattle.peer_open.proofs.Apart.{has_group-Decides}

is_recent-Decides : (last_try now tries : ℕ) → Decides (is_recent last_try now tries) ((now - last_try < 600) × (tries ≤ 30))
is_recent-Decides last_try now tries =
    Decides-and (nat_lt (now - last_try) 600) (nat_le tries 30) (Decides-ltb (now - last_try) 600) (leb-true tries 30, le-leb tries 30)

-- a try is too soon exactly if the verdict says so
soon : (b : Bool) (P : Type 0) → Decides b P → (if b then Recent else Take) ≡ Recent ↔ P
soon true P d = (λ _. d.0 refl, λ _. refl)
soon false P d = (λ e. absurd cc, λ p. absurd (let h = d.1 p in absurd cc))

-- no verdict on a try alone is about groups
never_same : (b : Bool) → (if b then Recent else Take) ≡ SameGroup → ⊥
never_same true e = absurd cc
never_same false e = absurd cc

by_group : (b : Bool) (P Q : Type 0) (c : Bool) → Decides b P → Decides c Q →
    ((if b then SameGroup else (if c then Recent else Take)) ≡ SameGroup ↔ P)
    × ((if b then SameGroup else (if c then Recent else Take)) ≡ Recent ↔ ((¬ P) × Q))
by_group true P Q c d e = ((λ _. d.0 refl, λ _. refl), (λ is. absurd cc, λ both. absurd (both.0 (d.0 refl))))
by_group false P Q c d e = (
  (λ is. absurd (never_same c is), λ p. absurd (let h = d.1 p in absurd cc)),
  (λ is. (λ p. let h = d.1 p in absurd cc, (soon c Q e).0 is), λ both. (soon c Q e).1 both.1),
)

pub judged : (os : List Outbound) (group : List ℕ) (last_try now tries : ℕ) →
    (judge os group last_try now tries ≡ SameGroup ↔ Contains (groups os) group)
    × (judge os group last_try now tries ≡ Recent ↔ ((¬ Contains (groups os) group) × IsTrue (is_recent last_try now tries)))
judged os group last_try now tries =
    by_group (has_group group os) (Contains (groups os) group) (IsTrue (is_recent last_try now tries)) (is_recent last_try now tries)
    (has_group-Decides group os) (λ e. e, λ e. e)

-- the same of a verdict that is known to be that one
pub judged_so : (v : Verdict) (os : List Outbound) (group : List ℕ) (last_try now tries : ℕ) → v ≡ judge os group last_try now tries →
    (v ≡ SameGroup ↔ Contains (groups os) group)
    × (v ≡ Recent ↔ ((¬ Contains (groups os) group) × IsTrue (is_recent last_try now tries)))
judged_so v os group last_try now tries is =
    subst (λ u. (u ≡ SameGroup ↔ Contains (groups os) group) × (u ≡ Recent ↔ ((¬ Contains (groups os) group) × IsTrue (is_recent last_try now tries)))) (sym is)
    (judged os group last_try now tries)

-- ---- what the verdict that takes a peer says

recent_not_taken : (b : Bool) → (if b then Recent else Take) ≡ Take → b ≡ false
recent_not_taken true e = absurd cc
recent_not_taken false e = refl

late_of : (last_try now tries : ℕ) → is_recent last_try now tries ≡ false → now - last_try < 600 → 31 ≤ tries
late_of last_try now tries h soon = elim (leb_tells tries 30) [
  | inl early ↦ absurd (apart (sym ((is_recent-Decides last_try now tries).1 (soon, early.1)) ∙ h))
  | inr late ↦ omega (arith, late.1)
]
  where
    apart : true ≡ false → ⊥
    apart e = cc e

-- a feeler's peer that was tried within ten minutes has try 31 or a later one
pub feeler_late : (last_try now tries : ℕ) → judge_feeler last_try now tries ≡ Take → now - last_try < 600 → 31 ≤ tries
feeler_late last_try now tries e = late_of last_try now tries (recent_not_taken (is_recent last_try now tries) e)

by_take : (b : Bool) (v : Verdict) → (if b then SameGroup else v) ≡ Take → (b ≡ false) × (v ≡ Take)
by_take true v e = absurd cc
by_take false v e = (refl, e)

-- so has an outbound peer
pub taken_late : (os : List Outbound) (group : List ℕ) (last_try now tries : ℕ) → judge os group last_try now tries ≡ Take → now - last_try < 600 → 31 ≤ tries
taken_late os group last_try now tries e =
    feeler_late last_try now tries (by_take (has_group group os) (judge_feeler last_try now tries) e).1

-- and no open peer is in its group
pub taken_apart : (os : List Outbound) (group : List ℕ) (last_try now tries : ℕ) → judge os group last_try now tries ≡ Take → ¬ Contains (groups os) group
taken_apart os group last_try now tries e = λ has.
    apart (sym ((has_group-Decides group os).1 has) ∙ (by_take (has_group group os) (judge_feeler last_try now tries) e).0)
  where
    apart : true ≡ false → ⊥
    apart e = cc e
