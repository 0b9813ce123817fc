-- The gaps before the slots of a mask.
use Rattle.std.proofs.Common.{◌≡◌, ℕ, zero, suc, ◌+◌, ◌≤◌, ◌<◌, ◌^◌, ◌-◌, ◌/◌, Bool, true, false, cond, ◌==◌, Option, Some, None, is_some, refl, sym, ap, ◌∙◌, arith, bit_and, count_by, if◌then◌else◌}
use Rattle.std.specs.List.{range_with_len}
use Rattle.std.proofs.lemmas.Bool.{eq-eqb, ne_eqb}
use Rattle.std.proofs.lemmas.Nat.Bits.{shr_and_one}
use Rattle.std.proofs.lemmas.List.Sums.{sum_by-append}
use Rattle.table_laws.proofs.Counts.{range_split}
use Rattle.net_addr.specs.NetSet.{all, has}
use Rattle.net_addr.specs.declared.net.Net.{Net}
use Rattle.net_addr.specs.declared.net.Net.TheVariants.{Unroutable, Ipv4, Ipv6, Onion, I2p, Cjdns, Internal}
use Rattle.peer_rec.specs.Rec.{network}
use Rattle.peer_rec.specs.declared.rec.Rec.{Rec}
use Rattle.slot_grid.specs.Masks.{IsMask, bit_of}
use Rattle.table_machine.specs.Picks.{is_wanted, occupant_at}
use Rattle.table_machine.specs.State.{State}
use Rattle.table_laws.specs.Chances.{leading_slots}
use Rattle.table_laws.specs.Rounds.{gap, holds, idle_below}
use Rattle.table_risk.specs.Inside.{in_mask}
use Rattle.table_risk.proofs.Slots as slots

-- a record of any network is in the set of all
pub wanted_all : (r : Rec) → is_wanted all r ≡ true
wanted_all r = by (network r)
  where
    by : (net : Net) → has all net ≡ true
    by Unroutable = refl
    by Ipv4 = refl
    by Ipv6 = refl
    by Onion = refl
    by I2p = refl
    by Cjdns = refl
    by Internal = refl

occupied : (o : Option Rec) → holds (is_wanted all) o ≡ is_some o
occupied None = refl
occupied (Some r) = wanted_all r

bit_is : (b : Bool) → (bit_of b == 1) ≡ b
bit_is true = refl
bit_is false = refl

module _ (v w : ℕ → Bool) (n : ℕ) (same : (s : ℕ) → s < n → v s ≡ w s) where
  idle_agree : (slot : ℕ) → slot ≤ n → idle_below v slot ≡ idle_below w slot
  idle_agree zero low = refl
  idle_agree (suc s) low =
      λ i. if same s (omega (arith, low)) i then 0 else 1 + idle_agree s (omega (arith, low)) i

  gap_agree : (slot : ℕ) → slot ≤ n → gap v n slot ≡ gap w n slot
  gap_agree slot low =
      λ i. 1 + idle_agree slot low i + (if idle_agree slot low i == slot then idle_agree n (omega arith) i else 0)

-- the mask of a bucket tells its gaps
pub mask_gap : (st : State) (in_new : Bool) (bucket mask slot : ℕ) → IsMask (occupant_at st in_new bucket) mask → slot < 64
    → gap (in_mask mask) 64 slot ≡ leading_slots st in_new all bucket slot
mask_gap st in_new bucket mask slot is low =
    gap_agree (in_mask mask) (λ s. holds (is_wanted all) (occupant_at st in_new bucket s)) 64
    (λ s below. ap (λ b. b == 1) (is s below) ∙ bit_is (is_some (occupant_at st in_new bucket s)) ∙ sym (occupied (occupant_at st in_new bucket s)))
    slot (omega (arith, low))

-- ---- the slots below one, going down

bit_found : (mask at : ℕ) (b : Bool) → (bit_and (mask / 2 ^ at) 1 == 1) ≡ b → in_mask mask at ≡ b
bit_found mask at b is = ap (λ n. n == 1) (sym (shr_and_one mask at)) ∙ is

pub idle_found : (mask slot at count : ℕ) → 0 < at → bit_and (mask / 2 ^ (at - 1)) 1 ≡ 1 → count + idle_below (in_mask mask) at ≡ idle_below (in_mask mask) slot
    → count ≡ idle_below (in_mask mask) slot
idle_found mask slot at count some found is =
    slots.idle_found (in_mask mask) slot at count some (bit_found mask (at - 1) true (eq-eqb (bit_and (mask / 2 ^ (at - 1)) 1) 1 found)) is

pub idle_more : (mask slot at count : ℕ) → 0 < at → (bit_and (mask / 2 ^ (at - 1)) 1 ≡ 1 → ⊥) → count + idle_below (in_mask mask) at ≡ idle_below (in_mask mask) slot
    → count + 1 + idle_below (in_mask mask) (at - 1) ≡ idle_below (in_mask mask) slot
idle_more mask slot at count some free is =
    slots.idle_more (in_mask mask) slot at count some (bit_found mask (at - 1) false (ne_eqb (bit_and (mask / 2 ^ (at - 1)) 1) 1 free)) is

-- ---- counts over a range

pub count_more : (p : ℕ → Bool) (i count next : ℕ) (b : Bool) → count ≡ count_by p (range_with_len 0 i) → p i ≡ b → next ≡ count + cond b 1 0 → next ≡ count_by p (range_with_len 0 (i + 1))
count_more p i count next b so_far is more =
    more ∙ (λ j. so_far j + cond (sym is j) 1 0)
    ∙ sym (ap (count_by p) (range_split 0 i 1) ∙ sum_by-append (λ x. cond (p x) 1 0) (range_with_len 0 i) (range_with_len (0 + i) 1) ∙ ap (λ n. count_by p (range_with_len 0 i) + n) last)
  where
    from : 0 + i ≡ i
    from = omega arith

    last : count_by p (range_with_len (0 + i) 1) ≡ cond (p i) 1 0
    last = ap (λ k. count_by p (range_with_len k 1)) from ∙ one (cond (p i) 1 0)
      where
        one : (n : ℕ) → 0 + n ≡ n
        one n = omega arith

pub plus_zero : (n : ℕ) → n ≡ n + 0
plus_zero n = omega arith
