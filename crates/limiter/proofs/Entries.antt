-- Entries by number, as the list of their connections.
use Rattle.std.proofs.Common.{cond, ◌≡◌, ◌≢◌, ℕ, ◌<◌, List, [], ◌∷◌, map, not, nat_eq, nat_lt, Option, Some, None, IfSome, if◌then◌else◌, ◌==◌, Bool, true, false, refl, sym, ◌∙◌, ap, subst, arith}
use Rattle.std.proofs.lemmas.Bool.Decides.{nat_tests}
use Rattle.std.proofs.lemmas.Bool.{eqb-true, eqb-false, eq-eqb}
use Rattle.std.specs.Ordering.{nat_cmp}
use Rattle.std.specs.List.{AllByRecursion}
use Rattle.std.specs.List.Sorted.{IsStrictlySortedBy}
use Rattle.std.specs.Map.{lookup, set_value}
use Rattle.indexmap.specs.IndexMap.{insert_entry}
use Rattle.limiter.specs.declared.limiter.Conn.{Conn}
use Rattle.limiter.specs.State.{find_conn, with_conn, without_conn, AreRising}
use Rattle.limiter.specs.Inside.{conns_of, AreEntries, IsConn}
use Rattle.limiter.proofs.Conns.{find-with_conn, find_other-with_conn, find-without_conn, find_other-without_conn}

-- ---- what is found

pub lookup-is : (number : ℕ) (es : List (ℕ × Conn)) → AreEntries es → lookup (nat_eq number) es ≡ find_conn number (conns_of es)
lookup-is number [] h = refl
lookup-is number (e ∷ es) h = by (nat_eq number e.0) refl (lookup-is number es h.1)
  where
    by : (b : Bool) → nat_eq number e.0 ≡ b → lookup (nat_eq number) es ≡ find_conn number (conns_of es) → cond b (Some e.1) (lookup (nat_eq number) es) ≡ find_conn number (with_conn e.1 (conns_of es))
    by true at rest =
        let same : e.1.number ≡ number = h.0.0 ∙ sym (eqb-true number e.0 at) in
        sym (subst (λ n. find_conn n (with_conn e.1 (conns_of es)) ≡ Some e.1) same (find-with_conn e.1 (conns_of es)))
    by false at rest =
        rest ∙ sym (find_other-with_conn number e.1 (conns_of es) (λ same. eqb-false number e.0 at (same ∙ h.0.0)))

-- what is found is a connection, at its number
pub found-both : (number : ℕ) (es : List (ℕ × Conn)) → AreEntries es → IfSome (lookup (nat_eq number) es) (λ c. (c.number ≡ number) × IsConn c)
found-both number [] h = tt
found-both number (e ∷ es) h = by (nat_eq number e.0) refl (found-both number es h.1)
  where
    by : (b : Bool) → nat_eq number e.0 ≡ b → IfSome (lookup (nat_eq number) es) (λ c. (c.number ≡ number) × IsConn c) → IfSome (cond b (Some e.1) (lookup (nat_eq number) es)) (λ c. (c.number ≡ number) × IsConn c)
    by true at rest = (h.0.0 ∙ sym (eqb-true number e.0 at), h.0.1)
    by false at rest = rest

-- ---- numbers that rise

-- all numbers are above this one
abbrev AreAbove : ℕ → List Conn → Type 0
AreAbove number conns = AllByRecursion (λ k. nat_cmp number k ≡ nat_cmp 0 1) (map (λ c. c.number) conns)

above-with : (number : ℕ) (c : Conn) (conns : List Conn) → number < c.number → AreAbove number conns → AreAbove number (with_conn c conns)
above-with number c [] low h = (grind (arith, nat_tests, low), tt)
above-with number c (d ∷ conns) low h = by (nat_lt c.number d.number) (d.number == c.number) (above-with number c conns low h.1)
  where
    by : (below at : Bool) → AreAbove number (with_conn c conns) → AreAbove number (if below then c ∷ d ∷ conns else if at then c ∷ conns else d ∷ with_conn c conns)
    by true at rest = (grind (arith, nat_tests, low), h)
    by false true rest = (grind (arith, nat_tests, low), h.1)
    by false false rest = (h.0, rest)

above-without : (number other : ℕ) (conns : List Conn) → AreAbove number conns → AreAbove number (without_conn other conns)
above-without number other [] h = h
above-without number other (d ∷ conns) h = by (not (d.number == other)) (above-without number other conns h.1)
  where
    by : (b : Bool) → AreAbove number (without_conn other conns) → AreAbove number (if b then d ∷ without_conn other conns else without_conn other conns)
    by true rest = (h.0, rest)
    by false rest = rest

-- what is above a number is above each lower one
above-lower : (low high : ℕ) (conns : List Conn) → low < high → AreAbove high conns → AreAbove low conns
above-lower low high [] lower h = h
above-lower low high (d ∷ conns) lower h = (grind (arith, nat_tests, lower, h.0), above-lower low high conns lower h.1)

rising-with : (c : Conn) (conns : List Conn) → AreRising conns → AreRising (with_conn c conns)
unfolding IsStrictlySortedBy
rising-with c [] rising = (tt, tt)
rising-with c (d ∷ conns) rising = by (nat_lt c.number d.number) (d.number == c.number) refl refl (rising-with c conns rising.1)
  where
    by : (below at : Bool) → nat_lt c.number d.number ≡ below → (d.number == c.number) ≡ at → AreRising (with_conn c conns)
        → AreRising (if below then c ∷ d ∷ conns else if at then c ∷ conns else d ∷ with_conn c conns)
    by true at is same rest =
        let low : c.number < d.number = grind (arith, nat_tests, is) in
        ((grind (arith, nat_tests, low), above-lower c.number d.number conns low rising.0), rising)
    by false true is same rest = (subst (λ n. AreAbove n conns) (eqb-true d.number c.number same) rising.0, rising.1)
    by false false is same rest = (above-with d.number c conns (grind (arith, nat_tests, is, same)) rising.0, rest)

rising-without : (number : ℕ) (conns : List Conn) → AreRising conns → AreRising (without_conn number conns)
unfolding IsStrictlySortedBy
rising-without number [] rising = rising
rising-without number (d ∷ conns) rising = by (not (d.number == number)) (rising-without number conns rising.1)
  where
    by : (b : Bool) → AreRising (without_conn number conns) → AreRising (if b then d ∷ without_conn number conns else without_conn number conns)
    by true rest = (above-without d.number number conns rising.0, rest)
    by false rest = rest

pub are_rising : (es : List (ℕ × Conn)) → AreRising (conns_of es)
unfolding IsStrictlySortedBy
are_rising [] = tt
are_rising (e ∷ es) = rising-with e.1 (conns_of es) (are_rising es)

-- ---- lists with rising numbers are one if each number finds the same in both

none_above : (number : ℕ) (conns : List Conn) → AreAbove number conns → find_conn number conns ≡ None
none_above number [] h = refl
none_above number (d ∷ conns) h = grind (arith, nat_tests, h.0, none_above number conns h.1)

-- nothing is found below all numbers
none_below : (number high : ℕ) (conns : List Conn) → number < high → AreAbove high conns → find_conn number conns ≡ None
none_below number high conns low h = none_above number conns (above-lower number high conns low h)

find-first : (c : Conn) (conns : List Conn) → find_conn c.number (c ∷ conns) ≡ Some c
find-first c conns = ap (λ b. if b then Some c else find_conn c.number conns) (eq-eqb c.number c.number refl)

find-later : (number : ℕ) (c : Conn) (conns : List Conn) → c.number ≢ number → find_conn number (c ∷ conns) ≡ find_conn number conns
find-later number c conns differ = grind (arith, nat_tests, differ)

-- the numbers of two first connections
data Side (a b : ℕ) : Type 0 where
  lower : a < b → Side a b
  equal : a ≡ b → Side a b
  higher : b < a → Side a b

side : (a b : ℕ) → Side a b
side a b = by (nat_lt a b) (nat_lt b a) refl refl
  where
    by : (x y : Bool) → nat_lt a b ≡ x → nat_lt b a ≡ y → Side a b
    by true y p q = lower (grind (arith, nat_tests, p))
    by false true p q = higher (grind (arith, nat_tests, q))
    by false false p q = equal (grind (arith, nat_tests, p, q))

abbrev FindTheSame : List Conn → List Conn → Type 0
FindTheSame xs ys = (number : ℕ) → find_conn number xs ≡ find_conn number ys

some-none : {A : Type 0} (x : A) → Some x ≡ None → ⊥
some-none x e = cc e

same_rest : (x : Conn) (xs ys : List Conn) → AreAbove x.number xs → AreAbove x.number ys → FindTheSame (x ∷ xs) (x ∷ ys) → FindTheSame xs ys
same_rest x xs ys above_xs above_ys same number = by (x.number == number) refl
  where
    by : (b : Bool) → (x.number == number) ≡ b → find_conn number xs ≡ find_conn number ys
    by true at =
        let is : x.number ≡ number = eqb-true x.number number at in
        subst (λ n. find_conn n xs ≡ find_conn n ys) is (none_above x.number xs above_xs ∙ sym (none_above x.number ys above_ys))
    by false at =
        let differ : x.number ≢ number = eqb-false x.number number at in
        sym (find-later number x xs differ) ∙ same number ∙ find-later number x ys differ

pub same_conns : (xs ys : List Conn) → AreRising xs → AreRising ys → FindTheSame xs ys → xs ≡ ys
unfolding IsStrictlySortedBy
same_conns [] [] rx ry same = refl
same_conns [] (y ∷ ys) rx ry same = absurd (some-none y (sym (find-first y ys) ∙ sym (same y.number)))
same_conns (x ∷ xs) [] rx ry same = absurd (some-none x (sym (find-first x xs) ∙ same x.number))
same_conns (x ∷ xs) (y ∷ ys) rx ry same =
    elim (side x.number y.number) [
      | lower low ↦
          absurd (some-none x (sym (find-first x xs) ∙ same x.number ∙ find-later x.number y ys (λ e. apart y.number x.number low e) ∙ none_below x.number y.number ys low ry.0))
      | higher low ↦
          absurd (some-none y (sym (find-first y ys) ∙ sym (same y.number) ∙ find-later y.number x xs (λ e. apart x.number y.number low e) ∙ none_below y.number x.number xs low rx.0))
      | equal at ↦
          let found : Some x ≡ Some y = sym (find-first x xs) ∙ same x.number ∙ ap (λ n. find_conn n (y ∷ ys)) at ∙ find-first y ys in
          let one : x ≡ y = cc found in
          let whole = subst (λ (c : Conn). FindTheSame (x ∷ xs) (c ∷ ys)) (sym one) same in
          (λ i. one i ∷ same_conns xs ys rx.1 ry.1 (same_rest x xs ys rx.0 (subst (λ n. AreAbove n ys) (sym at) ry.0) whole) i)
    ]
  where
    apart : (a b : ℕ) → b < a → a ≡ b → ⊥
    apart a b low e = omega (arith, low, e)

-- ---- changes

-- the number finds this now, and each other one what it found
abbrev pub Finds : ℕ → Option Conn → List (ℕ × Conn) → List (ℕ × Conn) → Type 0
Finds number o old new = (q : ℕ) → lookup (nat_eq q) new ≡ cond (nat_eq number q) o (lookup (nat_eq q) old)

pub put-is : (c : Conn) (old new : List (ℕ × Conn)) → AreEntries old → AreEntries new → Finds c.number (Some c) old new → conns_of new ≡ with_conn c (conns_of old)
put-is c old new kept kept_new finds =
    same_conns (conns_of new) (with_conn c (conns_of old)) (are_rising new) (rising-with c (conns_of old) (are_rising old)) (λ q. sym (lookup-is q new kept_new) ∙ finds q ∙ by q (nat_eq c.number q) refl)
  where
    by : (q : ℕ) (b : Bool) → nat_eq c.number q ≡ b → cond b (Some c) (lookup (nat_eq q) old) ≡ find_conn q (with_conn c (conns_of old))
    by q true at = sym (subst (λ n. find_conn n (with_conn c (conns_of old)) ≡ Some c) (eqb-true c.number q at) (find-with_conn c (conns_of old)))
    by q false at = lookup-is q old kept ∙ sym (find_other-with_conn q c (conns_of old) (λ e. eqb-false c.number q at (sym e)))

pub gone-is : (number : ℕ) (old new : List (ℕ × Conn)) → AreEntries old → AreEntries new → Finds number None old new → conns_of new ≡ without_conn number (conns_of old)
gone-is number old new kept kept_new finds =
    same_conns (conns_of new) (without_conn number (conns_of old)) (are_rising new) (rising-without number (conns_of old) (are_rising old)) (λ q. sym (lookup-is q new kept_new) ∙ finds q ∙ by q (nat_eq number q) refl)
  where
    by : (q : ℕ) (b : Bool) → nat_eq number q ≡ b → cond b None (lookup (nat_eq q) old) ≡ find_conn q (without_conn number (conns_of old))
    by q true at = sym (subst (λ n. find_conn n (without_conn number (conns_of old)) ≡ None) (eqb-true number q at) (find-without_conn number (conns_of old)))
    by q false at = lookup-is q old kept ∙ sym (find_other-without_conn q number (conns_of old) (λ e. eqb-false number q at (sym e)))

-- ---- each connection stays at its number

pub insert-entries : (c : Conn) (es : List (ℕ × Conn)) → AreEntries es → IsConn c → AreEntries (insert_entry nat_eq es c.number c)
insert-entries c [] h conn = ((refl, conn), tt)
insert-entries c (e ∷ es) h conn = by (nat_eq c.number e.0) refl (insert-entries c es h.1 conn)
  where
    by : (b : Bool) → nat_eq c.number e.0 ≡ b → AreEntries (insert_entry nat_eq es c.number c) → AreEntries (if b then (e.0, c) ∷ es else e ∷ insert_entry nat_eq es c.number c)
    by true at rest = ((eqb-true c.number e.0 at, conn), h.1)
    by false at rest = (h.0, rest)

pub set-entries : (c : Conn) (es : List (ℕ × Conn)) → AreEntries es → IsConn c → AreEntries (set_value (nat_eq c.number) es c)
set-entries c [] h conn = h
set-entries c (e ∷ es) h conn = by (nat_eq c.number e.0) refl (set-entries c es h.1 conn)
  where
    by : (b : Bool) → nat_eq c.number e.0 ≡ b → AreEntries (set_value (nat_eq c.number) es c) → AreEntries (cond b ((e.0, c) ∷ es) (e ∷ set_value (nat_eq c.number) es c))
    by true at rest = ((eqb-true c.number e.0 at, conn), h.1)
    by false at rest = (h.0, rest)
