-- A text has one reading.
use Rattle.std.proofs.Common.{◌≡◌, ◌⊎◌, ℕ, suc, ◌+◌, ◌-◌, ◌≤◌, Bool, true, false, List, [], ◌∷◌, ◌++◌, length, get_or, drop, ◌∙◌, ap, sym, subst, arith, inl, inr, refl, All, eqb, append_assoc, append-nil, length-append}
use Rattle.std.specs.Prelude.{AllPairs, Contains, IsPermutation, ◌&&◌}
use Rattle.std.proofs.Math.Seq.{get_or-append_right}
use Rattle.std.proofs.lemmas.Bool.{cases_order, eq-eqb, ne_eqb, false≢true}
use Rattle.std.proofs.lemmas.List.{get_or_append_left}
use Rattle.std.proofs.lemmas.List.Elements.{All-nil, All-cons, All-head, All-tail, Contains-append_cases, Contains-append_right}
use Rattle.std.proofs.lemmas.List.Sorted.{IsPermutation-sym, length_permutation, Contains-permutation}
use Rattle.std.proofs.lemmas.Map.Keys.{apart_from_distinct, IsDistinct-from_apart, IsDistinct-IsPermutation}
use Rattle.prefix_table.specs.Rows.{IsTable, Precedes, SamePrefix}
use Rattle.host_io.specs.Lines.{IsPassedOver, lines_of}
use Rattle.prefix_table.specs.Text.{IsRowLine, IsInRange, IsClear, AreLines, IsTableText, IsFault, HasRowFault, row_of}
use Rattle.prefix_table.specs.Numbered.{IsSettled}
use Rattle.prefix_table.specs.declared.rows.Row.{Row}
use Rattle.prefix_table.specs.declared.rows.TheConstants.{MAX_ROWS}
use Rattle.prefix_table.specs.declared.fault.TableFault.{TableFault}
use Rattle.prefix_table.specs.declared.fault.TableFault.TheVariants.{Form, Number, HostBits, Repeated, TooMany, TooLarge, Memory}
use Rattle.prefix_table.proofs.NumberedLaws.{Contains-nil, Contains-one}

-- a line is that of one row at most
row_one : (line : List ℕ) (a b : Row) → IsSettled line → IsRowLine line a → IsRowLine line b → a ≡ b
row_one line a b settled is it = is.made ∙ ap row_of (settled is.entry it.entry is.is_entry it.is_entry) ∙ sym it.made

not_passed : (line : List ℕ) (row : Row) → IsRowLine line row → IsPassedOver line → ⊥
not_passed line row is passed = is.is_entry.not_passed_over passed

-- lines are those of one list of rows at most
pub lines_one : (lines : List (List ℕ)) (xs ys : List Row) → All IsSettled lines → AreLines lines xs → AreLines lines ys → xs ≡ ys
unfolding AreLines
lines_one [] xs ys settled are also = are ∙ sym also
lines_one (line ∷ lines) [] [] settled are also = refl
lines_one (line ∷ lines) [] (y ∷ ys) settled are (inl also) = lines_one lines [] (y ∷ ys) (All-tail IsSettled line lines settled) are.1 also.1
lines_one (line ∷ lines) [] (y ∷ ys) settled are (inr also) = absurd (not_passed line y also.0 are.0)
lines_one (line ∷ lines) (x ∷ xs) [] settled (inl are) also = lines_one lines (x ∷ xs) [] (All-tail IsSettled line lines settled) are.1 also.1
lines_one (line ∷ lines) (x ∷ xs) [] settled (inr are) also = absurd (not_passed line x are.0 also.0)
lines_one (line ∷ lines) (x ∷ xs) (y ∷ ys) settled (inl are) (inl also) = lines_one lines (x ∷ xs) (y ∷ ys) (All-tail IsSettled line lines settled) are.1 also.1
lines_one (line ∷ lines) (x ∷ xs) (y ∷ ys) settled (inl are) (inr also) = absurd (not_passed line y also.0 are.0)
lines_one (line ∷ lines) (x ∷ xs) (y ∷ ys) settled (inr are) (inl also) = absurd (not_passed line x are.0 also.0)
lines_one (line ∷ lines) (x ∷ xs) (y ∷ ys) settled (inr are) (inr also) =
    let heads = row_one line x y (All-head IsSettled line lines settled) are.0 also.0 in
    let tails = lines_one lines xs ys (All-tail IsSettled line lines settled) are.1 also.1 in
    λ i. heads i ∷ tails i

-- how rows go on at a line
abbrev GoesOn : List ℕ → List Row → Type 0
GoesOn line rest = IsPassedOver line ⊎ ((row : Row) × (tail : List Row) × IsRowLine line row × (rest ≡ row ∷ tail))

-- the rows of more lines begin with those of fewer
goes_on : (before : List (List ℕ)) (line : List ℕ) (more : List (List ℕ)) (xs said : List Row) → All IsSettled (before ++ line ∷ []) → AreLines before xs → AreLines (before ++ line ∷ more) said → (rest : List Row) × (said ≡ xs ++ rest) × GoesOn line rest
unfolding AreLines
goes_on [] line more xs [] settled are also = ([], sym (append-nil xs ∙ are), inl also.0)
goes_on [] line more xs (s ∷ said) settled are (inl also) = (s ∷ said, ap (λ (zs : List Row). zs ++ s ∷ said) (sym are), inl also.0)
goes_on [] line more xs (s ∷ said) settled are (inr also) = (s ∷ said, ap (λ (zs : List Row). zs ++ s ∷ said) (sym are), inr (s, said, also.0, refl))
goes_on (l ∷ before) line more [] [] settled are also = goes_on before line more [] [] (All-tail IsSettled l (before ++ line ∷ []) settled) are.1 also.1
goes_on (l ∷ before) line more [] (s ∷ said) settled are (inl also) = goes_on before line more [] (s ∷ said) (All-tail IsSettled l (before ++ line ∷ []) settled) are.1 also.1
goes_on (l ∷ before) line more [] (s ∷ said) settled are (inr also) = absurd (not_passed l s also.0 are.0)
goes_on (l ∷ before) line more (x ∷ xs) [] settled (inl are) also = goes_on before line more (x ∷ xs) [] (All-tail IsSettled l (before ++ line ∷ []) settled) are.1 also.1
goes_on (l ∷ before) line more (x ∷ xs) [] settled (inr are) also = absurd (not_passed l x are.0 also.0)
goes_on (l ∷ before) line more (x ∷ xs) (s ∷ said) settled (inl are) (inl also) = goes_on before line more (x ∷ xs) (s ∷ said) (All-tail IsSettled l (before ++ line ∷ []) settled) are.1 also.1
goes_on (l ∷ before) line more (x ∷ xs) (s ∷ said) settled (inl are) (inr also) = absurd (not_passed l s also.0 are.0)
goes_on (l ∷ before) line more (x ∷ xs) (s ∷ said) settled (inr are) (inl also) = absurd (not_passed l x are.0 also.0)
goes_on (l ∷ before) line more (x ∷ xs) (s ∷ said) settled (inr are) (inr also) =
    let heads = row_one l x s (All-head IsSettled l (before ++ line ∷ []) settled) are.0 also.0 in
    let later = goes_on before line more xs said (All-tail IsSettled l (before ++ line ∷ []) settled) are.1 also.1 in
    (later.0, (λ i. sym heads i ∷ later.1 i), later.2)

abbrev pub AreApart : List Row → Type 0
AreApart rows = AllPairs (λ (a : Row) (b : Row). SamePrefix a b → ⊥) rows

-- a row after others has none of their prefixes
apart_last : (xs tail : List Row) (row earlier : Row) → AreApart (xs ++ row ∷ tail) → Contains xs earlier → SamePrefix row earlier → ⊥
apart_last xs tail row earlier apart (k, within, is) same =
    let m = length xs in
    let at_m : get_or (xs ++ row ∷ tail) m earlier ≡ row = get_or-append_right xs (row ∷ tail) m earlier (omega arith) ∙ ap (λ i. get_or (row ∷ tail) i earlier) (sub_same m) in
    let at_k : get_or (xs ++ row ∷ tail) k earlier ≡ earlier = get_or_append_left xs (row ∷ tail) earlier k within ∙ is in
    let pair : SamePrefix earlier row = (sym same.0, sym same.1) in
    apart k m earlier within (omega (arith, length-append xs (row ∷ tail)))
    (subst (λ (r : Row). SamePrefix r (get_or (xs ++ row ∷ tail) m earlier)) (sym at_k) (subst (λ (r : Row). SamePrefix earlier r) (sym at_m) pair))
  where
    sub_same : (n : ℕ) → n - n ≡ 0
    sub_same n = omega arith

-- a line at fault is not passed over, and is not that of one more row
clash : (xs rest : List Row) (line : List ℕ) (n : ℕ) (fault : TableFault) → IsSettled line → HasRowFault xs line n fault → GoesOn line rest → AreApart (xs ++ rest) → length (xs ++ rest) ≤ MAX_ROWS → ⊥
clash xs rest line n (Form at) settled h (inl passed) apart few = h.1.not_passed_over passed
clash xs rest line n (Form at) settled h (inr (row, tail, is, e)) apart few = h.1.no_entry is.entry is.is_entry
clash xs rest line n (Number at) settled h (inl passed) apart few = h.1.is_entry.not_passed_over passed
clash xs rest line n (Number at) settled h (inr (row, tail, is, e)) apart few =
    h.1.out (subst IsInRange (settled is.entry h.1.entry is.is_entry h.1.is_entry) is.in_range)
clash xs rest line n (HostBits at) settled h (inl passed) apart few = h.1.is_entry.not_passed_over passed
clash xs rest line n (HostBits at) settled h (inr (row, tail, is, e)) apart few =
    h.1.set (subst IsClear (is.made ∙ ap row_of (settled is.entry h.1.entry is.is_entry h.1.is_entry)) is.clear)
clash xs rest line n (Repeated at) settled h (inl passed) apart few = not_passed line h.1.row h.1.is_row passed
clash xs rest line n (Repeated at) settled h (inr (row, tail, is, e)) apart few =
    let same = row_one line h.1.row row settled h.1.is_row is in
    apart_last xs tail row h.1.earlier (subst (λ (rs : List Row). AreApart (xs ++ rs)) e apart) h.1.is_earlier (subst (λ (r : Row). SamePrefix r h.1.earlier) same h.1.same)
clash xs rest line n TooMany settled h (inl passed) apart few = not_passed line h.row h.is_row passed
clash xs rest line n TooMany settled h (inr (row, tail, is, e)) apart few =
    omega (arith, few, h.full, length-append xs rest, ap (λ (rs : List Row). length rs) e)
clash xs rest line n (TooLarge size) settled h goes apart few = h
clash xs rest line n Memory settled h goes apart few = h

-- a fault is not in lines of rows that a table may have
pub fault_clash : (before : List (List ℕ)) (line : List ℕ) (more : List (List ℕ)) (xs said : List Row) (n : ℕ) (fault : TableFault) → All IsSettled (before ++ line ∷ []) → AreLines before xs → HasRowFault xs line n fault → AreLines (before ++ line ∷ more) said → AreApart said → length said ≤ MAX_ROWS → ⊥
fault_clash before line more xs said n fault settled are h also apart few =
    let on = goes_on before line more xs said settled are also in
    let own = All-contains-last before line settled in
    clash xs on.0 line n fault own h on.2 (subst AreApart on.1 apart) (subst (λ (rs : List Row). length rs ≤ MAX_ROWS) on.1 few)
  where
    All-contains-last : (ls : List (List ℕ)) (l : List ℕ) → All IsSettled (ls ++ l ∷ []) → IsSettled l
    All-contains-last [] l all = All-head IsSettled l [] all
    All-contains-last (k ∷ ls) l all = All-contains-last ls l (All-tail IsSettled k (ls ++ l ∷ []) all)

-- as many rows as a table has are followed by no other
pub full_clash : (before : List (List ℕ)) (line : List ℕ) (more : List (List ℕ)) (xs said : List Row) (row : Row) → All IsSettled (before ++ line ∷ []) → AreLines before xs → IsRowLine line row → length xs ≡ MAX_ROWS → AreLines (before ++ line ∷ more) said → length said ≤ MAX_ROWS → ⊥
full_clash before line more xs said row settled are is full also few =
    let on = goes_on before line more xs said settled are also in
    elim on.2 [
      | inl passed ↦ not_passed line row is passed
      | inr (other, tail, is_other, e) ↦
          omega (arith, few, full, length-append xs on.0, ap (λ (rs : List Row). length rs) e, ap (λ (rs : List Row). length rs) on.1)
    ]

-- the test of two prefixes
abbrev prefix_eq : Row → Row → Bool
prefix_eq a b = eqb a.bits b.bits && eqb a.len b.len

flips : (a b : Row) → prefix_eq a b ≡ prefix_eq b a
flips a b = λ i. eqb_flips a.bits b.bits i && eqb_flips a.len b.len i
  where
    eqb_flips : (m n : ℕ) → eqb m n ≡ eqb n m
    eqb_flips m n = elim (cases_order m n) [
      | inl e ↦ eq-eqb m n e ∙ sym (eq-eqb n m (sym e))
      | inr (inl l) ↦ ne_eqb m n (λ e. omega (arith, e)) ∙ sym (ne_eqb n m (λ e. omega (arith, e)))
      | inr (inr l) ↦ ne_eqb m n (λ e. omega (arith, e)) ∙ sym (ne_eqb n m (λ e. omega (arith, e)))
    ]

rising_differ : (a b : Row) → Precedes a b → prefix_eq a b ≡ false
rising_differ a b (inl l) = ap (λ t. t && eqb a.len b.len) (ne_eqb a.bits b.bits (λ e. omega (arith, e)))
rising_differ a b (inr (e, l)) = ap (λ t. t && eqb a.len b.len) (eq-eqb a.bits b.bits e) ∙ ne_eqb a.len b.len (λ f. omega (arith, f))

-- the rows of a table have distinct prefixes in any order
pub table_apart : (rows said : List Row) → IsTable rows → IsPermutation said rows → AreApart said
table_apart rows said table order i j d l w same =
    let sorted = IsDistinct-from_apart prefix_eq rows (λ k m e n h. rising_differ (get_or rows k e) (get_or rows m e) (table.rising k m e n h)) in
    let mixed = IsDistinct-IsPermutation prefix_eq flips rows said (IsPermutation-sym said rows order) sorted in
    let differ = apart_from_distinct prefix_eq said i j d mixed l w in
    let equal : prefix_eq (get_or said i d) (get_or said j d) ≡ true =
    λ k. eq-eqb (get_or said i d).bits (get_or said j d).bits same.0 k && eq-eqb (get_or said i d).len (get_or said j d).len same.1 k in
    false≢true (sym differ ∙ equal)

-- no text of a table has a fault
pub table_or_fault : (text : List ℕ) (rows : List Row) (fault : TableFault) → IsTableText text rows → (f : IsFault text fault) → All IsSettled (f.before ++ f.line ∷ []) → ⊥
table_or_fault text rows fault t f settled =
    fault_clash f.before f.line f.after f.rows t.said (length f.before + 1) fault settled f.are_rows.said f.has_fault (subst (λ (ls : List (List ℕ)). AreLines ls t.said) f.lines t.lines) (table_apart rows t.said t.table t.order) (omega (arith, t.table.few, length_permutation t.said rows t.order))

irreflexive : (a : Row) → Precedes a a → ⊥
irreflexive a (inl l) = omega arith
irreflexive a (inr (e, l)) = omega arith

both_ways : (a b : Row) → Precedes a b → Precedes b a → ⊥
both_ways a b (inl l) (inl m) = omega arith
both_ways a b (inl l) (inr (e, m)) = omega arith
both_ways a b (inr (e, l)) (inl m) = omega arith
both_ways a b (inr (e, l)) (inr (f, m)) = omega arith

AllPairs-tail : (x : Row) (xs : List Row) → AllPairs Precedes (x ∷ xs) → AllPairs Precedes xs
AllPairs-tail x xs pairs i j d l w = pairs (suc i) (suc j) d (omega arith) (omega arith)

AllPairs-head : (x y : Row) (xs : List Row) → AllPairs Precedes (x ∷ xs) → Contains xs y → Precedes x y
AllPairs-head x y xs pairs (k, within, is) = subst (λ (r : Row). Precedes x r) is (pairs 0 (suc k) y (omega arith) (omega arith))

Contains-head : (x : Row) (xs : List Row) → Contains (x ∷ xs) x
Contains-head x xs = (0, omega arith, refl)

Contains-cases : (x y : Row) (xs : List Row) → Contains (x ∷ xs) y → (x ≡ y) ⊎ Contains xs y
Contains-cases x y xs has = elim (Contains-append_cases (x ∷ []) xs y has) [ inl here ↦ inl (Contains-one x y here) | inr there ↦ inr there ]

-- two lists in order with the same rows are one
rising_one : (xs ys : List Row) → AllPairs Precedes xs → AllPairs Precedes ys → ((r : Row) → Contains xs r → Contains ys r) → ((r : Row) → Contains ys r → Contains xs r) → xs ≡ ys
rising_one [] [] up also into back = refl
rising_one [] (y ∷ ys) up also into back = absurd (Contains-nil y (back y (Contains-head y ys)))
rising_one (x ∷ xs) [] up also into back = absurd (Contains-nil x (into x (Contains-head x xs)))
rising_one (x ∷ xs) (y ∷ ys) up also into back =
    let heads : x ≡ y = elim (Contains-cases y x ys (into x (Contains-head x xs))) [
      | inl e ↦ sym e
      | inr in_ys ↦ elim (Contains-cases x y xs (back y (Contains-head y ys))) [
        | inl e ↦ e
        | inr in_xs ↦ absurd (both_ways x y (AllPairs-head x y xs up in_xs) (AllPairs-head y x ys also in_ys))
      ]
    ] in
    let tails = rising_one xs ys (AllPairs-tail x xs up) (AllPairs-tail y ys also)
    (λ r in_xs. elim (Contains-cases y r ys (into r (Contains-append_right (x ∷ []) xs r in_xs))) [
      | inl e ↦ absurd (irreflexive x (subst (λ (z : Row). Precedes x z) (sym (heads ∙ e)) (AllPairs-head x r xs up in_xs)))
      | inr there ↦ there
    ])
    (λ r in_ys. elim (Contains-cases x r xs (back r (Contains-append_right (y ∷ []) ys r in_ys))) [
      | inl e ↦ absurd (irreflexive y (subst (λ (z : Row). Precedes y z) (sym (sym heads ∙ e)) (AllPairs-head y r ys also in_ys)))
      | inr there ↦ there
    ]) in
    λ i. heads i ∷ tails i

-- a text is that of one table at most
pub table_one : (text : List ℕ) (rows others : List Row) → All IsSettled (lines_of text) → IsTableText text rows → IsTableText text others → rows ≡ others
table_one text rows others settled t u =
    let said = lines_one (lines_of text) t.said u.said settled t.lines u.lines in
    let order = subst (λ (rs : List Row). IsPermutation rs others) (sym said) u.order in
    let into = λ (r : Row) (has : Contains rows r). Contains-permutation t.said others r order (Contains-permutation rows t.said r (IsPermutation-sym t.said rows t.order) has) in
    let back = λ (r : Row) (has : Contains others r). Contains-permutation t.said rows r t.order (Contains-permutation others t.said r (IsPermutation-sym t.said others order) has) in
    rising_one rows others t.table.rising u.table.rising into back

-- the order of two cuts of a list
abbrev Cuts : {X : Type 0} → List X → X → List X → X → Type 0
Cuts {X} a x b y = ((a ≡ b) × (x ≡ y)) ⊎ (((m : List X) × (b ≡ a ++ x ∷ m)) ⊎ ((m : List X) × (a ≡ b ++ y ∷ m)))

cuts : {X : Type 0} (a b c d : List X) (x y : X) → a ++ x ∷ c ≡ b ++ y ∷ d → Cuts a x b y
cuts [] [] c d x y e = let h : x ≡ y = cc in inl (refl, h)
cuts [] (z ∷ b) c d x y e = let h : x ≡ z = cc in inr (inl (b, ap (λ t. t ∷ b) (sym h)))
cuts (z ∷ a) [] c d x y e = let h : z ≡ y = cc in inr (inr (a, ap (λ t. t ∷ a) h))
cuts (z ∷ a) (w ∷ b) c d x y e =
    let h : z ≡ w = cc in
    let t : a ++ x ∷ c ≡ b ++ y ∷ d = ap (λ xs. drop 1 xs) e in
    elim (cuts a b c d x y t) [
      | inl (f, g) ↦ inl ((λ i. h i ∷ f i), g)
      | inr (inl (m, f)) ↦ inr (inl (m, (λ i. sym h i ∷ f i)))
      | inr (inr (m, f)) ↦ inr (inr (m, (λ i. h i ∷ f i)))
    ]

-- a line has one fault at most
kinds_one : (xs : List Row) (line : List ℕ) (n : ℕ) (f g : TableFault) → IsSettled line → HasRowFault xs line n f → HasRowFault xs line n g → f ≡ g
kinds_one xs line n (Form a) (Form b) settled h k = ap Form (h.0 ∙ sym k.0)
kinds_one xs line n (Form a) (Number b) settled h k = absurd (h.1.no_entry k.1.entry k.1.is_entry)
kinds_one xs line n (Form a) (HostBits b) settled h k = absurd (h.1.no_entry k.1.entry k.1.is_entry)
kinds_one xs line n (Form a) (Repeated b) settled h k = absurd (h.1.no_entry k.1.is_row.entry k.1.is_row.is_entry)
kinds_one xs line n (Form a) TooMany settled h k = absurd (h.1.no_entry k.is_row.entry k.is_row.is_entry)
kinds_one xs line n (Form a) (TooLarge b) settled h k = absurd k
kinds_one xs line n (Form a) Memory settled h k = absurd k
kinds_one xs line n (Number a) (Form b) settled h k = absurd (k.1.no_entry h.1.entry h.1.is_entry)
kinds_one xs line n (Number a) (Number b) settled h k = ap Number (h.0 ∙ sym k.0)
kinds_one xs line n (Number a) (HostBits b) settled h k = absurd (h.1.out (subst IsInRange (settled k.1.entry h.1.entry k.1.is_entry h.1.is_entry) k.1.in_range))
kinds_one xs line n (Number a) (Repeated b) settled h k = absurd (h.1.out (subst IsInRange (settled k.1.is_row.entry h.1.entry k.1.is_row.is_entry h.1.is_entry) k.1.is_row.in_range))
kinds_one xs line n (Number a) TooMany settled h k = absurd (h.1.out (subst IsInRange (settled k.is_row.entry h.1.entry k.is_row.is_entry h.1.is_entry) k.is_row.in_range))
kinds_one xs line n (Number a) (TooLarge b) settled h k = absurd k
kinds_one xs line n (Number a) Memory settled h k = absurd k
kinds_one xs line n (HostBits a) (Form b) settled h k = absurd (k.1.no_entry h.1.entry h.1.is_entry)
kinds_one xs line n (HostBits a) (Number b) settled h k = absurd (k.1.out (subst IsInRange (settled h.1.entry k.1.entry h.1.is_entry k.1.is_entry) h.1.in_range))
kinds_one xs line n (HostBits a) (HostBits b) settled h k = ap HostBits (h.0 ∙ sym k.0)
kinds_one xs line n (HostBits a) (Repeated b) settled h k = absurd (h.1.set (subst IsClear (k.1.is_row.made ∙ ap row_of (settled k.1.is_row.entry h.1.entry k.1.is_row.is_entry h.1.is_entry)) k.1.is_row.clear))
kinds_one xs line n (HostBits a) TooMany settled h k = absurd (h.1.set (subst IsClear (k.is_row.made ∙ ap row_of (settled k.is_row.entry h.1.entry k.is_row.is_entry h.1.is_entry)) k.is_row.clear))
kinds_one xs line n (HostBits a) (TooLarge b) settled h k = absurd k
kinds_one xs line n (HostBits a) Memory settled h k = absurd k
kinds_one xs line n (Repeated a) (Form b) settled h k = absurd (k.1.no_entry h.1.is_row.entry h.1.is_row.is_entry)
kinds_one xs line n (Repeated a) (Number b) settled h k = absurd (k.1.out (subst IsInRange (settled h.1.is_row.entry k.1.entry h.1.is_row.is_entry k.1.is_entry) h.1.is_row.in_range))
kinds_one xs line n (Repeated a) (HostBits b) settled h k = absurd (k.1.set (subst IsClear (h.1.is_row.made ∙ ap row_of (settled h.1.is_row.entry k.1.entry h.1.is_row.is_entry k.1.is_entry)) h.1.is_row.clear))
kinds_one xs line n (Repeated a) (Repeated b) settled h k = ap Repeated (h.0 ∙ sym k.0)
kinds_one xs line n (Repeated a) TooMany settled h k = absurd (k.new h.1.earlier h.1.is_earlier (subst (λ (r : Row). SamePrefix r h.1.earlier) (row_one line h.1.row k.row settled h.1.is_row k.is_row) h.1.same))
kinds_one xs line n (Repeated a) (TooLarge b) settled h k = absurd k
kinds_one xs line n (Repeated a) Memory settled h k = absurd k
kinds_one xs line n TooMany (Form b) settled h k = absurd (k.1.no_entry h.is_row.entry h.is_row.is_entry)
kinds_one xs line n TooMany (Number b) settled h k = absurd (k.1.out (subst IsInRange (settled h.is_row.entry k.1.entry h.is_row.is_entry k.1.is_entry) h.is_row.in_range))
kinds_one xs line n TooMany (HostBits b) settled h k = absurd (k.1.set (subst IsClear (h.is_row.made ∙ ap row_of (settled h.is_row.entry k.1.entry h.is_row.is_entry k.1.is_entry)) h.is_row.clear))
kinds_one xs line n TooMany (Repeated b) settled h k = absurd (h.new k.1.earlier k.1.is_earlier (subst (λ (r : Row). SamePrefix r k.1.earlier) (row_one line k.1.row h.row settled k.1.is_row h.is_row) k.1.same))
kinds_one xs line n TooMany TooMany settled h k = refl
kinds_one xs line n TooMany (TooLarge b) settled h k = absurd k
kinds_one xs line n TooMany Memory settled h k = absurd k
kinds_one xs line n (TooLarge a) g settled h k = absurd h
kinds_one xs line n Memory g settled h k = absurd h

last_settled : (ls : List (List ℕ)) (l : List ℕ) → All IsSettled (ls ++ l ∷ []) → IsSettled l
last_settled [] l all = All-head IsSettled l [] all
last_settled (k ∷ ls) l all = last_settled ls l (All-tail IsSettled k (ls ++ l ∷ []) all)

pub first_settled : (ls more : List (List ℕ)) → All IsSettled (ls ++ more) → All IsSettled ls
first_settled [] more all = All-nil IsSettled
first_settled (l ∷ ls) more all = All-cons IsSettled l ls (All-head IsSettled l (ls ++ more) all) (first_settled ls more (All-tail IsSettled l (ls ++ more) all))

same_place : (text : List ℕ) (x y : TableFault) (f : IsFault text x) (g : IsFault text y) → All IsSettled (f.before ++ f.line ∷ []) → f.before ≡ g.before → f.line ≡ g.line → x ≡ y
same_place text x y f g settled before line =
    let rows = lines_one f.before f.rows g.rows (first_settled f.before (f.line ∷ []) settled) f.are_rows.said (subst (λ (ls : List (List ℕ)). AreLines ls g.rows) (sym before) g.are_rows.said) in
    let there : HasRowFault f.rows f.line (length f.before + 1) y =
    subst (λ (ls : List (List ℕ)). HasRowFault f.rows f.line (length ls + 1) y) (sym before) (subst (λ (l : List ℕ). HasRowFault f.rows l (length g.before + 1) y) (sym line) (subst (λ (rs : List Row). HasRowFault rs g.line (length g.before + 1) y) (sym rows) g.has_fault)) in
    kinds_one f.rows f.line (length f.before + 1) x y (last_settled f.before f.line settled) f.has_fault there

-- a text has one fault at most
pub fault_one : (text : List ℕ) (x y : TableFault) (f : IsFault text x) → IsFault text y → All IsSettled (f.before ++ f.line ∷ []) → x ≡ y
fault_one text x y f g settled = elim (cuts f.before g.before f.after g.after f.line g.line (sym f.lines ∙ g.lines)) [
  | inl (before, line) ↦ same_place text x y f g settled before line
  | inr (inl (m, longer)) ↦
      absurd (fault_clash f.before f.line m f.rows g.rows (length f.before + 1) x settled f.are_rows.said f.has_fault (subst (λ (ls : List (List ℕ)). AreLines ls g.rows) longer g.are_rows.said) g.are_rows.apart g.are_rows.few)
  | inr (inr (m, shorter)) ↦
      let own : All IsSettled (g.before ++ g.line ∷ []) =
      first_settled (g.before ++ g.line ∷ []) m (subst (All IsSettled) (shorter ∙ sym (append_assoc g.before (g.line ∷ []) m)) (first_settled f.before (f.line ∷ []) settled)) in
      absurd (fault_clash g.before g.line m g.rows f.rows (length g.before + 1) y own g.are_rows.said g.has_fault (subst (λ (ls : List (List ℕ)). AreLines ls f.rows) shorter f.are_rows.said) f.are_rows.apart f.are_rows.few)
]
