-- Rows after their sort, with the repeated prefixes side by side.
use Rattle.std.proofs.Common.{◌≡◌, ◌⊎◌, ℕ, ◌+◌, ◌<◌, ◌≤◌, Bool, false, cond, List, length, get_or, ◌∙◌, ap, sym, subst, arith, inl, inr, eqb}
use Rattle.std.specs.Prelude.{AllPairs, Contains, IsPermutation}
use Rattle.std.specs.declared.cmp.Ordering.{Ordering}
use Rattle.std.specs.declared.cmp.Ordering.TheVariants.{Less, Equal, Greater}
use Rattle.std.specs.Ordering.{nat_cmp, ordering_then, is_lt}
use Rattle.std.specs.Cmp.{IsTotalOrder}
use Rattle.std.specs.List.Sorted.{IsSortedBy}
use Rattle.std.proofs.Math.Nat.{eq-or-lt_of_le}
use Rattle.std.proofs.lemmas.Bool.{cases_lt, cases_order, eq-eqb, ne_eqb, false≢true, lt-ltb, le-ltb}
use Rattle.std.proofs.lemmas.Cmp.{then_total, on_total, nat_cmp_total}
use Rattle.std.proofs.lemmas.List.{get_or_default}
use Rattle.std.proofs.lemmas.List.Elements.{Contains-get_or}
use Rattle.std.proofs.lemmas.List.Sorted.{ranks_by, sorted_far, Contains-permutation, IsPermutation-sym}
use Rattle.std.proofs.lemmas.Map.Keys.{apart_from_distinct, IsDistinct-from_apart, IsDistinct-IsPermutation}
use Rattle.prefix_table.specs.Rows.{SamePrefix}
use Rattle.prefix_table.specs.Numbered.{row_in, NotAfter, IsRepeatAt}
use Rattle.prefix_table.specs.declared.numbered.NumberedRow.{NumberedRow}

-- how the program compares two rows
abbrev pub row_cmp : NumberedRow → NumberedRow → Ordering
row_cmp a b = ordering_then (nat_cmp a.bits b.bits) (ordering_then (nat_cmp a.len b.len) (ordering_then (nat_cmp a.line b.line) (nat_cmp a.asn b.asn)))

row_cmp_total : IsTotalOrder row_cmp
row_cmp_total =
    then_total (on_total (λ r. r.bits) nat_cmp_total) (then_total (on_total (λ r. r.len) nat_cmp_total) (then_total (on_total (λ r. r.line) nat_cmp_total) (on_total (λ r. r.asn) nat_cmp_total)))

cmp_below : (x y : ℕ) → x < y → nat_cmp x y ≡ Less
cmp_below x y l = ap (λ b. cond b Less (cond (eqb x y) Equal Greater)) (lt-ltb x y l)

cmp_same : (x y : ℕ) → x ≡ y → nat_cmp x y ≡ Equal
cmp_same x y e =
    ap (λ b. cond b Less (cond (eqb x y) Equal Greater)) (le-ltb x y (omega (arith, e)))
    ∙ ap (λ b. cond b Equal Greater) (eq-eqb x y e)

-- what comes first decides unless it is the same
pub then_not_lt : (x y : ℕ) (o : Ordering) → is_lt (ordering_then (nat_cmp x y) o) ≡ false → (y < x) ⊎ ((y ≡ x) × (is_lt o ≡ false))
then_not_lt x y o h = elim (cases_order x y) [
  | inl e ↦ inr (sym e, subst (λ c. is_lt (ordering_then c o) ≡ false) (cmp_same x y e) h)
  | inr (inl l) ↦ absurd (false≢true (sym (subst (λ c. is_lt (ordering_then c o) ≡ false) (cmp_below x y l) h)))
  | inr (inr g) ↦ inl g
]

not_after : (a b : NumberedRow) → is_lt (row_cmp b a) ≡ false → NotAfter a b
not_after a b h = elim (then_not_lt b.bits a.bits _ h) [
  | inl l ↦ inl (inl l)
  | inr (e, k) ↦ elim (then_not_lt b.len a.len _ k) [
    | inl l ↦ inl (inr (e, l))
    | inr (f, m) ↦ elim (then_not_lt b.line a.line _ m) [
      | inl l ↦ inr ((e, f), omega arith)
      | inr (g, n) ↦ inr ((e, f), omega (arith, g))
    ]
  ]
]

pub ordered : (rows : List NumberedRow) → IsSortedBy (λ a b. is_lt (row_cmp a b)) rows → AllPairs NotAfter rows
ordered rows up i j d l w =
    not_after (get_or rows i d) (get_or rows j d) (sorted_far (λ a b. is_lt (row_cmp a b)) (ranks_by row_cmp_total (λ r. r)) rows up i j d (omega arith) w)

between : (ab al an bb bl bn cb cl cn : ℕ) → ((ab < bb) ⊎ ((ab ≡ bb) × (al < bl))) ⊎ (((ab ≡ bb) × (al ≡ bl)) × (an ≤ bn)) → ((bb < cb) ⊎ ((bb ≡ cb) × (bl < cl))) ⊎ (((bb ≡ cb) × (bl ≡ cl)) × (bn ≤ cn)) → ab ≡ cb → al ≡ cl → ((ab ≡ bb) × (al ≡ bl)) × (bn ≤ cn)
between ab al an bb bl bn cb cl cn (inr ((e, f), g)) (inr ((h, k), m)) p q = ((e, f), m)
between ab al an bb bl bn cb cl cn (inl (inl l)) (inl (inl m)) p q = absurd (omega arith)
between ab al an bb bl bn cb cl cn (inl (inl l)) (inl (inr (e, m))) p q = absurd (omega arith)
between ab al an bb bl bn cb cl cn (inl (inr (e, l))) (inl (inl m)) p q = absurd (omega arith)
between ab al an bb bl bn cb cl cn (inl (inr (e, l))) (inl (inr (f, m))) p q = absurd (omega arith)
between ab al an bb bl bn cb cl cn (inl (inl l)) (inr ((h, k), m)) p q = absurd (omega arith)
between ab al an bb bl bn cb cl cn (inl (inr (e, l))) (inr ((h, k), m)) p q = absurd (omega arith)
between ab al an bb bl bn cb cl cn (inr ((e, f), g)) (inl (inl m)) p q = absurd (omega arith)
between ab al an bb bl bn cb cl cn (inr ((e, f), g)) (inl (inr (h, m))) p q = absurd (omega arith)

-- between two rows with one prefix, every row has it
same_between : (a b c : NumberedRow) → NotAfter a b → NotAfter b c → SamePrefix (row_in a) (row_in c) → SamePrefix (row_in a) (row_in b) × (b.line ≤ c.line)
same_between a b c ab bc same =
    between a.bits a.len a.line b.bits b.len b.line c.bits c.len c.line ab bc same.0 same.1

-- two rows with the same prefix make a repeat no later than the second
pub repeat_by : (rows : List NumberedRow) (i j : ℕ) (d : NumberedRow) → AllPairs NotAfter rows → i < j → j < length rows → SamePrefix (row_in (get_or rows i d)) (row_in (get_or rows j d)) → (m : ℕ) × IsRepeatAt rows i m × (m ≤ (get_or rows j d).line)
repeat_by rows i j d order l w same =
    let next : SamePrefix (row_in (get_or rows i d)) (row_in (get_or rows (i + 1) d)) × ((get_or rows (i + 1) d).line ≤ (get_or rows j d).line) =
    elim (cases_lt (i + 1) j) [
      | inl more ↦ same_between (get_or rows i d) (get_or rows (i + 1) d) (get_or rows j d) (order i (i + 1) d (omega arith) (omega arith)) (order (i + 1) j d more w) same
      | inr g ↦
          let e : j ≡ i + 1 = omega arith in
          (subst (λ k. SamePrefix (row_in (get_or rows i d)) (row_in (get_or rows k d))) e same, omega (arith, ap (λ k. (get_or rows k d).line) e))
    ] in (
      (get_or rows (i + 1) d).line,
      record {
        within = omega arith;
        same = λ d'.
            let a = get_or_default rows i d d' (omega arith) in
            let b = get_or_default rows (i + 1) d d' (omega arith) in
            subst (λ (x : NumberedRow). SamePrefix (row_in x) (row_in (get_or rows (i + 1) d'))) a (subst (λ (x : NumberedRow). SamePrefix (row_in (get_or rows i d)) (row_in x)) b next.0);
        line = λ d'. ap (λ (x : NumberedRow). x.line) (get_or_default rows (i + 1) d' d (omega arith));
      },
      next.1,
    )

-- the same of two rows wherever they are
pub repeat_of : (rows : List NumberedRow) (p q : NumberedRow) → AllPairs NotAfter rows → Contains rows p → Contains rows q → SamePrefix (row_in p) (row_in q) → p.line < q.line → (k m : ℕ) × IsRepeatAt rows k m × (m ≤ q.line)
repeat_of rows p q order (i, in_i, at_i) (j, in_j, at_j') same before =
    let at_j : get_or rows j p ≡ q = get_or_default rows j p q in_j ∙ at_j' in
    elim (cases_order i j) [
      | inl e ↦ absurd (omega (arith, ap (λ (x : NumberedRow). x.line) (sym at_i ∙ ap (λ k. get_or rows k p) e ∙ at_j)))
      | inr (inl l) ↦
          let there : SamePrefix (row_in (get_or rows i p)) (row_in (get_or rows j p)) =
          subst (λ (x : NumberedRow). SamePrefix (row_in x) (row_in (get_or rows j p))) (sym at_i) (subst (λ (x : NumberedRow). SamePrefix (row_in p) (row_in x)) (sym at_j) same) in
          let found = repeat_by rows i j p order l in_j there in
          (i, found.0, found.1, omega (arith, found.2, ap (λ (x : NumberedRow). x.line) at_j))
      | inr (inr g) ↦ absurd (not_before q p (subst (λ (x : NumberedRow). NotAfter x p) at_j (subst (λ (x : NumberedRow). NotAfter (get_or rows j p) x) at_i (order j i p g in_i))) same before)
    ]
  where
    not_before : (a b : NumberedRow) → NotAfter a b → SamePrefix (row_in b) (row_in a) → b.line < a.line → ⊥
    not_before a b (inl (inl l)) (e, f) g = omega arith
    not_before a b (inl (inr (h, l))) (e, f) g = omega arith
    not_before a b (inr ((h, k), l)) (e, f) g = omega arith

abbrev same_line : NumberedRow → NumberedRow → Bool
same_line a b = eqb a.line b.line

flips : (a b : NumberedRow) → same_line a b ≡ same_line b a
flips a b = elim (cases_order a.line b.line) [
  | inl e ↦ eq-eqb a.line b.line e ∙ sym (eq-eqb b.line a.line (sym e))
  | inr (inl l) ↦ ne_eqb a.line b.line (λ e. omega (arith, e)) ∙ sym (ne_eqb b.line a.line (λ e. omega (arith, e)))
  | inr (inr l) ↦ ne_eqb a.line b.line (λ e. omega (arith, e)) ∙ sym (ne_eqb b.line a.line (λ e. omega (arith, e)))
]

-- a repeat is of two lines of the text
pub record IsRepeat (rows : List NumberedRow) (n : ℕ) : Type 0 where
  pub earlier : NumberedRow
  pub later : NumberedRow
  pub is_earlier : Contains rows earlier
  pub is_later : Contains rows later
  pub same : SamePrefix (row_in earlier) (row_in later)
  pub before : earlier.line < later.line
  pub line : later.line ≡ n

pub repeat_in : (rows sorted : List NumberedRow) (k n : ℕ) → AllPairs (λ p q. p.line < q.line) rows → IsPermutation rows sorted → AllPairs NotAfter sorted → IsRepeatAt sorted k n → IsRepeat rows n
repeat_in rows sorted k n rise moved order is =
    let p = get_or sorted k blank in
    let q = get_or sorted (k + 1) blank in
    let back = IsPermutation-sym rows sorted moved in
    let apart = apart_from_distinct same_line sorted k (k + 1) blank (IsDistinct-IsPermutation same_line flips rows sorted moved (IsDistinct-from_apart same_line rows (λ i j d l w. ne_eqb (get_or rows i d).line (get_or rows j d).line (λ e. omega (arith, e, rise i j d l w))))) (omega arith) is.within in
    let up = line_le p q (order k (k + 1) blank (omega arith) is.within) (is.same blank) in
    record {
      earlier = p;
      later = q;
      is_earlier = Contains-permutation sorted rows p back (Contains-get_or sorted k blank (omega (arith, is.within)));
      is_later = Contains-permutation sorted rows q back (Contains-get_or sorted (k + 1) blank is.within);
      same = is.same blank;
      before = elim (eq-or-lt_of_le up) [ inl e ↦ absurd (false≢true (sym apart ∙ eq-eqb p.line q.line e)) | inr l ↦ l ];
      line = is.line blank;
    }
  where
    blank : NumberedRow
    blank = record { bits = 0; len = 0; line = 0; asn = 0 }

    line_le : (a b : NumberedRow) → NotAfter a b → SamePrefix (row_in a) (row_in b) → a.line ≤ b.line
    line_le a b (inl (inl l)) (e, f) = absurd (omega arith)
    line_le a b (inl (inr (g, l))) (e, f) = absurd (omega arith)
    line_le a b (inr ((g, h), l)) (e, f) = l
