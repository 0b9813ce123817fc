-- One search for a row that covers an address.
use Rattle.std.proofs.Common.{◌≡◌, ◌⊎◌, ℕ, ◌-◌, ◌*◌, ◌^◌, ◌<◌, ◌≤◌, ◌↔◌, true, List, ◌∙◌, ap, sym, subst, arith, inl, inr}
use Rattle.std.specs.Prelude.{Contains, nat_lt, nat_le, nat_eq, ◌&&◌, ◌||◌}
use Rattle.std.proofs.lemmas.List.Elements.{All-contains}
use Rattle.std.proofs.lemmas.Bool.{cases_lt, eqb-true, eq-eqb}
use Rattle.std.proofs.lemmas.Bool.Decides.{nat_tests}
use Rattle.prefix_table.specs.Rows.{Precedes, IsRow, IsTable, IsLongest, row_covers, first_bits}
use Rattle.prefix_table.specs.Inside.{cut, is_up_to}
use Rattle.prefix_table.specs.declared.rows.Row.{Row}
use Rattle.prefix_table.proofs.BitLaws.{first_bits_between, cut_clear, cut_rises, cut_le}

-- what one search has found for the prefixes of at most this many bits
pub record IsLast (rows : List Row) (address most : ℕ) (row : Row) : Type 0 where
  pub is_row : Contains rows row
  pub up_to : is_up_to (cut address most) most row ≡ true
  pub last : (other : Row) → Contains rows other → is_up_to (cut address most) most other ≡ true → (other ≡ row) ⊎ Precedes other row

pub IsLast-from : (rows : List Row) (address most bits : ℕ) (row : Row) → bits ≡ cut address most → Contains rows row → is_up_to bits most row ≡ true → ((other : Row) → Contains rows other → is_up_to bits most other ≡ true → (other ≡ row) ⊎ Precedes other row) → IsLast rows address most row
IsLast-from rows address most bits row e has up_to last = record {
  is_row = has;
  up_to = subst (λ n. is_up_to n most row ≡ true) e up_to;
  last = subst (λ n. (other : Row) → Contains rows other → is_up_to n most other ≡ true → (other ≡ row) ⊎ Precedes other row) e last;
}

-- the two agree in the first bits, as many as this and no more
pub record AreCommon (a b common : ℕ) : Type 0 where
  pub most : common ≤ 128
  pub agree : (len : ℕ) → len ≤ 128 → (first_bits len a ≡ first_bits len b) ↔ (len ≤ common)

-- no row of more than this many bits covers the address
abbrev pub IsLeft : List Row → ℕ → ℕ → Type 0
IsLeft rows address most = (row : Row) → Contains rows row → row_covers row address ≡ true → row.len ≤ most

covers_is : (row : Row) (address : ℕ) → row_covers row address ≡ true → first_bits row.len address ≡ first_bits row.len row.bits
covers_is row address c = eqb-true (first_bits row.len address) (first_bits row.len row.bits) c

-- a row that covers the address has the first bits of the address
pub begins_at : (row : Row) (address : ℕ) → IsRow row → row_covers row address ≡ true → row.bits ≡ cut address row.len
begins_at row address is c =
    cut_clear row.bits row.len is.clear ∙ ap (λ n. n * 2 ^ (128 - row.len)) (sym (covers_is row address c))

up_to_from : (rb rl bits len : ℕ) → rb ≤ bits → rl ≤ len → nat_lt rb bits || (nat_eq rb bits && nat_le rl len) ≡ true
up_to_from rb rl bits len below short = grind (arith, nat_tests)

from_up_to : (rb rl bits len : ℕ) → nat_lt rb bits || (nat_eq rb bits && nat_le rl len) ≡ true → (rb < bits) ⊎ ((rb ≡ bits) × (rl ≤ len))
from_up_to rb rl bits len up_to = grind (arith, nat_tests)

pub covering_up_to : (row : Row) (address most : ℕ) → IsRow row → row_covers row address ≡ true → row.len ≤ most → most ≤ 128 → is_up_to (cut address most) most row ≡ true
covering_up_to row address most is c short top =
    up_to_from row.bits row.len (cut address most) most (omega (arith, begins_at row address is c, cut_rises address row.len most short top)) short

le_up_to : (row : Row) (address most : ℕ) → is_up_to (cut address most) most row ≡ true → row.bits ≤ address
le_up_to row address most up_to = elim (from_up_to row.bits row.len (cut address most) most up_to) [
  | inl below ↦ omega (arith, cut_le address most)
  | inr (at, short) ↦ omega (arith, cut_le address most)
]

-- the row that was found covers the address if the two agree in as many bits as it has
pub covers_from : (row : Row) (address common : ℕ) → row.len ≤ 128 → AreCommon address row.bits common → row.len ≤ common → row_covers row address ≡ true
covers_from row address common len are short = eq-eqb (first_bits row.len address) (first_bits row.len row.bits) ((are.agree row.len len).1 short)

-- a row that covers the address is the one that was found, or its first bits are that one's too
pub before_last : (rows : List Row) (address most common : ℕ) (row other : Row) → IsTable rows → most ≤ 128 → IsLeft rows address most → IsLast rows address most row → AreCommon address row.bits common → Contains rows other → row_covers other address ≡ true → (other ≡ row) ⊎ ((other.len ≤ common) × Precedes other row)
before_last rows address most common row other table top left last are has c =
    let is = All-contains IsRow rows other table.each has in
    elim (last.last other has (covering_up_to other address most is c (left other has c) top)) [
      | inl e ↦ inl e
      | inr before ↦
          let up : other.bits ≤ row.bits = elim before [ inl l ↦ omega arith | inr (e, l) ↦ omega arith ] in
          let same = first_bits_between other.len other.bits row.bits address up (le_up_to row address most last.up_to) (sym (covers_is other address c)) in
          inr ((are.agree other.len is.len).0 (sym same), before)
    ]

-- fewer bits are left
pub left_after : (rows : List Row) (address most common : ℕ) (row : Row) → IsTable rows → most ≤ 128 → IsLeft rows address most → IsLast rows address most row → AreCommon address row.bits common → common < row.len → IsLeft rows address common
left_after rows address most common row table top left last are short other has c =
    elim (before_last rows address most common row other table top left last are has c) [
      | inl e ↦
          let len = (All-contains IsRow rows row table.each last.is_row).len in
          let c' : row_covers row address ≡ true = subst (λ (r : Row). row_covers r address ≡ true) e c in
          absurd (omega (arith, (are.agree row.len len).0 (covers_is row address c')))
      | inr w ↦ w.0
    ]

pub fewer_left : (rows : List Row) (address most common : ℕ) (row : Row) → most ≤ 128 → IsLast rows address most row → AreCommon address row.bits common → common < row.len → common < most
fewer_left rows address most common row top last are short =
    elim (cases_lt common most) [
      | inl fewer ↦ fewer
      | inr more ↦
          let same = (are.agree most top).1 more in
          let begins : cut address most ≤ row.bits =
          subst (λ n. n * 2 ^ (128 - most) ≤ row.bits) (sym same) (cut_le row.bits most) in
          elim (from_up_to row.bits row.len (cut address most) most last.up_to) [
            | inl below ↦ absurd (omega arith)
            | inr (at, fits) ↦ absurd (omega arith)
          ]
    ]

-- the row that was found is the longest
pub longest_found : (rows : List Row) (address most common : ℕ) (row : Row) → IsTable rows → most ≤ 128 → IsLeft rows address most → IsLast rows address most row → AreCommon address row.bits common → row.len ≤ common → IsLongest rows address row
longest_found rows address most common row table top left last are fits =
    let is = All-contains IsRow rows row table.each last.is_row in
    let c = covers_from row address common is.len are fits in
    record {
      is_row = last.is_row;
      is_prefix = c;
      most = λ other has oc.
          elim (before_last rows address most common row other table top left last are has oc) [
            | inl e ↦ omega (arith, ap (λ (r : Row). r.len) e)
            | inr (w, before) ↦
                let ois = All-contains IsRow rows other table.each has in
                elim (cases_lt row.len other.len) [
                  | inl longer ↦
                      let up = cut_rises address row.len other.len (omega arith) ois.len in
                      elim before [
                        | inl l ↦ absurd (omega (arith, begins_at row address is c, begins_at other address ois oc))
                        | inr (e, l) ↦ absurd (omega arith)
                      ]
                  | inr short ↦ short
                ]
          ];
    }

-- if a search finds nothing, no row covers the address
pub none_covers : (rows : List Row) (address most bits : ℕ) → IsTable rows → most ≤ 128 → IsLeft rows address most → bits ≡ cut address most → ((other : Row) → Contains rows other → is_up_to bits most other ≡ true → ⊥) → (row : Row) → Contains rows row → row_covers row address ≡ true → ⊥
none_covers rows address most bits table top left e none row has c =
    let up_to = covering_up_to row address most (All-contains IsRow rows row table.each has) c (left row has c) top in
    none row has (subst (λ n. is_up_to n most row ≡ true) (sym e) up_to)
