-- The members of a table have one list of rows, or a fault.
use Rattle.std.proofs.Common.{◌≡◌, ℕ, suc, ◌+◌, ◌<◌, ◌≤◌, List, [], ◌∷◌, ◌++◌, drop, drop-cons, get_or, length, map, take, refl, sym, ap, ◌∙◌, subst, arith}
use Rattle.std.specs.Borrow.{Bor}
use Rattle.std.proofs.lemmas.Grind.{take_at_read}
use Rattle.std.proofs.lemmas.List.{map-append, take-append-drop}
use Rattle.json.specs.Value.{members_view}
use Rattle.json.specs.declared.value.Value.{Value}
use Rattle.raw_read.specs.Inside.{member_view}
use Rattle.raw_read.specs.Rows.{AreRows, HasRowFault, HasTableFault, IsRow, Member, list_of, next_slot, slot_number}
use Rattle.raw_read.specs.declared.raw.RawFault.{RawFault}
use Rattle.raw_read.specs.declared.raw.RawFault.TheVariants.{Json as no_json, Form, Slot, Row, TooLarge, Memory}
use Rattle.raw_read.specs.declared.raw.RawRow.{RawRow}
use Rattle.raw_read.specs.declared.raw.RawTable.{RawTable}
use Rattle.raw_read.proofs.FieldLaws.{has_fields, one_rec}
use Rattle.raw_read.proofs.SlotNames.{one_slot}

-- the number of a row's slot
abbrev pub number : RawRow → ℕ
number row = slot_number row.bucket row.position

pub next-more : (from : ℕ) (rows : List RawRow) (row : RawRow) → next_slot from (rows ++ row ∷ []) ≡ number row + 1
unfolding next_slot
next-more from [] row = refl
next-more from (r ∷ rows) row = next-more (number r + 1) rows row

pub rows-more : (table : RawTable) (from : ℕ) (ms : List Member) (rows : List RawRow) (m : Member) (row : RawRow) → AreRows table from ms rows → IsRow table m row → next_slot from rows ≤ number row → AreRows table from (ms ++ m ∷ []) (rows ++ row ∷ [])
unfolding AreRows next_slot
rows-more table from [] [] m row h is after = (is, after, refl)
rows-more table from [] (r ∷ rows) m row h is after = absurd (omega (arith, ap length h))
rows-more table from (k ∷ ms) [] m row h is after = absurd h
rows-more table from (k ∷ ms) (r ∷ rows) m row h is after = (h.0, h.1, rows-more table (number r + 1) ms rows m row h.2 is after)

pub one_row : (table : RawTable) (m : Member) (a b : RawRow) → IsRow table m a → IsRow table m b → a ≡ b
one_row table m a b h k =
    let slot = one_slot table m.0 _ _ _ _ h.slot k.slot in
    let rec = one_rec m.1 a.rec b.rec h.rec k.rec in
    λ i. record { bucket = slot.0 i; position = slot.1 i; rec = rec i }

-- of members and some after them, the rows of the first ones are known from these
pub rows-one : (table : RawTable) (from : ℕ) (ms : List Member) (a b : List RawRow) → AreRows table from ms a → AreRows table from ms b → a ≡ b
unfolding AreRows
rows-one table from [] a b h k = h ∙ sym k
rows-one table from (m ∷ ms) [] b h k = absurd h
rows-one table from (m ∷ ms) (r ∷ a) [] h k = absurd k
rows-one table from (m ∷ ms) (r ∷ a) (s ∷ b) h k =
    let same = one_row table m r s h.0 k.0 in
    let rest = rows-one table (number s + 1) ms a b (subst (λ x. AreRows table (number x + 1) ms a) same h.2) k.2 in
    λ i. same i ∷ rest i

-- the row of a member that has others before and after it
pub record HasRowAt (table : RawTable) (from : ℕ) (ms : List Member) (bad : Member) : Type 0 where
  pub rows : List RawRow
  pub are : AreRows table from ms rows
  pub row : RawRow
  pub is : IsRow table bad row
  pub after : next_slot from rows ≤ number row

row-at : (table : RawTable) (from : ℕ) (ms : List Member) (bad : Member) (later : List Member) (rows : List RawRow) → AreRows table from (ms ++ bad ∷ later) rows → HasRowAt table from ms bad
unfolding AreRows next_slot
row-at table from [] bad later [] h = absurd h
row-at table from [] bad later (r ∷ rows) h = record { rows = []; are = refl; row = r; is = h.0; after = h.1 }
row-at table from (m ∷ ms) bad later [] h = absurd h
row-at table from (m ∷ ms) bad later (r ∷ rows) h =
    let rest = row-at table (number r + 1) ms bad later rows h.2 in
    record { rows = r ∷ rest.rows; are = (h.0, h.1, rest.are); row = rest.row; is = rest.is; after = rest.after }

-- a member with a row has no fault
pub no_row_fault : (table : RawTable) (from count : ℕ) (m : Member) (row : RawRow) (fault : RawFault) → IsRow table m row → from ≤ number row → HasRowFault table from count m fault → ⊥
no_row_fault table from count m row (Slot at index) is after h = omega (arith, after, h.2 row.bucket row.position is.slot)
no_row_fault table from count m row (Row at bucket position field) is after h = h.3.1 (has_fields m.1 row.rec field is.rec)
no_row_fault table from count m row no_json is after h = h
no_row_fault table from count m row Form is after h = h
no_row_fault table from count m row TooLarge is after h = h
no_row_fault table from count m row Memory is after h = h

pub no_fault : (table : RawTable) (ms : List Member) (rows : List RawRow) (fault : RawFault) → AreRows table 0 ms rows → HasTableFault table ms fault → ⊥
no_fault table ms rows fault are h =
    let at = row-at table 0 h.earlier h.bad h.later rows (subst (λ xs. AreRows table 0 xs rows) h.cut are) in
    let same = rows-one table 0 h.earlier at.rows h.rows at.are h.read in
    no_row_fault table (next_slot 0 h.rows) (length h.rows) h.bad at.row fault at.is (subst (λ rs. next_slot 0 rs ≤ number at.row) same at.after) h.cause

-- ---- members in memory

pub list-view : {A : Type 0} (ms : List (Bor (List ℕ) × Value A)) → list_of (members_view ms) ≡ map member_view ms
list-view [] = refl
list-view (m ∷ ms) = ap (λ xs. member_view m ∷ xs) (list-view ms)

pub next_members : {X : Type 0} (f : X → Member) (xs : List X) (i : ℕ) (x : X) → i < length xs → x ≡ get_or xs i x → map f (take (i + 1) xs) ≡ map f (take i xs) ++ f x ∷ []
next_members f xs i x lt is =
    ap (map f) ((take_at_read xs i x lt).1 ∙ ap (λ y. take i xs ++ y ∷ []) (sym is)) ∙ map-append f (take i xs) (x ∷ [])

cut_members : {X : Type 0} (f : X → Member) (xs : List X) (i : ℕ) (x : X) → i < length xs → x ≡ get_or xs i x → map f xs ≡ map f (take i xs) ++ f x ∷ map f (drop (suc i) xs)
cut_members f xs i x lt is =
    ap (map f) (sym (take-append-drop i xs) ∙ ap (λ ys. take i xs ++ ys) (drop-cons xs i x lt ∙ ap (λ y. y ∷ drop (suc i) xs) (sym is)))
    ∙ map-append f (take i xs) (x ∷ drop (suc i) xs)

-- one member more, with its row
pub read-more : {X : Type 0} (table : RawTable) (f : X → Member) (xs : List X) (i : ℕ) (x : X) (rows : List RawRow) (from : ℕ) (row : RawRow) → i < length xs → x ≡ get_or xs i x → AreRows table 0 (map f (take i xs)) rows → from ≡ next_slot 0 rows → IsRow table (f x) row → from ≤ number row → AreRows table 0 (map f (take (i + 1) xs)) (rows ++ row ∷ [])
read-more table f xs i x rows from row lt is are next row_is after =
    subst (λ ms. AreRows table 0 ms (rows ++ row ∷ [])) (sym (next_members f xs i x lt is))
    (rows-more table 0 (map f (take i xs)) rows (f x) row are row_is (subst (λ n. n ≤ number row) next after))

-- a member with a fault, after others that have none
pub faulty : {X : Type 0} (table : RawTable) (f : X → Member) (xs : List X) (i : ℕ) (x : X) (rows : List RawRow) (from count : ℕ) (fault : RawFault) → i < length xs → x ≡ get_or xs i x → AreRows table 0 (map f (take i xs)) rows → from ≡ next_slot 0 rows → count ≡ length rows → HasRowFault table from count (f x) fault → HasTableFault table (map f xs) fault
faulty table f xs i x rows from count fault lt is are next long cause = record {
  earlier = map f (take i xs);
  bad = f x;
  later = map f (drop (suc i) xs);
  cut = cut_members f xs i x lt is;
  rows = rows;
  read = are;
  cause = subst (λ n. HasRowFault table n (length rows) (f x) fault) next (subst (λ n. HasRowFault table from n (f x) fault) long cause);
}

pub rows-none : (table : RawTable) (rows : List RawRow) → rows ≡ [] → AreRows table 0 [] rows
unfolding AreRows
rows-none table rows is = is

pub next-none : (rows : List RawRow) → rows ≡ [] → 0 ≡ next_slot 0 rows
unfolding next_slot
next-none rows is = ap (next_slot 0) (sym is)
