-- A text has one fault at most.
use Rattle.std.proofs.Common.{◌≡◌, ◌≢◌, ℕ, ◌+◌, List, [], ◌∷◌, ◌++◌, drop, length, refl, sym, ap, ◌∙◌, subst, arith, inl, inr, get_or}
use Rattle.std.specs.Prelude.{IfErr, IfOk, Result, Ok, Err}
use Rattle.json.specs.Json.{Json}
use Rattle.raw_read.specs.Fields.{Lacks}
use Rattle.raw_read.specs.Raw.{HasMemberFault, HasNoForm, HasRawFault, HasTables, IsJson, IsRaw}
use Rattle.raw_read.specs.Rows.{AreRows, HasRowFault, HasTableFault, IsRow, Member, next_slot}
use Rattle.raw_read.specs.declared.raw.Field.{Field}
use Rattle.raw_read.specs.declared.raw.Field.TheVariants.{Address as an_address, Port, Services, Time, Source}
use Rattle.raw_read.specs.declared.raw.RawFault.{RawFault}
use Rattle.raw_read.specs.declared.raw.RawFault.TheVariants.{Json as no_json, Form, Slot, Row, TooLarge, Memory}
use Rattle.raw_read.specs.declared.raw.Raw.{Raw}
use Rattle.raw_read.specs.declared.raw.RawRow.{RawRow}
use Rattle.raw_read.specs.declared.raw.RawTable.{RawTable}
use Rattle.raw_read.specs.declared.raw.RawTable.TheVariants.{New, Tried}
use Rattle.raw_read.proofs.RawLaws.{no_raw_fault, one_json, one_tables}
use Rattle.raw_read.proofs.RowLaws.{no_fault, no_row_fault, number, one_row}
use Rattle.raw_read.proofs.SlotNames.{one_slot}

-- the first missing field is one
one_lack : (j : Json) (f g : Field) → Lacks j f → Lacks j g → f ≡ g
one_lack j an_address an_address h k = refl
one_lack j an_address Port h k = absurd (h.1 k.0)
one_lack j an_address Services h k = absurd (h.1 k.0.0)
one_lack j an_address Time h k = absurd (h.1 k.0.0)
one_lack j an_address Source h k = absurd (h.1 k.0.0)
one_lack j Port an_address h k = absurd (k.1 h.0)
one_lack j Port Port h k = refl
one_lack j Port Services h k = absurd (h.1 k.0.1)
one_lack j Port Time h k = absurd (h.1 k.0.1)
one_lack j Port Source h k = absurd (h.1 k.0.1)
one_lack j Services an_address h k = absurd (k.1 h.0.0)
one_lack j Services Port h k = absurd (k.1 h.0.1)
one_lack j Services Services h k = refl
one_lack j Services Time h k = absurd (h.1 k.0.2)
one_lack j Services Source h k = absurd (h.1 k.0.2)
one_lack j Time an_address h k = absurd (k.1 h.0.0)
one_lack j Time Port h k = absurd (k.1 h.0.1)
one_lack j Time Services h k = absurd (k.1 h.0.2)
one_lack j Time Time h k = refl
one_lack j Time Source h k = absurd (h.1 k.0.3)
one_lack j Source an_address h k = absurd (k.1 h.0.0)
one_lack j Source Port h k = absurd (k.1 h.0.1)
one_lack j Source Services h k = absurd (k.1 h.0.2)
one_lack j Source Time h k = absurd (k.1 h.0.3)
one_lack j Source Source h k = refl

one_row_fault : (table : RawTable) (from count : ℕ) (m : Member) (f g : RawFault) → HasRowFault table from count m f → HasRowFault table from count m g → f ≡ g
one_row_fault table from count m (Slot a i) (Slot b k) h l =
    let at = h.0 ∙ sym l.0 in
    let index = h.1 ∙ sym l.1 in
    λ x. Slot (at x) (index x)
one_row_fault table from count m (Slot a i) (Row b bucket position field) h l = absurd (omega (arith, h.2 bucket position l.1, l.2))
one_row_fault table from count m (Row a bucket position field) (Slot b k) h l = absurd (omega (arith, l.2 bucket position h.1, h.2))
one_row_fault table from count m (Row a bucket position field) (Row b c p g) h l =
    let at = h.0 ∙ sym l.0 in
    let slot = one_slot table m.0 _ _ _ _ h.1 l.1 in
    let lack = one_lack m.1 field g h.3 l.3 in
    λ x. Row (at x) (slot.0 x) (slot.1 x) (lack x)
one_row_fault table from count m no_json g h l = absurd h
one_row_fault table from count m Form g h l = absurd h
one_row_fault table from count m TooLarge g h l = absurd h
one_row_fault table from count m Memory g h l = absurd h
one_row_fault table from count m (Slot a i) no_json h l = absurd l
one_row_fault table from count m (Slot a i) Form h l = absurd l
one_row_fault table from count m (Slot a i) TooLarge h l = absurd l
one_row_fault table from count m (Slot a i) Memory h l = absurd l
one_row_fault table from count m (Row a bucket position field) no_json h l = absurd l
one_row_fault table from count m (Row a bucket position field) Form h l = absurd l
one_row_fault table from count m (Row a bucket position field) TooLarge h l = absurd l
one_row_fault table from count m (Row a bucket position field) Memory h l = absurd l

head_is : (a b : Member) (ls ms : List Member) → a ∷ ls ≡ b ∷ ms → a ≡ b
head_is a b ls ms e = ap (λ xs. get_or xs 0 a) e

tail_is : (a b : Member) (ls ms : List Member) → a ∷ ls ≡ b ∷ ms → ls ≡ ms
tail_is a b ls ms e = ap (λ xs. drop 1 xs) e

-- two cuts of members at a fault are one
one_cut_fault : (table : RawTable) (from m n : ℕ) (ls ms : List Member) (a b : Member) (later more : List Member) (rs ss : List RawRow) (f g : RawFault) → ls ++ a ∷ later ≡ ms ++ b ∷ more → AreRows table from ls rs → AreRows table from ms ss → m + length ss ≡ n + length rs → HasRowFault table (next_slot from rs) m a f → HasRowFault table (next_slot from ss) n b g → f ≡ g
unfolding AreRows next_slot
one_cut_fault table from m n [] [] a b later more [] [] f g cut h k long x y =
    let same = head_is a b later more cut in
    let count : m ≡ n = omega (arith, long) in
    one_row_fault table from n b f g (subst (λ z. HasRowFault table from n z f) same (subst (λ c. HasRowFault table from c a f) count x)) y
one_cut_fault table from m n [] ms a b later more (r ∷ rs) ss f g cut h k long x y = cc
one_cut_fault table from m n [] [] a b later more [] (s ∷ ss) f g cut h k long x y = cc
one_cut_fault table from m n [] (c ∷ ms) a b later more [] [] f g cut h k long x y = absurd k
one_cut_fault table from m n [] (c ∷ ms) a b later more [] (s ∷ ss) f g cut h k long x y =
    let same = head_is a c later (ms ++ b ∷ more) cut in
    absurd (no_row_fault table from m c s f k.0 k.1 (subst (λ z. HasRowFault table from m z f) same x))
one_cut_fault table from m n (c ∷ ls) ms a b later more [] ss f g cut h k long x y = absurd h
one_cut_fault table from m n (c ∷ ls) [] a b later more (r ∷ rs) [] f g cut h k long x y =
    let same = head_is c b (ls ++ a ∷ later) more cut in
    absurd (no_row_fault table from n c r g h.0 h.1 (subst (λ z. HasRowFault table from n z g) (sym same) y))
one_cut_fault table from m n (c ∷ ls) [] a b later more (r ∷ rs) (s ∷ ss) f g cut h k long x y = cc
one_cut_fault table from m n (c ∷ ls) (d ∷ ms) a b later more (r ∷ rs) [] f g cut h k long x y = absurd k
one_cut_fault table from m n (c ∷ ls) (d ∷ ms) a b later more (r ∷ rs) (s ∷ ss) f g cut h k long x y =
    let same = head_is c d (ls ++ a ∷ later) (ms ++ b ∷ more) cut in
    let row = one_row table c r s h.0 (subst (λ z. IsRow table z s) (sym same) k.0) in
    let start = ap (λ z. number z + 1) row in
    one_cut_fault table (number s + 1) m n ls ms a b later more rs ss f g (tail_is c d (ls ++ a ∷ later) (ms ++ b ∷ more) cut)
    (subst (λ z. AreRows table z ls rs) start h.2) k.2 (omega (arith, long))
    (subst (λ z. HasRowFault table (next_slot z rs) m a f) start x) y

one_table_fault : (table : RawTable) (ms : List Member) (f g : RawFault) → HasTableFault table ms f → HasTableFault table ms g → f ≡ g
one_table_fault table ms f g h k =
    one_cut_fault table 0 (length h.rows) (length k.rows) h.earlier k.earlier h.bad k.bad h.later k.later h.rows k.rows f g (sym h.cut ∙ k.cut) h.read k.read (omega arith) h.cause k.cause

one_member_fault : (bytes : List ℕ) (f g : RawFault) → HasMemberFault bytes f → HasMemberFault bytes g → f ≡ g
one_member_fault bytes f g h k =
    let value = one_json bytes h.value k.value h.json k.json in
    let tables = one_tables h.value k.value h.new h.tried k.new k.tried value h.tables k.tables in
    elim h.first [
      | inl x ↦ elim k.first [
        | inl y ↦ one_table_fault New k.new f g (subst (λ ms. HasTableFault New ms f) tables.0 x) y
        | inr y ↦ absurd (no_fault New k.new y.0 f y.1 (subst (λ ms. HasTableFault New ms f) tables.0 x))
      ]
      | inr x ↦ elim k.first [
        | inl y ↦ absurd (no_fault New k.new x.0 g (subst (λ ms. AreRows New 0 ms x.0) tables.0 x.1) y)
        | inr y ↦ one_table_fault Tried k.tried f g (subst (λ ms. HasTableFault Tried ms f) tables.1 x.2) y.2
      ]
    ]

form_apart : (bytes : List ℕ) (f : RawFault) → HasNoForm bytes → HasMemberFault bytes f → ⊥
form_apart bytes f h k =
    h.none k.new k.tried (subst (λ v. HasTables v k.new k.tried) (one_json bytes k.value h.value k.json h.json) k.tables)

-- a fault of a member is no other fault
with_member : (bytes : List ℕ) (f g : RawFault) → HasMemberFault bytes f → HasRawFault bytes g → f ≡ g
with_member bytes f no_json h k = absurd (k h.value h.json)
with_member bytes f Form h k = absurd (form_apart bytes f k h)
with_member bytes f (Slot table index) h k = one_member_fault bytes f (Slot table index) h k
with_member bytes f (Row table bucket position field) h k = one_member_fault bytes f (Row table bucket position field) h k
with_member bytes f TooLarge h k = one_member_fault bytes f TooLarge h k
with_member bytes f Memory h k = one_member_fault bytes f Memory h k

with_form : (bytes : List ℕ) (g : RawFault) → HasNoForm bytes → HasRawFault bytes g → Form ≡ g
with_form bytes no_json h k = absurd (k h.value h.json)
with_form bytes Form h k = refl
with_form bytes (Slot table index) h k = absurd (form_apart bytes (Slot table index) h k)
with_form bytes (Row table bucket position field) h k = absurd (form_apart bytes (Row table bucket position field) h k)
with_form bytes TooLarge h k = absurd (form_apart bytes TooLarge h k)
with_form bytes Memory h k = absurd (form_apart bytes Memory h k)

with_json : (bytes : List ℕ) (g : RawFault) → ((j : Json) → ¬ IsJson bytes j) → HasRawFault bytes g → no_json ≡ g
with_json bytes no_json h k = refl
with_json bytes Form h k = absurd (h k.value k.json)
with_json bytes (Slot table index) h k = absurd (h k.value k.json)
with_json bytes (Row table bucket position field) h k = absurd (h k.value k.json)
with_json bytes TooLarge h k = absurd (h k.value k.json)
with_json bytes Memory h k = absurd (h k.value k.json)

one_fault : (bytes : List ℕ) (f g : RawFault) → HasRawFault bytes f → HasRawFault bytes g → f ≡ g
one_fault bytes no_json g h k = with_json bytes g h k
one_fault bytes Form g h k = with_form bytes g h k
one_fault bytes (Slot table index) g h k = with_member bytes (Slot table index) g h k
one_fault bytes (Row table bucket position field) g h k = with_member bytes (Row table bucket position field) g h k
one_fault bytes TooLarge g h k = with_member bytes TooLarge g h k
one_fault bytes Memory g h k = with_member bytes Memory g h k

pub exact_one : (bytes : List ℕ) (r : Result Raw RawFault) → IfOk r (IsRaw bytes) → IfErr r (λ f. f ≢ Memory → HasRawFault bytes f) → (fault : RawFault) → HasRawFault bytes fault → r ≢ Err Memory → r ≡ Err fault
exact_one bytes (Ok a) found cause fault h some = absurd (no_raw_fault bytes a fault found h)
exact_one bytes (Err f) found cause fault h some = ap Err (one_fault bytes f fault (cause (λ e. some (ap Err e))) h)
