-- A text is one of one list of rows, or has a fault.
use Rattle.std.proofs.Common.{◌≡◌, ◌≢◌, ℕ, List, codes, map, sym, ap, ◌∙◌, subst, inl, inr, Some, None, Result, Ok, Err}
use Rattle.std.specs.Prelude.{IfErr, IfOk, option_and_then, option_map}
use Rattle.std.proofs.lemmas.Option.{none-some}
use Rattle.std.proofs.lemmas.List.{append_cancel_right}
use Rattle.std.specs.Borrow.{Bor}
use Rattle.json.specs.Json.{Json, document}
use Rattle.json.specs.Find.{as_object, get}
use Rattle.json.specs.Value.{members_view}
use Rattle.json.specs.declared.value.Value.{Value}
use Rattle.raw_read.specs.Inside.{member_view}
use Rattle.raw_read.specs.Raw.{HasMemberFault, HasRawFault, HasTables, IsJson, IsRaw, IsWithoutEnd, members_at}
use Rattle.raw_read.specs.Rows.{AreRows, HasRowFault, Member, list_of}
use Rattle.raw_read.specs.declared.raw.RawFault.{RawFault}
use Rattle.raw_read.specs.declared.raw.RawFault.TheVariants.{Json as no_json, Form, Slot, Row, TooLarge, Memory}
use Rattle.raw_read.specs.declared.raw.Raw.{Raw}
use Rattle.raw_read.specs.declared.raw.RawTable.{RawTable}
use Rattle.raw_read.specs.declared.raw.RawTable.TheVariants.{New, Tried}
use Rattle.raw_read.proofs.FieldLaws.{same_some}
use Rattle.raw_read.proofs.RowLaws.{list-view, no_fault, rows-one}

one_line : (text a b : List ℕ) → IsWithoutEnd text a → IsWithoutEnd text b → a ≡ b
one_line text a b (inl h) (inl k) = append_cancel_right a b (codes "\n") (sym h ∙ k)
one_line text a b (inl h) (inr k) = absurd (k.1 a h)
one_line text a b (inr h) (inl k) = absurd (h.1 b k)
one_line text a b (inr h) (inr k) = sym h.0 ∙ k.0

pub one_json : (bytes : List ℕ) (i j : Json) → IsJson bytes i → IsJson bytes j → i ≡ j
one_json bytes i j h k =
    let line = one_line bytes h.line k.line h.without_end k.without_end in
    same_some i j (sym h.value ∙ ap document line ∙ k.value)

pub one_tables : (i j : Json) (a b c d : List Member) → i ≡ j → HasTables i a b → HasTables j c d → (a ≡ c) × (b ≡ d)
one_tables i j a b c d same h k =
    let t = subst (λ v. HasTables v a b) same h in
    (same_some a c (sym t.of_new ∙ k.of_new), same_some b d (sym t.of_tried ∙ k.of_tried))

pub one_raw : (bytes : List ℕ) (a b : Raw) → IsRaw bytes a → IsRaw bytes b → a ≡ b
one_raw bytes a b h k =
    let value = one_json bytes h.value k.value h.json k.json in
    let tables = one_tables h.value k.value h.new h.tried k.new k.tried value h.tables k.tables in
    let new = rows-one New 0 k.new a.new b.new (subst (λ ms. AreRows New 0 ms a.new) tables.0 h.new_rows) k.new_rows in
    let tried = rows-one Tried 0 k.tried a.tried b.tried (subst (λ ms. AreRows Tried 0 ms a.tried) tables.1 h.tried_rows) k.tried_rows in
    λ i. record { new = new i; tried = tried i }

-- ---- a text of rows has no fault

no_member_fault : (bytes : List ℕ) (raw : Raw) (fault : RawFault) → IsRaw bytes raw → HasMemberFault bytes fault → ⊥
no_member_fault bytes raw fault h k =
    let value = one_json bytes h.value k.value h.json k.json in
    let tables = one_tables h.value k.value h.new h.tried k.new k.tried value h.tables k.tables in
    let new = subst (λ ms. AreRows New 0 ms raw.new) tables.0 h.new_rows in
    let tried = subst (λ ms. AreRows Tried 0 ms raw.tried) tables.1 h.tried_rows in
    elim k.first [
      | inl first ↦ no_fault New k.new raw.new fault new first
      | inr later ↦ no_fault Tried k.tried raw.tried fault tried later.2
    ]

pub no_raw_fault : (bytes : List ℕ) (raw : Raw) (fault : RawFault) → IsRaw bytes raw → HasRawFault bytes fault → ⊥
no_raw_fault bytes raw no_json h k = k h.value h.json
no_raw_fault bytes raw Form h k =
    k.none h.new h.tried (subst (λ v. HasTables v h.new h.tried) (one_json bytes h.value k.value h.json k.json) h.tables)
no_raw_fault bytes raw (Slot table index) h k = no_member_fault bytes raw (Slot table index) h k
no_raw_fault bytes raw (Row table bucket position field) h k = no_member_fault bytes raw (Row table bucket position field) h k
no_raw_fault bytes raw TooLarge h k = no_member_fault bytes raw TooLarge h k
no_raw_fault bytes raw Memory h k = no_member_fault bytes raw Memory h k

-- ---- tables in memory

pub there : {A : Type 0} (name : List ℕ) (j : Json) (ms : List (Bor (List ℕ) × Value A)) → Some (members_view ms) ≡ option_and_then as_object (get name j) → members_at name j ≡ Some (map member_view ms)
there name j ms e = ap (option_map list_of) (sym e) ∙ ap Some (list-view ms)

pub absent : (name : List ℕ) (j : Json) (ms : List Member) → None ≡ option_and_then as_object (get name j) → members_at name j ≡ Some ms → ⊥
absent name j ms e h = none-some ms (ap (option_map list_of) e ∙ h)

refuted : (bytes : List ℕ) (fault : RawFault) → ((table : RawTable) (from count : ℕ) (m : Member) → ¬ HasRowFault table from count m fault) → ¬ HasMemberFault bytes fault
refuted bytes fault none h = elim h.first [
  | inl first ↦ none New _ _ _ first.cause
  | inr later ↦ none Tried _ _ _ later.2.cause
]

-- the fault of a table is that of the text
pub member_cause : (bytes : List ℕ) (fault : RawFault) → HasMemberFault bytes fault → HasRawFault bytes fault
member_cause bytes no_json h = absurd (refuted bytes no_json (λ table from count m k. k) h)
member_cause bytes Form h = absurd (refuted bytes Form (λ table from count m k. k) h)
member_cause bytes (Slot table index) h = h
member_cause bytes (Row table bucket position field) h = h
member_cause bytes TooLarge h = h
member_cause bytes Memory h = h

pub only_one : (bytes : List ℕ) (r : Result Raw RawFault) → IfOk r (IsRaw bytes) → IfErr r (λ f. f ≢ Memory → HasRawFault bytes f) → (raw : Raw) → IsRaw bytes raw → r ≢ Err Memory → r ≡ Ok raw
only_one bytes (Ok a) found cause raw h some = ap Ok (one_raw bytes a raw found h)
only_one bytes (Err f) found cause raw h some = absurd (no_raw_fault bytes raw f h (cause (λ e. some (ap Err e))))

pub both : {A : Type 0} (j : Json) (new tried : List (Bor (List ℕ) × Value A)) → Some (members_view new) ≡ option_and_then as_object (get (codes "new") j) → Some (members_view tried) ≡ option_and_then as_object (get (codes "tried") j) → HasTables j (map member_view new) (map member_view tried)
both j new tried h k = record { of_new = there (codes "new") j new h; of_tried = there (codes "tried") j tried k }
