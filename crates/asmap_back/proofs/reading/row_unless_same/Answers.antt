use Rattle.std.proofs.Common.{◌≡◌, ℕ, Bool, [], ◌∷◌, cond, ap, sym, ◌∙◌, eq-eqb}
use Rattle.std.proofs.lemmas.Bool.{ne_eqb}
use Rattle.prefix_table.specs.declared.rows.Row.{Row}
use Rattle.asmap_back.specs.Back.{unless_same}
use Rattle.asmap_back.specs.Inside.{row_of}
use Rattle.asmap_back.proofs.reading.row_unless_same.Goals as goal

-- a row with another number
other_number : (row : Row) (last : ℕ) → (row.asn ≡ last → ⊥) → unless_same row last ≡ row ∷ []
unfolding unless_same
other_number row last other = ap (λ (b : Bool). cond b [] (row ∷ [])) (ne_eqb row.asn last other)

-- a row with the same number
same_number : (row : Row) (last : ℕ) → row.asn ≡ last → unless_same row last ≡ []
unfolding unless_same
same_number row last e = ap (λ (b : Bool). cond b [] (row ∷ [])) (eq-eqb row.asn last e)

pub returns-then-asn-part : goal.returns-then-asn-part
returns-then-asn-part c = sym (same_number (row_of c.args.part c.args.asn) c.args.part.last c.if-asn-part.true)

pub returns : goal.returns
returns c =
    ap (λ (r : Row). r ∷ []) c.row_of.ensures
    ∙ sym (other_number (row_of c.args.part c.args.asn) c.args.part.last c.if-asn-part.false)
