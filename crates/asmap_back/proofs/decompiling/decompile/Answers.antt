use Rattle.std.proofs.Common.{◌≡◌, ℕ, ◌+◌, ◌<◌, List, length, Result, Err, refl, ap, sym, ◌∙◌, subst, inl, inr, arith}
use Rattle.std.specs.Prelude.{◌⊎◌, IsErrAnd}
use Rattle.std.proofs.lemmas.Result.{err_from_is_err_and}
use Rattle.bit_code.specs.Coder.{number_of}
use Rattle.prefix_table.specs.Rows.{best, IsTable}
use Rattle.prefix_table.specs.declared.rows.Row.{Row}
use Rattle.prefix_table.specs.declared.rows.TheConstants.{MAX_ROWS}
use Rattle.prefix_table.specs.declared.table.Table.{Table}
use Rattle.asmap_back.specs.Inside.{HasCause}
use Rattle.asmap_back.specs.declared.fault.BackFault.{BackFault}
use Rattle.asmap_back.specs.declared.fault.BackFault.TheVariants.{TooMany, Memory}
use Rattle.asmap_back.proofs.Ranges.{back_table}
use Rattle.asmap_back.proofs.BackLaws.{back_best, back_asn}
use Rattle.asmap_vm.specs.Held.{tree_held}
use Rattle.asmap_back.proofs.decompiling.decompile.Goals as goal

-- a fault that was handed on
abbrev HandedOn : Result Table BackFault → BackFault → Type 0
HandedOn r fault = (x : BackFault) × (r ≡ Err x) × (x ≡ fault)

which : (whole : List Row) (fault : BackFault) → HasCause whole fault → (fault ≡ Memory) ⊎ (fault ≡ TooMany (MAX_ROWS + 1))
which whole (TooMany n) cause = inr (ap TooMany cause.0)
which whole Memory cause = inl refl

one_of_two : (r : Result Table BackFault) (whole : List Row) (fault : BackFault) → HandedOn r fault → HasCause whole fault → IsErrAnd r (λ fault. (fault ≡ Memory) ⊎ (fault ≡ TooMany (MAX_ROWS + 1)))
one_of_two r whole fault left cause =
    subst (λ (x : Result Table BackFault). IsErrAnd x (λ fault. (fault ≡ Memory) ⊎ (fault ≡ TooMany (MAX_ROWS + 1)))) (sym (left.1 ∙ ap Err left.2)) (which whole fault cause)

same_fault : (r : Result Table BackFault) (x y : BackFault) → r ≡ Err x → r ≡ Err y → x ≡ y
same_fault r x y e f = cc

cause_of : (r : Result Table BackFault) (whole : List Row) (fault : BackFault) (rows : ℕ) → HandedOn r fault → HasCause whole fault → r ≡ Err (TooMany rows) → (rows ≡ MAX_ROWS + 1) × (MAX_ROWS < length whole)
cause_of r whole fault rows left cause e =
    subst (HasCause whole) (sym left.2 ∙ same_fault r left.0 (TooMany rows) left.1 e) cause

pub returns-in_err-rows-clause-too_many : goal.returns-in_err-rows-clause-too_many
returns-in_err-rows-clause-too_many c = λ many.
    one_of_two c.from_residual.result _ c.in_err-rows.field-0.0 (err_from_is_err_and c.from_residual.result c.from_residual.ensures.1) c.in_err-rows.ensures.cause

pub returns-in_err-rows-clause-cause : goal.returns-in_err-rows-clause-cause
returns-in_err-rows-clause-cause c = λ rows e.
    cause_of c.from_residual.result _ c.in_err-rows.field-0.0 rows (err_from_is_err_and c.from_residual.result c.from_residual.ensures.1) c.in_err-rows.ensures.cause e

pub unreachable-requires : goal.unreachable-requires
unreachable-requires c =
    let none : IsTable c.as_slice.result.now → ⊥ = rw c.in-None.is at c.in_ok-table.ensures.none in
    none (subst IsTable (sym (c.as_slice.ensures.value ∙ c.in_ok-rows.ensures.found)) (back_table (tree_held c.args.code.now) c.args.code.now.sane.sane c.in_ok-rows.ensures.few))

pub returns-clause-rows : goal.returns-clause-rows
returns-clause-rows c =
    let found : c.in-Some.table ≡ c.as_slice.result.now = rw c.in-Some.is at c.in_ok-table.ensures.found in
    found ∙ c.as_slice.ensures.value ∙ c.in_ok-rows.ensures.found

pub returns-clause-best : goal.returns-clause-best
returns-clause-best c = λ bits long.
    let found : c.in-Some.table ≡ c.as_slice.result.now = rw c.in-Some.is at c.in_ok-table.ensures.found in
    ap (λ (rows : List Row). best rows (number_of bits)) (found ∙ c.as_slice.ensures.value ∙ c.in_ok-rows.ensures.found)
    ∙ back_best (tree_held c.args.code.now) bits c.args.code.now.sane.sane c.in_ok-rows.ensures.few long

pub returns-clause-asn : goal.returns-clause-asn
returns-clause-asn c = λ address small.
    let found : c.in-Some.table ≡ c.as_slice.result.now = rw c.in-Some.is at c.in_ok-table.ensures.found in
    ap (λ (rows : List Row). best rows address) (found ∙ c.as_slice.ensures.value ∙ c.in_ok-rows.ensures.found)
    ∙ back_asn (tree_held c.args.code.now) address c.args.code.now.sane.sane c.in_ok-rows.ensures.few small

pub returns-clause-too_many : goal.returns-clause-too_many
returns-clause-too_many c = λ many. omega (arith, many, c.in_ok-rows.ensures.few)
