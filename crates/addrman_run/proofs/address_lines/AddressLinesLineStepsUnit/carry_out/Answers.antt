use Rattle.std.proofs.Common.{◌≡◌, None, Result, Err, ap, refl, sym, ◌∙◌, rules}
use Rattle.std.proofs.lemmas.Bool.{iff_false}
use Rattle.std.proofs.lemmas.Option.{none-some}
use Rattle.grammar.specs.declared.fault.LineFault.{LineFault}
use Rattle.log_run.specs.declared.line_steps.Stop.{Stop}
use Rattle.log_run.specs.declared.line_steps.Stop.TheVariants as stop
use Rattle.addrman_run.proofs.address_lines.AddressLinesLineStepsUnit.carry_out.Goals as goal

-- the fault of an error
fault_in : LineFault → Result (Unit {0}) Stop → LineFault
fault_in none (Err (stop.Fault fault)) = fault
fault_in none other = none

same_fault : (f g : LineFault) → ◌≡◌ {A = Result (Unit {0}) Stop} (Err (stop.Fault f)) (Err (stop.Fault g)) → g ≡ f
unfolding fault_in
same_fault f g is = sym (ap (fault_in f) is)

pub returns-in_default-clause-fault : goal.returns-in_default-clause-fault
returns-in_default-clause-fault c = λ fault is.
    let none : c.parse_text.result ≡ None = search rules in (
      (
        iff_false c.is_passed_over.ensures c.if-is_passed_over.false,
        same_fault _ fault is,
        λ a means. none-some a (sym none ∙ c.parse_text.ensures.only a means),
      ),
      refl,
    )
