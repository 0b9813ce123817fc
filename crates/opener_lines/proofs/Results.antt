-- Facts on results, whatever they hold.
use Rattle.std.proofs.Common.{◌≡◌, Result, Ok, Err, ap}
use Rattle.grammar.specs.declared.fault.LineFault.{LineFault}

fault_in : {T : Type 0} → LineFault → Result T LineFault → LineFault
fault_in fault (Ok x) = fault
fault_in fault (Err e) = e

-- a fault of one result is that of another
pub same_fault : {A B : Type 0} (e f : LineFault) → ◌≡◌ {A = Result A LineFault} (Err e) (Err f) → ◌≡◌ {A = Result B LineFault} (Err e) (Err f)
unfolding fault_in
same_fault {A = A} {B = B} e f is = ap err (ap (fault_in e) is)
  where
    err : LineFault → Result B LineFault
    err x = Err x

pub no_fault : {A : Type 0} (x : A) (f : LineFault) → ◌≡◌ {A = Result A LineFault} (Ok x) (Err f) → ⊥
no_fault x f e = cc e

value_in : {T : Type 0} → T → Result T LineFault → T
value_in other (Ok x) = x
value_in other (Err e) = other

pub same_value : {T : Type 0} (x y : T) → ◌≡◌ {A = Result T LineFault} (Ok x) (Ok y) → x ≡ y
unfolding value_in
same_value x y e = ap (value_in x) e
