use Rattle.std.proofs.Common.{◌≤◌, ℕ, zero, suc, get_or, arith, refl}
use Rattle.bit_code.specs.Coder.{sizes, coder_after}
use Rattle.bit_code.specs.Inside.{HasClasses}
use Rattle.bit_code.specs.declared.coder.Classes.{Classes}
use Rattle.bit_code.specs.declared.coder.TheConstants.{AFTER_KINDS}
use Rattle.bit_code.proofs.coder.classes_after.Goals as goal

after_kind : (kind : ℕ) (d : Classes) → kind ≤ 3 → HasClasses (coder_after kind) (get_or AFTER_KINDS kind d)
unfolding sizes
after_kind zero d h = record { least = refl; sizes = refl; longest = refl; some = omega arith; fits = omega arith; short = omega arith; low = omega arith }
after_kind (suc zero) d h = record { least = refl; sizes = refl; longest = refl; some = omega arith; fits = omega arith; short = omega arith; low = omega arith }
after_kind (suc (suc zero)) d h = record { least = refl; sizes = refl; longest = refl; some = omega arith; fits = omega arith; short = omega arith; low = omega arith }
after_kind (suc (suc (suc zero))) d h = record { least = refl; sizes = refl; longest = refl; some = omega arith; fits = omega arith; short = omega arith; low = omega arith }
after_kind (suc (suc (suc (suc kind)))) d h = absurd (omega arith)

pub returns : goal.returns
returns c = after_kind c.args.kind (record { least = 0; first = 0; last = 0 }) c.requires
