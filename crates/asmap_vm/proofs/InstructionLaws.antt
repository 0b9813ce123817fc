-- An instruction and its kind and number.
use Rattle.std.proofs.Common.{◌≡◌, ℕ, zero, suc, ◌<◌, Bool, List, refl, arith}
use Rattle.bit_code.specs.Coder.{HasValue, SpellsBoth, coder_after, values_of, sizes}
use Rattle.bit_code.specs.declared.coder.Coder.TheVariants as coders
use Rattle.asmap_vm.specs.Instructions.{kind_of, coder_of, number_in, instruction_at, IsNext}
use Rattle.asmap_vm.specs.declared.instruction.Instruction.{Instruction}
use Rattle.asmap_vm.specs.declared.instruction.Instruction.TheVariants as instructions

four_kinds : values_of (sizes coders.Kind) ≡ 4
unfolding values_of sizes
four_kinds = refl

kind-lt : (kind : ℕ) → HasValue coders.Kind kind → kind < 4
kind-lt kind h = omega (arith, h.high, four_kinds)

kind_value : (i : Instruction) → HasValue coders.Kind (kind_of i)
kind_value (instructions.Return n) = record { low = omega arith; high = omega (arith, four_kinds) }
kind_value (instructions.Jump n) = record { low = omega arith; high = omega (arith, four_kinds) }
kind_value (instructions.Match n) = record { low = omega arith; high = omega (arith, four_kinds) }
kind_value (instructions.Default n) = record { low = omega arith; high = omega (arith, four_kinds) }

coder_after-kind_of : (i : Instruction) → coder_after (kind_of i) ≡ coder_of i
coder_after-kind_of (instructions.Return n) = refl
coder_after-kind_of (instructions.Jump n) = refl
coder_after-kind_of (instructions.Match n) = refl
coder_after-kind_of (instructions.Default n) = refl

pub instruction_at-kind_of : (i : Instruction) → instruction_at (kind_of i) (number_in i) ≡ i
instruction_at-kind_of (instructions.Return n) = refl
instruction_at-kind_of (instructions.Jump n) = refl
instruction_at-kind_of (instructions.Match n) = refl
instruction_at-kind_of (instructions.Default n) = refl

by_kind : (kind n : ℕ) (bits rest : List Bool) → kind < 4 → SpellsBoth kind n bits rest → IsNext (instruction_at kind n) bits rest
by_kind zero n bits rest h b = record { value = b.value; spelled = b.spelled }
by_kind (suc zero) n bits rest h b = record { value = b.value; spelled = b.spelled }
by_kind (suc (suc zero)) n bits rest h b = record { value = b.value; spelled = b.spelled }
by_kind (suc (suc (suc zero))) n bits rest h b = record { value = b.value; spelled = b.spelled }
by_kind (suc (suc (suc (suc kind)))) n bits rest h b = absurd (omega arith)

-- a kind and a number that were read are those of the instruction
pub next_there : (kind n : ℕ) (bits rest : List Bool) → SpellsBoth kind n bits rest → IsNext (instruction_at kind n) bits rest
next_there kind n bits rest b = by_kind kind n bits rest (kind-lt kind b.kind_value) b

-- the kind and the number of the next instruction are spelled there
pub both_there : (i : Instruction) (bits rest : List Bool) → IsNext i bits rest → SpellsBoth (kind_of i) (number_in i) bits rest
both_there i bits rest s =
    record {
      kind_value = kind_value i;
      value = rw coder_after-kind_of s.value;
      spelled = rw coder_after-kind_of s.spelled;
    }
