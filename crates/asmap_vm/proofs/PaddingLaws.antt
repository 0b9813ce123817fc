-- The zero-bits at the end of a file.
use Rattle.std.proofs.Common.{◌≡◌, ℕ, ◌+◌, ◌-◌, ◌<◌, ◌≤◌, Bool, true, false, List, ◌∷◌, ◌++◌, length, get_or, drop, replicate, Some, refl, ap, sym, ◌∙◌, arith, append_assoc, length-drop, get_or-drop, append-nil}
use Rattle.std.specs.List.{slice_get}
use Rattle.std.proofs.Math.ListN.{drop_of_length-le}
use Rattle.std.proofs.lemmas.Option.{slice_get_within, get_or_from_slice_get}
use Rattle.std.proofs.lemmas.List.{get_or-replicate, replicate-append-replicate}
use Rattle.asmap_vm.specs.Scanning.{IsPadding}

pub zeros_none : (bits : List Bool) (at : ℕ) → drop at bits ≡ replicate (at - at) false ++ drop at bits
zeros_none bits at =
    let z : at - at ≡ 0 = omega arith in
    rw z refl

pub zeros_more : (bits : List Bool) (at offset : ℕ) (b : Bool) → at ≤ offset → drop offset bits ≡ b ∷ drop (offset + 1) bits → b ≡ false → drop at bits ≡ replicate (offset - at) false ++ drop offset bits → drop at bits ≡ replicate (offset + 1 - at) false ++ drop (offset + 1) bits
zeros_more bits at offset b h here e so_far =
    let next : offset + 1 - at ≡ offset - at + 1 = omega arith in
    let one : drop offset bits ≡ replicate 1 false ++ drop (offset + 1) bits = rw e at here in
    so_far ∙ (rw (one, next, ← replicate-append-replicate (offset - at) 1 false) (sym (append_assoc (replicate (offset - at) false) (replicate 1 false) (drop (offset + 1) bits))))

pub zeros_all : (bits : List Bool) (at offset : ℕ) → at ≤ length bits → length bits - at ≤ 7 → length bits ≤ offset → offset ≤ length bits → drop at bits ≡ replicate (offset - at) false ++ drop offset bits → IsPadding (drop at bits)
zeros_all bits at offset within few past inside zeros =
    let size : length (drop at bits) ≡ offset - at = omega (arith, length-drop at bits) in
    record {
      few = omega (arith, length-drop at bits);
      zero = rw (size) (rw (drop_of_length-le bits past, append-nil) at zeros);
    }

pub not_zeros : (bits : List Bool) (at offset : ℕ) (b : Bool) → at ≤ offset → slice_get bits offset ≡ Some b → b ≡ true → IsPadding (drop at bits) → ⊥
not_zeros bits at offset b h here e padding =
    let there : at + (offset - at) ≡ offset = omega arith in
    let within : offset < length bits = slice_get_within bits offset b here in
    let inside : offset - at < length (drop at bits) = omega (arith, length-drop at bits) in
    let bit : get_or (drop at bits) (offset - at) true ≡ b = get_or-drop at bits (offset - at) true ∙ (rw there (get_or_from_slice_get bits offset b true here)) in
    let zero : get_or (drop at bits) (offset - at) true ≡ false = ap (λ xs. get_or xs (offset - at) true) padding.zero ∙ get_or-replicate (length (drop at bits)) (offset - at) false true inside in
    cc
