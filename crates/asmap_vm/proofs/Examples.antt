-- Worked examples of the definitions, computed by the check.
use Rattle.std.proofs.Common.{◌≡◌, ℕ, zero, suc, ◌+◌, ◌-◌, ◌*◌, ◌^◌, true, false, List, [], ◌∷◌, get_or, replicate, refl, ap, sym, ◌∙◌, subst, arith}
use Rattle.bit_code.specs.Coder.{digits, low_digits, file_bits, number_of, sizes, values_of, spelling, spelling_by}
use Rattle.bit_code.specs.Reading.{read_value, read_by, digits_at}
use Rattle.bit_code.specs.Prefixes.{begins_with}
use Rattle.asmap_vm.specs.Code.{Tree, Return, Jump, Match, Default, code, IsSane, IsSaneWithin, IsSaneFile, meaning, asn_of}
use Rattle.asmap_vm.specs.TreeOf.{tree_of, read_tree}
use Rattle.asmap_vm.proofs.TreeLaws.{tree_of-file}

-- the shortest file: every address has the number 1
one_file : IsSaneFile (Return 1) (0 ∷ 0 ∷ 0 ∷ [])
unfolding file_bits low_digits code spelling spelling_by sizes digits IsSaneWithin values_of
one_file =
    record {
      sane = record { low = omega arith; high = omega arith };
      file = record { spelled = refl; padded = omega arith };
    }

-- a jump: the addresses that begin with a zero-bit have the number 1, the others 2
two_file : IsSaneFile (Jump (Return 1) (Return 2)) (1 ∷ 0 ∷ 0 ∷ 0 ∷ 0 ∷ 2 ∷ [])
unfolding file_bits low_digits code spelling spelling_by sizes digits IsSaneWithin values_of
two_file =
    record {
      sane = (omega arith, record { low = omega arith; high = omega arith }, record { low = omega arith; high = omega arith }, record { low = omega arith; high = omega arith });
      file = record { spelled = refl; padded = omega arith };
    }

low_half : asn_of (Jump (Return 1) (Return 2)) 5 ≡ 1
unfolding asn_of meaning digits
low_half = refl

high_half : asn_of (Jump (Return 1) (Return 2)) (2 ^ 127) ≡ 2
unfolding asn_of meaning digits
high_half = refl

-- a match under a default: the addresses that begin with 1 0 have the number 7, the others 3
abbrev under_default : Tree
under_default = Default 3 (Match (true ∷ false ∷ []) (Return 7))

matched : asn_of under_default (2 ^ 127) ≡ 7
unfolding asn_of meaning digits begins_with
matched = refl

differs : asn_of under_default (2 ^ 126) ≡ 3
unfolding asn_of meaning digits begins_with
differs = refl

-- ---- what is refused

-- the bytes are the file of no sane tree
abbrev IsRefused : List ℕ → Type 0
IsRefused bytes = (t : Tree) → IsSaneFile t bytes → ⊥

-- it is enough to refuse the one tree that the bytes are read as
refused_by : (bytes : List ℕ) (read : Tree) → tree_of bytes ≡ read → (IsSaneFile read bytes → ⊥) → IsRefused bytes
refused_by bytes read e refuse t h =
    let same : t ≡ read = sym (tree_of-file t bytes h) ∙ e in
    refuse (subst (λ u. IsSaneFile u bytes) same h)

-- a return of 0, which is read if the bits end within a tree, has no spelling
no_return_zero : (bytes : List ℕ) → IsSaneFile (Return 0) bytes → ⊥
unfolding IsSaneWithin
no_return_zero bytes h = omega (arith, h.sane.low)

-- the empty file
empty_file : IsRefused []
unfolding tree_of read_tree file_bits
empty_file = refused_by [] (Return 0) refl (no_return_zero [])

-- two bytes, of which a return wants one bit more
two_bytes : IsRefused (0 ∷ 0 ∷ [])
unfolding tree_of read_tree file_bits low_digits read_value read_by digits_at sizes
two_bytes = refused_by (0 ∷ 0 ∷ []) (Return 0) refl (no_return_zero (0 ∷ 0 ∷ []))

-- padding with a bit that is set
set_padding : IsRefused (0 ∷ 0 ∷ 128 ∷ [])
unfolding tree_of read_tree file_bits low_digits read_value read_by digits_at sizes number_of code spelling spelling_by digits
set_padding = refused_by (0 ∷ 0 ∷ 128 ∷ []) (Return 1) refl (λ h. let e : true ≡ false = ap (λ bits. get_or bits 23 true) h.file.spelled in cc)

-- padding of a whole byte
long_padding : IsRefused (0 ∷ 0 ∷ 0 ∷ 0 ∷ [])
unfolding tree_of read_tree file_bits low_digits read_value read_by digits_at sizes number_of code spelling spelling_by digits
long_padding = refused_by (0 ∷ 0 ∷ 0 ∷ 0 ∷ []) (Return 1) refl (λ h. omega (arith, h.file.padded))

-- a match of one bit after a match of one bit
short_after_short : IsSane (Match (true ∷ []) (Match (true ∷ []) (Return 1))) → ⊥
unfolding IsSaneWithin
short_after_short h = omega (arith, h.0.joined (omega arith))

-- a default right before a return
default_before_return : IsSane (Default 1 (Return 1)) → ⊥
unfolding IsSaneWithin
default_before_return h = h.1

-- this many matches of eight one-bits, and then a tree
abbrev after_matches : ℕ → Tree → Tree
after_matches zero t = t
after_matches (suc n) t = Match (replicate 8 true) (after_matches n t)

sane_after_matches : (n left : ℕ) (t : Tree) → IsSaneWithin (8 * n + left) (after_matches n t) → IsSaneWithin left t
unfolding IsSaneWithin
sane_after_matches zero left t h = let e : 8 * 0 + left ≡ left = omega arith in rw e at h
sane_after_matches (suc n) left t h =
    let e : 8 * suc n + left - 8 ≡ 8 * n + left = omega arith in
    sane_after_matches n left t (rw e at h.2)

jump_of_none : IsSaneWithin 0 (Jump (Return 1) (Return 2)) → ⊥
unfolding IsSaneWithin
jump_of_none h = omega (arith, h.0)

-- a jump that would take a 129th address bit
no_bit_left : IsSane (after_matches 16 (Jump (Return 1) (Return 2))) → ⊥
no_bit_left h = jump_of_none (sane_after_matches 16 0 (Jump (Return 1) (Return 2)) h)
