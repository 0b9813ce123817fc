-- The tree of a sane file is the one whose file it is.
use Rattle.std.proofs.Common.{◌≡◌, ℕ, zero, suc, ◌-◌, ◌<◌, ◌≤◌, Bool, true, false, List, [], ◌∷◌, ◌++◌, length, replicate, Some, refl, ap, ◌∙◌, arith, append_assoc, length-append}
use Rattle.bit_code.specs.Coder.{number_of, digits, spelling, spelling_by, sizes, file_bits, HasValue}
use Rattle.bit_code.specs.Reading.{read_value}
use Rattle.bit_code.specs.declared.coder.Coder.{Coder}
use Rattle.bit_code.specs.declared.coder.Coder.TheVariants as coders
use Rattle.bit_code.proofs.ReadingLaws.{read_value-again}
use Rattle.asmap_vm.specs.Code.{Tree, Return, Jump, Match, Default, code, return_kind, jump_kind, match_kind, default_kind, IsSaneWithin, IsSaneFile}
use Rattle.asmap_vm.specs.TreeOf.{read_tree, tree_read, tree_of}
use Rattle.asmap_vm.proofs.MatchLaws.{match_value, match_bits-wanted}

return_bits : spelling coders.Kind return_kind ≡ false ∷ []
unfolding spelling spelling_by sizes digits
return_bits = refl

jump_bits : spelling coders.Kind jump_kind ≡ true ∷ false ∷ []
unfolding spelling spelling_by sizes digits
jump_bits = refl

match_kind_bits : spelling coders.Kind match_kind ≡ true ∷ true ∷ false ∷ []
unfolding spelling spelling_by sizes digits
match_kind_bits = refl

default_bits : spelling coders.Kind default_kind ≡ true ∷ true ∷ true ∷ []
unfolding spelling spelling_by sizes digits
default_bits = refl

-- a spelling is read again
again : (coder : Coder) (n : ℕ) (rest : List Bool) → HasValue coder n → read_value coder (spelling coder n ++ rest) ≡ Some (n, rest)
again coder n rest value = read_value-again coder n (spelling coder n ++ rest) rest (record { value = value; spelled = refl })

return_code : (n : ℕ) (rest : List Bool) → code (Return n) ++ rest ≡ false ∷ (spelling coders.Asn n ++ rest)
unfolding code
return_code n rest = rw return_bits refl

jump_code : (l r : Tree) (rest : List Bool) → code (Jump l r) ++ rest ≡ true ∷ false ∷ (spelling coders.Jump (length (code l)) ++ (code l ++ (code r ++ rest)))
unfolding code
jump_code l r rest = rw jump_bits (simp append_assoc)

match_code : (wanted : List Bool) (t : Tree) (rest : List Bool) → code (Match wanted t) ++ rest ≡ true ∷ true ∷ false ∷ (spelling coders.Match (number_of (true ∷ wanted)) ++ (code t ++ rest))
unfolding code
match_code wanted t rest = rw match_kind_bits (simp append_assoc)

default_code : (n : ℕ) (t : Tree) (rest : List Bool) → code (Default n t) ++ rest ≡ true ∷ true ∷ true ∷ (spelling coders.Asn n ++ (code t ++ rest))
unfolding code
default_code n t rest = rw default_bits (simp append_assoc)

return_long : (n : ℕ) → 0 < length (code (Return n))
unfolding code
return_long n =
    omega (arith, length-append (spelling coders.Kind return_kind) (spelling coders.Asn n), ap length return_bits)

record JumpLong (l r : Tree) : Type 0 where
  left : length (code l) < length (code (Jump l r))
  right : length (code r) < length (code (Jump l r))

jump_long : (l r : Tree) → JumpLong l r
unfolding code
jump_long l r =
    let number = spelling coders.Jump (length (code l)) in
    let kind = spelling coders.Kind jump_kind in
    let a = length-append kind number in
    let b = length-append (kind ++ number) (code l) in
    let c = length-append (kind ++ number ++ code l) (code r) in
    let k : length kind ≡ 2 = ap length jump_bits in
    record { left = omega arith; right = omega arith }

match_long : (wanted : List Bool) (t : Tree) → length (code t) < length (code (Match wanted t))
unfolding code
match_long wanted t =
    let number = spelling coders.Match (number_of (true ∷ wanted)) in
    let kind = spelling coders.Kind match_kind in
    let a = length-append kind number in
    let b = length-append (kind ++ number) (code t) in
    let k : length kind ≡ 3 = ap length match_kind_bits in
    omega arith

default_long : (n : ℕ) (t : Tree) → length (code t) < length (code (Default n t))
unfolding code
default_long n t =
    let number = spelling coders.Asn n in
    let kind = spelling coders.Kind default_kind in
    let a = length-append kind number in
    let b = length-append (kind ++ number) (code t) in
    let k : length kind ≡ 3 = ap length default_bits in
    omega arith

-- the code of a sane tree is read again, whatever follows it
pub read_tree-again : (t : Tree) (left depth : ℕ) (rest : List Bool) → IsSaneWithin left t → length (code t) ≤ depth → read_tree depth (code t ++ rest) ≡ Some (t, rest)
unfolding read_tree IsSaneWithin
read_tree-again (Return n) left zero rest sane h = absurd (omega (arith, return_long n))
read_tree-again (Return n) left (suc depth) rest sane h =
    rw (return_code n rest, again coders.Asn n rest sane) refl
read_tree-again (Jump l r) left zero rest sane h = absurd (omega (arith, (jump_long l r).left))
read_tree-again (Jump l r) left (suc depth) rest sane h =
    let long = jump_long l r in
    let left_part = read_tree-again l (left - 1) depth (code r ++ rest) sane.2 (omega (arith, long.left)) in
    let right_part = read_tree-again r (left - 1) depth rest sane.3 (omega (arith, long.right)) in
    rw (jump_code l r rest, again coders.Jump (length (code l)) (code l ++ (code r ++ rest)) sane.1, left_part, right_part) refl
read_tree-again (Match wanted t) left zero rest sane h = absurd (omega (arith, match_long wanted t))
read_tree-again (Match wanted t) left (suc depth) rest sane h =
    let value = match_value wanted sane.0.some sane.0.most in
    let next = read_tree-again t (left - length wanted) depth rest sane.2 (omega (arith, match_long wanted t)) in
    let bits = match_bits-wanted wanted sane.0.most in
    rw (match_code wanted t rest, again coders.Match (number_of (true ∷ wanted)) (code t ++ rest) value, next, bits) refl
read_tree-again (Default n t) left zero rest sane h = absurd (omega (arith, default_long n t))
read_tree-again (Default n t) left (suc depth) rest sane h =
    let next = read_tree-again t left depth rest sane.2 (omega (arith, default_long n t)) in
    rw (default_code n t rest, again coders.Asn n (code t ++ rest) sane.0, next) refl

-- the tree of a sane file is the tree whose file it is
pub tree_of-file : (t : Tree) (bytes : List ℕ) → IsSaneFile t bytes → tree_of bytes ≡ t
unfolding tree_of
tree_of-file t bytes h =
    let zeros = replicate (length (file_bits bytes) - length (code t)) false in
    let long : length (code t) ≤ length (file_bits bytes) = omega (arith, ap length h.file.spelled, length-append (code t) zeros) in
    let read = read_tree-again t 128 (length (file_bits bytes)) zeros h.sane long in
    let whole : read_tree (length (file_bits bytes)) (file_bits bytes) ≡ Some (t, zeros) = ap (read_tree (length (file_bits bytes))) h.file.spelled ∙ read in
    ap tree_read whole
