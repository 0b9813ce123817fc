-- The bits of a file, one byte each.
use Rattle.std.proofs.Common.{◌≡◌, ℕ, ◌+◌, ◌*◌, ◌<◌, List, [], ◌∷◌, ◌++◌, length, take, map, get_or, refl, ap, sym, ◌∙◌, arith, length-append, append-nil, append_assoc}
use Rattle.std.specs.Int.{from_bool}
use Rattle.std.proofs.lemmas.List.{map-append, take_more, take_all}
use Rattle.bit_code.specs.Coder.{low_digits, file_bits}
use Rattle.placing.specs.Places.{bit_bytes, sized}
use Rattle.wire_num.specs.CompactSize.{compact_size}

-- those of one byte
abbrev pub eight : ℕ → List ℕ
eight b = map from_bool (low_digits 8 b)

length-eight : (b : ℕ) → length (eight b) ≡ 8
unfolding low_digits
length-eight b = refl

cons : (b : ℕ) (bytes : List ℕ) → bit_bytes (b ∷ bytes) ≡ eight b ++ bit_bytes bytes
unfolding file_bits
cons b bytes = map-append from_bool (low_digits 8 b) (file_bits bytes)

none : bit_bytes [] ≡ []
unfolding file_bits
none = refl

append : (xs ys : List ℕ) → bit_bytes (xs ++ ys) ≡ bit_bytes xs ++ bit_bytes ys
append [] ys = rw none refl
append (x ∷ xs) ys =
    cons x (xs ++ ys) ∙ ap (λ k. eight x ++ k) (append xs ys) ∙ sym (append_assoc (eight x) (bit_bytes xs) (bit_bytes ys))
    ∙ ap (λ k. k ++ bit_bytes ys) (sym (cons x xs))

pub length-bit_bytes : (bytes : List ℕ) → length (bit_bytes bytes) ≡ 8 * length bytes
length-bit_bytes [] = rw none refl
length-bit_bytes (b ∷ bytes) =
    omega (arith, ap length (cons b bytes), length-append (eight b) (bit_bytes bytes), length-eight b, length-bit_bytes bytes)

-- the bytes of one byte more
pub bit_bytes-more : (start : List ℕ) (bytes : List ℕ) (i : ℕ) → i < length bytes → start ++ bit_bytes (take i bytes) ++ eight (get_or bytes i 0) ≡ start ++ bit_bytes (take (i + 1) bytes)
bit_bytes-more start bytes i lt =
    let b = get_or bytes i 0 in
    let last : bit_bytes (b ∷ []) ≡ eight b = cons b [] ∙ (rw (none, append-nil) refl) in
    let front : bit_bytes (take (i + 1) bytes) ≡ bit_bytes (take i bytes) ++ eight b = ap bit_bytes (take_more bytes i 0 lt) ∙ append (take i bytes) (b ∷ []) ∙ ap (λ k. bit_bytes (take i bytes) ++ k) last in
    rw front (append_assoc start (bit_bytes (take i bytes)) (eight b))

-- before the first byte there is the size alone
pub bit_bytes-none : (start bytes : List ℕ) → start ≡ start ++ bit_bytes (take 0 bytes)
bit_bytes-none start bytes = rw (none, append-nil) refl

-- and after the last one all that is hashed
pub bit_bytes-all : (bytes : List ℕ) (i : ℕ) → i ≡ length bytes → compact_size (8 * length bytes) ++ bit_bytes (take i bytes) ≡ sized (bit_bytes bytes)
bit_bytes-all bytes i e = rw (length-bit_bytes bytes, take_all i bytes (omega (arith, e))) refl
