-- The first 52 letters of a name of Tor v3 have all of the key.
use Rattle.std.proofs.Common.{◌≡◌, ℕ, zero, suc, ◌+◌, ◌*◌, ◌/◌, ◌%◌, ◌<◌, List, [], ◌∷◌, ◌++◌, length, take, get_or, refl, arith, ap, sym, ◌∙◌}
use Rattle.std.proofs.lemmas.List.{append_assoc}
use Rattle.net_addr.specs.Address.{Address, length_of}
use Rattle.net_addr.specs.declared.net.Net.TheVariants.{Onion}
use Rattle.net_addr.proofs.Bits.{AllBytes}
use Rattle.net_addr.proofs.Bytes.{AllBytes-All}
use Rattle.names.specs.Base32.{letter, base32}
use Rattle.names.specs.Inside.{value_of, five_bytes, bits_of, decoded}
use Rattle.names.specs.Name.{HasLetters, checksum, encoded, letters_of}
use Rattle.names.proofs.RoundTrip.{forty, half, half_small, value_letter, value_small, group_back}
use Rattle.names.proofs.Letters.{checksum_two}

-- the first two bytes of the first four letters of five bytes
pair_back : (a b c d e w x y z : ℕ) → a < 256 → b < 256 → c < 256 → d < 256 → e < 256
    → let n = forty a b c d e in
    take 2 (five_bytes (bits_of (letter (n / 34359738368)) (letter (n / 1073741824)) (letter (n / 33554432)) (letter (n / 1048576)) w x y z)) ≡ a ∷ b ∷ []
pair_back a b c d e w x y z h k l m p =
    let n = forty a b c d e in
    let low = half_small (value_of w) (value_of x) (value_of y) (value_of z) (value_small w) (value_small x) (value_small y) (value_small z) in
    let high : half (value_of (letter (n / 34359738368))) (value_of (letter (n / 1073741824))) (value_of (letter (n / 33554432))) (value_of (letter (n / 1048576))) ≡ n / 1048576 =
    (λ i. half (value_letter (n / 34359738368) i) (value_letter (n / 1073741824) i) (value_letter (n / 33554432) i) (value_letter (n / 1048576) i)) ∙ omega arith in
    let top : n / 1048576 ≡ a * 4096 + b * 16 + c / 16 = omega arith in
    let whole : bits_of (letter (n / 34359738368)) (letter (n / 1073741824)) (letter (n / 33554432)) (letter (n / 1048576)) w x y z ≡ (a * 4096 + b * 16 + c / 16) * 1048576 + half (value_of w) (value_of x) (value_of y) (value_of z) =
    ap (λ m. m * 1048576 + half (value_of w) (value_of x) (value_of y) (value_of z)) (high ∙ top) in
    let first : ((a * 4096 + b * 16 + c / 16) * 1048576 + half (value_of w) (value_of x) (value_of y) (value_of z)) / 4294967296 % 256 ≡ a = omega (arith, low) in
    let second : ((a * 4096 + b * 16 + c / 16) * 1048576 + half (value_of w) (value_of x) (value_of y) (value_of z)) / 16777216 % 256 ≡ b = omega (arith, low) in
    ap (λ m. take 2 (five_bytes m)) whole ∙ (λ i. first i ∷ second i ∷ [])

-- how many letters have all of k groups and two bytes
size : ℕ → ℕ
size zero = 4
size (suc k) = suc (suc (suc (suc (suc (suc (suc (suc (size k))))))))

-- k groups and two bytes are known from so many letters of them and three more bytes
key_back : (k : ℕ) (xs : List ℕ) (c d e : ℕ) → length xs ≡ 5 * k + 2 → AllBytes xs → c < 256 → d < 256 → e < 256 → take (length xs) (decoded (take (size k) (base32 (xs ++ c ∷ d ∷ e ∷ [])) ++ 0 ∷ 0 ∷ 0 ∷ 0 ∷ [])) ≡ xs
unfolding base32 decoded size
key_back zero [] c d e l h c' d' e' = absurd (omega (arith, l))
key_back zero (a ∷ []) c d e l h c' d' e' = absurd (omega (arith, l))
key_back zero (a ∷ b ∷ []) c d e l h c' d' e' = pair_back a b c d e 0 0 0 0 (h 0) (h 1) c' d' e'
key_back zero (a ∷ b ∷ x ∷ xs) c d e l h c' d' e' = absurd (omega (arith, l))
key_back (suc k) [] c d e l h c' d' e' = absurd (omega (arith, l))
key_back (suc k) (a ∷ []) c d e l h c' d' e' = absurd (omega (arith, l))
key_back (suc k) (a ∷ b ∷ []) c d e l h c' d' e' = absurd (omega (arith, l))
key_back (suc k) (a ∷ b ∷ x ∷ []) c d e l h c' d' e' = absurd (omega (arith, l))
key_back (suc k) (a ∷ b ∷ x ∷ y ∷ []) c d e l h c' d' e' = absurd (omega (arith, l))
key_back (suc k) (a ∷ b ∷ x ∷ y ∷ z ∷ xs) c d e l h c' d' e' =
    let later = key_back k xs c d e (omega (arith, l)) (λ i. h (suc (suc (suc (suc (suc i)))))) c' d' e' in
    let here = group_back a b x y z (h 0) (h 1) (h 2) (h 3) (h 4) in
    ap (λ five. take (suc (suc (suc (suc (suc (length xs)))))) (five ++ decoded (take (size k) (base32 (xs ++ c ∷ d ∷ e ∷ [])) ++ 0 ∷ 0 ∷ 0 ∷ 0 ∷ []))) here
    ∙ ap (λ t. a ∷ b ∷ x ∷ y ∷ z ∷ t) later

pair : (xs : List ℕ) → length xs ≡ 2 → xs ≡ get_or xs 0 0 ∷ get_or xs 1 0 ∷ []
pair [] l = absurd (omega (arith, l))
pair (x ∷ []) l = absurd (omega (arith, l))
pair (x ∷ y ∷ []) l = refl
pair (x ∷ y ∷ z ∷ xs) l = absurd (omega (arith, l))

-- the 32 bytes of a key are known from the first 52 letters of its name
one_key : (a b : Address) (L M : List ℕ) → HasLetters Onion L a → HasLetters Onion M b → take 52 L ≡ take 52 M → a.bytes ≡ b.bytes
unfolding encoded size
one_key a b L M h k e =
    let back : (x : Address) (N : List ℕ) → HasLetters Onion N x → take 32 (decoded (take 52 N ++ 0 ∷ 0 ∷ 0 ∷ 0 ∷ [])) ≡ x.bytes = λ x N g.
    let two = checksum_two x.bytes in
    let long : length x.bytes ≡ 32 = g.own.length ∙ ap length_of g.network in
    let fits = AllBytes-All (checksum x.bytes) two.bytes in
    let parts : x.bytes ++ checksum x.bytes ++ 3 ∷ [] ≡ x.bytes ++ get_or (checksum x.bytes) 0 0 ∷ get_or (checksum x.bytes) 1 0 ∷ 3 ∷ [] =
    append_assoc x.bytes (checksum x.bytes) (3 ∷ []) ∙ ap (λ s. x.bytes ++ (s ++ 3 ∷ [])) (pair (checksum x.bytes) two.long) in
    ap (λ n. take n (decoded (take 52 N ++ 0 ∷ 0 ∷ 0 ∷ 0 ∷ []))) (sym long)
    ∙ ap (λ t. take (length x.bytes) (decoded (take 52 t ++ 0 ∷ 0 ∷ 0 ∷ 0 ∷ []))) (g.encodes ∙ ap base32 parts)
    ∙ key_back 6 x.bytes (get_or (checksum x.bytes) 0 0) (get_or (checksum x.bytes) 1 0) 3 long (AllBytes-All x.bytes g.own.bytes) (fits 0) (fits 1) (omega arith) in
    sym (back a L h) ∙ ap (λ t. take 32 (decoded (t ++ 0 ∷ 0 ∷ 0 ∷ 0 ∷ []))) e ∙ back b M k

-- two names of Tor v3 that agree in their first 52 letters agree in all
pub one_checksum : (stem other : List ℕ) (a b : Address) → HasLetters Onion stem a → HasLetters Onion other b → take 52 stem ≡ take 52 other → stem ≡ other
one_checksum stem other a b h k e =
    h.encodes ∙ ap (letters_of Onion) (one_key a b stem other h k e) ∙ sym k.encodes
