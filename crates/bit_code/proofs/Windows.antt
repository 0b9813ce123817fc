-- The bits from an offset on, as a number.
use Rattle.std.proofs.Common.{◌≡◌, ℕ, suc, ◌+◌, ◌-◌, ◌*◌, ◌/◌, ◌%◌, ◌^◌, ◌<◌, ◌≤◌, Bool, List, [], ◌∷◌, ◌++◌, length, get_or, drop, refl, ap, sym, ◌∙◌, arith, append_assoc, append-nil, length-drop}
use Rattle.std.specs.Int.{from_le_bytes, w64}
use Rattle.std.proofs.Math.Seq.{drop-append_seam, drop-cons}
use Rattle.std.proofs.lemmas.List.{drop-drop, drop-append-le}
use Rattle.std.proofs.Math.ListN.{drop_of_length-le}
use Rattle.bit_code.specs.Coder.{low_digits, file_bits}
use Rattle.bit_code.specs.Inside.{IsWindow, IsWord, AreBytes, eight}
use Rattle.bit_code.proofs.LowDigits.{length-low_digits, low_digits_split}
use Rattle.bit_code.proofs.FileBits.{worth, low_digits-worth, file_bits-append, length-file_bits, drop-file_bits}

one_more : (bytes : List ℕ) (q p : ℕ) → q < length bytes → p ≡ suc q → drop q bytes ≡ get_or bytes q 0 ∷ drop p bytes
one_more bytes q p h e = rw e (drop-cons bytes q 0 h)

take_eight : (bytes : List ℕ) (q : ℕ) → q + 8 ≤ length bytes → drop q bytes ≡ eight bytes q ++ drop (q + 8) bytes
take_eight bytes q h =
    let a = one_more bytes q (q + 1) (omega arith) (omega arith) in
    let b = one_more bytes (q + 1) (q + 2) (omega arith) (omega arith) in
    let c = one_more bytes (q + 2) (q + 3) (omega arith) (omega arith) in
    let d = one_more bytes (q + 3) (q + 4) (omega arith) (omega arith) in
    let f = one_more bytes (q + 4) (q + 5) (omega arith) (omega arith) in
    let g = one_more bytes (q + 5) (q + 6) (omega arith) (omega arith) in
    let i = one_more bytes (q + 6) (q + 7) (omega arith) (omega arith) in
    let j = one_more bytes (q + 7) (q + 8) (omega arith) (omega arith) in
    rw (a, b, c, d, f, g, i, j) refl

from_le_bytes-eight : (a b c d e f g h : ℕ) → from_le_bytes w64 (a ∷ b ∷ c ∷ d ∷ e ∷ f ∷ g ∷ h ∷ []) ≡ worth (a ∷ b ∷ c ∷ d ∷ e ∷ f ∷ g ∷ h ∷ [])
from_le_bytes-eight a b c d e f g h = omega arith

-- the digits of eight bytes as a number
pub low_digits-eight : (a b c d e f g h : ℕ) → AreBytes (a ∷ b ∷ c ∷ d ∷ e ∷ f ∷ g ∷ h ∷ []) → low_digits 64 (from_le_bytes w64 (a ∷ b ∷ c ∷ d ∷ e ∷ f ∷ g ∷ h ∷ [])) ≡ file_bits (a ∷ b ∷ c ∷ d ∷ e ∷ f ∷ g ∷ h ∷ [])
low_digits-eight a b c d e f g h small =
    rw from_le_bytes-eight (low_digits-worth (a ∷ b ∷ c ∷ d ∷ e ∷ f ∷ g ∷ h ∷ []) 64 refl small)

pub whole_word : (bytes : List ℕ) (q word : ℕ) → q + 8 ≤ length bytes → AreBytes (eight bytes q) → word ≡ from_le_bytes w64 (eight bytes q) → IsWord bytes q word
whole_word bytes q word h small e =
    let number : low_digits 64 word ≡ file_bits (eight bytes q) = rw e (low_digits-eight _ _ _ _ _ _ _ _ small) in
    record {
      more = file_bits (drop (q + 8) bytes);
      after = [];
      shown = append-nil _ ∙ ap file_bits (take_eight bytes q h) ∙ file_bits-append (eight bytes q) (drop (q + 8) bytes) ∙ ap (λ xs. xs ++ file_bits (drop (q + 8) bytes)) (sym number);
    }

pub last_word : (bytes : List ℕ) (q word : ℕ) (list zeros : List ℕ) → list ≡ drop q bytes ++ zeros → length list ≡ 8 → AreBytes (eight list 0) → word ≡ from_le_bytes w64 (eight list 0) → IsWord bytes q word
last_word bytes q word list zeros e size small same =
    let number : low_digits 64 word ≡ file_bits (eight list 0) = rw same (low_digits-eight _ _ _ _ _ _ _ _ small) in
    let whole : list ≡ eight list 0 ++ drop 8 list = take_eight list 0 (omega arith) in
    let none : drop 8 list ≡ [] = drop_of_length-le list {i = 8} (omega arith) in
    let parts : list ≡ eight list 0 = whole ∙ ap (λ xs. eight list 0 ++ xs) none ∙ append-nil _ in
    record {
      more = [];
      after = file_bits zeros;
      shown = sym (file_bits-append (drop q bytes) zeros) ∙ ap file_bits (sym e ∙ parts) ∙ sym number ∙ sym (append-nil _);
    }

-- the digits of a word from one of them on
shifted_word : (word r : ℕ) (rest : List Bool) → r < 8 → (more : List Bool) × (drop r (low_digits 64 word ++ rest) ≡ low_digits 57 (word / 2 ^ r) ++ more)
shifted_word word r rest h =
    let e : 64 ≡ r + (57 + (7 - r)) = omega arith in
    let low = low_digits r word in
    let mid = low_digits 57 (word / 2 ^ r) in
    let top = low_digits (7 - r) (word / 2 ^ r / 2 ^ 57) in
    let whole : low_digits 64 word ≡ low ++ (mid ++ top) = ap (λ n. low_digits n word) e ∙ low_digits_split r (57 + (7 - r)) word ∙ ap (λ xs. low ++ xs) (low_digits_split 57 (7 - r) (word / 2 ^ r)) in
    let parts : low_digits 64 word ++ rest ≡ low ++ (mid ++ (top ++ rest)) = ap (λ xs. xs ++ rest) whole ∙ simp append_assoc in
    (top ++ rest, ap (drop r) parts ∙ (rw length-low_digits at (drop-append_seam low (mid ++ (top ++ rest)))))

pub window_at : (bytes : List ℕ) (at word : ℕ) → at ≤ length bytes * 8 → IsWord bytes (at / 8) word → IsWindow (file_bits bytes) at (word / 2 ^ (at % 8))
window_at bytes at word h w =
    let q = at / 8 in
    let r = at % 8 in
    let there : 8 * q + r ≡ at = omega arith in
    let room : r ≤ length (file_bits (drop q bytes)) = omega (arith, length-file_bits (drop q bytes), length-drop q bytes) in
    let from : drop at (file_bits bytes) ≡ drop r (file_bits (drop q bytes)) = ap (λ n. drop n (file_bits bytes)) (sym there) ∙ sym (drop-drop r (8 * q) (file_bits bytes)) ∙ ap (drop r) (drop-file_bits q bytes) in
    let word_from = shifted_word word r w.more (omega arith) in
    record {
      more = word_from.0;
      after = w.after;
      shown = ap (λ xs. xs ++ w.after) from ∙ sym (drop-append-le r (file_bits (drop q bytes)) w.after room) ∙ ap (drop r) w.shown ∙ word_from.1;
    }
