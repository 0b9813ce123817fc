-- Bits that are put into bytes.
use Rattle.std.proofs.Common.{◌≡◌, ℕ, ◌+◌, ◌-◌, ◌*◌, ◌/◌, ◌%◌, ◌^◌, ◌<◌, ◌≤◌, Bool, List, [], ◌∷◌, ◌++◌, length, reverse, take, drop, get_or, refl, ap, sym, ◌∙◌, arith, append_assoc, append-nil, drop-cons, set, add-one}
use Rattle.std.proofs.Math.Pow.{pow_mono}
use Rattle.std.proofs.Math.Seq.{take-suc-set, take-length}
use Rattle.std.proofs.lemmas.List.{reverse-append, take_more, drop-drop, drop-set-lt}
use Rattle.std.proofs.lemmas.Nat.{shr-shr, shr_split, pow-add}
use Rattle.bit_code.specs.Coder.{low_digits, file_bits}
use Rattle.bit_code.proofs.LowDigits.{low_digits_split, low_digits_low, low_digits_cat}
use Rattle.bit_code.proofs.FileBits.{file_bits_none, file_bits_cons, file_bits-append}

-- the low digits of a number are those of its low part
pub low_digits-mod : (k n : ℕ) → low_digits k (n % 2 ^ k) ≡ low_digits k n
low_digits-mod k n = sym (low_digits_low k k (n / 2 ^ k) (n % 2 ^ k) (omega arith)) ∙ ap (low_digits k) (shr_split n k)

pub file_bits_one : (b : ℕ) → file_bits (b ∷ []) ≡ low_digits 8 b
file_bits_one b = file_bits_cons b [] ∙ (rw file_bits_none (append-nil (low_digits 8 b)))

pub no_digits : (bits : List Bool) (n : ℕ) → bits ++ low_digits 0 n ≡ bits
unfolding low_digits
no_digits bits n = append-nil bits

pub no_digits_front : (bits : List Bool) (n : ℕ) → low_digits 0 n ++ bits ≡ bits
unfolding low_digits
no_digits_front bits n = refl

-- one byte more, after those that are there
pub push_byte : (old bytes : List ℕ) (k n : ℕ) → file_bits bytes ≡ file_bits old ++ low_digits (8 * k) n → file_bits (bytes ++ (n / 2 ^ (8 * k) % 256) ∷ []) ≡ file_bits old ++ low_digits (8 * (k + 1)) n
push_byte old bytes k n h =
    let e : 8 * (k + 1) ≡ 8 * k + 8 = omega arith in
    let b = n / 2 ^ (8 * k) in
    let byte : file_bits (b % 256 ∷ []) ≡ low_digits 8 b = file_bits_one (b % 256) ∙ low_digits-mod 8 b in
    file_bits-append bytes (b % 256 ∷ [])
    ∙ ap (λ xs. xs ++ file_bits (b % 256 ∷ [])) h
    ∙ ap (λ xs. file_bits old ++ low_digits (8 * k) n ++ xs) byte
    ∙ append_assoc (file_bits old) (low_digits (8 * k) n) (low_digits 8 b)
    ∙ ap (λ xs. file_bits old ++ xs) (sym (low_digits_split (8 * k) 8 n) ∙ ap (λ j. low_digits j n) (sym e))

-- the bits that are left after whole bytes
pub last_bits : (old bytes : List ℕ) (len n rest : ℕ) → file_bits bytes ≡ file_bits old ++ low_digits (8 * (len / 8)) n → low_digits (len % 8) rest ≡ low_digits (len % 8) (n / 2 ^ (len - len % 8)) → file_bits bytes ++ low_digits (len % 8) rest ≡ file_bits old ++ low_digits len n
last_bits old bytes len n rest h e =
    let whole : len - len % 8 ≡ 8 * (len / 8) = omega arith in
    let sum : 8 * (len / 8) + len % 8 ≡ len = omega arith in
    let left : low_digits (len % 8) rest ≡ low_digits (len % 8) (n / 2 ^ (8 * (len / 8))) = rw whole at e in
    ap (λ xs. xs ++ low_digits (len % 8) rest) h
    ∙ ap (λ xs. file_bits old ++ low_digits (8 * (len / 8)) n ++ xs) left
    ∙ append_assoc (file_bits old) (low_digits (8 * (len / 8)) n) (low_digits (len % 8) (n / 2 ^ (8 * (len / 8))))
    ∙ ap (λ xs. file_bits old ++ xs) (sym (low_digits_split (8 * (len / 8)) (len % 8) n) ∙ ap (λ j. low_digits j n) sum)

-- ---- bytes that are written from their end

pub reverse_push : (bytes : List ℕ) (b : ℕ) → file_bits (reverse (bytes ++ b ∷ [])) ≡ low_digits 8 b ++ file_bits (reverse bytes)
reverse_push bytes b = ap file_bits (reverse-append bytes (b ∷ [])) ∙ file_bits_cons b (reverse bytes)

pub push_front : (old bytes : List ℕ) (len k n : ℕ) → 8 * (k + 1) ≤ len → file_bits (reverse bytes) ≡ low_digits (8 * k) (n / 2 ^ (len - 8 * k)) ++ file_bits (reverse old) → file_bits (reverse (bytes ++ (n / 2 ^ (len - 8 - 8 * k) % 256) ∷ [])) ≡ low_digits (8 * (k + 1)) (n / 2 ^ (len - 8 * (k + 1))) ++ file_bits (reverse old)
push_front old bytes len k n room h =
    let e : 8 * (k + 1) ≡ 8 + 8 * k = omega arith in
    let less : len - 8 - 8 * k ≡ len - 8 * (k + 1) = omega arith in
    let more : len - 8 * k ≡ len - 8 * (k + 1) + 8 = omega arith in
    let b = n / 2 ^ (len - 8 * (k + 1)) in
    let above : n / 2 ^ (len - 8 * k) ≡ b / 2 ^ 8 = ap (λ j. n / 2 ^ j) more ∙ sym (shr-shr n (len - 8 * (k + 1)) 8) in
    let digits : low_digits 8 b ++ low_digits (8 * k) (n / 2 ^ (len - 8 * k)) ≡ low_digits (8 * (k + 1)) b = ap (λ m. low_digits 8 b ++ low_digits (8 * k) m) above ∙ sym (low_digits_split 8 (8 * k) b) ∙ ap (λ j. low_digits j b) (sym e) in
    rw less
    (reverse_push bytes (b % 256)
    ∙ ap (λ xs. xs ++ file_bits (reverse bytes)) (low_digits-mod 8 b)
    ∙ ap (λ xs. low_digits 8 b ++ xs) h
    ∙ sym (append_assoc (low_digits 8 b) (low_digits (8 * k) (n / 2 ^ (len - 8 * k))) (file_bits (reverse old)))
    ∙ ap (λ xs. xs ++ file_bits (reverse old)) digits)

pub first_bits : (old bytes : List ℕ) (len n rest : ℕ) → file_bits (reverse bytes) ≡ low_digits (8 * (len / 8)) (n / 2 ^ (len - 8 * (len / 8))) ++ file_bits (reverse old) → low_digits (len % 8) rest ≡ low_digits (len % 8) n → low_digits (len % 8) rest ++ file_bits (reverse bytes) ≡ low_digits len n ++ file_bits (reverse old)
first_bits old bytes len n rest h e =
    let less : len - 8 * (len / 8) ≡ len % 8 = omega arith in
    let sum : len % 8 + 8 * (len / 8) ≡ len = omega arith in
    let high = low_digits (8 * (len / 8)) (n / 2 ^ (len % 8)) in
    let tail : file_bits (reverse bytes) ≡ high ++ file_bits (reverse old) = rw less at h in
    ap (λ xs. xs ++ file_bits (reverse bytes)) e
    ∙ ap (λ xs. low_digits (len % 8) n ++ xs) tail
    ∙ sym (append_assoc (low_digits (len % 8) n) high (file_bits (reverse old)))
    ∙ ap (λ xs. xs ++ file_bits (reverse old)) (sym (low_digits_split (len % 8) (8 * (len / 8)) n) ∙ ap (λ j. low_digits j n) sum)

-- ---- a byte after some bits

-- a byte is moved up within sixteen bits
pub byte_shift : (r byte : ℕ) → r < 8 → byte < 256 → byte * 2 ^ r % 65536 ≡ byte * 2 ^ r
byte_shift r byte h k =
    let few : r ≤ 7 = omega arith in
    let most : 2 ^ r ≤ 2 ^ 7 = pow_mono few in
    let below : byte * 2 ^ r < 65536 = grind arith in
    omega (arith, below)

pub joined : (r rest byte : ℕ) → rest < 2 ^ r → low_digits 8 ((rest + byte * 2 ^ r) % 256) ++ low_digits r ((rest + byte * 2 ^ r) / 256) ≡ low_digits r rest ++ low_digits 8 byte
joined r rest byte h =
    let n = rest + byte * 2 ^ r in
    let e : n ≡ byte * 2 ^ r + rest = omega arith in
    let swap : 8 + r ≡ r + 8 = omega arith in
    ap (λ xs. xs ++ low_digits r (n / 256)) (low_digits-mod 8 n)
    ∙ sym (low_digits_split 8 r n)
    ∙ ap (λ j. low_digits j n) swap
    ∙ ap (low_digits (r + 8)) e
    ∙ low_digits_cat r 8 byte rest h

-- the next byte of some is put after what is there
pub join_more : (old bytes more : List ℕ) (r rest left i first next : ℕ) → i < length more → file_bits bytes ++ low_digits r left ≡ file_bits old ++ (low_digits r rest ++ file_bits (take i more)) → low_digits 8 first ++ low_digits r next ≡ low_digits r left ++ low_digits 8 (get_or more i 0) → file_bits (bytes ++ first ∷ []) ++ low_digits r next ≡ file_bits old ++ (low_digits r rest ++ file_bits (take (i + 1) more))
join_more old bytes more r rest left i first next room h e =
    let b = get_or more i 0 in
    let longer : file_bits (take (i + 1) more) ≡ file_bits (take i more) ++ low_digits 8 b = ap file_bits (take_more more i 0 room) ∙ file_bits-append (take i more) (b ∷ []) ∙ ap (λ xs. file_bits (take i more) ++ xs) (file_bits_one b) in
    ap (λ xs. xs ++ low_digits r next) (file_bits-append bytes (first ∷ []) ∙ ap (λ xs. file_bits bytes ++ xs) (file_bits_one first))
    ∙ append_assoc (file_bits bytes) (low_digits 8 first) (low_digits r next)
    ∙ ap (λ xs. file_bits bytes ++ xs) e
    ∙ sym (append_assoc (file_bits bytes) (low_digits r left) (low_digits 8 b))
    ∙ ap (λ xs. xs ++ low_digits 8 b) h
    ∙ simp append_assoc (ap (λ xs. file_bits old ++ (low_digits r rest ++ xs)) (sym longer))

-- two lists are the same from one byte on
module _ (bytes old : List ℕ) (i : ℕ) (room : i < length bytes) (within : i < length old) (same : drop i bytes ≡ drop i old) where
  pub same_byte : get_or bytes i 0 ≡ get_or old i 0
  same_byte = ap (λ xs. get_or xs 0 0) (sym (drop-cons bytes i 0 room) ∙ same ∙ drop-cons old i 0 within)

  pub same_rest : (b : ℕ) → drop (i + 1) (set bytes i b) ≡ drop (i + 1) old
  same_rest b = drop-set-lt (i + 1) bytes i b (omega arith) ∙ sym (drop-drop 1 i bytes) ∙ ap (drop 1) same ∙ drop-drop 1 i old

  -- the bits move up over one byte more
  pub shift_more : (r rest left first next : ℕ) → file_bits (take i bytes) ++ low_digits r left ≡ low_digits r rest ++ file_bits (take i old) → low_digits 8 first ++ low_digits r next ≡ low_digits r left ++ low_digits 8 (get_or bytes i 0) → file_bits (take (i + 1) (set bytes i first)) ++ low_digits r next ≡ low_digits r rest ++ file_bits (take (i + 1) old)
  shift_more r rest left first next h e =
      let b = get_or old i 0 in
      let front : file_bits (take (i + 1) (set bytes i first)) ≡ file_bits (take i bytes) ++ low_digits 8 first = rw add-one (ap file_bits (take-suc-set bytes i first room) ∙ file_bits-append (take i bytes) (first ∷ []) ∙ ap (λ xs. file_bits (take i bytes) ++ xs) (file_bits_one first)) in
      let longer : file_bits (take (i + 1) old) ≡ file_bits (take i old) ++ low_digits 8 b = ap file_bits (take_more old i 0 within) ∙ file_bits-append (take i old) (b ∷ []) ∙ ap (λ xs. file_bits (take i old) ++ xs) (file_bits_one b) in
      ap (λ xs. xs ++ low_digits r next) front
      ∙ append_assoc (file_bits (take i bytes)) (low_digits 8 first) (low_digits r next)
      ∙ ap (λ xs. file_bits (take i bytes) ++ xs) (e ∙ ap (λ m. low_digits r left ++ low_digits 8 m) same_byte)
      ∙ sym (append_assoc (file_bits (take i bytes)) (low_digits r left) (low_digits 8 b))
      ∙ ap (λ xs. xs ++ low_digits 8 b) h
      ∙ append_assoc (low_digits r rest) (file_bits (take i old)) (low_digits 8 b)
      ∙ ap (λ xs. low_digits r rest ++ xs) (sym longer)

-- a low part and a high part
pub cat-lt : (h s a b : ℕ) → a < 2 ^ h → b < 2 ^ s → a + b * 2 ^ h < 2 ^ (h + s)
cat-lt h s a b low high = rw (pow-add 2 h s) (grind arith)

pub take_whole : (xs : List ℕ) (n : ℕ) → n ≡ length xs → take n xs ≡ xs
take_whole xs n e = rw e (take-length xs)
