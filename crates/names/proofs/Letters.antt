-- The bytes of an address are known from the letters of its name.
use Rattle.std.proofs.Common.{◌≡◌, ℕ, ◌+◌, ◌*◌, ◌/◌, ◌%◌, codes, ◌<◌, ◌≤◌, List, [], ◌∷◌, ◌++◌, length, take, drop, get_or, All, refl, arith, ap, sym, ◌∙◌, subst, take-take}
use Rattle.std.specs.Prelude.{slice_index}
use Rattle.std.proofs.lemmas.List.{take_all, take-append-drop, take-append-le, length-drop, length-append}
use Rattle.std.proofs.lemmas.List.Elements.{All-append, All-cons, All-nil}
use Rattle.std.proofs.Math.Seq.{take-append_seam}
use Rattle.net_addr.specs.Address.{Address, IsAddress, length_of}
use Rattle.net_addr.specs.declared.net.Net.{Net}
use Rattle.net_addr.specs.declared.net.Net.TheVariants.{Unroutable, Ipv4, Ipv6, Onion, I2p, Cjdns, Internal}
use Rattle.net_addr.proofs.Bits.{AllBytes}
use Rattle.net_addr.proofs.Bytes.{AllBytes-All}
use Rattle.names.specs.Keccak.{digest, keccak_f, lanes, padded_block, sha3_256}
use Rattle.names.specs.Base32.{base32}
use Rattle.names.specs.Inside.{decoded}
use Rattle.names.specs.Name.{HasLetters, IsLettered, checksum, encoded, letters_of}
use Rattle.names.proofs.RoundTrip.{bytes_back}

pub encoded_onion : (net : Net) (key : List ℕ) → net ≡ Onion → encoded net key ≡ key ++ checksum key ++ 3 ∷ []
unfolding encoded
encoded_onion net key e = rw e refl

-- a checksum is two bytes
pub record AreTwo (xs : List ℕ) : Type 0 where
  pub long : length xs ≡ 2
  pub bytes : All (λ b. b < 256) xs

low_byte : (n : ℕ) → n % 256 < 256
low_byte n = omega arith

pub checksum_two : (key : List ℕ) → AreTwo (checksum key)
unfolding sha3_256 digest
checksum_two key =
    let first = slice_index (keccak_f (lanes (padded_block (codes ".onion checksum" ++ key ++ 3 ∷ []))) 24) 0 in
    record {
      long = refl;
      bytes = All-cons (λ b. b < 256) (first % 256) (first / 256 % 256 ∷ []) (low_byte first) (All-cons (λ b. b < 256) (first / 256 % 256) [] (low_byte (first / 256)) (All-nil (λ b. b < 256)));
    }

-- what the letters of a name encode
pub record IsEncoded (net : Net) (bytes whole : List ℕ) : Type 0 where
  pub begins : take (length_of net) whole ≡ bytes
  pub rest : ℕ
  pub few : rest < 2
  pub groups : length whole % 5 ≡ 2 * rest
  pub within : length whole ≤ 35
  pub long : length_of net ≤ length whole
  pub small : AllBytes whole

of_key : (key : List ℕ) → IsAddress (record { net = Onion; bytes = key }) → IsEncoded Onion key (encoded Onion key)
unfolding encoded
of_key key h =
    let two = checksum_two key in
    let whole : length (key ++ checksum key ++ 3 ∷ []) ≡ 35 = length-append (key ++ checksum key) (3 ∷ []) ∙ omega (arith, length-append key (checksum key), h.length, two.long) in
    record {
      begins = ap (λ n. take n (key ++ checksum key ++ 3 ∷ [])) (sym h.length) ∙ take-append-le (length key) (key ++ checksum key) (3 ∷ []) (omega (arith, length-append key (checksum key))) ∙ take-append_seam key (checksum key);
      rest = 0;
      few = omega arith;
      groups = omega (arith, whole);
      within = omega (arith, whole);
      long = omega (arith, whole);
      small = AllBytes-All (key ++ checksum key ++ 3 ∷ []) (All-append (λ b. b < 256) (key ++ checksum key) (3 ∷ []) (All-append (λ b. b < 256) key (checksum key) h.bytes two.bytes) (All-cons (λ b. b < 256) 3 [] (omega arith) (All-nil (λ b. b < 256))));
    }

take_all_of : (xs : List ℕ) (n : ℕ) → length xs ≡ n → take n xs ≡ xs
take_all_of xs n e = take_all n xs (omega (arith, e))

of_plain : (net : Net) (bytes : List ℕ) (rest : ℕ) → rest < 2 → length_of net % 5 ≡ 2 * rest → length_of net ≤ 35 → encoded net bytes ≡ bytes → IsAddress (record { net = net; bytes = bytes }) → IsEncoded net bytes (encoded net bytes)
of_plain net bytes rest few five within e h = subst (IsEncoded net bytes) (sym e) (record {
  begins = take_all_of bytes _ h.length;
  rest = rest;
  few = few;
  groups = ap (λ n. n % 5) h.length ∙ five;
  within = omega (arith, h.length, within);
  long = omega (arith, h.length);
  small = AllBytes-All bytes h.bytes;
})

pub encoded_is : (net : Net) (bytes : List ℕ) → IsLettered net → IsAddress (record { net = net; bytes = bytes }) → IsEncoded net bytes (encoded net bytes)
unfolding encoded
encoded_is Onion bytes l h = of_key bytes h
encoded_is I2p bytes l h = of_plain I2p bytes 1 (omega arith) refl (omega arith) refl h
encoded_is Internal bytes l h = of_plain Internal bytes 0 (omega arith) refl (omega arith) refl h
encoded_is Unroutable bytes l h = absurd l
encoded_is Ipv4 bytes l h = absurd l
encoded_is Ipv6 bytes l h = absurd l
encoded_is Cjdns bytes l h = absurd l

-- the letters of at most 35 bytes are at most 56
pub length-base32 : (xs : List ℕ) → 5 * length (base32 xs) ≤ 8 * length xs + 4
unfolding base32
length-base32 [] = omega arith
length-base32 (a ∷ []) = omega arith
length-base32 (a ∷ b ∷ []) = omega arith
length-base32 (a ∷ b ∷ c ∷ []) = omega arith
length-base32 (a ∷ b ∷ c ∷ d ∷ []) = omega arith
length-base32 (a ∷ b ∷ c ∷ d ∷ e ∷ xs) = omega (arith, length-base32 xs)

at_least_four : (xs : List ℕ) → 4 ≤ length xs → xs ≡ get_or xs 0 0 ∷ get_or xs 1 0 ∷ get_or xs 2 0 ∷ get_or xs 3 0 ∷ drop 4 xs
at_least_four [] h = absurd (omega (arith, h))
at_least_four (a ∷ []) h = absurd (omega (arith, h))
at_least_four (a ∷ b ∷ []) h = absurd (omega (arith, h))
at_least_four (a ∷ b ∷ c ∷ []) h = absurd (omega (arith, h))
at_least_four (a ∷ b ∷ c ∷ d ∷ xs) h = refl

-- an address is its network and bytes
pub by_parts : (net : Net) (a : Address) → a.net ≡ net → record { net = net; bytes = a.bytes } ≡ a
by_parts net a e = λ i. record { net = sym e i; bytes = a.bytes }

-- the bytes of an address are the first that its letters decode as
pub letters_decode : (net : Net) (a : Address) (L W : List ℕ) (n : ℕ) → IsLettered net → HasLetters net L a → take n W ≡ L → n ≤ 56 → length W ≡ 64 → take (length_of net) (decoded W) ≡ a.bytes
letters_decode net a L W n l h e small whole =
    let own = subst IsAddress (sym (by_parts net a h.network)) h.own in
    let known = encoded_is net a.bytes l own in
    let rest = drop n W in
    let parts : W ≡ letters_of net a.bytes ++ rest = sym (take-append-drop n W) ∙ ap (λ t. t ++ rest) (e ∙ h.encodes) in
    let left = at_least_four rest (omega (arith, length-drop n W, whole)) in
    let four = bytes_back (encoded net a.bytes) known.rest (get_or rest 0 0) (get_or rest 1 0) (get_or rest 2 0) (get_or rest 3 0) (drop 4 rest) known.few known.groups known.small in
    let back : take (length (encoded net a.bytes)) (decoded W) ≡ encoded net a.bytes =
    ap (λ ws. take (length (encoded net a.bytes)) (decoded ws)) (parts ∙ ap (λ r. letters_of net a.bytes ++ r) left) ∙ four in
    sym (take-take (length_of net) (length (encoded net a.bytes)) (decoded W) known.long) ∙ ap (take (length_of net)) back ∙ known.begins

-- the letters of a name are at most 56
pub few_letters : (net : Net) (a : Address) (L : List ℕ) → IsLettered net → HasLetters net L a → length L ≤ 56
few_letters net a L l h =
    let own = subst IsAddress (sym (by_parts net a h.network)) h.own in
    let known = encoded_is net a.bytes l own in
    omega (arith, ap length h.encodes, length-base32 (encoded net a.bytes), known.within)

-- an address with these letters is the one of the bytes that they decode as
pub letters_address : (net : Net) (a : Address) (L W bytes : List ℕ) (n : ℕ) → IsLettered net → HasLetters net L a → take n W ≡ L → n ≤ 56 → length W ≡ 64 → bytes ≡ take (length_of net) (decoded W) → record { net = net; bytes = bytes } ≡ a
letters_address net a L W bytes n l h e small whole is =
    (λ i. record { net = net; bytes = (is ∙ letters_decode net a L W n l h e small whole) i }) ∙ by_parts net a h.network
