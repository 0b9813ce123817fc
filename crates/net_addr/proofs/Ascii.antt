-- Texts of IPv4 and IPv6 addresses are ASCII.
use Rattle.std.proofs.Common.{◌≡◌, ℕ, ◌+◌, ◌/◌, ◌%◌, ◌<◌, ◌^◌, Bool, true, false, nat_lt, List, [], ◌∷◌, ◌++◌, length, take, drop, flat_map, codes, decimal, All, get_or, slice_index, suc, rules, if◌then◌else◌, arith, refl}
use Rattle.std.specs.Char.{digit_char}
use Rattle.std.specs.Net.Text.{compressed_text, groups_text, hex, hex_groups_text, leading_zero_digits, longest_zero_run}
use Rattle.std.specs.Str.{IsAscii}
use Rattle.std.proofs.lemmas.Bool.Decides.{nat_tests}
use Rattle.std.proofs.lemmas.Fmt.{IsAscii-decimal}
use Rattle.std.proofs.lemmas.List.Elements.{All-drop, All-head, All-tail, All-take}
use Rattle.std.proofs.lemmas.Str.{IsAscii-append, IsAscii-drop}
use Rattle.std.proofs.lemmas.Str.Ascii.{IsAscii-cons, IsAscii-nil}
use Rattle.net_addr.specs.NetBits.{each_below}
use Rattle.net_addr.specs.Text.{ipv4_text}

one : (a : ℕ) → a < 256 → IsAscii (decimal a)
one a h = IsAscii-decimal a (omega (arith, h))

small : (c : ℕ) → nat_lt c 128 ≡ true → c < 128
small c e = grind (arith, nat_tests)

digit : (d : ℕ) → d < 16 → digit_char d < 128
digit d h = small (digit_char d) (each_below (λ k. nat_lt (digit_char k) 128) 16 refl d h)

hex_ascii : (n : ℕ) → n < 2 ^ 16 → IsAscii (hex n)
unfolding hex
hex_ascii n h =
    let a = digit_char (n / 0x1000) in
    let b = digit_char (n / 0x100 % 16) in
    let c = digit_char (n / 0x10 % 16) in
    let d = digit_char (n % 16) in
    IsAscii-drop (a ∷ b ∷ c ∷ d ∷ []) (leading_zero_digits n)
    (IsAscii-cons a (b ∷ c ∷ d ∷ []) (digit (n / 0x1000) (omega (arith, h)))
    (IsAscii-cons b (c ∷ d ∷ []) (digit (n / 0x100 % 16) (omega arith))
    (IsAscii-cons c (d ∷ []) (digit (n / 0x10 % 16) (omega arith))
    (IsAscii-cons d [] (digit (n % 16) (omega arith)) IsAscii-nil))))

later_ascii : (ss : List ℕ) → All (λ s. s < 2 ^ 16) ss → IsAscii (flat_map (λ t. codes ":" ++ hex t) ss)
later_ascii [] h = IsAscii-nil
later_ascii (s ∷ ss) h =
    IsAscii-append (58 ∷ hex s) (flat_map (λ t. codes ":" ++ hex t) ss)
    (IsAscii-cons 58 (hex s) (omega arith) (hex_ascii s (All-head (λ s. s < 2 ^ 16) s ss h)))
    (later_ascii ss (All-tail (λ s. s < 2 ^ 16) s ss h))

groups_ascii : (ss : List ℕ) → All (λ s. s < 2 ^ 16) ss → IsAscii (groups_text ss)
groups_ascii [] h = IsAscii-nil
groups_ascii (s ∷ ss) h = IsAscii-append (hex s) (flat_map (λ t. codes ":" ++ hex t) ss) (hex_ascii s (All-head (λ s. s < 2 ^ 16) s ss h)) (later_ascii ss (All-tail (λ s. s < 2 ^ 16) s ss h))

compressed_ascii : (b : Bool) (ss : List ℕ) (m n : ℕ) → All (λ s. s < 2 ^ 16) ss
    → IsAscii (if b then groups_text (take m ss) ++ codes "::" ++ groups_text (drop n ss) else groups_text ss)
compressed_ascii true ss m n h =
    IsAscii-append (groups_text (take m ss) ++ codes "::") (groups_text (drop n ss))
    (IsAscii-append (groups_text (take m ss)) (codes "::") (groups_ascii (take m ss) (All-take (λ s. s < 2 ^ 16) m ss h))
    (IsAscii-cons 58 (58 ∷ []) (omega arith) (IsAscii-cons 58 [] (omega arith) IsAscii-nil)))
    (groups_ascii (drop n ss) (All-drop (λ s. s < 2 ^ 16) n ss h))
compressed_ascii false ss m n h = groups_ascii ss h

each_word : (xs : List ℕ) → ((i : ℕ) → get_or xs i 0 < 2 ^ 16) → All (λ s. s < 2 ^ 16) xs
each_word [] h = search rules
each_word (x ∷ xs) h =
    let later = each_word xs (λ i. h (suc i)) in
    let first = h 0 in
    search rules

-- the groups of an IPv6 address
pub hex_groups_ascii : (ss : List ℕ) → ((i : ℕ) → get_or ss i 0 < 2 ^ 16) → IsAscii (hex_groups_text ss)
unfolding hex_groups_text
hex_groups_ascii ss h =
    let run = longest_zero_run ss in
    compressed_ascii (nat_lt 1 run.1) ss run.0 (run.0 + run.1) (each_word ss h)

after_dot : (n : ℕ) (more : List ℕ) → n < 256 → IsAscii more → IsAscii (decimal n ++ 46 ∷ more)
after_dot n more h rest = IsAscii-append (decimal n) (46 ∷ more) (one n h) (IsAscii-cons 46 more (omega arith) rest)

-- four decimal numbers with dots between them
pub dotted_ascii : (bytes : List ℕ) → length bytes ≡ 4 → slice_index bytes 0 < 256 → slice_index bytes 1 < 256
    → slice_index bytes 2 < 256 → slice_index bytes 3 < 256 → IsAscii (ipv4_text bytes)
dotted_ascii [] l p q r s = absurd (omega (arith, l))
dotted_ascii (a ∷ []) l p q r s = absurd (omega (arith, l))
dotted_ascii (a ∷ b ∷ []) l p q r s = absurd (omega (arith, l))
dotted_ascii (a ∷ b ∷ c ∷ []) l p q r s = absurd (omega (arith, l))
dotted_ascii (a ∷ b ∷ c ∷ d ∷ []) l p q r s =
    after_dot a (decimal b ++ 46 ∷ (decimal c ++ 46 ∷ decimal d)) p (after_dot b (decimal c ++ 46 ∷ decimal d) q (after_dot c (decimal d) r (one d s)))
dotted_ascii (a ∷ b ∷ c ∷ d ∷ e ∷ more) l p q r s = absurd (omega (arith, l))
