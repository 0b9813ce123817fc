-- How a set of networks is stored: one bit for each network.
use Rattle.std.specs.Prelude.{◌≡◌, ℕ, ◌^◌, ◌<◌, List, filter, sum_by, length, Bool, true, ◌==◌, refl}
use Rattle.std.specs.List.{list_all, range_with_len}
use Rattle.std.specs.Int.{bit_at}
use Rattle.std.proofs.Common.{subst, sym, zero-add, ◌∙◌}
use Rattle.std.proofs.lemmas.Bool.Decides.{Decides-eqb}
use Rattle.std.proofs.lemmas.List.Elements.{All-get_or}
use Rattle.std.proofs.lemmas.List.FromFn.{get_or-range_with_len, length-range_with_len}
use Rattle.std.proofs.lemmas.List.Sums.{AllPass-from_list_all}
use Rattle.net_addr.specs.NetSet.{all}

-- the networks whose bits are set
abbrev pub nets_of : ℕ → List ℕ
nets_of bits = filter (λ n. bit_at bits n == 1) all

-- the bits of the networks
abbrev pub bits_of : List ℕ → ℕ
bits_of nets = sum_by (λ n. 2 ^ n) nets

-- what a computed table shows of each number below a bound
pub each_below : (p : ℕ → Bool) (bound : ℕ) → list_all p (range_with_len 0 bound) ≡ true
    → (n : ℕ) → n < bound → p n ≡ true
each_below p bound table n below =
    let numbers = range_with_len 0 bound in
    let within : n < length numbers =
    subst (λ l. n < l) (sym (length-range_with_len 0 bound)) below in
    subst (λ k. p k ≡ true) (get_or-range_with_len 0 bound n 0 below ∙ zero-add n)
    (All-get_or (λ k. p k ≡ true) numbers n 0 within (AllPass-from_list_all p numbers table))

-- Seven bits are those of the set of networks that they stand for.
pub bits_of-nets_of : (bits : ℕ) → bits < 128 → bits_of (nets_of bits) ≡ bits
bits_of-nets_of bits below =
    (Decides-eqb (bits_of (nets_of bits)) bits).0
    (each_below (λ b. bits_of (nets_of b) == b) 128 refl bits below)
