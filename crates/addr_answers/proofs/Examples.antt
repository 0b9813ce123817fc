-- Worked examples of answers, computed by the checker. The numbers are those of reference/answers.py.
use Rattle.std.proofs.Common.{◌≡◌, ℕ, true, false, List, [], ◌∷◌, length, map, refl}
use Rattle.std.specs.List.{range_with_len}
use Rattle.net_addr.specs.declared.net.Net.TheVariants.{Onion}
use Rattle.addr_answers.specs.Answers.{Answer, answer, after_put, has_room, is_current, key_of, told_time}
use Rattle.addr_answers.specs.Runs.{Ask, makers}

-- the Tor requests of socket 3
tor_key : key_of Onion 3 ≡ 27
tor_key = refl

-- 8 days before 1,700,000,000, and the part of the largest word more
least_age : told_time 1700000000 0 ≡ 1699308800
least_age = refl

some_age : told_time 1700000000 18446744073709551615 ≡ 1699028692
some_age = refl

-- a clock near 1970
small_clock : told_time 600000 0 ≡ 0
small_clock = refl

-- an answer of 1,000 records, by the largest word
abbrev whole : Answer
whole = answer 11 1700000000 1000 18446744073709551615 []

-- and one of 999
abbrev small : Answer
small = answer 11 1700000000 999 18446744073709551615 []

last_second : is_current 1700087348 whole ≡ true
last_second = refl

over : is_current 1700087349 whole ≡ false
over = refl

clock_back : is_current 1699924401 whole ≡ true
clock_back = refl

clock_far_back : is_current 1699924400 whole ≡ false
clock_far_back = refl

small_last_second : is_current 1700003599 small ≡ true
small_last_second = refl

small_over : is_current 1700003600 small ≡ false
small_over = refl

small_clock_back : is_current 1699996400 small ≡ false
small_clock_back = refl

-- 64 keys have answers: a further one gets nothing, one of them gets a new answer
abbrev full : List Answer
full = map (λ key. answer key 1700000000 1000 0 []) (range_with_len 0 64)

no_room : has_room 64 full ≡ false
no_room = refl

room_for_own : has_room 63 full ≡ true
room_for_own = refl

unchanged : after_put (answer 64 1700000000 1000 0 []) full ≡ full
unchanged = refl

-- requests of the key 1 at three times, and one of the key 2 between them
abbrev ask : ℕ → ℕ → Ask
ask key now = record { key = key; now = now; records = 1000; word = 0; fresh = [] }

two_samples : length (makers 1 [] (ask 1 1000 ∷ ask 2 1001 ∷ ask 1 76599 ∷ ask 1 76600 ∷ [])) ≡ 2
two_samples = refl
