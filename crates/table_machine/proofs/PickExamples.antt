-- Worked examples of picks and samples, computed over the definitions. The occupants of slots are
-- given, and not found by hashes.
use Rattle.std.proofs.Common.{◌≡◌, ℕ, ◌+◌, ◌-◌, ◌^◌, ◌==◌, Bool, true, false, List, [], ◌∷◌, filter_map, map, find, replicate, Option, None, Some, refl, if◌then◌else◌}
use Rattle.std.specs.List.{range_with_len}
use Rattle.net_addr.specs.Address.{Address}
use Rattle.net_addr.specs.NetSet.{all, none, with_net}
use Rattle.net_addr.specs.OldForm.{address}
use Rattle.net_addr.specs.Ranges.{in_range}
use Rattle.net_addr.specs.declared.net.Net.{Net}
use Rattle.net_addr.specs.declared.net.Net.TheVariants.{Cjdns, Ipv4, Onion, Unroutable}
use Rattle.peer_rec.specs.Rec.{chance, network, next_factor}
use Rattle.peer_rec.specs.declared.answers.Picked.TheVariants.{One, Nothing, Exhausted}
use Rattle.peer_rec.specs.declared.rec.Rec.{Rec}
use Rattle.peer_rec.specs.declared.place.Place.TheVariants.{New, Tried}
use Rattle.table_machine.specs.State.{State}
use Rattle.table_machine.specs.Picks.{first_accepted, first_factor, first_candidate, is_accepted, is_wanted, occupant_at, sample, sample_limit, select, slots_from}
use Rattle.table_machine.proofs.ExampleStates.{failed, now, peer, state}

-- the set of one network
abbrev only : Net → List ℕ
only net = with_net none net

abbrev onion : Address
onion = address Onion (replicate 32 0xab)

-- the slots from the first on, from the last, and from one between them
from_first : slots_from 0 ≡ range_with_len 0 64
from_first = refl

from_last : slots_from 63 ≡ 63 ∷ range_with_len 0 63
from_last = refl

from_middle : slots_from 60 ≡ 60 ∷ 61 ∷ 62 ∷ 63 ∷ range_with_len 0 60
from_middle = refl

-- a bucket with three occupants
abbrev occupants : ℕ → Option Rec
occupants slot =
    if slot == 5 then Some (failed 0 1 0 Tried)
    else if slot == 40 then Some (record (failed 1 2 0 Tried) { peer = record { addr = onion; port = 2 } })
    else if slot == 63 then Some (failed 2 3 0 Tried)
    else None

abbrev first_of : (ℕ → Option Rec) → List ℕ → ℕ → Option Rec
first_of occupant nets start = find (is_wanted nets) (filter_map occupant (slots_from start))

first_candidate-is : (st : State) (in_new : Bool) (nets : List ℕ) (bucket start : ℕ)
    → first_candidate st in_new nets bucket start ≡ first_of (occupant_at st in_new bucket) nets start
first_candidate-is st in_new nets bucket start = refl

abbrev first_of_bucket : List ℕ → ℕ → Option Rec
first_of_bucket nets start = first_of occupants nets start

at_its_slot : first_of_bucket all 5 ≡ Some (failed 0 1 0 Tried)
unfolding in_range
at_its_slot = refl

last_slot : first_of_bucket all 41 ≡ Some (failed 2 3 0 Tried)
unfolding in_range
last_slot = refl

of_the_network : first_of_bucket (only Ipv4) 6 ≡ Some (failed 2 3 0 Tried)
unfolding in_range
of_the_network = refl

goes_round : first_of_bucket (only Onion) 41 ≡ Some (record (failed 1 2 0 Tried) { peer = record { addr = onion; port = 2 } })
unfolding in_range
goes_round = refl

none_of_the_network : first_of_bucket (only Cjdns) 0 ≡ None
unfolding in_range
none_of_the_network = refl

of_either_network : first_of_bucket (with_net (only Onion) Cjdns) 6 ≡ Some (record (failed 1 2 0 Tried) { peer = record { addr = onion; port = 2 } })
unfolding in_range
of_either_network = refl

of_no_network : first_of_bucket none 0 ≡ None
unfolding in_range
of_no_network = refl

-- a set is a rising list, in whatever order its networks are added
sets : with_net (only Onion) Ipv4 ∷ with_net (only Ipv4) Onion ∷ with_net (only Onion) Onion ∷ [] ≡ (1 ∷ 3 ∷ []) ∷ (1 ∷ 3 ∷ []) ∷ (3 ∷ []) ∷ []
sets = refl

-- a record whose address is not routable is of no named network, and of all
abbrev private : Rec
private = record (failed 0 1 0 Tried) { peer = record { addr = address Ipv4 (10 ∷ 0 ∷ 0 ∷ 1 ∷ []); port = 1 } }

private_network : network private ≡ Unroutable
unfolding in_range
private_network = refl

private_wanted : map (λ nets. is_wanted nets private) (all ∷ only Unroutable ∷ only Ipv4 ∷ []) ≡ true ∷ true ∷ false ∷ []
unfolding in_range
private_wanted = refl

private_only : select (state (private ∷ []) (0 ∷ []) [] 20) false (only Ipv4) (1 ∷ 2 ∷ 3 ∷ []) now ≡ Nothing
unfolding in_range
private_only = refl

-- At the first factor a record that failed once is accepted by the words whose low 30 bits are
-- below its chance, and one with no failure by each word.
one_failure : chance (failed 0 1 1 Tried) now ≡ 708669603
one_failure = refl

words_at_the_chance : map (is_accepted (failed 0 1 1 Tried) now first_factor) (708669602 ∷ 708669603 ∷ (2 ^ 30 + 708669602) ∷ []) ≡ true ∷ false ∷ true ∷ []
words_at_the_chance = refl

greatest_word : is_accepted (failed 0 1 0 Tried) now first_factor (2 ^ 30 - 1) ≡ true
greatest_word = refl

-- the factor after one refusal, below the cap, and at it
factors : map next_factor (2 ^ 30 ∷ 2 ^ 59 ∷ 2 ^ 60 ∷ []) ≡ 1288490188 ∷ 691752902764108185 ∷ 2 ^ 60 ∷ []
factors = refl

-- the second record is accepted by a word that does not accept the first: the factor has grown
abbrev twice : List (Rec × ℕ)
twice = (failed 0 1 1 Tried, 708669603) ∷ (failed 1 2 1 Tried, 708669603) ∷ []

second_accepted : first_accepted now first_factor twice ≡ One (peer 2) 1699996400
second_accepted = refl

-- no record is wanted, and the words are too few
nothing_known : select (state [] [] [] 20) false all (1 ∷ 2 ∷ 3 ∷ 4 ∷ []) now ≡ Nothing
nothing_known = refl

only_tried : select (state (failed 0 1 0 Tried ∷ []) (0 ∷ []) [] 20) true all (1 ∷ 2 ∷ 3 ∷ []) now ≡ Nothing
only_tried = refl

other_network : select (state (failed 0 1 0 Tried ∷ []) (0 ∷ []) [] 20) false (only Onion) (1 ∷ 2 ∷ 3 ∷ []) now ≡ Nothing
unfolding in_range
other_network = refl

no_words : select (state (failed 0 1 0 (New (3 ∷ [])) ∷ failed 1 2 0 Tried ∷ []) (0 ∷ 1 ∷ []) [] 20) false all [] now ≡ Exhausted
unfolding in_range
no_words = refl

two_words : select (state (failed 0 1 0 (New (3 ∷ [])) ∷ []) (0 ∷ []) [] 20) false all (3 ∷ 5 ∷ []) now ≡ Exhausted
unfolding in_range
two_words = refl

-- how many of 1001 records a sample has at most: all, or a part in percent
parts_of_1001 : map (sample_limit 1001 0) (0 ∷ 1 ∷ 23 ∷ 50 ∷ 100 ∷ []) ≡ 1001 ∷ 10 ∷ 230 ∷ 500 ∷ 1001 ∷ []
parts_of_1001 = refl

-- the lesser of a part and a number
part_and_number : sample_limit 1001 1 23 ∷ sample_limit 10 1000 23 ∷ sample_limit 99 1 1 ∷ [] ≡ 1 ∷ 2 ∷ 0 ∷ []
part_and_number = refl

-- two peers are in a sample in the order that the words draw, which stays
abbrev two : State
two = state (failed 0 1 0 Tried ∷ failed 1 2 0 Tried ∷ []) (0 ∷ 1 ∷ []) [] 20

both_peers : (sample two 0 0 all (1 ∷ 7 ∷ []) now).answer ≡ peer 2 ∷ peer 1 ∷ []
unfolding in_range
both_peers = refl

order_stays_swapped : (sample two 0 0 all (1 ∷ 7 ∷ []) now).state.order ≡ 1 ∷ 0 ∷ []
unfolding in_range
order_stays_swapped = refl

-- a terrible record is passed over and does not count
abbrev terrible_first : State
terrible_first = state (failed 0 1 3 Tried ∷ failed 1 2 0 Tried ∷ []) (0 ∷ 1 ∷ []) [] 20

terrible_passed_over : (sample terrible_first 1 0 all (2 ∷ 7 ∷ []) now).answer ≡ peer 2 ∷ []
unfolding in_range
terrible_passed_over = refl

-- no record has a class of the set, and the words still exchange positions
none_of_the_class : (sample two 0 0 (only Onion) (1 ∷ 7 ∷ []) now).answer ≡ []
unfolding in_range
none_of_the_class = refl

order_still_exchanged : (sample two 0 0 (only Onion) (1 ∷ 7 ∷ []) now).state.order ≡ 1 ∷ 0 ∷ []
unfolding in_range
order_still_exchanged = refl
