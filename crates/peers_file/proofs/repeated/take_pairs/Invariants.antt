use Rattle.std.proofs.Common.{◌≡◌, ◌-◌, ◌++◌, ℕ, List}
use Rattle.std.specs.Int.{w32}
use Rattle.wire_num.specs.Readings.{times_at, le_at}
use Rattle.wire_num.proofs.LoopLaws.{with_front}
use Rattle.peers_file.specs.Layout.{pairs_with}
use Rattle.peers_file.specs.Readings.{field_at}
use Rattle.peers_file.proofs.repeated.take_pairs.Given as goal

-- the indexes that were read, of which the list got the pairs, and those that are left are all of them
abbrev pub invariant-loop : goal.invariant-loop
invariant-loop l =
    (front : List ℕ)
    × (l.listed.items ≡ l.initial.listed.items ++ pairs_with l.new_count l.bucket front)
    × (with_front front (times_at l.counter (l.count - l.counter) (λ _. field_at (le_at w32)) l.rest) ≡ times_at 0 l.count (λ _. field_at (le_at w32)) l.bytes)
