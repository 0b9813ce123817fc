use Rattle.std.proofs.Common.{◌≡◌, ◌+◌, ◌<◌, ◌≤◌, ◌^◌, ◌++◌, length, vec_len, map, All, decimal}
use Rattle.std.specs.Prelude.{◌==◌}
use Rattle.std.specs.List.{slice_split}
use Rattle.grammar.specs.Inside.{length_after}
use Rattle.grammar.specs.Words.{pieces_after}
use Rattle.grammar.proofs.random.read_numbers.Given as goal

-- the pieces that were read are those of the numbers
abbrev pub invariant-loop-rest : goal.invariant-loop-rest
invariant-loop-rest l = record {
  pieces : slice_split (λ b. b == 44) l.text ≡ map decimal l.words.items ++ pieces_after 44 l.rest;
  small : All (λ w. w < 2 ^ 64) l.words.items;
  within : vec_len l.words + length_after l.rest ≤ length l.text + 1;
}

abbrev pub decreases-loop-rest : goal.decreases-loop-rest
decreases-loop-rest l = length_after l.rest
