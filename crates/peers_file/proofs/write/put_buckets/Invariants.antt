use Rattle.std.proofs.Common.{◌≡◌, ℕ, ◌≤◌, ◌++◌, length, All, AllPairs}
use Rattle.std.specs.List.{flat_map, range_with_len}
use Rattle.peers_file.specs.Texts.{bucket_text}
use Rattle.peers_file.proofs.TextLaws.{pairs_of}
use Rattle.peers_file.proofs.write.put_buckets.Given as goal

-- the buckets before this one are written, and what is left has the pairs of the others
abbrev pub invariant-loop-bucket : goal.invariant-loop-bucket
invariant-loop-bucket l = record {
  text : l.out.items ≡ l.initial.out.items ++ flat_map (bucket_text l.listed) (range_with_len 0 l.bucket);
  same : (b : ℕ) → l.bucket ≤ b → pairs_of l.rest b ≡ pairs_of l.listed b;
  low : All (λ p. l.bucket ≤ p.0) l.rest;
  rising : AllPairs (λ p later. p.0 ≤ later.0) l.rest;
  few : length l.rest ≤ 65536;
}
