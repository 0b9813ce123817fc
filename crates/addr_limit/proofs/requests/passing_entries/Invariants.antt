use Rattle.std.proofs.Common.{◌≡◌, map}
use Rattle.addr_limit.proofs.PassedOn.{passing}
use Rattle.addr_limit.proofs.requests.passing_entries.Given as goal

-- the first entries that are passed on are listed, with their words
abbrev pub invariant-loop-i : goal.invariant-loop-i
invariant-loop-i l =
    (l.passing.entries.items ≡ map (λ p. p.0) (passing l.entries l.words l.i)) × (l.passing.words.items ≡ map (λ p. p.1) (passing l.entries l.words l.i))
