use Rattle.grammar.specs.Inside.{length_after}
use Rattle.grammar.proofs.NameLemmas.{SoFar}
use Rattle.grammar.proofs.nets.read_names.Given as goal

-- the names before the rest are read
abbrev pub invariant-loop-rest : goal.invariant-loop-rest
invariant-loop-rest l = SoFar l.text l.rest l.nets

abbrev pub decreases-loop-rest : goal.decreases-loop-rest
decreases-loop-rest l = length_after l.rest
