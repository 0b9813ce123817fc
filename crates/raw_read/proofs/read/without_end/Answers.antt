use Rattle.std.proofs.Common.{Some, codes, inl}
use Rattle.std.proofs.lemmas.Slice.Eq.{strip_suffix_is}
use Rattle.std.proofs.lemmas.Bool.Decides.{Decides-eqb}
use Rattle.raw_read.proofs.read.without_end.Goals as goal

pub returns-in-Some : goal.returns-in-Some
returns-in-Some c =
    inl (strip_suffix_is Decides-eqb c.args.text.now (codes "\n") (Some c.in-Some.line) c.in-Some.ensures.cases)
