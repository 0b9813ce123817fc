use Rattle.std.proofs.Common.{Some, refl, codes}
use Rattle.std.proofs.lemmas.Slice.Eq.{strip_suffix_is}
use Rattle.std.proofs.lemmas.Bool.Decides.{Decides-eqb}
use Rattle.names.proofs.read.before_suffix.Goals as goal

pub returns-in-Some-clause-cut : goal.returns-in-Some-clause-cut
returns-in-Some-clause-cut c =
    (codes ".onion", strip_suffix_is Decides-eqb c.args.text.now (codes ".onion") (Some c.in-Some.stem) c.in-Some.ensures.cases, refl)

pub returns-in-Some-strip_suffix-clause-cut : goal.returns-in-Some-strip_suffix-clause-cut
returns-in-Some-strip_suffix-clause-cut c =
    (codes ".internal", strip_suffix_is Decides-eqb c.args.text.now (codes ".internal") (Some c.in-Some-strip_suffix.stem) c.in-Some-strip_suffix.ensures.cases, refl)
