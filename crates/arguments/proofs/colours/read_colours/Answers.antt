use Rattle.std.proofs.Common.{◌≡◌, List, ℕ, map, string_bytes, codes, Some, sym, ap, subst, ◌∙◌}
use Rattle.std.specs.Prelude.{unwrap_or}
use Rattle.std.proofs.lemmas.Option.{none-some}
use Rattle.arguments.specs.Inside.{Begins}
use Rattle.arguments.specs.declared.colours.Colours.TheVariants as colours
use Rattle.arguments.proofs.Colourings.{colour_read, only_by}
use Rattle.arguments.proofs.colours.read_colours.Goals as goal

pub returns-in-Some-read_net-clause-found : goal.returns-in-Some-read_net-clause-found
returns-in-Some-read_net-clause-found c =
    let rest : List (List ℕ) = map string_bytes c.in-Some.rest.now in
    let word = colour_read c.in-Some.word.now c.find_keyword.result c.in-Some-find_keyword.by c.find_keyword.ensures c.in-Some-find_keyword.is in
    (rest, subst (λ w. Begins (codes "--by") w rest (map string_bytes c.args.words.now)) word c.in-Some.ensures.found, c.in-Some-read_net.ensures.found)

pub returns-in-Some-read_net-clause-only : goal.returns-in-Some-read_net-clause-only
returns-in-Some-read_net-clause-only c = λ x chain asks.
    let same = only_by (map string_bytes c.args.words.now) (map string_bytes c.in-Some.rest.now) c.in-Some.word.now c.find_keyword.result c.in-Some.ensures.found c.find_keyword.ensures x chain asks in
    let words : c.in-Some-find_keyword.by ≡ same.0 = ap (λ o. unwrap_or o c.in-Some-find_keyword.by) (sym c.in-Some-find_keyword.is ∙ same.2) in
    let chains : c.in-Some-read_net.chain ≡ chain = ap (λ o. unwrap_or o c.in-Some-read_net.chain) (sym c.in-Some-read_net.is ∙ c.read_net.ensures.only chain same.3) in
    λ i. Some ((ap colours.By words ∙ sym same.1) i, chains i)

pub returns-in-None-clause-only : goal.returns-in-None-clause-only
returns-in-None-clause-only c = λ x chain asks.
    let same = only_by (map string_bytes c.args.words.now) (map string_bytes c.in-Some.rest.now) c.in-Some.word.now c.find_keyword.result c.in-Some.ensures.found c.find_keyword.ensures x chain asks in
    absurd (none-some chain (sym c.in-None.is ∙ c.read_net.ensures.only chain same.3))
