use Rattle.std.proofs.Common.{◌≡◌, ◌+◌, ◌∙◌, rules}
use Rattle.table_machine.specs.Picks.{select}
use Rattle.random_words.specs.Seeded.{seeded_words}
use Rattle.opener_lines.specs.declared.tries.TheConstants.{TRY_WORDS}
use Rattle.opener_lines.proofs.tries.pick_of_try.Goals as goal

pub returns : goal.returns
returns g c =
    let seed : c.from.result ≡ c.args.seed = search rules in
    let number : c.from-2.result ≡ c.args.number = search rules in
    let words = c.seeded-words.ensures.words ∙ (λ j. seeded_words (seed j + number j) TRY_WORDS) in
    c.select_by.ensures.picked
    ∙ (λ j. select (c.tables-tables.ensures j) c.args.new_only (c.all.ensures j) (words j) (c.clock-now.ensures j))
