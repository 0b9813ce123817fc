-- What is said of the groups that spread.
use Rattle.std.specs.Prelude.{List, ℕ, ◌++◌, codes}
use Rattle.picture_text.specs.Elements.{label}
use Rattle.picture_text.specs.declared.by.By.{By}
use Rattle.picture_text.specs.declared.by.By.TheVariants.{Source}

-- where an honest group of as many slots has them
abbrev pub honest_text : By → List ℕ
honest_text Source = codes "from the 64 of a source, by over 3 standard deviations."
honest_text other = codes "from all 1024, by over 3 standard deviations."

-- The first line of the note below the list.
unfoldable pub first_note : List ℕ
first_note =
    label (codes "694") (codes "682") (codes "k")
    (codes "In more new buckets than as many slots taken at random")

-- The second line of the note: what an honest group is compared with.
unfoldable pub second_note : By → List ℕ
second_note by = label (codes "694") (codes "698") (codes "k") (honest_text by)

-- Both lines of the note, by what the colours show.
abbrev pub notes_by : By → List ℕ
notes_by by = first_note ++ second_note by
