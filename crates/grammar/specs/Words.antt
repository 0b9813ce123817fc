-- The words of a line.
use Rattle.std.specs.Prelude.{ℕ, List, [], ◌==◌, Option, Some, None}
use Rattle.std.specs.Borrow.{Bor}
use Rattle.std.specs.List.{slice_split}

-- the pieces of a line between its spaces; an empty piece is a field
abbrev pub fields_of : List ℕ → List (List ℕ)
fields_of line = slice_split (λ b. b == 32) line

-- the pieces of the text after a separator; none if there was no separator
abbrev pub pieces_after : ℕ → Option (Bor (List ℕ)) → List (List ℕ)
pieces_after separator None = []
pieces_after separator (Some rest) = slice_split (λ b. b == separator) rest.now

-- the fields after a space
abbrev pub texts_after : Option (Bor (List ℕ)) → List (List ℕ)
texts_after rest = pieces_after 32 rest
