-- The rows that a tree is turned back into. A path is a list of address bits, high bit first.
use Rattle.std.specs.Prelude.{◌==◌, ℕ, ◌*◌, ◌-◌, ◌^◌, Bool, true, false, List, [], ◌∷◌, ◌++◌, length, if◌then◌else◌}
use Rattle.bit_code.specs.Coder.{number_of}
use Rattle.asmap_vm.specs.Code.{Tree, Return, Jump, Match, Default}
use Rattle.prefix_table.specs.declared.rows.Row.{Row}

-- the first address that begins with a path: its bits, and then zeros
abbrev pub first_at : List Bool → ℕ
first_at p = number_of p * 2 ^ (128 - length p)

-- the row of a path
abbrev pub row_at : List Bool → ℕ → Row
row_at p asn = record { bits = first_at p; len = length p; asn = asn }

-- the row, unless the longest row above it has the same number
unfoldable pub unless_same : Row → ℕ → List Row
unless_same row last = if row.asn == last then [] else row ∷ []

-- The rows of a tree at a path, if this default holds there. `last` is the number of the longest
-- row above the path, or 0. If a match fails, the answer is the default, so a match gives the
-- default a row at its path.
unfoldable pub rows_of : Tree → List Bool → ℕ → ℕ → List Row
rows_of (Return asn) p default last = unless_same (row_at p asn) last
rows_of (Jump l r) p default last =
    rows_of l (p ++ false ∷ []) default last ++ rows_of r (p ++ true ∷ []) default last
rows_of (Match wanted t) p default last =
    unless_same (row_at p default) last ++ rows_of t (p ++ wanted) default default
rows_of (Default asn t) p default last = rows_of t p asn last

-- the rows of a whole tree
abbrev pub rows_back : Tree → List Row
rows_back t = rows_of t [] 0 0
