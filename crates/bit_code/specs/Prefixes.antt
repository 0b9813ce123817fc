-- Bits that begin with others.
use Rattle.std.specs.Prelude.{Bool, true, false, List, [], ◌∷◌}

-- whether a list of bits begins with another
unfoldable pub begins_with : List Bool → List Bool → Bool
begins_with bits [] = true
begins_with [] (w ∷ wanted) = false
begins_with (true ∷ bits) (true ∷ wanted) = begins_with bits wanted
begins_with (false ∷ bits) (false ∷ wanted) = begins_with bits wanted
begins_with (b ∷ bits) (w ∷ wanted) = false
