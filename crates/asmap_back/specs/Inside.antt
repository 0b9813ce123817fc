-- Words of private contracts.
use Rattle.std.specs.Prelude.{◌≡◌, ℕ, ◌+◌, ◌-◌, ◌*◌, ◌^◌, ◌<◌, Bool, List, ◌++◌, length, ⊤}
use Rattle.asmap_vm.specs.Matches.{match_size}
use Rattle.prefix_table.specs.declared.rows.Row.{Row}
use Rattle.asmap_back.specs.Ahead.{AreAhead}
use Rattle.prefix_table.specs.declared.rows.TheConstants.{MAX_ROWS}
use Rattle.asmap_back.specs.declared.part.Part.{Part}
use Rattle.asmap_back.specs.declared.fault.BackFault.{BackFault}
use Rattle.asmap_back.specs.declared.fault.BackFault.TheVariants.{TooMany, Memory}

-- of the rows that were left these come now, and the others are left
pub record Gives (bits : List Bool) (at : ℕ) (parts : List Part)
    (now left : List Row) : Type 0 where
  pub after : List Row
  pub rows_are : left ≡ now ++ after
  pub ahead : AreAhead bits at parts after

-- the part of the whole tree, at the empty path
abbrev pub whole_part : Part
whole_part = record { bits = 0; len = 0; default = 0; last = 0 }

-- The side of a jump for a zero bit.
abbrev pub zero_side : Part → Part
zero_side part = record part { len = part.len + 1 }

-- The side of a jump for a one bit.
abbrev pub one_side : Part → Part
one_side part = record part { bits = part.bits + 2 ^ (127 - part.len); len = part.len + 1 }

-- The part after a match, whose bits are those of the number below its leading one.
abbrev pub after_match : Part → ℕ → Part
after_match part number = record {
  bits = part.bits + (number - 2 ^ match_size number) * 2 ^ (128 - (part.len + match_size number));
  len = part.len + match_size number;
  default = part.default;
  last = part.default;
}

-- the row of the part's path
abbrev pub row_of : Part → ℕ → Row
row_of part asn = record { bits = part.bits; len = part.len; asn = asn }

-- there are more rows than a table has, unless memory ran out
abbrev pub HasCause : List Row → BackFault → Type 0
HasCause whole (TooMany rows) = (rows ≡ MAX_ROWS + 1) × (MAX_ROWS < length whole)
HasCause whole Memory = ⊤
