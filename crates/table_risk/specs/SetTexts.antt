-- The text of which part of the picks falls to the peers of some sets.
use Rattle.std.specs.Prelude.{ℕ, List, [], ◌∷◌, ◌++◌, codes}
use Rattle.std.specs.List.{flat_map}
use Rattle.table_groups.specs.View.{view_of}
use Rattle.table_machine.specs.State.{State}
use Rattle.risk_parts.specs.Parts.{parts_for}
use Rattle.risk_parts.specs.Sets.{is_among, set_text}
use Rattle.table_risk.specs.Tens.{ten_part}
use Rattle.table_risk.specs.Texts.{heading_of, part_text, parts_text}
use Rattle.risk_parts.specs.declared.addr_set.AddrSet.{AddrSet}
use Rattle.risk_parts.specs.declared.parts.Parts.{Parts}

-- the line of a set
unfoldable pub set_line : AddrSet → Parts → List ℕ
set_line set parts =
    codes "set " ++ (set_text set ++ parts_text parts.picks parts.new parts.tried)

-- the line of all sets together
unfoldable pub union_line : Parts → List ℕ
union_line parts = codes "union" ++ parts_text parts.picks parts.new parts.tried

-- the line of a set, by the part that falls to peers whose addresses are in it
abbrev pub line_at : State → ℕ → AddrSet → List ℕ
line_at st now set = set_line set (parts_for st now (is_among st.places (set ∷ [])))

-- the lines of all sets, and that of all together
abbrev pub lines_at : State → ℕ → List AddrSet → List ℕ
lines_at st now sets =
    flat_map (line_at st now) sets ++ union_line (parts_for st now (is_among st.places sets))

-- the last line, by the part that opens all outbound connections to peers of the sets
unfoldable pub ten_line : ℕ → List ℕ
ten_line part = part_text (codes "all ten at most ") part ++ codes "\n"

-- the text at a time
abbrev pub sets_text : State → ℕ → List AddrSet → List ℕ
sets_text st now sets =
    heading_of (view_of st) ++ (lines_at st now sets ++ ten_line (ten_part st now sets))
