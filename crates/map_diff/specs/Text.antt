-- How a difference is printed: the lines of `diff` of contrib/asmap/asmap-tool.py in Bitcoin Core.
use Rattle.std.specs.Prelude.{◌==◌, ℕ, ◌-◌, ◌^◌, Bool, true, false, List, [], ◌∷◌, ◌++◌, codes, decimal, flat_map, not, sum_by, if◌then◌else◌}
use Rattle.prefix_table.specs.Print.{is_mapped, prefix_text}
use Rattle.prefix_table.specs.declared.rows.Row.{Row}
use Rattle.map_diff.specs.declared.changed.ChangedPrefix.{ChangedPrefix}

-- the row of the prefix, with the new number
abbrev pub new_row : ChangedPrefix → Row
new_row change = record { bits = change.bits; len = change.len; asn = change.new }

-- `AS` and the number, or that there is none
abbrev pub number_text : ℕ → List ℕ
number_text asn = if asn == 0 then codes "unassigned" else codes "AS" ++ decimal asn

-- the prefix with its new number and, as a comment, its old one
abbrev pub given_text : ChangedPrefix → List ℕ
given_text change =
    prefix_text (new_row change) ++ codes " AS" ++ decimal change.new ++ codes " # was "
    ++ number_text change.old ++ 10 ∷ []

-- a prefix that has no new number is a comment
abbrev pub taken_text : ChangedPrefix → List ℕ
taken_text change =
    codes "# " ++ prefix_text (new_row change) ++ codes " was AS" ++ decimal change.old ++ 10 ∷ []

-- The line of a change.
unfoldable pub change_text : ChangedPrefix → List ℕ
change_text change = if change.new == 0 then taken_text change else given_text change

-- the addresses of the prefix are IPv4 addresses
abbrev pub is_ipv4 : ChangedPrefix → Bool
is_ipv4 change = is_mapped (new_row change)

-- how many addresses begin with the prefix
abbrev pub span : ChangedPrefix → ℕ
span change = 2 ^ (128 - change.len)

-- the prefix is one of those that are counted: of IPv4 addresses, or of others
abbrev pub is_counted : Bool → ChangedPrefix → Bool
is_counted true change = is_ipv4 change
is_counted false change = not (is_ipv4 change)

-- how many addresses of these prefixes are IPv4 addresses, or are not
unfoldable pub count_of : Bool → List ChangedPrefix → ℕ
count_of ipv4 rows = sum_by (λ row. if is_counted ipv4 row then span row else 0) rows

-- the line after the changes
unfoldable pub counts_text : List ChangedPrefix → List ℕ
counts_text rows =
    codes "# " ++ decimal (count_of true rows) ++ codes " IPv4 addresses changed; "
    ++ decimal (count_of false rows) ++ codes " IPv6 addresses changed" ++ 10 ∷ []

-- the changes, one a line, and the line of their addresses
unfoldable pub difference_text : List ChangedPrefix → List ℕ
difference_text rows = flat_map change_text rows ++ counts_text rows
