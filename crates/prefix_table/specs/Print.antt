-- How a prefix table is printed. IPv6 is written by RFC 5952.
use Rattle.std.specs.Prelude.{◌==◌, ℕ, ◌-◌, ◌/◌, ◌%◌, ◌^◌, Bool, List, [], ◌∷◌, ◌++◌, decimal, codes, flat_map, nat_le, ◌&&◌, if◌then◌else◌}
use Rattle.std.specs.Int.{w32, w128, to_be_bytes}
use Rattle.net_addr.specs.Text.{ipv4_text, ipv6_text}
use Rattle.prefix_table.specs.declared.rows.Row.{Row}
use Rattle.prefix_table.specs.declared.line.RowEntry.{RowEntry}
use Rattle.prefix_table.specs.declared.line.Family.{Family}
use Rattle.prefix_table.specs.declared.line.Family.TheVariants.{Ipv4, Ipv6}

-- the row is one of mapped addresses, `::ffff:0:0/96` or a part of it
abbrev pub is_mapped : Row → Bool
is_mapped row = nat_le 96 row.len && (row.bits / 2 ^ 32 == 65535)

-- A row of mapped addresses in the IPv4 form, with 96 bits less.
abbrev pub ipv4_entry : Row → RowEntry
ipv4_entry row =
    record { family = Ipv4; address = row.bits % 2 ^ 32; len = row.len - 96; asn = row.asn }

-- A row in the IPv6 form.
abbrev pub ipv6_entry : Row → RowEntry
ipv6_entry row = record { family = Ipv6; address = row.bits; len = row.len; asn = row.asn }

-- what is printed of a row: the IPv4 form if it has one
abbrev pub entry_of : Row → RowEntry
entry_of row = if is_mapped row then ipv4_entry row else ipv6_entry row

-- The address of a row as text, by its family.
abbrev pub text_by : Family → ℕ → List ℕ
text_by Ipv4 address = ipv4_text (to_be_bytes w32 address)
text_by Ipv6 address = ipv6_text (to_be_bytes w128 address)

-- The address of a row that is printed, as text.
abbrev pub address_text : RowEntry → List ℕ
address_text entry = text_by entry.family entry.address

-- an address, a slash, the length, a space, `AS` and the number
abbrev pub entry_text : RowEntry → List ℕ
entry_text entry =
    address_text entry ++ codes "/" ++ decimal entry.len ++ codes " AS" ++ decimal entry.asn

-- the prefix of a row: the address, a slash and the length
abbrev pub prefix_text : Row → List ℕ
prefix_text row = address_text (entry_of row) ++ codes "/" ++ decimal (entry_of row).len

-- a row and its line feed
unfoldable pub row_text : Row → List ℕ
row_text row = entry_text (entry_of row) ++ 10 ∷ []

-- the rows in their order
unfoldable pub table_text : List Row → List ℕ
table_text rows = flat_map row_text rows
