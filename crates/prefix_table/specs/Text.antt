-- The text of a prefix table.
use Rattle.std.specs.Prelude.{◌≡◌, ◌⊎◌, ℕ, ◌+◌, ◌-◌, ◌*◌, ◌%◌, ◌^◌, ◌<◌, ◌≤◌, List, [], ◌∷◌, ◌++◌, Contains, AllPairs, IsPermutation, length, decimal, codes}
use Rattle.host_io.specs.Lines.{IsPassedOver, lines_of}
use Rattle.net_addr.specs.Text.{IsIpv4Text, IsIpv6Text}
use Rattle.prefix_table.specs.Rows.{IsTable, SamePrefix}
use Rattle.prefix_table.specs.declared.rows.Row.{Row}
use Rattle.prefix_table.specs.declared.rows.TheConstants.{MAX_ASN, MAX_ROWS}
use Rattle.prefix_table.specs.declared.line.RowEntry.{RowEntry}
use Rattle.prefix_table.specs.declared.line.Family.{Family}
use Rattle.prefix_table.specs.declared.line.Family.TheVariants.{Ipv4, Ipv6}
use Rattle.prefix_table.specs.declared.fault.TableFault.{TableFault}
use Rattle.prefix_table.specs.declared.fault.TableFault.TheVariants.{Form, Number, HostBits, Repeated, TooMany, TooLarge, Memory}

-- how many bits an address of the family has
abbrev pub width : Family → ℕ
width Ipv4 = 32
width Ipv6 = 128

-- an address of the family as 128 bits: an IPv4 address is the mapped one (RFC 4291, section
-- 2.5.5.2)
abbrev pub address_bits : Family → ℕ → ℕ
address_bits Ipv4 address = 65535 * 2 ^ 32 + address
address_bits Ipv6 address = address

-- the text of an address of the family; an IPv6 text gives the 128 bits themselves
abbrev pub IsRowAddress : Family → List ℕ → ℕ → Type 0
IsRowAddress Ipv4 text address = IsIpv4Text text address
IsRowAddress Ipv6 text address = IsIpv6Text text address

-- a number of at most ten digits
abbrev pub IsNumber : List ℕ → ℕ → Type 0
IsNumber text n = (n < 10 ^ 10) × (text ≡ decimal n)

-- the line is not passed over and has the form of a row: an address, a slash, a length, a space,
-- `AS` and a number
pub record IsRowEntry (line : List ℕ) (entry : RowEntry) : Type 0 where
  pub not_passed_over : IsPassedOver line → ⊥
  pub address : List ℕ
  pub len : List ℕ
  pub asn : List ℕ
  pub is_address : IsRowAddress entry.family address entry.address
  pub is_len : IsNumber len entry.len
  pub is_asn : IsNumber asn entry.asn
  pub spelled : line ≡ address ++ codes "/" ++ len ++ codes " AS" ++ asn

-- its numbers are in their ranges
pub record IsInRange (entry : RowEntry) : Type 0 where
  pub len : entry.len ≤ width entry.family
  pub some : 1 ≤ entry.asn
  pub most : entry.asn ≤ MAX_ASN

-- the row of a line
abbrev pub row_of : RowEntry → Row
row_of entry =
    record {
      bits = address_bits entry.family entry.address;
      len = 128 - width entry.family + entry.len;
      asn = entry.asn;
    }

-- no one-bit after the prefix
abbrev pub IsClear : Row → Type 0
IsClear row = row.bits % 2 ^ (128 - row.len) ≡ 0

-- the line is that of the row
pub record IsRowLine (line : List ℕ) (row : Row) : Type 0 where
  pub entry : RowEntry
  pub is_entry : IsRowEntry line entry
  pub in_range : IsInRange entry
  pub clear : IsClear row
  pub made : row ≡ row_of entry

-- each line is passed over, or is that of a row; these are the rows
unfoldable pub AreLines : List (List ℕ) → List Row → Type 0
AreLines [] rows = rows ≡ []
AreLines (line ∷ lines) [] = IsPassedOver line × AreLines lines []
AreLines (line ∷ lines) (row ∷ rows) =
    (IsPassedOver line × AreLines lines (row ∷ rows)) ⊎ (IsRowLine line row × AreLines lines rows)

-- the lines are those of rows with distinct prefixes, no more than a table has
pub record AreRowLines (lines : List (List ℕ)) (rows : List Row) : Type 0 where
  pub said : AreLines lines rows
  pub apart : AllPairs (λ a b. SamePrefix a b → ⊥) rows
  pub few : length rows ≤ MAX_ROWS

-- the text is that of the table with these rows, which may be in the text in any order
pub record IsTableText (text : List ℕ) (rows : List Row) : Type 0 where
  pub table : IsTable rows
  pub said : List Row
  pub lines : AreLines (lines_of text) said
  pub order : IsPermutation said rows

-- the text is that of no table
abbrev pub HasNoTable : List ℕ → Type 0
HasNoTable text = (rows : List Row) → IsTableText text rows → ⊥

-- the line is neither passed over nor of the form of a row
pub record HasNoForm (line : List ℕ) : Type 0 where
  pub not_passed_over : IsPassedOver line → ⊥
  pub no_entry : (entry : RowEntry) → IsRowEntry line entry → ⊥

-- the line has the form of a row, and a number is out of range
pub record IsOutOfRange (line : List ℕ) : Type 0 where
  pub entry : RowEntry
  pub is_entry : IsRowEntry line entry
  pub out : IsInRange entry → ⊥

-- a bit is set after the prefix
pub record HasHostBits (line : List ℕ) : Type 0 where
  pub entry : RowEntry
  pub is_entry : IsRowEntry line entry
  pub in_range : IsInRange entry
  pub set : IsClear (row_of entry) → ⊥

-- the line is that of a row with the prefix of an earlier one
pub record IsRepeated (before : List Row) (line : List ℕ) : Type 0 where
  pub row : Row
  pub is_row : IsRowLine line row
  pub earlier : Row
  pub is_earlier : Contains before earlier
  pub same : SamePrefix row earlier

-- the line is that of another row, and there are as many as a table has
pub record IsOneTooMany (before : List Row) (line : List ℕ) : Type 0 where
  pub row : Row
  pub is_row : IsRowLine line row
  pub new : (earlier : Row) → Contains before earlier → SamePrefix row earlier → ⊥
  pub full : length before ≡ MAX_ROWS

-- the line, of this number, has the fault, if the lines before it are those of these rows
abbrev pub HasRowFault : List Row → List ℕ → ℕ → TableFault → Type 0
HasRowFault before line n (Form at) = (at ≡ n) × HasNoForm line
HasRowFault before line n (Number at) = (at ≡ n) × IsOutOfRange line
HasRowFault before line n (HostBits at) = (at ≡ n) × HasHostBits line
HasRowFault before line n (Repeated at) = (at ≡ n) × IsRepeated before line
HasRowFault before line n TooMany = IsOneTooMany before line
HasRowFault before line n (TooLarge size) = ⊥
HasRowFault before line n Memory = ⊥

-- The first line with a fault has this one: the lines before it are passed over or are those of
-- rows with distinct prefixes.
pub record IsFault (text : List ℕ) (fault : TableFault) : Type 0 where
  pub before : List (List ℕ)
  pub line : List ℕ
  pub after : List (List ℕ)
  pub lines : lines_of text ≡ before ++ line ∷ after
  pub rows : List Row
  pub are_rows : AreRowLines before rows
  pub has_fault : HasRowFault rows line (length before + 1) fault
