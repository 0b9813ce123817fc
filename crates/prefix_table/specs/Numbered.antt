-- Rows with the numbers of their lines, which only private contracts cite.
use Rattle.std.specs.Prelude.{◌≡◌, ◌⊎◌, ℕ, ◌+◌, ◌<◌, ◌≤◌, List, [], ◌∷◌, ◌++◌, All, Option, Some, None, length, map, slice_index_or}
use Rattle.prefix_table.specs.Rows.{SamePrefix, Precedes}
use Rattle.host_io.specs.Lines.{IsPassedOver, lines_of}
use Rattle.prefix_table.specs.Text.{IsRowEntry, IsRowLine, HasRowFault}
use Rattle.prefix_table.specs.declared.rows.Row.{Row}
use Rattle.prefix_table.specs.declared.line.RowEntry.{RowEntry}
use Rattle.prefix_table.specs.declared.rows.TheConstants.{MAX_ROWS}
use Rattle.prefix_table.specs.declared.numbered.NumberedRow.{NumberedRow}
use Rattle.prefix_table.specs.declared.rows.Reading.{Reading}
use Rattle.prefix_table.specs.declared.fault.TableFault.{TableFault}
use Rattle.prefix_table.specs.declared.fault.TableFault.TheVariants.{TooMany}

-- The row, without the number of its line.
abbrev pub row_in : NumberedRow → Row
row_in n = record { bits = n.bits; len = n.len; asn = n.asn }

-- The row, with the number of its line.
abbrev pub with_line : Row → ℕ → NumberedRow
with_line row line = record { bits = row.bits; len = row.len; line = line; asn = row.asn }

-- the line is read as one entry at most
abbrev pub IsSettled : List ℕ → Type 0
IsSettled line = (a b : RowEntry) → IsRowEntry line a → IsRowEntry line b → a ≡ b

-- each line is passed over, or is that of a row; these are the rows, if the first line has number n
unfoldable pub AreNumbered : ℕ → List (List ℕ) → List NumberedRow → Type 0
AreNumbered n [] rows = rows ≡ []
AreNumbered n (line ∷ lines) [] = IsPassedOver line × AreNumbered (n + 1) lines []
AreNumbered n (line ∷ lines) (row ∷ rows) =
    (IsPassedOver line × AreNumbered (n + 1) lines (row ∷ rows))
    ⊎ ((row.line ≡ n) × IsRowLine line (row_in row) × AreNumbered (n + 1) lines rows)

-- all lines of the text are those of the rows
pub record IsWhole (text : List ℕ) (rows : List NumberedRow) : Type 0 where
  pub lines : AreNumbered 1 (lines_of text) rows
  pub settled : All IsSettled (lines_of text)
  pub few : length rows ≤ MAX_ROWS

-- these are the rows of all lines of the text, without the numbers of the lines
abbrev pub AreAllRows : List ℕ → List Row → Type 0
AreAllRows text rows =
    (numbered : List NumberedRow) × (rows ≡ map row_in numbered) × IsWhole text numbered

-- the lines before one are those of the rows, and this one has the fault by itself
pub record StopsAt (text : List ℕ) (rows : List NumberedRow) (fault : TableFault) : Type 0 where
  pub before : List (List ℕ)
  pub line : List ℕ
  pub after : List (List ℕ)
  pub lines : lines_of text ≡ before ++ line ∷ after
  pub are_rows : AreNumbered 1 before rows
  pub few : length rows ≤ MAX_ROWS
  pub settled : All IsSettled (before ++ line ∷ [])
  pub has : HasRowFault [] line (length before + 1) fault

-- the lines before one are those of as many rows as a table has, and this one is that of the last
-- row
pub record Overflows (text : List ℕ) (rows : List NumberedRow) : Type 0 where
  pub before : List (List ℕ)
  pub line : List ℕ
  pub after : List (List ℕ)
  pub lines : lines_of text ≡ before ++ line ∷ after
  pub first : List NumberedRow
  pub last : NumberedRow
  pub split : rows ≡ first ++ last ∷ []
  pub are_rows : AreNumbered 1 before first
  pub full : length first ≡ MAX_ROWS
  pub settled : All IsSettled (before ++ line ∷ [])
  pub number : last.line ≡ length before + 1
  pub is_row : IsRowLine line (row_in last)

-- what was read of the text
abbrev pub IsReadingOf : List ℕ → List NumberedRow → Option TableFault → Type 0
IsReadingOf text rows None = IsWhole text rows
IsReadingOf text rows (Some TooMany) = Overflows text rows
IsReadingOf text rows (Some fault) = StopsAt text rows fault

-- The rows and the fault of a reading are those of the text.
abbrev pub IsReading : List ℕ → Reading → Type 0
IsReading text reading = IsReadingOf text reading.rows.items reading.fault

-- the row at k has the prefix of the next one, which is in the line of this number
pub record IsRepeatAt (rows : List NumberedRow) (k n : ℕ) : Type 0 where
  pub within : k + 1 < length rows
  pub same : (d : NumberedRow)
      → SamePrefix (row_in (slice_index_or rows k d)) (row_in (slice_index_or rows (k + 1) d))
  pub line : (d : NumberedRow) → (slice_index_or rows (k + 1) d).line ≡ n

-- the order of the rows of a table; rows with the same prefix are in the order of their lines
abbrev pub NotAfter : NumberedRow → NumberedRow → Type 0
NotAfter a b =
    Precedes (row_in a) (row_in b) ⊎ (SamePrefix (row_in a) (row_in b) × (a.line ≤ b.line))
