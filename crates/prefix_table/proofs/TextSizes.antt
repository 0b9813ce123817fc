-- How long the text of a table is.
use Rattle.std.proofs.Common.{◌≡◌, ℕ, ◌+◌, ◌*◌, ◌/◌, ◌%◌, ◌<◌, ◌≤◌, ◌^◌, Bool, true, false, All, List, [], ◌∷◌, ◌++◌, length, get_or, take, drop, cond, decimal, codes, refl, arith, length-append, length-take, length-drop}
use Rattle.std.specs.Prelude.{flat_map, nat_lt}
use Rattle.std.specs.Char.{digit_char}
use Rattle.std.specs.Int.{w32, w128, to_be_bytes}
use Rattle.std.specs.Net.Addr.{segments_of}
use Rattle.std.specs.Net.Text.{hex, leading_zero_digits, groups_text, longest_zero_run, hex_groups_text}
use Rattle.std.proofs.lemmas.Fmt.{length-decimal-le}
use Rattle.std.proofs.lemmas.List.Elements.{All-head, All-tail}
use Rattle.prefix_table.specs.Rows.{IsRow, IsTable}
use Rattle.prefix_table.specs.Print.{text_by, entry_of, entry_text, row_text, table_text}
use Rattle.prefix_table.specs.declared.read.TheConstants.{MAX_TEXT}
use Rattle.prefix_table.specs.declared.rows.Row.{Row}
use Rattle.prefix_table.specs.declared.rows.TheConstants.{MAX_ASN}
use Rattle.prefix_table.specs.declared.line.RowEntry.{RowEntry}
use Rattle.prefix_table.specs.declared.line.Family.{Family}
use Rattle.prefix_table.specs.declared.line.Family.TheVariants.{Ipv4, Ipv6}
use Rattle.prefix_table.proofs.PrintLaws.{row_in_range}

length-hex : (n : ℕ) → length (hex n) ≤ 4
unfolding hex
length-hex n =
    let all = digit_char (n / 4096) ∷ digit_char (n / 256 % 16) ∷ digit_char (n / 16 % 16) ∷ digit_char (n % 16) ∷ [] in
    omega (arith, length-drop (leading_zero_digits n) all)

more_groups : (rest : List ℕ) → length (flat_map (λ t. codes ":" ++ hex t) rest) ≤ 5 * length rest
more_groups [] = omega arith
more_groups (t ∷ rest) =
    omega (arith, length-append (codes ":" ++ hex t) (flat_map (λ t. codes ":" ++ hex t) rest), length-append (codes ":") (hex t), length-hex t, more_groups rest)

length-groups : (xs : List ℕ) → length (groups_text xs) ≤ 5 * length xs
length-groups [] = omega arith
length-groups (x ∷ xs) =
    omega (arith, length-append (hex x) (flat_map (λ t. codes ":" ++ hex t) xs), length-hex x, more_groups xs)

compressed_by : (xs : List ℕ) (from to : ℕ) (b : Bool) → from ≤ to → length (cond b (groups_text (take from xs) ++ codes "::" ++ groups_text (drop to xs)) (groups_text xs)) ≤ 5 * length xs + 2
compressed_by xs from to true order =
    let first = groups_text (take from xs) in
    let last = groups_text (drop to xs) in
    omega (arith, order, length-append (first ++ codes "::") last, length-append first (codes "::"), length-groups (take from xs), length-groups (drop to xs), length-take from xs, length-drop to xs)
compressed_by xs from to false order = omega (arith, length-groups xs)

length-hex_groups : (xs : List ℕ) → length (hex_groups_text xs) ≤ 5 * length xs + 2
unfolding hex_groups_text
length-hex_groups xs =
    let run = longest_zero_run xs in
    compressed_by xs run.0 (run.0 + run.1) (nat_lt 1 run.1) (omega arith)

length-dotted : (a b c d : ℕ) → a < 10 ^ 3 → b < 10 ^ 3 → c < 10 ^ 3 → d < 10 ^ 3 → length (decimal a ++ 46 ∷ (decimal b ++ 46 ∷ (decimal c ++ 46 ∷ decimal d))) ≤ 15
length-dotted a b c d ha hb hc hd =
    omega (arith, length-append (decimal a) (46 ∷ (decimal b ++ 46 ∷ (decimal c ++ 46 ∷ decimal d))), length-append (decimal b) (46 ∷ (decimal c ++ 46 ∷ decimal d)), length-append (decimal c) (46 ∷ decimal d), length-decimal-le 3 a (omega arith) ha (omega arith), length-decimal-le 3 b (omega arith) hb (omega arith), length-decimal-le 3 c (omega arith) hc (omega arith), length-decimal-le 3 d (omega arith) hd (omega arith))

length-address : (family : Family) (n : ℕ) → length (text_by family n) ≤ 42
length-address Ipv4 n =
    let bytes = to_be_bytes w32 n in
    let h = length-dotted (get_or bytes 0 0) (get_or bytes 1 0) (get_or bytes 2 0) (get_or bytes 3 0) (omega arith) (omega arith) (omega arith) (omega arith) in
    omega (arith, h)
length-address Ipv6 n =
    let eight : length (segments_of (to_be_bytes w128 n)) ≡ 8 = refl in
    omega (arith, length-hex_groups (segments_of (to_be_bytes w128 n)), eight)

length-entry : (entry : RowEntry) → entry.len ≤ 128 → entry.asn ≤ MAX_ASN → length (entry_text entry) ≤ 57
length-entry entry len asn =
    let address = text_by entry.family entry.address in
    omega (arith, length-append (address ++ codes "/" ++ decimal entry.len ++ codes " AS") (decimal entry.asn), length-append (address ++ codes "/" ++ decimal entry.len) (codes " AS"), length-append (address ++ codes "/") (decimal entry.len), length-append address (codes "/"), length-address entry.family entry.address, length-decimal-le 3 entry.len (omega arith) (omega (arith, len)) (omega (arith, len)), length-decimal-le 8 entry.asn (omega arith) (omega (arith, asn)) (omega (arith, asn)))

length-row : (row : Row) → IsRow row → length (row_text row) ≤ 58
unfolding row_text
length-row row is =
    let fits = row_in_range row is in
    omega (arith, length-append (entry_text (entry_of row)) (10 ∷ []), length-entry (entry_of row) fits.len fits.most)

length-rows : (rows : List Row) → All IsRow rows → length (flat_map row_text rows) ≤ 58 * length rows
length-rows [] each = omega arith
length-rows (row ∷ rows) each =
    omega (arith, length-append (row_text row) (flat_map row_text rows), length-row row (All-head IsRow row rows each), length-rows rows (All-tail IsRow row rows each))

-- the text of a table is within the limit of the reader
pub length-table : (rows : List Row) → IsTable rows → length (table_text rows) ≤ MAX_TEXT
unfolding table_text
length-table rows is = omega (arith, length-rows rows is.each, is.few)
