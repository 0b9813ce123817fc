-- A printed table reads as itself.
use Rattle.std.proofs.Common.{◌≡◌, ◌≢◌, ℕ, zero, suc, ◌+◌, ◌-◌, ◌*◌, ◌/◌, ◌%◌, ◌^◌, ◌<◌, ◌≤◌, Bool, true, false, List, [], ◌∷◌, ◌++◌, get_or, All, decimal, codes, flat_map, ◌∙◌, ap, sym, subst, arith, inl, inr, refl, append_assoc}
use Rattle.std.specs.Prelude.{nat_le, ◌==◌, if◌then◌else◌}
use Rattle.std.specs.Int.{w32, w128, to_be_bytes}
use Rattle.std.specs.Net.Addr.{segments_of}
use Rattle.std.proofs.NetLemmas.Alphabet.{IsHexOrColon, All-hex_groups_text}
use Rattle.std.proofs.NetLemmas.Texts.{AllSegments}
use Rattle.std.proofs.lemmas.Bool.{and_parts, eqb-true, ne_eqb}
use Rattle.std.proofs.lemmas.Bool.Decides.{nat_tests}
use Rattle.std.proofs.lemmas.Fmt.{decimal_is_IsNumeral}
use Rattle.std.proofs.lemmas.Str.Parse.{digit_at}
use Rattle.std.proofs.lemmas.List.Elements.{All-cons, All-head, All-tail, All-append, All-weaker, All-from_get_or}
use Rattle.std.proofs.lemmas.List.Sorted.{IsPermutation-refl}
use Rattle.net_addr.specs.Text.{ipv6_text}
use Rattle.prefix_table.specs.Rows.{IsRow, IsTable}
use Rattle.host_io.specs.Lines.{IsPassedOver, lines_of, onto_first}
use Rattle.prefix_table.specs.Text.{IsRowAddress, IsInRange, IsRowLine, AreLines, IsTableText, row_of, width}
use Rattle.prefix_table.specs.Print.{is_mapped, ipv4_entry, ipv6_entry, entry_of, text_by, address_text, entry_text, row_text, table_text}
use Rattle.prefix_table.specs.declared.rows.Row.{Row}
use Rattle.prefix_table.specs.declared.rows.TheConstants.{MAX_ASN}
use Rattle.prefix_table.specs.declared.line.RowEntry.{RowEntry}
use Rattle.prefix_table.specs.declared.line.Family.{Family}
use Rattle.prefix_table.specs.declared.line.Family.TheVariants.{Ipv4, Ipv6}

-- a line and its line feed before other text
lines-line : (line rest : List ℕ) → All (λ b. b ≢ 10) line → lines_of (line ++ 10 ∷ rest) ≡ line ∷ lines_of rest
unfolding lines_of
lines-line [] rest none = refl
lines-line (b ∷ line) rest none =
    rw (ne_eqb b 10 (All-head (λ b. b ≢ 10) b line none)) (ap (onto_first b) (lines-line line rest (All-tail (λ b. b ≢ 10) b line none)))

-- the bytes of a printed address come from the dot on
abbrev IsHigh : ℕ → Type 0
IsHigh c = 46 ≤ c

decimal-high : (n : ℕ) → n < 2 ^ 64 → All IsHigh (decimal n)
decimal-high n h =
    All-from_get_or IsHigh (decimal n) 0 λ i lt.
    let digit = digit_at (decimal n) i (decimal_is_IsNumeral n h).0.1 lt in
    omega arith

segments : (n : ℕ) → AllSegments (segments_of (to_be_bytes w128 n))
segments n zero = omega arith
segments n (suc zero) = omega arith
segments n (suc (suc zero)) = omega arith
segments n (suc (suc (suc zero))) = omega arith
segments n (suc (suc (suc (suc zero)))) = omega arith
segments n (suc (suc (suc (suc (suc zero))))) = omega arith
segments n (suc (suc (suc (suc (suc (suc zero)))))) = omega arith
segments n (suc (suc (suc (suc (suc (suc (suc zero))))))) = omega arith
segments n (suc (suc (suc (suc (suc (suc (suc (suc k)))))))) = omega arith

hex-high : (c : ℕ) → IsHexOrColon c → IsHigh c
hex-high c (inl r) = omega arith
hex-high c (inr r) = omega arith

four-high : (a b c d : ℕ) → a < 2 ^ 64 → b < 2 ^ 64 → c < 2 ^ 64 → d < 2 ^ 64 → All IsHigh (decimal a ++ 46 ∷ (decimal b ++ 46 ∷ (decimal c ++ 46 ∷ decimal d)))
four-high a b c d ha hb hc hd =
    let last = All-append IsHigh (decimal c) (46 ∷ decimal d) (decimal-high c hc) (All-cons IsHigh 46 (decimal d) (omega arith) (decimal-high d hd)) in
    let more = All-append IsHigh (decimal b) (46 ∷ (decimal c ++ 46 ∷ decimal d)) (decimal-high b hb) (All-cons IsHigh 46 (decimal c ++ 46 ∷ decimal d) (omega arith) last) in
    All-append IsHigh (decimal a) (46 ∷ (decimal b ++ 46 ∷ (decimal c ++ 46 ∷ decimal d))) (decimal-high a ha) (All-cons IsHigh 46 (decimal b ++ 46 ∷ (decimal c ++ 46 ∷ decimal d)) (omega arith) more)

address-high : (family : Family) (n : ℕ) → All IsHigh (text_by family n)
address-high Ipv4 n =
    let bytes = to_be_bytes w32 n in
    four-high (get_or bytes 0 0) (get_or bytes 1 0) (get_or bytes 2 0) (get_or bytes 3 0) (omega arith) (omega arith) (omega arith) (omega arith)
address-high Ipv6 n = All-weaker IsHexOrColon IsHigh hex-high (ipv6_text (to_be_bytes w128 n)) (All-hex_groups_text (segments_of (to_be_bytes w128 n)) (segments n))

not_comment : (address rest : List ℕ) → All IsHigh address → IsPassedOver (address ++ 47 ∷ rest) → ⊥
not_comment [] rest high passed = omega (arith, passed)
not_comment (b ∷ address) rest high passed = omega (arith, passed, All-head IsHigh b address high)

regroup : (a l n : List ℕ) → a ++ codes "/" ++ l ++ codes " AS" ++ n ≡ a ++ 47 ∷ (l ++ 32 ∷ 65 ∷ 83 ∷ n)
regroup a l n = simp append_assoc

-- a printed entry is one line, and no comment
entry-line : (entry : RowEntry) → entry.len < 2 ^ 64 → entry.asn < 2 ^ 64 → All (λ b. b ≢ 10) (entry_text entry) × (IsPassedOver (entry_text entry) → ⊥)
entry-line entry hl ha =
    let address = address_text entry in
    let high = address-high entry.family entry.address in
    let numbers = decimal entry.len ++ 32 ∷ 65 ∷ 83 ∷ decimal entry.asn in
    let plain = λ (text : List ℕ) (h : All IsHigh text). All-weaker IsHigh (λ b. b ≢ 10) (λ b k e. omega (arith, k, e)) text h in
    let tag = All-cons (λ b. b ≢ 10) 32 (65 ∷ 83 ∷ decimal entry.asn) (λ e. omega (arith, e)) (All-cons (λ b. b ≢ 10) 65 (83 ∷ decimal entry.asn) (λ e. omega (arith, e)) (All-cons (λ b. b ≢ 10) 83 (decimal entry.asn) (λ e. omega (arith, e)) (plain (decimal entry.asn) (decimal-high entry.asn ha)))) in
    let tail = All-append (λ b. b ≢ 10) (decimal entry.len) (32 ∷ 65 ∷ 83 ∷ decimal entry.asn) (plain (decimal entry.len) (decimal-high entry.len hl)) tag in
    let whole = All-append (λ b. b ≢ 10) address (47 ∷ numbers) (plain address high) (All-cons (λ b. b ≢ 10) 47 numbers (λ e. omega (arith, e)) tail) in
    let e = regroup address (decimal entry.len) (decimal entry.asn) in
    (subst (All (λ b. b ≢ 10)) (sym e) whole, λ passed. not_comment address numbers high (subst IsPassedOver e passed))

-- what holds of the row in either form
abbrev EntryFits : Row → RowEntry → Type 0
EntryFits row entry = IsInRange entry × (row ≡ row_of entry)

abbrev pub row_with : ℕ → ℕ → ℕ → Row
row_with bits len asn = record { bits = bits; len = len; asn = asn }

le_from_test : (a b : ℕ) → nat_le a b ≡ true → a ≤ b
le_from_test a b h = grind (arith, nat_tests)

mapped-fits : (row : Row) → IsRow row → is_mapped row ≡ true → EntryFits row (ipv4_entry row)
mapped-fits row is mapped =
    let parts = and_parts (nat_le 96 row.len) (row.bits / 2 ^ 32 == 65535) mapped in
    let high = eqb-true (row.bits / 2 ^ 32) 65535 parts.1 in
    let long = le_from_test 96 row.len parts.0 in
    let bits : row.bits ≡ 65535 * 2 ^ 32 + row.bits % 2 ^ 32 = omega (arith, high) in
    let len : row.len ≡ 128 - 32 + (row.len - 96) = omega arith in
    (record { len = omega (arith, is.len); some = is.some; most = is.most }, λ i. row_with (bits i) (len i) row.asn)

entry-fits : (row : Row) (mapped : Bool) → IsRow row → is_mapped row ≡ mapped → EntryFits row (if mapped then ipv4_entry row else ipv6_entry row)
entry-fits row true is e = mapped-fits row is e
entry-fits row false is e =
    let len : row.len ≡ 128 - 128 + row.len = omega arith in
    (record { len = is.len; some = is.some; most = is.most }, λ i. row_with row.bits (len i) row.asn)

len_small : (family : Family) (len : ℕ) → len ≤ width family → len ≤ 128
len_small Ipv4 len h = omega arith
len_small Ipv6 len h = h

-- how long the prefix and how large the number of a printed row are
pub record SmallEntry (entry : RowEntry) : Type 0 where
  pub len : entry.len ≤ 128
  pub most : entry.asn ≤ MAX_ASN

pub row_in_range : (row : Row) → IsRow row → SmallEntry (entry_of row)
row_in_range row is =
    let fits : EntryFits row (entry_of row) = entry-fits row (is_mapped row) is refl in
    record { len = len_small (entry_of row).family (entry_of row).len fits.0.len; most = fits.0.most }

-- a printed row is the line of the row
row-line : (row : Row) → IsRow row → IsRowAddress (entry_of row).family (address_text (entry_of row)) (entry_of row).address → IsRowLine (entry_text (entry_of row)) row
row-line row is back =
    let entry = entry_of row in
    let fits : EntryFits row entry = entry-fits row (is_mapped row) is refl in
    let len = len_small entry.family entry.len fits.0.len in
    record {
      entry = entry;
      is_entry = record {
        not_passed_over = (entry-line entry (omega (arith, len)) (omega (arith, fits.0.most))).1;
        address = address_text entry;
        len = decimal entry.len;
        asn = decimal entry.asn;
        is_address = back;
        is_len = (omega (arith, len), refl);
        is_asn = (omega (arith, fits.0.most), refl);
        spelled = refl;
      };
      in_range = fits.0;
      clear = is.clear;
      made = fits.1;
    }

-- the first row's line, and then the others
first-line : (row : Row) (rest : List ℕ) → IsRow row → lines_of (row_text row ++ rest) ≡ entry_text (entry_of row) ∷ lines_of rest
unfolding row_text
first-line row rest is =
    let entry = entry_of row in
    let fits : EntryFits row entry = entry-fits row (is_mapped row) is refl in
    let len = len_small entry.family entry.len fits.0.len in
    ap lines_of (append_assoc (entry_text entry) (10 ∷ []) rest) ∙ lines-line (entry_text entry) rest (entry-line entry (omega (arith, len)) (omega (arith, fits.0.most))).0

no_lines : AreLines (lines_of []) []
unfolding lines_of AreLines
no_lines = refl

more_lines : (line : List ℕ) (lines : List (List ℕ)) (row : Row) (rows : List Row) → IsRowLine line row → AreLines lines rows → AreLines (line ∷ lines) (row ∷ rows)
unfolding AreLines
more_lines line lines row rows is are = inr (is, are)

abbrev ReadsBack : Row → Type 0
ReadsBack row = IsRowAddress (entry_of row).family (address_text (entry_of row)) (entry_of row).address

rows-lines : (rows : List Row) → All IsRow rows → All ReadsBack rows → AreLines (lines_of (flat_map row_text rows)) rows
rows-lines [] each back = no_lines
rows-lines (row ∷ rows) each back =
    let is = All-head IsRow row rows each in
    let later = rows-lines rows (All-tail IsRow row rows each) (All-tail ReadsBack row rows back) in
    subst (λ (ls : List (List ℕ)). AreLines ls (row ∷ rows)) (sym (first-line row (flat_map row_text rows) is)) (more_lines (entry_text (entry_of row)) (lines_of (flat_map row_text rows)) row rows (row-line row is (All-head ReadsBack row rows back)) later)

pub printed_is_read : (rows : List Row) → IsTable rows → All (λ row. IsRowAddress (entry_of row).family (address_text (entry_of row)) (entry_of row).address) rows → IsTableText (table_text rows) rows
unfolding table_text
printed_is_read rows table back = record {
  table = table;
  said = rows;
  lines = rows-lines rows table.each back;
  order = IsPermutation-refl rows;
}
