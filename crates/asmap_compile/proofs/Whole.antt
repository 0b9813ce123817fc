-- What the compiled tree of a whole table means, and that it is sane.
use Rattle.std.proofs.Common.{◌≡◌, ℕ, ◌^◌, ◌<◌, Bool, List, [], ◌∷◌, ◌++◌, length, refl, ap, sym, ◌∙◌, subst, arith, Contains, false, replicate, ◌-◌}
use Rattle.std.proofs.lemmas.List.Sums.{length-filter, count_by-le-length}
use Rattle.bit_code.specs.Coder.{digits, number_of, file_bits}
use Rattle.bit_code.proofs.DigitLaws.{length-digits, digits-number_of, number_of-lt}
use Rattle.bit_code.specs.Files as bit_file
use Rattle.bit_code.specs.Prefixes.{begins_with}
use Rattle.asmap_vm.specs.Code.{Tree, code, meaning, asn_of, IsSane, IsTreeFile}
use Rattle.prefix_table.specs.declared.rows.Row.{Row}
use Rattle.prefix_table.specs.Rows.{best, path, longest, IsTable, number_at}
use Rattle.asmap_compile.specs.Compiled.{rows_kept, stays, compiled, tree_at}
use Rattle.asmap_compile.specs.Inside.{IsPart}
use Rattle.bit_code.proofs.PrefixLaws.{begins_from}
use Rattle.prefix_table.proofs.Items.{contains_head, filter_id}
use Rattle.asmap_compile.proofs.Meanings.{tree_mean}
use Rattle.prefix_table.proofs.PathLaws.{AreRows, table_rows, number_best}
use Rattle.asmap_compile.proofs.RowLaws.{kept_rows, kept_fresh, number_kept, number_none, number_value, row_from}
use Rattle.asmap_compile.proofs.SaneTrees.{AreKept, tree_sane}
use Rattle.asmap_compile.proofs.Ways.{Begun}

-- the compiled tree gives the number of the path of the address bits
pub compiled_number : (rows : List Row) (bits : List Bool) → IsTable rows → length bits ≡ 128 → meaning (compiled rows) bits 0 ≡ number_at rows bits
unfolding compiled
compiled_number rows bits is long =
    let are = table_rows rows is in
    tree_mean 128 (rows_kept rows) [] bits 0 (kept_rows rows are) (omega arith) (omega arith) ∙ number_kept rows are bits

-- the compiled tree gives each 128 address bits the number of their longest match
pub compiled_best : (rows : List Row) (bits : List Bool) → IsTable rows → length bits ≡ 128 → meaning (compiled rows) bits 0 ≡ best rows (number_of bits)
compiled_best rows bits is long =
    let whole : digits 128 (number_of bits) ≡ bits = ap (λ n. digits n (number_of bits)) (sym long) ∙ digits-number_of bits in
    let small : number_of bits < 2 ^ 128 = subst (λ n. number_of bits < 2 ^ n) long (number_of-lt bits) in
    compiled_number rows bits is long ∙ ap (number_at rows) (sym whole) ∙ number_best rows (number_of bits) (table_rows rows is) small

pub compiled_asn : (rows : List Row) (a : ℕ) → IsTable rows → a < 2 ^ 128 → asn_of (compiled rows) a ≡ best rows a
unfolding asn_of
compiled_asn rows a is small = compiled_number rows (digits 128 a) is (length-digits 128 a) ∙ number_best rows a (table_rows rows is) small

number_empty : (p : List Bool) → number_at [] p ≡ 0
unfolding number_at longest
number_empty p = refl

begun_by : (rows kept : List Row) (row : Row) → AreRows rows → Contains rows row → rows_kept rows ≡ kept → Begun kept []
begun_by rows [] row are has e =
    let value = number_value rows (path row) are (row_from rows (path row) row has refl) in
    absurd (omega (arith, value.low, number_kept rows are (path row), ap (λ xs. number_at xs (path row)) e, number_empty (path row)))
begun_by rows (first ∷ kept) row are has e =
    record { item = first; there = contains_head first kept; passes = begins_from (path first) [] (path first) refl }

-- some row stays
pub kept_some : (rows : List Row) → IsTable rows → 0 < length rows → Begun (rows_kept rows) []
kept_some [] is some = absurd (omega arith)
kept_some (row ∷ rows) is some = begun_by (row ∷ rows) (rows_kept (row ∷ rows)) row (table_rows (row ∷ rows) is) (contains_head row rows) refl

pub kept_are : (rows : List Row) → IsTable rows → AreKept (rows_kept rows)
kept_are rows is =
    let are = table_rows rows is in
    record {
      are = kept_rows rows are;
      few = omega (arith, length-filter (stays rows) rows, count_by-le-length (stays rows) rows, is.few);
      fresh = kept_fresh rows are;
    }

pub compiled_sane : (rows : List Row) → IsTable rows → 0 < length rows → IsSane (compiled rows)
unfolding compiled
compiled_sane rows is some = tree_sane 128 (rows_kept rows) [] 128 0 (kept_are rows is) (kept_some rows is some) (omega arith) (omega arith) (λ _. refl)

-- the part of all rows that stay
pub whole_part : (table kept : List Row) → IsTable table → 0 < length table → kept ≡ rows_kept table → IsPart table [] 128 kept 0 0 0
whole_part table kept is some e =
    record {
      is_table = is;
      some = omega (arith, ap length e, (kept_some table is some).there.1);
      rows = e ∙ sym (filter_id (λ row. begins_with (path row) []) (rows_kept table) (λ row has. begins_from (path row) [] (path row) refl));
      long = refl;
      room = omega arith;
      number = number_none (rows_kept table);
      none = λ _. refl;
    }

pub compiled_is : (table : List Row) → compiled table ≡ tree_at 128 (rows_kept table) [] 0
unfolding compiled
compiled_is table = refl

-- the bytes of bits that are the code of a tree are its file
pub file_from : (t : Tree) (bits : List Bool) (bytes : List ℕ) → bits ≡ code t → bit_file.IsFileOf bits bytes → IsTreeFile t bytes
file_from t bits bytes e f =
    record {
      spelled = subst (λ bs. file_bits bytes ≡ bs ++ replicate (length (file_bits bytes) - length bs) false) e f.spelled;
      padded = omega (arith, f.padded, ap length e);
    }
