use Rattle.std.proofs.Common.{◌≡◌, ℕ, ◌==◌, ◌<◌, Bool, false, List, [], ◌++◌, length, subst, sym, ap, ◌∙◌, arith, append-nil}
use Rattle.std.proofs.lemmas.Bool.{eqb-false}
use Rattle.asmap_vm.specs.Code.{code}
use Rattle.prefix_table.specs.declared.rows.Row.{Row}
use Rattle.prefix_table.specs.Rows.{IsTable}
use Rattle.asmap_compile.specs.Compiled.{compiled, rows_kept, tree_at}
use Rattle.asmap_compile.specs.Inside.{IsPart}
use Rattle.asmap_compile.proofs.Whole.{whole_part, compiled_is, compiled_sane, compiled_best, compiled_asn, file_from}
use Rattle.asmap_compile.proofs.compiling.compile_in_place.Goals as goal
use Rattle.asmap_compile.proofs.compiling.compile_in_place.Goals.{In_ok-put_tree}

some_rows : (table rows : List Row) (len : ℕ) → len ≡ length rows → rows ≡ table → false ≡ (len == 0) → 0 < length table
some_rows table rows len long same test = omega (arith, long, ap length same, eqb-false len 0 (sym test))

-- what is written for all rows that stay is the code of the compiled tree
written : (table kept : List Row) (out before : List Bool) → IsTable table → 0 < length table → kept ≡ rows_kept table →
    ((t : List Row) (p : List Bool) (left : ℕ) → IsPart t p left kept 0 0 0 → out ≡ code (tree_at left (rows_kept t) p 0) ++ before) → before ≡ [] → out ≡ code (compiled table)
written table kept out before is some same put none =
    let whole = code (tree_at 128 (rows_kept table) [] 0) in
    put table [] 128 (whole_part table kept is some same) ∙ ap (λ xs. whole ++ xs) none ∙ append-nil whole ∙ ap code (sym (compiled_is table))

pub put_tree-requires : goal.put_tree-requires
put_tree-requires c =
    let table = c.args.table in
    let rows = c.into_rows-rows.ensures.value in
    let some = some_rows table c.into_rows-rows.result.items c.into_rows-rows.result.len c.into_rows-rows.result.ok.0 rows c.if-is_empty.ensures in
    (table, ([], (128, whole_part table c.as_slice.result.now c.into_rows-rows.ensures.table some (c.as_slice.ensures.value ∙ c.in_ok-kept.ensures ∙ ap rows_kept rows))))

-- the bits that are written are the code of the compiled tree
bits : (c : In_ok-put_tree) → c.put_tree.new.out ≡ code (compiled c.args.table)
bits c =
    let table = c.args.table in
    let rows = c.into_rows-rows.ensures.value in
    let some = some_rows table c.into_rows-rows.result.items c.into_rows-rows.result.len c.into_rows-rows.result.ok.0 rows c.if-is_empty.ensures in
    let kept = c.as_slice.ensures.value ∙ c.in_ok-kept.ensures ∙ ap rows_kept rows in
    written table c.as_slice.result.now c.put_tree.new.out c.make-out.result c.into_rows-rows.ensures.table some kept c.in_ok-put_tree.ensures c.make-out.ensures

pub returns-clause-sane : goal.returns-clause-sane
returns-clause-sane c =
    let table = c.args.table in
    record {
      sane = compiled_sane table c.into_rows-rows.ensures.table (some_rows table c.into_rows-rows.result.items c.into_rows-rows.result.len c.into_rows-rows.result.ok.0 c.into_rows-rows.ensures.value c.if-is_empty.ensures);
      file = file_from (compiled table) c.put_tree.new.out c.into_bytes.result.items (bits (goal.at.returns-clause-sane c).In_ok-put_tree) c.into_bytes.ensures;
    }

pub returns-clause-bits : goal.returns-clause-bits
returns-clause-bits c = c.len-bits.ensures ∙ ap length (bits (goal.at.returns-clause-bits c).In_ok-put_tree)

pub returns-clause-meaning : goal.returns-clause-meaning
returns-clause-meaning c = λ address long. compiled_best c.args.table address c.into_rows-rows.ensures.table long

pub returns-clause-asn : goal.returns-clause-asn
returns-clause-asn c = λ address small. compiled_asn c.args.table address c.into_rows-rows.ensures.table small

pub returns-then-bits-gt-MAX_BITS-clause-too_large : goal.returns-then-bits-gt-MAX_BITS-clause-too_large
returns-then-bits-gt-MAX_BITS-clause-too_large c = λ most e.
    let table = c.args.table in
    let rows = c.into_rows-rows.ensures.value in
    let some = some_rows table c.into_rows-rows.result.items c.into_rows-rows.result.len c.into_rows-rows.result.ok.0 rows c.if-is_empty.ensures in
    let kept = c.as_slice.ensures.value ∙ c.in_ok-kept.ensures ∙ ap rows_kept rows in
    let bits = written table c.as_slice.result.now c.put_tree.new.out c.make-out.result c.into_rows-rows.ensures.table some kept c.in_ok-put_tree.ensures c.make-out.ensures in
    let same : c.len-bits.result ≡ most = cc in
    (subst (λ (n : ℕ). 67108864 < n) same c.if-bits-gt-MAX_BITS.true, sym same ∙ c.len-bits.ensures ∙ ap length bits)
