use Rattle.std.proofs.Common.{◌≡◌, ◌++◌, take, All}
use Rattle.std.specs.Prelude.{flat_map}
use Rattle.prefix_table.specs.Text.{IsRowAddress}
use Rattle.prefix_table.specs.Print.{entry_of, address_text, row_text}
use Rattle.prefix_table.proofs.print.put_rows.Given as goal

abbrev pub invariant-loop-row : goal.invariant-loop-row
invariant-loop-row l = record {
  text : l.out.items ≡ l.fn.out.items ++ flat_map row_text (take l.row-index l.rows);
  back : All (λ row. IsRowAddress (entry_of row).family (address_text (entry_of row)) (entry_of row).address) (take l.row-index l.rows);
}
