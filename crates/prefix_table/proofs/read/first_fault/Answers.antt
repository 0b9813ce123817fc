use Rattle.std.proofs.Common.{◌≤◌, ℕ, ◌≡◌, List, map, Option, Some, None, sym, subst}
use Rattle.prefix_table.specs.Numbered.{row_in, IsRepeatAt, IsReadingOf}
use Rattle.prefix_table.specs.declared.numbered.NumberedRow.{NumberedRow}
use Rattle.prefix_table.specs.declared.fault.TableFault.{TableFault}
use Rattle.prefix_table.proofs.ReadLaws.{IsSort, fault_by_repeat, fault_by_line, table_by_sort}
use Rattle.prefix_table.proofs.read.first_fault.Goals as goal

-- no repeat in what a slice lent, and so none in the rows
none_in : (lent sorted : List NumberedRow) → lent ≡ sorted → ((k m : ℕ) → IsRepeatAt lent k m → ⊥) → (k m : ℕ) → IsRepeatAt sorted k m → ⊥
none_in lent sorted e none k m is = none k m (subst (λ (rows : List NumberedRow). IsRepeatAt rows k m) (sym e) is)

pub returns-in-Some : goal.returns-in-Some
returns-in-Some c =
    let rows = c.in_ok-reading.reading.rows.items in
    let sorted = c.sort_unstable.new.self.items in
    let s : IsSort c.args.text.now rows sorted c.in_ok-reading.reading.fault =
    record { reading = c.in_ok-reading.ensures; moved = c.sort_unstable.ensures.permutation; order = c.sort_unstable.ensures.sorted } in
    let e = c.as_slice.ensures.value in
    let n = c.in-Some.line in
    (fault_by_repeat c.args.text.now rows sorted c.in_ok-reading.reading.fault n s (subst (λ (rs : List NumberedRow). (k : ℕ) × IsRepeatAt rs k n) e c.in-Some.ensures.found) (subst (λ (rs : List NumberedRow). (k m : ℕ) → IsRepeatAt rs k m → n ≤ m) e c.in-Some.ensures.least)).own

pub unreachable-requires : goal.unreachable-requires
unreachable-requires c =
    let rows = c.in_ok-reading.reading.rows.items in
    let sorted = c.sort_unstable.new.self.items in
    let s : IsSort c.args.text.now rows sorted None =
    record {
      reading = subst (λ (o : Option TableFault). IsReadingOf c.args.text.now rows o) c.in-None.is c.in_ok-reading.ensures;
      moved = c.sort_unstable.ensures.permutation;
      order = c.sort_unstable.ensures.sorted;
    } in
    c.requires.fault (map row_in sorted) (table_by_sort c.args.text.now rows sorted s (none_in c.as_slice.result.now sorted c.as_slice.ensures.value c.in_default.ensures.none)).own

pub returns : goal.returns
returns c =
    let rows = c.in_ok-reading.reading.rows.items in
    let sorted = c.sort_unstable.new.self.items in
    let s : IsSort c.args.text.now rows sorted (Some c.in-Some-fault.fault) =
    record {
      reading = subst (λ (o : Option TableFault). IsReadingOf c.args.text.now rows o) c.in-Some-fault.is c.in_ok-reading.ensures;
      moved = c.sort_unstable.ensures.permutation;
      order = c.sort_unstable.ensures.sorted;
    } in
    (fault_by_line c.args.text.now rows sorted c.in-Some-fault.fault s (none_in c.as_slice.result.now sorted c.as_slice.ensures.value c.in_default.ensures.none)).own
