use Rattle.std.proofs.Common.{refl, sym, subst}
use Rattle.std.specs.Prelude.{AllPairs}
use Rattle.std.proofs.lemmas.Bool.{false≢true}
use Rattle.prefix_table.specs.Rows.{Precedes}
use Rattle.prefix_table.specs.Text.{IsTableText}
use Rattle.prefix_table.proofs.PlainLaws.{if_some, plain_table, plain_none}
use Rattle.prefix_table.proofs.read.table_in.Goals as goal

pub returns-then-not-rises-clause-none : goal.returns-then-not-rises-clause-none
returns-then-not-rises-clause-none c =
    plain_none c.args.text.now c.in-Some.rows.items c.sort_unstable.new.self.items (if_some _ c.in_ok-rows.field-0 c.in-Some.rows c.in-Some.is c.in_ok-rows.ensures.found) c.sort_unstable.ensures.permutation c.sort_unstable.ensures.sorted
    (λ up. false≢true (c.if-not-rises.ensures.1 (subst (AllPairs Precedes) (sym c.as_slice.ensures.value) up)))

pub of-requires : goal.of-requires
of-requires c =
    (plain_table c.args.text.now c.in-Some.rows.items c.sort_unstable.new.self.items (if_some _ c.in_ok-rows.field-0 c.in-Some.rows c.in-Some.is c.in_ok-rows.ensures.found) c.sort_unstable.ensures.permutation
    (subst (AllPairs Precedes) c.as_slice.ensures.value (c.if-not-rises.ensures.0 refl))).table

pub returns-clause-found : goal.returns-clause-found
returns-clause-found c =
    subst (IsTableText c.args.text.now) (sym c.of.ensures)
    (plain_table c.args.text.now c.in-Some.rows.items c.sort_unstable.new.self.items (if_some _ c.in_ok-rows.field-0 c.in-Some.rows c.in-Some.is c.in_ok-rows.ensures.found) c.sort_unstable.ensures.permutation
    (subst (AllPairs Precedes) c.as_slice.ensures.value (c.if-not-rises.ensures.0 refl)))
