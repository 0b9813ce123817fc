use Rattle.std.proofs.Common.{◌≡◌, ◌∙◌, ℕ, List, sym, subst}
use Rattle.std.specs.Prelude.{Contains, true}
use Rattle.prefix_table.specs.Rows.{IsTable, IsLongest, best, row_covers}
use Rattle.prefix_table.specs.declared.rows.Row.{Row}
use Rattle.prefix_table.proofs.BestLaws.{best_found, best_none}
use Rattle.prefix_table.proofs.table.Table.best.Goals as goal

-- the number of the longest row, as each clause has it
answer : (rows : List Row) (address n : ℕ) → IsTable rows → n ≡ best rows address → record { found : n ≡ best rows address; longest : (row : Row) → IsLongest rows address row → n ≡ row.asn; none : ((row : Row) → Contains rows row → row_covers row address ≡ true → ⊥) → n ≡ 0 }
answer rows address n table e = record {
  found = e;
  longest = λ row is. e ∙ best_found rows address row table is;
  none = λ none. e ∙ best_none rows address none;
}

pub returns-in-Some : goal.returns-in-Some
returns-in-Some c =
    let now = c.as_slice.ensures.value ∙ c.self.view_is in
    let table = subst IsTable c.self.view_is c.self.invariant in
    let row = c.in-Some.row in
    let longest = subst (λ (rows : List Row). IsLongest rows c.args.address row) now c.in-Some.ensures.found in
    answer c.args.self.now c.args.address row.asn table (sym (best_found c.args.self.now c.args.address row table longest))

pub returns-in-None : goal.returns-in-None
returns-in-None c =
    let now = c.as_slice.ensures.value ∙ c.self.view_is in
    let table = subst IsTable c.self.view_is c.self.invariant in
    let none = subst (λ (rows : List Row). (row : Row) → Contains rows row → row_covers row c.args.address ≡ true → ⊥) now c.in-None.ensures.none in
    answer c.args.self.now c.args.address 0 table (sym (best_none c.args.self.now c.args.address none))
