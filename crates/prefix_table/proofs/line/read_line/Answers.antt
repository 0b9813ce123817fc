use Rattle.std.proofs.Common.{◌≡◌, ◌∙◌, ℕ, List, Option, Some, None, ap, sym, refl}
use Rattle.std.specs.Prelude.{unwrap_or}
use Rattle.prefix_table.specs.Text.{IsRowEntry}
use Rattle.prefix_table.specs.Numbered.{IsSettled}
use Rattle.std.proofs.lemmas.Bool.{false≢true}
use Rattle.prefix_table.specs.declared.line.RowEntry.{RowEntry}
use Rattle.prefix_table.proofs.line.read_line.Goals as goal

differ : (entry : RowEntry) → None ≡ Some entry → ⊥
differ entry e = cc

pub returns-in_default-clause-cause : goal.returns-in_default-clause-cause
returns-in_default-clause-cause c = (
  refl,
  record {
    not_passed_over = λ passed. false≢true (c.if-is_passed_over.ensures.1 passed);
    no_entry = λ entry is. differ entry (c.in_default.ensures.only entry is);
  },
)

settled_by : (text : List ℕ) (o : Option RowEntry) → ((entry : RowEntry) → IsRowEntry text entry → o ≡ Some entry) → IsSettled text
settled_by text o only a b is it = ap (λ (p : Option RowEntry). unwrap_or p a) (sym (only a is) ∙ only b it)

pub returns-in_default-clause-settled : goal.returns-in_default-clause-settled
returns-in_default-clause-settled c = settled_by c.args.text.now None c.in_default.ensures.only

pub returns-then-not-is_in_range-clause-settled : goal.returns-then-not-is_in_range-clause-settled
returns-then-not-is_in_range-clause-settled c = settled_by c.args.text.now (Some c.in-Some.entry) c.in-Some.ensures.only

pub returns-then-not-is_clear-clause-settled : goal.returns-then-not-is_clear-clause-settled
returns-then-not-is_clear-clause-settled c = settled_by c.args.text.now (Some c.in-Some.entry) c.in-Some.ensures.only

pub returns-clause-settled : goal.returns-clause-settled
returns-clause-settled c = settled_by c.args.text.now (Some c.in-Some.entry) c.in-Some.ensures.only
