use Rattle.std.proofs.Common.{◌≡◌, ◌++◌, OnOk, cond, ap, sym, eq-eqb, subst}
use Rattle.std.proofs.lemmas.Bool.{ne_eqb}
use Rattle.map_diff.specs.Text.{change_text, given_text, taken_text}
use Rattle.map_diff.specs.declared.changed.ChangedPrefix.{ChangedPrefix}
use Rattle.map_diff.proofs.text.put_change.Goals as goal

taken : (change : ChangedPrefix) → change.new ≡ 0 → taken_text change ≡ change_text change
unfolding change_text
taken change e = sym (ap (λ b. cond b (taken_text change) (given_text change)) (eq-eqb change.new 0 e))

given : (change : ChangedPrefix) → (change.new ≡ 0 → ⊥) → given_text change ≡ change_text change
unfolding change_text
given change some = sym (ap (λ b. cond b (taken_text change) (given_text change)) (ne_eqb change.new 0 some))

pub returns-then-change-eq0-clause-ok : goal.returns-then-change-eq0-clause-ok
returns-then-change-eq0-clause-ok c =
    subst (λ t. OnOk c.put_taken.result (c.put_taken.new.out.items ≡ c.args.out.now.items ++ t)) (taken c.args.change c.if-change-eq0.true) c.put_taken.ensures.ok

pub returns-else-change-eq0-clause-ok : goal.returns-else-change-eq0-clause-ok
returns-else-change-eq0-clause-ok c =
    subst (λ t. OnOk c.put_given.result (c.put_given.new.out.items ≡ c.args.out.now.items ++ t)) (given c.args.change c.if-change-eq0.false) c.put_given.ensures.ok
