use Rattle.std.proofs.Common.{◌≡◌, ℕ, ◌≤◌, List, length, not, All, subst, sym, arith, ap}
use Rattle.std.proofs.lemmas.List.Elements.{All-filter, All-push}
use Rattle.addr_answers.specs.Answers.{Answer, AreAnswers, is_of, without}
use Rattle.addr_answers.specs.declared.answers.TheConstants.{MAX_TOLD}
use Rattle.addr_answers.proofs.answers.Answers.put.Goals as goal

abbrev AreShort : List Answer → Type 0
AreShort kept = All (λ a. length a.entries ≤ MAX_TOLD) kept

-- the answers of other keys are as short as before
short : (key : ℕ) (old kept : List Answer) → AreAnswers old → kept ≡ without key old → AreShort kept
short key old kept are is = subst AreShort (sym is) (All-filter (λ (a : Answer). not (is_of key a)) (λ a. length a.entries ≤ MAX_TOLD) old are.entries)

pub invariant_of-self-2 : goal.invariant_of-self-2
invariant_of-self-2 c = record {
  keys = omega (arith, c.if-count_others-ge-MAX_KEYS.false, c.count_others.ensures, ap (λ kept. length (without c.args.key kept)) c.deref.ensures.value, ap length c.drop_key.ensures.items, ap length c.push_reserved.ensures.items, c.push_reserved.ensures.len);
  entries = subst AreShort (sym c.push_reserved.ensures.items)
      (All-push (λ (a : Answer). length a.entries ≤ MAX_TOLD) c.drop_key.new.kept.items c.of.result (short c.args.key c.reserve.new.self.items c.drop_key.new.kept.items (subst AreAnswers (sym c.reserve.ensures.items) c.self.invariant) c.drop_key.ensures.items) (subst (λ (a : Answer). length a.entries ≤ MAX_TOLD) (sym c.of.ensures) c.requires.few));
}
