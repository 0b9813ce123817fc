use Rattle.std.proofs.Common.{[], ◌∷◌, ◌++◌, true, false, sym, ◌∙◌}
use Rattle.std.proofs.lemmas.Result.{err_from_is_err_and}
use Rattle.map_diff.specs.Diff.{changes_of}
use Rattle.map_diff.specs.Inside.{rows_at}
use Rattle.map_diff.proofs.Results.{by_fault}
use Rattle.map_diff.proofs.Joins.{ends_same, ends_apart, apart_cause}
use Rattle.map_diff.proofs.walk.join.Goals as goal

pub returns-then-is_one_pair-clause-found : goal.returns-then-is_one_pair-clause-found
returns-then-is_one_pair-clause-found c = λ s h.
    ends_same s c.args.rows.now.items c.truncate.new.self.items c.args.before c.args.left c.args.right c.args.one h
    (sym c.is_one_pair.ensures ∙ c.if-is_one_pair.true) c.truncate.ensures.items

pub returns-in_err-put_pair-clause-cause : goal.returns-in_err-put_pair-clause-cause
returns-in_err-put_pair-clause-cause c =
    by_fault c.from_residual.result c.in_err-put_pair.field-0.0 _ (err_from_is_err_and c.from_residual.result c.from_residual.ensures.1) (λ s h.
    apart_cause s c.args.rows.now.items c.args.before c.args.left c.args.right c.args.one c.in_err-put_pair.field-0.0 h (sym c.is_one_pair.ensures ∙ c.if-is_one_pair.false)
    (c.in_err-put_pair.ensures.cause (s.path ++ true ∷ []) s.right (s.rows ++ rows_at (s.path ++ false ∷ []) (changes_of s.left)) h.right_is))

pub returns-clause-found : goal.returns-clause-found
returns-clause-found c = λ s h.
    ends_apart s c.args.rows.now.items c.put_pair.new.rows.items c.args.before c.args.left c.args.right c.args.one h (sym c.is_one_pair.ensures ∙ c.if-is_one_pair.false)
    (c.in_ok-put_pair.ensures.put (s.path ++ true ∷ []) s.right (s.rows ++ rows_at (s.path ++ false ∷ []) (changes_of s.left)) h.len h.bits h.right_is)
