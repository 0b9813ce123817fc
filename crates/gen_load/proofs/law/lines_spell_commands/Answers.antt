use Rattle.std.proofs.Common.{◌≤◌, ◌*◌, length, arith, subst}
use Rattle.std.specs.List.{concat}
use Rattle.gen_load.specs.Log.{beginning, log}
use Rattle.gen_load.proofs.LineLaws.{all-cut, all-short, log-count, log-is_lines}
use Rattle.gen_load.proofs.law.lines_spell_commands.Goals as goal

pub returns-clause-lines : goal.returns-clause-lines
returns-clause-lines c = λ start lines few. log-is_lines lines (beginning start) (record { late = omega arith; early = omega (arith, few) })

pub returns-clause-short : goal.returns-clause-short
returns-clause-short c =
    λ start lines few.
    let all = all-short (log start lines) (log-is_lines lines (beginning start) (record { late = omega arith; early = omega (arith, few) })) in
    subst (λ n. length (concat (log start lines)) ≤ 300 * n) (log-count lines (beginning start)) all

pub returns-clause-cut : goal.returns-clause-cut
returns-clause-cut c =
    λ start lines few. all-cut (log start lines) (log-is_lines lines (beginning start) (record { late = omega arith; early = omega (arith, few) }))
