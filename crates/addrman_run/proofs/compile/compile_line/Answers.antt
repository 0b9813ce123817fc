use Rattle.std.proofs.Common.{◌≡◌, length, ap, ◌∙◌, subst}
use Rattle.std.specs.Prelude.{IfOk}
use Rattle.addrman_run.proofs.Compiling.{compile_line}
use Rattle.addrman_run.proofs.compile.compile_line.Goals as goal

pub returns : goal.returns
returns c = λ table rows bits.
    subst (λ t. IfOk c.line_of.result (λ text. text.items ≡ t))
    (compile_line table c.args.file.now.bytes c.args.rows c.bits.result (length c.code.result.now)
    rows (c.bits.ensures ∙ bits) (ap length c.code.ensures))
    c.line_of.ensures
