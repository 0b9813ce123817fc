use Rattle.std.proofs.Common.{◌≡◌, None, sym, ◌∙◌}
use Rattle.std.proofs.lemmas.Option.{none-some}
use Rattle.arguments.proofs.options.read_key_then_net.Goals as goal

pub returns-in_err-chain-clause-only : goal.returns-in_err-chain-clause-only
returns-in_err-chain-clause-only c = λ key chain read net.
    let none : c.read_net.result ≡ None = cc in
    absurd (none-some chain (sym none ∙ c.read_net.ensures.only chain net))
