use Rattle.std.proofs.Common.{rules, ◌≡◌, ◌++◌, [], ◌∷◌, length, nat_lt, false, Ok, IfOk, arith, ap, sym, subst, ◌∙◌}
use Rattle.std.proofs.lemmas.Bool.Decides.{nat_tests}
use Rattle.limiter.specs.Tokens.{refill, intake_count}
use Rattle.addr_limit.specs.Steps.{limit_message}
use Rattle.addr_limit.proofs.PassedOn.{passing, message_line-is}
use Rattle.addr_limit.proofs.print.read_line.Goals as goal

pub returns : goal.returns
returns c =
    let es = c.items-entries.result.now in
    let ws = c.items-words.result.now in
    let enough : nat_lt (length ws) (length es) ≡ false = grind (arith, nat_tests, c.if-words-entries.false) in
    let count : c.admitted-taken.result ≡ intake_count (refill c.args.clock c.args.conn.now) (length es) = search rules in
    let line = message_line-is c.args.clock c.args.conn.now es ws c.admitted-taken.result count enough in
    let read = ap Ok c.items-entries.ensures ∙ sym c.in-Ok.is in
    let same = line ∙ (λ i. (limit_message c.args.clock c.args.conn.now (read i) (c.items-words.ensures.items i)).text) in
    subst (λ t. IfOk c.entries_line.result (λ text. text.items ≡ t ++ 10 ∷ [])) same (c.entries_line.ensures (passing es ws c.admitted-taken.result) c.in_ok-passing.ensures.entries c.in_ok-passing.ensures.words)
