use Rattle.std.proofs.Common.{◌∙◌, ◌+◌, ◌/◌, ◌%◌, ◌++◌, ap, sym, arith}
use Rattle.net_addr.proofs.Decimals.{one_digit, two_digits, three_digits, two_parts, three_parts}
use Rattle.net_addr.proofs.print.append_byte.Goals as goal

pub returns-then-byte-lt10-clause-items : goal.returns-then-byte-lt10-clause-items
returns-then-byte-lt10-clause-items g c =
    c.push.ensures.items
    ∙ ap (λ ds. c.args.out.now.items ++ ds) (sym (one_digit c.args.byte (omega (arith, c.if-byte-lt10.true))))

pub returns-then-byte-lt100-clause-items : goal.returns-then-byte-lt100-clause-items
returns-then-byte-lt100-clause-items g c =
    let n = c.args.byte in
    two_parts c.args.out.now.items c.push-then-byte-lt100.new.self.items c.push-then-byte-lt100-2.new.self.items (48 + n / 10) (48 + n % 10)
    c.push-then-byte-lt100.ensures.items c.push-then-byte-lt100-2.ensures.items
    ∙ ap (λ ds. c.args.out.now.items ++ ds) (sym (two_digits n (omega (arith, c.if-byte-lt10.false)) (omega (arith, c.if-byte-lt100.true))))

pub returns-else-byte-lt100-clause-items : goal.returns-else-byte-lt100-clause-items
returns-else-byte-lt100-clause-items g c =
    let n = c.args.byte in
    three_parts c.args.out.now.items c.push-else-byte-lt100.new.self.items c.push-else-byte-lt100-2.new.self.items c.push-else-byte-lt100-3.new.self.items
    (48 + n / 100) (48 + n / 10 % 10) (48 + n % 10)
    c.push-else-byte-lt100.ensures.items c.push-else-byte-lt100-2.ensures.items c.push-else-byte-lt100-3.ensures.items
    ∙ ap (λ ds. c.args.out.now.items ++ ds) (sym (three_digits n (omega (arith, c.if-byte-lt100.false)) (omega arith)))
