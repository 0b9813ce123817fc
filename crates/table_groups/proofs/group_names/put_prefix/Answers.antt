use Rattle.std.proofs.Common.{◌*◌, ◌/◌, ℕ, ◌++◌, refl, ap, ◌∙◌}
use Rattle.std.specs.Prelude.{codes, decimal}
use Rattle.std.specs.Int.{w128, to_be_bytes, from_be_bytes}
use Rattle.net_addr.specs.Text.{ipv6_text}
use Rattle.table_groups.proofs.PlainTexts.{three_parts}
use Rattle.table_groups.proofs.group_names.put_prefix.Goals as goal

pub returns : goal.returns
returns c =
    three_parts c.args.out.now.items (ipv6_text (to_be_bytes w128 (from_be_bytes w128 c.args.bytes.now / c.args.size * c.args.size))) (codes "/") (decimal c.args.width)
    c.put_ipv6.new.out.items (c.put_ipv6.new.out.items ++ codes "/") c.put_number.new.out.items
    (c.in_ok-put_ipv6.ensures.ok ∙ ap (λ (n : ℕ). c.args.out.now.items ++ ipv6_text (to_be_bytes w128 (n / c.args.size * c.args.size))) (c.from_be_bytes-bits.ensures ∙ ap (from_be_bytes w128) c.array_of.ensures))
    refl (c.in_ok-put_number.ensures.ok ∙ ap (λ (n : ℕ). c.put_ipv6.new.out.items ++ codes "/" ++ decimal n) c.from.ensures)
