use Rattle.std.proofs.Common.{subst}
use Rattle.ban_list.specs.Subnet.{IsWhole}
use Rattle.ban_list.proofs.Named.{named_only, named_whole}
use Rattle.ban_list.proofs.subnet_names.parse_by_name.Goals as goal

pub returns-then-is_whole-clause-only : goal.returns-then-is_whole-clause-only
returns-then-is_whole-clause-only c = λ s h.
    absurd (named_whole c.args.text.now c.in_ok-subnet.subnet (λ t named. let e = c.in_default.ensures.only t named in cc)
    c.in_ok-subnet.ensures.only (subst IsWhole c.net.ensures (c.is_whole.ensures.yes c.if-is_whole.true)) s h)

pub returns-clause-only : goal.returns-clause-only
returns-clause-only c = named_only c.args.text.now _ (λ t named. let e = c.in_default.ensures.only t named in cc) c.in_ok-subnet.ensures.only
