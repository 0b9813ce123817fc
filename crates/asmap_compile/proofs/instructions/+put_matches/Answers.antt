use Rattle.std.proofs.Common.{◌≡◌, ℕ, zero, suc, ◌-◌, ◌*◌, ◌≤◌, Bool, List, ◌++◌, OnOk, subst, sym, ap, ◌∙◌, arith}
use Rattle.asmap_vm.specs.Code.{Tree, code}
use Rattle.asmap_compile.specs.Compiled.{matches}
use Rattle.asmap_compile.specs.Inside.{bits_between}
use Rattle.asmap_compile.proofs.BetweenLaws.{between_none, matches_none, matches_first}
use Rattle.asmap_compile.proofs.instructions.+put_matches.Goals as goal

nothing : (bits from to count : ℕ) (t : Tree) → from ≡ to → matches count (bits_between bits from to) t ≡ t
nothing bits from to count t e = ap (λ n. matches count (bits_between bits from n) t) (sym e) ∙ ap (λ xs. matches count xs t) (between_none bits from) ∙ matches_none count t

pub returns-then-from-to : goal.returns-then-from-to
returns-then-from-to t c = λ count u rest fits e. e ∙ ap (λ v. code v ++ rest) (sym (nothing c.args.bits c.args.from c.args.to count u c.if-from-to.true))

step : (t : ℕ) (c : goal.After-put_match t) (count : ℕ) (u : Tree) (rest : List Bool) → c.args.to - c.args.from ≤ 8 * count → c.args.out.now ≡ code u ++ rest →
    OnOk c.put_match.result (c.put_match.new.out ≡ code (matches count (bits_between c.args.bits c.args.from c.args.to) u) ++ rest)
step t c zero u rest fits e = absurd (c.if-from-to.false (omega arith))
step t c (suc count) u rest fits e =
    let end = c.min-end.result in
    let first = matches_first count c.args.bits c.args.from c.args.to end u (omega arith) c.requires.within c.min-end.ensures in
    let back = c.in_ok-put_matches.ensures count u rest (omega arith) e in
    let put = c.put_match.ensures (matches count (bits_between c.args.bits end c.args.to) u) rest back in
    subst (λ v. OnOk c.put_match.result (c.put_match.new.out ≡ code v ++ rest)) (sym first) put

pub returns : goal.returns
returns t c = λ count u rest fits e. step t c count u rest fits e
