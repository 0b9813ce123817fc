use Rattle.std.proofs.Common.{ap, sym, ◌∙◌, subst, arith, Some, refl, length}
use Rattle.std.proofs.lemmas.List.{length-map}
use Rattle.std.specs.Char.{to_ascii_lowercase}
use Rattle.net_addr.specs.Address.{IsAddress}
use Rattle.names.specs.Name.{letters_of}
use Rattle.names.proofs.Letters.{letters_address, few_letters}
use Rattle.names.proofs.name.from_letters.Goals as goal

pub returns-then-letters-gt56-clause-only : goal.returns-then-letters-gt56-clause-only
returns-then-letters-gt56-clause-only c = λ a h.
    absurd (omega (arith, few_letters c.args.net a _ c.requires h, length-map c.args.letters.now to_ascii_lowercase))

pub returns-in_default-clause-only : goal.returns-in_default-clause-only
returns-in_default-clause-only c = λ a h.
    let same = letters_address c.args.net a _ c.lowered-lower.result _ (length c.args.letters.now) c.requires h c.lowered-lower.ensures (omega arith) (omega arith) refl in
    c.in_default.ensures.only (subst IsAddress (sym same) h.own) ∙ ap Some same

pub returns-then-has_letters-clause-only : goal.returns-then-has_letters-clause-only
returns-then-has_letters-clause-only c = λ a h.
    let same = letters_address c.args.net a _ c.lowered-lower.result _ (length c.args.letters.now) c.requires h c.lowered-lower.ensures (omega arith) (omega arith) refl in
    c.in-Some.ensures.only (subst IsAddress (sym same) h.own) ∙ ap Some same

pub returns-else-has_letters-clause-only : goal.returns-else-has_letters-clause-only
returns-else-has_letters-clause-only c = λ a h.
    let same = letters_address c.args.net a _ c.lowered-lower.result _ (length c.args.letters.now) c.requires h c.lowered-lower.ensures (omega arith) (omega arith) refl in
    let it = c.in-Some.ensures.found ∙ same in
    let here = c.lowered-lower.ensures ∙ h.encodes ∙ ap (λ n. letters_of n a.bytes) (sym h.network) ∙ ap (λ x. letters_of x.net x.bytes) (sym it) in
    let no = c.if-has_letters.ensures.1 here in
    cc
