use Rattle.std.proofs.Common.{◌≡◌, true, sym, refl, ◌∙◌, arith}
use Rattle.asmap_vm.proofs.TreeLaws.{tree_of-file}
use Rattle.asmap_vm.proofs.FileLaws.{sound_file, complete_file}
use Rattle.asmap_vm.proofs.checking.check.Goals as goal

pub returns-then-code-gt-MAX_ASMAP-clause-one_tree : goal.returns-then-code-gt-MAX_ASMAP-clause-one_tree
returns-then-code-gt-MAX_ASMAP-clause-one_tree c = λ t file. sym (tree_of-file t c.args.code.now file)

pub is_sane-requires : goal.is_sane-requires
is_sane-requires c = omega (arith, c.of.ensures.len)

pub invariant_of-result-clause-sane : goal.invariant_of-result-clause-sane
invariant_of-result-clause-sane c =
    sound_file c.args.code.now (rw c.of.ensures.bits at (c.is_sane.ensures.0 c.if-is_sane.true))

pub returns-then-is_sane-clause-one_tree : goal.returns-then-is_sane-clause-one_tree
returns-then-is_sane-clause-one_tree c = λ t file. sym (tree_of-file t c.args.code.now file)

pub returns-else-is_sane-clause-accepted : goal.returns-else-is_sane-clause-accepted
returns-else-is_sane-clause-accepted c = λ t file _.
    let yes : c.is_sane.result ≡ true = c.is_sane.ensures.1 (rw c.of.ensures.bits (complete_file t c.args.code.now file)) in
    sym c.if-is_sane.false ∙ yes

pub returns-else-is_sane-clause-one_tree : goal.returns-else-is_sane-clause-one_tree
returns-else-is_sane-clause-one_tree c = λ t file. sym (tree_of-file t c.args.code.now file)

pub returns-else-is_sane-clause-insane : goal.returns-else-is_sane-clause-insane
returns-else-is_sane-clause-insane c = (
  λ _. (
    c.if-code-gt-MAX_ASMAP.false,
    λ t file.
        let yes : c.is_sane.result ≡ true = c.is_sane.ensures.1 (rw c.of.ensures.bits (complete_file t c.args.code.now file)) in
        let no = c.if-is_sane.false in
        cc,
  ),
  λ _. refl,
)
