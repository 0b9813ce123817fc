use Rattle.std.proofs.Common.{◌≡◌, ◌≤◌, length, take}
use Rattle.addr_answers.specs.Answers.{without}
use Rattle.addr_answers.proofs.answers.count_others.Given as goal

-- the number among the first answers
abbrev pub invariant-loop-one : goal.invariant-loop-one
invariant-loop-one l = record {
  found : l.others ≡ length (without l.key (take l.one-index l.kept));
  few : l.others ≤ l.one-index;
}
