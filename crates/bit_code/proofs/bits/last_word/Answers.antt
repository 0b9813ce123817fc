use Rattle.std.proofs.Common.{◌≡◌, ◌≤◌, ◌-◌, ◌++◌, ℕ, List, arith, ap, take, drop, length, replicate, length-append, length-drop, ◌∙◌}
use Rattle.std.proofs.lemmas.List.{length-replicate}
use Rattle.std.proofs.lemmas.Grind.{common_steps}
use Rattle.bit_code.proofs.Windows.{last_word}
use Rattle.bit_code.proofs.bits.last_word.Goals as goal

pub returns : goal.returns
returns c =
    let last : List ℕ = drop c.args.q c.args.bytes.now in
    let none : List ℕ = replicate 8 0 in
    let zeros : List ℕ = drop (length last) none in
    let few : length last ≤ 8 = omega (arith, length-drop c.args.q c.args.bytes.now) in
    let front : take (length c.args.bytes.now - c.args.q) last ≡ last = grind (arith, common_steps) in
    let list : c.with_zeros.result ≡ last ++ zeros = rw front at c.with_zeros.ensures in
    let size : length c.with_zeros.result ≡ 8 = ap length list ∙ omega (arith, length-append last zeros, length-drop (length last) none, length-replicate {A = ℕ} 8 0, few) in
    last_word c.args.bytes.now c.args.q c.word_at.result c.with_zeros.result zeros list size c.word_at.ensures.bytes c.word_at.ensures.word
