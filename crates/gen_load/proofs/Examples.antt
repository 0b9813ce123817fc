-- Worked examples, computed over the definitions.
use Rattle.std.proofs.Common.{◌≡◌, [], ◌∷◌, codes, refl}
use Rattle.std.specs.Fmt.{digits}
use Rattle.rand_core.specs.Steps.{u32_at, stream_of, word_bytes}
use Rattle.rand_core.specs.Stream.{fill_bytes}
use Rattle.gen_load.specs.Log.{draw, past, drawn_line, log}

first_line : log 0 1 ≡ codes "now 1700000000\n" ∷ []
unfolding digits
first_line = refl

second_line : log 7 2 ≡ codes "now 1700000000\n" ∷ codes "select any all @4199456276:300\n" ∷ []
unfolding digits draw past drawn_line u32_at stream_of word_bytes fill_bytes
second_line = refl
