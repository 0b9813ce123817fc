-- A file is sane exactly when its bits are a part that is sane at its start, and padding.
use Rattle.std.proofs.Common.{◌≡◌, ℕ, ◌-◌, Bool, false, List, ◌++◌, length, replicate, refl, ap, arith, length-append}
use Rattle.std.proofs.lemmas.List.{length-replicate}
use Rattle.bit_code.specs.Coder.{file_bits}
use Rattle.asmap_vm.specs.Code.{Tree, code, IsSane, IsSaneFile}
use Rattle.asmap_vm.specs.TreeOf.{tree_of}
use Rattle.asmap_vm.specs.Scanning.{Completes, Follow, IsPadding, start}
use Rattle.asmap_vm.proofs.TreeLaws.{tree_of-file}

-- the file of the tree that was found
found_file : (t : Tree) (bytes : List ℕ) (rest : List Bool) → IsSane t → file_bits bytes ≡ code t ++ rest → IsPadding rest → IsSaneFile t bytes
found_file t bytes rest sane spelled padding =
    let size : length (file_bits bytes) - length (code t) ≡ length rest = omega (arith, ap length spelled, length-append (code t) rest) in
    record {
      sane = sane;
      file = record {
        spelled = rw (size, ← padding.zero) spelled;
        padded = omega (arith, ap length spelled, length-append (code t) rest, padding.few);
      };
    }

pub sound_file : (bytes : List ℕ) → Completes (file_bits bytes) start → IsSaneFile (tree_of bytes) bytes
unfolding Completes Follow
sound_file bytes c =
    let file = found_file c.1.tree bytes c.0 c.1.sane c.1.spelled c.2 in
    rw (tree_of-file c.1.tree bytes file) file

pub complete_file : (t : Tree) (bytes : List ℕ) → IsSaneFile t bytes → Completes (file_bits bytes) start
unfolding Completes Follow
complete_file t bytes h =
    let zeros = replicate (length (file_bits bytes) - length (code t)) false in
    let count : length zeros ≡ length (file_bits bytes) - length (code t) = length-replicate (length (file_bits bytes) - length (code t)) false in
    (zeros, record { tree = t; sane = h.sane; suits = tt; spelled = h.file.spelled }, record { few = omega (arith, h.file.padded); zero = rw count refl })
