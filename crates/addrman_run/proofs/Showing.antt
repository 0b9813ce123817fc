-- Why peers.dat is refused.
use Rattle.std.proofs.Common.{◌≡◌, ◌<◌, ℕ, List, length, refl, ap, ◌∙◌, inl, lt-ltb, arith}
use Rattle.std.specs.Prelude.{Option, Some, None, option_map, replicate}
use Rattle.std.proofs.lemmas.List.{length-replicate}
use Rattle.host_io.specs.Past.{Past}
use Rattle.host_io.specs.PerName.{under}
use Rattle.host_io.specs.Disk.{files_on}
use Rattle.host_io.specs.declared.name.Name.TheVariants as name
use Rattle.peers_file.specs.Layout.{whole_fault}
use Rattle.peers_file.specs.declared.read.TheConstants.{MAX_FILE}
use Rattle.peers_file.specs.declared.chain.Chain.{Chain}
use Rattle.peers_file.specs.declared.fault.FileFault.TheVariants as file
use Rattle.addrman_run.specs.InFolder.{IsTooLarge}
use Rattle.addrman_run.specs.Peers.{RefusesPeers}

-- a file that is too large has this fault, and no other test is made
larger : (chain : Chain) (bytes : List ℕ) → MAX_FILE < length bytes → whole_fault chain bytes ≡ Some (file.TooLarge (length bytes))
unfolding whole_fault
larger chain bytes more = rw (lt-ltb MAX_FILE (length bytes) more) refl

-- the bytes of a file of this size
pub of_size : (o : Option (List ℕ)) (size : ℕ) → option_map length o ≡ Some size → (bytes : List ℕ) × (o ≡ Some bytes) × (length bytes ≡ size)
of_size None size is = absurd (cc)
of_size (Some bytes) size is = (bytes, refl, cc)

no_want : (size : ℕ) → file.TooLarge size ≡ file.Memory → ⊥
no_want size is = cc

-- a file that is too large is refused for that
pub too_large : (chain : Chain) (past : Option Past) (size : ℕ) → IsTooLarge name.Peers MAX_FILE past size → RefusesPeers chain past (file.TooLarge size)
too_large chain None size is =
    let long : length (replicate size 0) ≡ size = length-replicate size 0 in
    (no_want size, (replicate size 0, tt, inl (larger chain (replicate size 0) (omega (arith, is.0, long)) ∙ ap (λ n. Some (file.TooLarge n)) long)))
too_large chain (Some past) size is =
    let there = of_size (under (files_on past.now) name.Peers) size is.1 in
    (no_want size, (there.0, there.1, inl (larger chain there.0 (omega (arith, is.0, there.2)) ∙ ap (λ n. Some (file.TooLarge n)) there.2)))
