-- Why a file of anchors is refused.
use Rattle.std.proofs.Common.{◌≡◌, ◌<◌, ℕ, List, length, refl, ap, ◌∙◌, inl, lt-ltb, arith}
use Rattle.std.specs.Prelude.{Option, Some, None, replicate}
use Rattle.std.proofs.lemmas.List.{length-replicate}
use Rattle.anchors.specs.Layout.{whole_fault}
use Rattle.anchors.specs.declared.fault.AnchorsFault.TheVariants as fault
use Rattle.anchors.specs.declared.read.TheConstants.{MAX_FILE}
use Rattle.host_io.specs.Past.{Past}
use Rattle.host_io.specs.PerName.{under}
use Rattle.host_io.specs.Disk.{files_on}
use Rattle.host_io.specs.declared.name.Name.TheVariants as name
use Rattle.peers_file.specs.Layout.{magic_of}
use Rattle.peers_file.specs.declared.chain.Chain.{Chain}
use Rattle.addrman_run.specs.Anchors.{RefusesAnchors}
use Rattle.addrman_run.specs.InFolder.{IsTooLarge}
use Rattle.addrman_run.proofs.Showing.{of_size}

-- a file that is too large has this fault, and no other test is made
larger : (magic bytes : List ℕ) → MAX_FILE < length bytes → whole_fault magic bytes ≡ Some (fault.TooLarge (length bytes))
unfolding whole_fault
larger magic bytes more = rw (lt-ltb MAX_FILE (length bytes) more) refl

no_want : (size : ℕ) → fault.TooLarge size ≡ fault.Memory → ⊥
no_want size is = cc

-- a file that is too large is refused for that
pub large_anchors : (chain : Chain) (past : Option Past) (size : ℕ) → IsTooLarge name.Peers MAX_FILE past size → RefusesAnchors chain past (fault.TooLarge size)
large_anchors chain None size is =
    let long : length (replicate size 0) ≡ size = length-replicate size 0 in
    (no_want size, (replicate size 0, tt, inl (larger (magic_of chain) (replicate size 0) (omega (arith, is.0, long)) ∙ ap (λ n. Some (fault.TooLarge n)) long)))
large_anchors chain (Some past) size is =
    let there = of_size (under (files_on past.now) name.Peers) size is.1 in
    (no_want size, (there.0, there.1, inl (larger (magic_of chain) there.0 (omega (arith, is.0, there.2)) ∙ ap (λ n. Some (fault.TooLarge n)) there.2)))
