-- A fate at an index is one of the fates, and an image name by name.
use Rattle.std.proofs.Common.{ℕ, ◌<◌, List, [], ◌∷◌, zero, suc, length, get_or, inl, inr, Option, None, Some, ◌≡◌, ◌∙◌, ap, refl, subst, sym, arith}
use Rattle.host_io.specs.Disk.{Allows, AllowsOne, Disk, DiskEntry, IsImage, MayHave, exactly, files_on}
use Rattle.host_io.specs.Files.{Files}
use Rattle.host_io.specs.PerName.{under}
use Rattle.host_io.specs.declared.name.Name.TheVariants.{Peers, PeersTemp, Asmap, AsmapTemp, AsmapOld, Prefixes, Bans, BansTemp}
use Rattle.host_io.specs.declared.entry.Fate.{Fate}

pub allows_at : (fates : List Fate) (index : ℕ) (other : Fate) (found : Option (List ℕ))
    → index < length fates → Allows (get_or fates index other) found → AllowsOne fates found
allows_at [] index other found within allowed = absurd (omega (arith, within))
allows_at (fate ∷ fates) zero other found within allowed = inl allowed
allows_at (fate ∷ fates) (suc index) other found within allowed =
    inr (allows_at fates index other found (omega (arith, within)) allowed)

-- an image, name by name
pub image_of : (disk : Disk) (files : Files)
    → MayHave (under disk Peers) files.peers → MayHave (under disk PeersTemp) files.peers_temp
    → MayHave (under disk Asmap) files.asmap → MayHave (under disk AsmapTemp) files.asmap_temp
    → MayHave (under disk AsmapOld) files.asmap_old → MayHave (under disk Prefixes) files.prefixes
    → MayHave (under disk Bans) files.bans → MayHave (under disk BansTemp) files.bans_temp → IsImage disk files
image_of disk files a b c d e f g h Peers = a
image_of disk files a b c d e f g h PeersTemp = b
image_of disk files a b c d e f g h Asmap = c
image_of disk files a b c d e f g h AsmapTemp = d
image_of disk files a b c d e f g h AsmapOld = e
image_of disk files a b c d e f g h Prefixes = f
image_of disk files a b c d e f g h Bans = g
image_of disk files a b c d e f g h BansTemp = h

exactly_allows : (file : Option (List ℕ)) → Allows (exactly file) file
exactly_allows None = refl
exactly_allows (Some bytes) = refl

-- the file as it reads is one of those that a crash may leave
pub may_have_file : (entry : DiskEntry) (found : Option (List ℕ)) → found ≡ entry.file → MayHave entry found
may_have_file entry found is = subst (MayHave entry) (sym is) (inl (exactly_allows entry.file))

-- the files as they read, name by name
pub reads_as : (disk : Disk) (files : Files)
    → files.peers ≡ disk.peers.file → files.peers_temp ≡ disk.peers_temp.file
    → files.asmap ≡ disk.asmap.file → files.asmap_temp ≡ disk.asmap_temp.file
    → files.asmap_old ≡ disk.asmap_old.file → files.prefixes ≡ disk.prefixes.file
    → files.bans ≡ disk.bans.file → files.bans_temp ≡ disk.bans_temp.file
    → files ≡ files_on disk
reads_as disk files a b c d e f g h =
    ap (λ x. record files { peers = x }) a
    ∙ ap (λ x. record files { peers = disk.peers.file; peers_temp = x }) b
    ∙ ap (λ x. record (files_on disk) {
      asmap = x;
      asmap_temp = files.asmap_temp;
      asmap_old = files.asmap_old;
      prefixes = files.prefixes;
      bans = files.bans;
      bans_temp = files.bans_temp;
    }) c
    ∙ ap (λ x. record (files_on disk) {
      asmap_temp = x;
      asmap_old = files.asmap_old;
      prefixes = files.prefixes;
      bans = files.bans;
      bans_temp = files.bans_temp;
    }) d
    ∙ ap (λ x. record (files_on disk) {
      asmap_old = x;
      prefixes = files.prefixes;
      bans = files.bans;
      bans_temp = files.bans_temp;
    }) e
    ∙ ap (λ x. record (files_on disk) {
      prefixes = x;
      bans = files.bans;
      bans_temp = files.bans_temp;
    }) f
    ∙ ap (λ x. record (files_on disk) { bans = x; bans_temp = files.bans_temp }) g
    ∙ ap (λ x. record (files_on disk) { bans_temp = x }) h
