-- Worked examples of the rules of the disk: for each, what a crash may leave by it, and what not.
use Rattle.std.proofs.Common.{◌≡◌, ℕ, ◌+◌, List, [], ◌∷◌, Option, Some, None, refl, ap, inl, inr, length, arith}
use Rattle.host_io.specs.Disk.{Disk, DiskEntry, IsImage, MayHave, files_on, Partly, PartlyAppended, after_append, after_create, after_rename, after_sync, after_sync_dir, created, safe}
use Rattle.host_io.specs.PerName.{each, under, with}
use Rattle.host_io.proofs.Fates.{may_have_file}
use Rattle.host_io.proofs.Names.{under_each}
use Rattle.host_io.specs.declared.name.Name.TheVariants.{Peers, PeersTemp, Asmap}

abbrev old_file : List ℕ
old_file = 1 ∷ []

abbrev new_file : List ℕ
new_file = 2 ∷ 3 ∷ []

abbrev other_file : List ℕ
other_file = 7 ∷ 8 ∷ 9 ∷ []

-- A folder with the old file, and the new one under the temporary name, both safe.
abbrev start : Disk
start = each safe (record {
  peers = Some old_file;
  peers_temp = Some new_file;
  asmap = None;
  asmap_temp = None;
  asmap_old = None;
  prefixes = None;
  bans = None;
  bans_temp = None;
})

abbrev size : Option (List ℕ) → ℕ
size None = 0
size (Some bytes) = length bytes + 1

-- A safe file is as it reads.

the_file_itself : MayHave (under start Peers) (Some old_file)
the_file_itself = inl refl

no_other_file : MayHave (under start Peers) (Some other_file) → ⊥
no_other_file (inl is) = omega (arith, ap size is)
no_other_file (inr none) = none

-- A file that was appended to may have any bytes, until it is synced.

any_bytes_after_append : MayHave (under (after_append Peers new_file start) Peers) (Some other_file)
any_bytes_after_append = inr (inl refl)

not_absent_after_append : MayHave (under (after_append Peers new_file start) Peers) None → ⊥
not_absent_after_append (inl is) = omega (arith, ap size is)
not_absent_after_append (inr (inl is)) = cc
not_absent_after_append (inr (inr none)) = none

no_other_bytes_after_sync :
    MayHave (under (after_sync Peers (after_append Peers new_file start)) Peers) (Some new_file) → ⊥
no_other_bytes_after_sync (inl is) = omega (arith, ap size is)
no_other_bytes_after_sync (inr none) = none

-- A file that was created may be absent, until the folder is synced, and may have any bytes still.

absent_after_create : MayHave (under (after_sync Asmap (after_create Asmap start)) Asmap) None
absent_after_create = inr (inl refl)

there_after_sync_dir :
    MayHave (under (after_sync_dir (after_sync Asmap (after_create Asmap start))) Asmap) None → ⊥
there_after_sync_dir (inl is) = omega (arith, ap size is)
there_after_sync_dir (inr none) = none

any_bytes_after_sync_dir :
    MayHave (under (after_sync_dir (after_create Asmap start)) Asmap) (Some other_file)
any_bytes_after_sync_dir = inr (inl refl)

-- After a rename the target has the old file or the new one, and never none.

abbrev renamed : Disk
renamed = after_rename PeersTemp Peers start

the_new_file : MayHave (under renamed Peers) (Some new_file)
the_new_file = inl refl

still_the_old_file : MayHave (under renamed Peers) (Some old_file)
still_the_old_file = inr (inr (inl refl))

never_absent : MayHave (under renamed Peers) None → ⊥
never_absent (inl is) = omega (arith, ap size is)
never_absent (inr (inl is)) = omega (arith, ap size is)
never_absent (inr (inr (inl is))) = omega (arith, ap size is)
never_absent (inr (inr (inr none))) = none

-- The old name has the renamed file or none.
nothing_at_the_source : MayHave (under renamed PeersTemp) None
nothing_at_the_source = inl refl

still_at_the_source : MayHave (under renamed PeersTemp) (Some new_file)
still_at_the_source = inr (inl refl)

no_other_file_at_the_source : MayHave (under renamed PeersTemp) (Some other_file) → ⊥
no_other_file_at_the_source (inl is) = omega (arith, ap size is)
no_other_file_at_the_source (inr (inl is)) = omega (arith, ap size is)
no_other_file_at_the_source (inr (inr none)) = none

-- If the renamed file was not synced, the target may have any bytes, also after a later sync.
any_bytes_at_the_target :
    MayHave (under (after_sync Peers (after_rename PeersTemp Peers (after_append PeersTemp old_file start))) Peers)
    (Some other_file)
any_bytes_at_the_target = inr (inr (inl refl))

-- After a second rename one of the three files is there.
the_first_of_three_files :
    MayHave (under (after_rename Asmap Peers (with renamed Asmap (safe (Some other_file)))) Peers) (Some old_file)
the_first_of_three_files = inr (inr (inr (inr (inl refl))))

-- A `create` ends what renames may leave.
as_any_created_file : under (after_create Peers renamed) Peers ≡ created
as_any_created_file = refl

-- Once the folder is synced, the target has the file that it reads as.

the_new_file_after_sync_dir : MayHave (under (after_sync_dir renamed) Peers) (Some new_file)
the_new_file_after_sync_dir = inl refl

not_the_old_file_after_sync_dir : MayHave (under (after_sync_dir renamed) Peers) (Some old_file) → ⊥
not_the_old_file_after_sync_dir (inl is) = omega (arith, ap size is)
not_the_old_file_after_sync_dir (inr none) = none

-- A name that no call touched stays.

untouched : under renamed Asmap ≡ safe None
untouched = refl

no_file_at_an_untouched_name : MayHave (under renamed Asmap) (Some new_file) → ⊥
no_file_at_an_untouched_name (inl is) = omega (arith, ap size is)
no_file_at_an_untouched_name (inr none) = none

-- An `append` that failed may have appended a part.
one_byte_appended : PartlyAppended Peers new_file start (after_append Peers (2 ∷ []) start)
one_byte_appended = (
  1,
  record {
    reads = inr refl;
    leaves = λ name found may. inr may;
    same = λ name is. is;
  },
)

-- A `sync` that failed promises nothing.
not_synced : Partly (after_sync Peers) (after_append Peers new_file start) (after_append Peers new_file start)
not_synced = record {
  reads = inl refl;
  leaves = λ name found may. inl may;
  same = λ name is. refl;
}

-- A rename that failed leaves the old file or the new one.
not_lost : (new : Disk) → Partly (after_rename PeersTemp Peers) start new → MayHave (under new Peers) None → ⊥
not_lost new fault may = elim (fault.leaves Peers None may) [
  | inl before ↦ absent_before before
  | inr made ↦ never_absent made
]
  where
    absent_before : MayHave (under start Peers) None → ⊥
    absent_before (inl is) = omega (arith, ap size is)
    absent_before (inr none) = none

-- The folder as it reads is one that a crash may leave.
as_it_reads : (disk : Disk) → IsImage disk (files_on disk)
as_it_reads disk name =
    may_have_file (under disk name) _ (under_each (λ (entry : DiskEntry). entry.file) disk name)
