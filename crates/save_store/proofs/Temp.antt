-- What the calls on the temporary file leave of the folder.
use Rattle.std.proofs.Common.{◌≡◌, ℕ, List, [], ◌++◌, refl, sym, ap, ◌∙◌, subst, inl, inr, take}
use Rattle.std.specs.Prelude.{Option, Some, None, IfSome, IsSome}
use Rattle.std.specs.Option.{option_map}
use Rattle.host_io.specs.Disk.{Disk, DiskEntry, MayHave, Partly, PartlyAppended, after_append, after_create, after_sync, appended, created, synced}
use Rattle.host_io.specs.Files.{IsThere}
use Rattle.host_io.specs.Past.{Past, AfterFault, Always, IsNew, after, files_of}
use Rattle.host_io.specs.PerName.{under, with}
use Rattle.host_io.specs.declared.name.Name.{Name}
use Rattle.host_io.proofs.Moments.{begun, broke, went}
use Rattle.host_io.proofs.Names.{under_each, under_other, under_same}
use Rattle.save_store.specs.Job.{ReadsAs}
use Rattle.save_store.specs.Saves.{IsSafe, IsSynced, KeepsOthers}

-- nothing has changed yet
pub unchanged : (temp : Name) (old : Option Past) → Always old old (KeepsOthers temp)
unchanged temp old = begun (KeepsOthers temp) old (λ d other apart. refl)

-- a call that puts one name anew
pub changed : (temp : Name) (call : Disk → DiskEntry) (old mid new : Option Past)
    → Always old mid (KeepsOthers temp) → new ≡ after (λ d. with d temp (call d)) mid
    → Always old new (KeepsOthers temp)
changed temp call old mid new so_far goes =
    went (KeepsOthers temp) (λ d. with d temp (call d)) old mid new so_far goes
    (λ start d only other apart. under_other d temp other (call d) apart ∙ only other apart)

between : (temp : Name) (call : Disk → DiskEntry) (start d e : Disk) → KeepsOthers temp start d
    → Partly (λ disk. with disk temp (call disk)) d e → KeepsOthers temp start e
between temp call start d e only fault other apart =
    fault.same other (under_other d temp other (call d) apart) ∙ only other apart

-- the same if it fails
pub failed : (temp : Name) (call : Disk → DiskEntry) (old mid new : Option Past)
    → Always old mid (KeepsOthers temp) → AfterFault (Partly (λ d. with d temp (call d))) mid new
    → Always old new (KeepsOthers temp)
failed temp call old mid new so_far fault =
    broke (KeepsOthers temp) (Partly (λ d. with d temp (call d))) old mid new so_far fault
    (between temp call)

pub failed_append : (temp : Name) (bytes : List ℕ) (old mid new : Option Past)
    → Always old mid (KeepsOthers temp) → AfterFault (PartlyAppended temp bytes) mid new
    → Always old new (KeepsOthers temp)
failed_append temp bytes old mid new so_far fault =
    broke (KeepsOthers temp) (PartlyAppended temp bytes) old mid new so_far fault
    (λ start d e only part.
    between temp (λ disk. appended (take part.0 bytes) (under disk temp)) start d e only part.1)

-- the file is there

pub there : (name : Name) (past : Option Past)
    → IfSome past (λ p. IsSome (under p.now name).file) → IsThere (files_of past) name
there name None is = tt
there name (Some p) is = subst IsSome (sym (under_each (λ (e : DiskEntry). e.file) p.now name)) is

some_there : (now : Option (List ℕ)) (bytes : List ℕ) → now ≡ Some bytes → IsSome now
some_there now bytes is = subst IsSome (sym is) refl

pub reads_there : (name : Name) (bytes : List ℕ) (past : Option Past)
    → ReadsAs name bytes past → IsThere (files_of past) name
reads_there name bytes None reads = tt
reads_there name bytes (Some p) reads =
    there name (Some p) (some_there (under p.now name).file bytes reads.0)

pub some_reads_there : (name : Name) (past : Option Past)
    → (bytes : List ℕ) × ReadsAs name bytes past → IsThere (files_of past) name
some_reads_there name past reads = reads_there name reads.0 past reads.1

pub synced_there : (name : Name) (past : Option Past)
    → IfSome past (λ p. (bytes : List ℕ) × IsSynced name bytes p.now) → IsThere (files_of past) name
synced_there name None synced = tt
synced_there name (Some p) synced =
    there name (Some p) (some_there (under p.now name).file synced.0 synced.1.reads)

-- this run created the file

pub reads_new : (name : Name) (bytes : List ℕ) (past : Option Past) → ReadsAs name bytes past → IsNew past name
reads_new name bytes None reads = tt
reads_new name bytes (Some p) reads = reads.1

pub some_reads_new : (name : Name) (past : Option Past)
    → (bytes : List ℕ) × ReadsAs name bytes past → IsNew past name
some_reads_new name past reads = reads_new name reads.0 past reads.1

pub synced_new : (name : Name) (past : Option Past)
    → IfSome past (λ p. (bytes : List ℕ) × IsSynced name bytes p.now) → IsNew past name
synced_new name None synced = tt
synced_new name (Some p) synced = synced.1.created

-- the bytes as they read

pub created_reads : (name : Name) (old new : Option Past) → new ≡ after (after_create name) old
    → ReadsAs name [] new
created_reads name None new goes = subst (ReadsAs name []) (sym goes) tt
created_reads name (Some p) new goes =
    let at = under_same p.now name created in
    subst (ReadsAs name []) (sym goes)
    (ap (λ (e : DiskEntry). e.file) at, ap (λ (e : DiskEntry). e.is_loose) at)

pub appended_reads : (name : Name) (written bytes : List ℕ) (old new : Option Past)
    → ReadsAs name written old → new ≡ after (after_append name bytes) old
    → ReadsAs name (written ++ bytes) new
appended_reads name written bytes None new reads goes =
    subst (ReadsAs name (written ++ bytes)) (sym goes) tt
appended_reads name written bytes (Some p) new reads goes =
    let at = under_same p.now name (appended bytes (under p.now name)) in
    subst (ReadsAs name (written ++ bytes)) (sym goes) (
      ap (λ (e : DiskEntry). e.file) at ∙ ap (option_map (λ old. old ++ bytes)) reads.0,
      ap (λ (e : DiskEntry). e.is_loose) at ∙ reads.1,
    )

-- what is synced

pub is_synced : (name : Name) (bytes : List ℕ) (old new : Option Past)
    → ReadsAs name bytes old → new ≡ after (after_sync name) old
    → IfSome new (λ p. IsSynced name bytes p.now)
is_synced name bytes None new reads goes =
    subst (λ o. IfSome o (λ p. IsSynced name bytes p.now)) (sym goes) tt
is_synced name bytes (Some p) new reads goes =
    let at = under_same p.now name (synced (under p.now name)) in
    subst (λ o. IfSome o (λ q. IsSynced name bytes q.now)) (sym goes) (record {
      reads = ap (λ (e : DiskEntry). e.file) at ∙ reads.0;
      synced = ap (λ (e : DiskEntry). e.is_torn) at;
      created = ap (λ (e : DiskEntry). e.is_loose) at ∙ reads.1;
    })

-- a name that was created, appended to and synced
written : List ℕ → DiskEntry
written bytes = synced (appended bytes created)

only_written : (bytes found : List ℕ) → MayHave (written bytes) (Some found) → found ≡ bytes
unfolding written
only_written bytes found (inl is) = ap (option_or_nil) is
  where
    option_or_nil : Option (List ℕ) → List ℕ
    option_or_nil None = []
    option_or_nil (Some xs) = xs
only_written bytes found (inr (inl absent)) = cc
only_written bytes found (inr (inr none)) = absurd none

written_at : (name : Name) (bytes : List ℕ) (d : Disk)
    → under (after_sync name (after_append name bytes (after_create name d))) name ≡ written bytes
unfolding written
written_at name bytes d =
    let made = under_same d name created in
    let more = under_same (after_create name d) name (appended bytes (under (after_create name d) name)) in
    under_same (after_append name bytes (after_create name d)) name _
    ∙ ap synced (more ∙ ap (appended bytes) made)

-- a file that was written anew and synced is safe
pub written_safe : (name : Name) (bytes : List ℕ) (old one two new : Option Past)
    → one ≡ after (after_create name) old → two ≡ after (after_append name bytes) one
    → new ≡ after (after_sync name) two → IfSome new (λ p. IsSafe name bytes p.now)
unfolding written
written_safe name bytes None one two new created appended goes =
    subst (λ o. IfSome o (λ p. IsSafe name bytes p.now))
    (sym (goes ∙ ap (after (after_sync name)) (appended ∙ ap (after (after_append name bytes)) created))) tt
written_safe name bytes (Some p) one two new created appended goes =
    subst (λ o. IfSome o (λ p. IsSafe name bytes p.now))
    (sym (goes ∙ ap (after (after_sync name)) (appended ∙ ap (after (after_append name bytes)) created)))
    (record {
      reads = ap (λ (e : DiskEntry). e.file) (written_at name bytes p.now);
      only = λ found may. only_written bytes found
          (subst (λ entry. MayHave entry (Some found)) (written_at name bytes p.now) may);
    })

-- what a file that was written gives to `publish`
pub some_synced : (name : Name) (bytes : List ℕ) (past : Option Past)
    → IfSome past (λ p. IsSynced name bytes p.now)
    → IfSome past (λ p. (bytes : List ℕ) × IsSynced name bytes p.now)
some_synced name bytes None synced = tt
some_synced name bytes (Some p) synced = (bytes, synced)
