-- What a crash leaves while a temporary file is put in the place of another.
use Rattle.std.proofs.Common.{◌≡◌, ℕ, List, [], inl, inr, refl, sym, ap, ◌∙◌, subst}
use Rattle.std.specs.Prelude.{Option, Some, None, IfSome, ◌≢◌, ◌⊎◌, true, false, Bool}
use Rattle.host_io.specs.Disk.{Disk, DiskEntry, Allows, AllowsOne, MayHave, Partly, after_rename, after_sync_dir, exactly, fates, file_fates, left, onto_if, settled, target}
use Rattle.host_io.specs.Past.{Past, AfterFault, Always, after}
use Rattle.host_io.specs.PerName.{under, with}
use Rattle.host_io.specs.declared.entry.Fate.{Fate}
use Rattle.host_io.specs.declared.entry.Fate.TheVariants.{Absent, AnyBytes}
use Rattle.host_io.specs.declared.name.Name.{Name}
use Rattle.host_io.proofs.Moments.{begun, broke, broke_first, joined, went, went_first}
use Rattle.host_io.proofs.Names.{under_each, under_other, under_same}
use Rattle.save_store.specs.Saves.{IsFree, IsStored, IsSynced, KeepsOthers, PublishesOrNot}

-- a file that is synced: a crash that leaves it leaves its bytes
record Synced (bytes : List ℕ) (e : DiskEntry) : Type 0 where
  reads : e.file ≡ Some bytes
  synced : e.is_torn ≡ false

exact : (bytes : List ℕ) (file found : Option (List ℕ)) → file ≡ Some bytes
    → Allows (exactly file) found → found ≡ Some bytes
exact bytes None found is allowed = allowed ∙ is
exact bytes (Some now) found is allowed = allowed ∙ is

whole : (is_torn : Bool) (rest : List Fate) (found : Option (List ℕ)) → is_torn ≡ false
    → AllowsOne (onto_if is_torn AnyBytes rest) found → AllowsOne rest found
whole is_torn rest found is allowed =
    subst (λ b. AllowsOne (onto_if b AnyBytes rest) found) is allowed

-- a name that has this file before others
file_or : (bytes : List ℕ) (e : DiskEntry) (rest : List Fate) (found : Option (List ℕ)) → Synced bytes e
    → AllowsOne (file_fates e rest) found → (found ≡ Some bytes) ⊎ AllowsOne rest found
file_or bytes e rest found safe (inl now) = inl (exact bytes e.file found safe.reads now)
file_or bytes e rest found safe (inr more) = inr (whole e.is_torn rest found safe.synced more)

at_target : (bytes : List ℕ) (source old : DiskEntry) (found : Option (List ℕ)) → Synced bytes source
    → MayHave (target source old) found → MayHave old found ⊎ (found ≡ Some bytes)
at_target bytes source old found safe may =
    elim (file_or bytes source (file_fates source (fates old)) found safe may) [
      | inl is ↦ inr is
      | inr more ↦ elim (file_or bytes source (fates old) found safe more) [
        | inl is ↦ inr is
        | inr was ↦ inl was
      ]
    ]

torn_or : (is_torn : Bool) (rest : List Fate) (found : Option (List ℕ))
    → AllowsOne (onto_if is_torn AnyBytes []) found → AllowsOne (onto_if is_torn AnyBytes rest) found
torn_or true rest found (inl any) = inl any
torn_or true rest found (inr none) = absurd none
torn_or false rest found allowed = absurd allowed

-- syncing the folder adds nothing
settles : (e : DiskEntry) (found : Option (List ℕ)) → MayHave (settled e) found → MayHave e found
settles e found (inl now) = inl now
settles e found (inr more) = inr (torn_or e.is_torn (onto_if e.is_loose Absent e.others) found more)

-- after the folder is synced, the target is the renamed file
at_last : (bytes : List ℕ) (source old : DiskEntry) (found : Option (List ℕ)) → Synced bytes source
    → MayHave (settled (target source old)) found → found ≡ Some bytes
at_last bytes source old found safe may = elim (file_or bytes source [] found safe may) [
  | inl is ↦ is
  | inr none ↦ absurd none
]

-- THE NAMES AFTER A RENAME

renamed_target : (temp name : Name) (d : Disk) → temp ≢ name
    → under (after_rename temp name d) name ≡ target (under d temp) (under d name)
renamed_target temp name d apart =
    under_other (with d name (target (under d temp) (under d name))) temp name (left (under d temp))
    (λ e. apart (sym e))
    ∙ under_same d name (target (under d temp) (under d name))

renamed_other : (temp name other : Name) (d : Disk) → other ≢ temp → other ≢ name
    → under (after_rename temp name d) other ≡ under d other
renamed_other temp name other d not_temp not_name =
    under_other (with d name (target (under d temp) (under d name))) temp other (left (under d temp))
    not_temp
    ∙ under_other d name other (target (under d temp) (under d name)) not_name

renamed : (temp name : Name) (bytes : List ℕ) (d : Disk) → temp ≢ name → Synced bytes (under d temp)
    → PublishesOrNot temp name bytes d (after_rename temp name d)
renamed temp name bytes d apart safe = record {
  at = λ found may. at_target bytes (under d temp) (under d name) found safe
      (subst (λ entry. MayHave entry found) (renamed_target temp name d apart) may);
  others = λ other t n found may.
      subst (λ entry. MayHave entry found) (renamed_other temp name other d t n) may;
}

renamed_or_not : (temp name : Name) (bytes : List ℕ) (d e : Disk) → temp ≢ name
    → Synced bytes (under d temp) → Partly (after_rename temp name) d e
    → PublishesOrNot temp name bytes d e
renamed_or_not temp name bytes d e apart safe fault = record {
  at = λ found may. elim (fault.leaves name found may) [
    | inl old ↦ inl old
    | inr new ↦ (renamed temp name bytes d apart safe).at found new
  ];
  others = λ other t n found may.
      subst (λ entry. MayHave entry found) (fault.same other (renamed_other temp name other d t n)) may;
}

-- AFTER THE FOLDER WAS SYNCED

settles_at : (d : Disk) (name : Name) (found : Option (List ℕ))
    → MayHave (under (after_sync_dir d) name) found → MayHave (under d name) found
settles_at d name found may =
    settles (under d name) found (subst (λ entry. MayHave entry found) (under_each settled d name) may)

settles_or_not : (d e : Disk) (name : Name) (found : Option (List ℕ)) → Partly after_sync_dir d e
    → MayHave (under e name) found → MayHave (under d name) found
settles_or_not d e name found fault may = elim (fault.leaves name found may) [
  | inl old ↦ old
  | inr new ↦ settles_at d name found new
]

less : (temp name : Name) (bytes : List ℕ) (start d e : Disk) → PublishesOrNot temp name bytes start d
    → ((n : Name) (found : Option (List ℕ)) → MayHave (under e n) found → MayHave (under d n) found)
    → PublishesOrNot temp name bytes start e
less temp name bytes start d e moved fewer = record {
  at = λ found may. moved.at found (fewer name found may);
  others = λ other t n found may. moved.others other t n found (fewer other found may);
}

all_there : (temp name : Name) (bytes : List ℕ) (d : Disk) → temp ≢ name → Synced bytes (under d temp)
    → IsStored name bytes (after_sync_dir (after_rename temp name d))
all_there temp name bytes d apart safe found may =
    at_last bytes (under d temp) (under d name) found safe
    (subst (λ entry. MayHave (settled entry) found) (renamed_target temp name d apart)
    (subst (λ entry. MayHave entry found) (under_each settled (after_rename temp name d) name) may))

-- OVER THE CALLS

same : (temp name : Name) (bytes : List ℕ) (d : Disk) → PublishesOrNot temp name bytes d d
same temp name bytes d = record { at = λ found may. inl may; others = λ o t n found may. may }

safe_of : (temp : Name) (bytes : List ℕ) (d : Disk) → IsSynced temp bytes d → Synced bytes (under d temp)
safe_of temp bytes d s = record { reads = s.reads; synced = s.synced }

pub not_renamed : (temp name : Name) (bytes : List ℕ) (old new : Option Past) → temp ≢ name
    → IfSome old (λ p. IsSynced temp bytes p.now)
    → AfterFault (Partly (after_rename temp name)) old new
    → Always old new (PublishesOrNot temp name bytes)
not_renamed temp name bytes old new apart safe fault =
    broke_first (IsSynced temp bytes) (PublishesOrNot temp name bytes) (Partly (after_rename temp name))
    old new safe fault (same temp name bytes)
    (λ d e s part. renamed_or_not temp name bytes d e apart (safe_of temp bytes d s) part)

moved : (temp name : Name) (bytes : List ℕ) (old new : Option Past) → temp ≢ name
    → IfSome old (λ p. IsSynced temp bytes p.now) → new ≡ after (after_rename temp name) old
    → Always old new (PublishesOrNot temp name bytes)
moved temp name bytes old new apart safe goes =
    went_first (IsSynced temp bytes) (PublishesOrNot temp name bytes) (after_rename temp name)
    old new safe goes (same temp name bytes)
    (λ d s. renamed temp name bytes d apart (safe_of temp bytes d s))

pub moved_and_synced : (temp name : Name) (bytes : List ℕ) (old mid new : Option Past) → temp ≢ name
    → IfSome old (λ p. IsSynced temp bytes p.now) → mid ≡ after (after_rename temp name) old
    → new ≡ after after_sync_dir mid → Always old new (PublishesOrNot temp name bytes)
moved_and_synced temp name bytes old mid new apart safe goes ok =
    went (PublishesOrNot temp name bytes) after_sync_dir old mid new
    (moved temp name bytes old mid apart safe goes) ok
    (λ start d so_far. less temp name bytes start d (after_sync_dir d) so_far (settles_at d))

pub moved_only : (temp name : Name) (bytes : List ℕ) (old mid new : Option Past) → temp ≢ name
    → IfSome old (λ p. IsSynced temp bytes p.now) → mid ≡ after (after_rename temp name) old
    → AfterFault (Partly after_sync_dir) mid new → Always old new (PublishesOrNot temp name bytes)
moved_only temp name bytes old mid new apart safe goes err =
    broke (PublishesOrNot temp name bytes) (Partly after_sync_dir) old mid new
    (moved temp name bytes old mid apart safe goes) err
    (λ start d e so_far part. less temp name bytes start d e so_far
    (λ n found may. settles_or_not d e n found part may))

pub stored : (temp name : Name) (bytes : List ℕ) (old mid new : Option Past) → temp ≢ name
    → IfSome old (λ p. IsSynced temp bytes p.now) → mid ≡ after (after_rename temp name) old
    → new ≡ after after_sync_dir mid → IfSome new (λ p. IsStored name bytes p.now)
stored temp name bytes None mid new apart safe goes ends =
    subst (λ o. IfSome o (λ p. IsStored name bytes p.now)) (sym (ends ∙ ap (after after_sync_dir) goes)) tt
stored temp name bytes (Some old) mid new apart safe goes ends =
    subst (λ o. IfSome o (λ p. IsStored name bytes p.now)) (sym (ends ∙ ap (after after_sync_dir) goes))
    (all_there temp name bytes old.now apart (safe_of temp bytes old.now safe))

-- the temporary name has no file any more
gone : (temp name : Name) (d : Disk) → IsFree temp (after_sync_dir (after_rename temp name d))
gone temp name d found may =
    elim (subst (λ entry. MayHave (settled entry) found) (under_same (with d name (target (under d temp) (under d name))) temp (left (under d temp)))
    (subst (λ entry. MayHave entry found) (under_each settled (after_rename temp name d) temp) may)) [
      | inl is ↦ is
      | inr none ↦ absurd none
    ]

pub freed : (temp name : Name) (old mid new : Option Past) → mid ≡ after (after_rename temp name) old
    → new ≡ after after_sync_dir mid → IfSome new (λ p. IsFree temp p.now)
freed temp name None mid new goes ends =
    subst (λ o. IfSome o (λ p. IsFree temp p.now)) (sym (ends ∙ ap (after after_sync_dir) goes)) tt
freed temp name (Some old) mid new goes ends =
    subst (λ o. IfSome o (λ p. IsFree temp p.now)) (sym (ends ∙ ap (after after_sync_dir) goes))
    (gone temp name old.now)

-- OVER A WHOLE SAVE

others_kept : (temp name : Name) (bytes : List ℕ) (start d : Disk) → temp ≢ name
    → KeepsOthers temp start d → PublishesOrNot temp name bytes start d
others_kept temp name bytes start d apart kept = record {
  at = λ found may. inl (subst (λ entry. MayHave entry found) (kept name (λ e. apart (sym e))) may);
  others = λ other t n found may. subst (λ entry. MayHave entry found) (kept other t) may;
}

-- the temporary file was not written
pub not_written : (temp name : Name) (bytes : List ℕ) (old new : Option Past) → temp ≢ name
    → Always old new (KeepsOthers temp) → Always old new (PublishesOrNot temp name bytes)
not_written temp name bytes old new apart always =
    joined (KeepsOthers temp) (KeepsOthers temp) (PublishesOrNot temp name bytes) old new new always
    (begun (KeepsOthers temp) new (λ d n a. refl))
    (λ start d kept. others_kept temp name bytes start d apart kept)
    (λ start d e kept same. others_kept temp name bytes start e apart (λ n a. same n a ∙ kept n a))

-- it was written, and then published or not
pub written_first : (temp name : Name) (bytes : List ℕ) (old mid new : Option Past) → temp ≢ name
    → Always old mid (KeepsOthers temp) → Always mid new (PublishesOrNot temp name bytes)
    → Always old new (PublishesOrNot temp name bytes)
written_first temp name bytes old mid new apart first second =
    joined (KeepsOthers temp) (PublishesOrNot temp name bytes) (PublishesOrNot temp name bytes)
    old mid new first second
    (λ start d kept. others_kept temp name bytes start d apart kept)
    (λ start d e kept p. record {
      at = λ found may. elim (p.at found may) [
        | inl was ↦ inl (subst (λ entry. MayHave entry found) (kept name (λ e. apart (sym e))) was)
        | inr is ↦ inr is
      ];
      others = λ other t n found may.
          subst (λ entry. MayHave entry found) (kept other t) (p.others other t n found may);
    })
