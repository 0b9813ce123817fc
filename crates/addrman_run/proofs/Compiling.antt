-- The line about a compiled table, and what a compile leaves.
use Rattle.std.proofs.Common.{◌≡◌, ℕ, List, ◌++◌, length, codes, decimal, refl, sym, ap, ◌∙◌, subst, inl, inr}
use Rattle.std.specs.Prelude.{Option, Some, None, IfSome}
use Rattle.host_io.specs.Disk.{DiskEntry, Allows, MayHave, exactly}
use Rattle.host_io.specs.Past.{Past, Always}
use Rattle.host_io.specs.PerName.{under}
use Rattle.host_io.specs.Writing.{Appended, AppendedPart}
use Rattle.host_io.specs.declared.name.Name.{Name}
use Rattle.host_io.specs.declared.name.Name.TheVariants as name
use Rattle.host_io.proofs.Moments.{begun, joined}
use Rattle.prefix_table.specs.declared.rows.Row.{Row}
use Rattle.asmap_vm.specs.Code.{code}
use Rattle.asmap_compile.specs.Compiled.{compiled}
use Rattle.save_store.specs.Saves.{IsStored, PublishesOrNot}
use Rattle.addrman_run.specs.Compile.{CompileText, IsInPlace, IsOldOrNew, compile_text}
use Rattle.addrman_run.specs.Inside.{IsLoaded, IsNewAsmap, IsNotCompiled, IsNotLoaded, SaveEnds}
use Rattle.addrman_run.specs.declared.input.Input.TheVariants as input
use Rattle.addrman_run.specs.declared.status.Status.{Status}
use Rattle.addrman_run.proofs.Inputs.{not_loaded}

-- the line with these numbers is that of the table and the file
pub compile_line : (rows : List Row) (file : List ℕ) (count bits bytes : ℕ) →
    count ≡ length rows → bits ≡ length (code (compiled rows)) → bytes ≡ length file →
    codes "compiled " ++ decimal count ++ codes " rows " ++ decimal bits ++ codes " bits " ++ decimal bytes ++ codes " bytes\n" ≡ compile_text rows file
unfolding compile_text
compile_line rows file count bits bytes c b n =
    λ i. codes "compiled " ++ decimal (c i) ++ codes " rows " ++ decimal (b i) ++ codes " bits " ++ decimal (n i) ++ codes " bytes\n"

-- THE FILE

as_read : (file : Option (List ℕ)) → Allows (exactly file) file
as_read None = refl
as_read (Some bytes) = refl

-- a file that every crash leaves reads as that
reads : (e : DiskEntry) (bytes : List ℕ) → ((found : Option (List ℕ)) → MayHave e found → found ≡ Some bytes) → e.file ≡ Some bytes
reads e bytes all = all e.file (inl (as_read e.file))

pub in_place : (at : Name) (file : List ℕ) (past : Option Past) → IfSome past (λ p. IsStored at file p.now) → IsInPlace at file past
in_place at file None stored = tt
in_place at file (Some p) stored = (reads (under p.now at) file stored, stored)

-- EVERY MOMENT

unchanged : (past : Option Past) → Always past past (IsOldOrNew past)
unchanged past = begun (IsOldOrNew past) past (λ d. record { asmap = λ found may. inl may; others = λ other t n found may. may })

pub kept : (old new : Option Past) → new ≡ old → Always old new (IsOldOrNew old)
kept old new same = subst (λ past. Always old past (IsOldOrNew old)) (sym same) (unchanged old)

-- after the loading, which changes nothing, these bytes were saved
pub old_or_new : (old mid new : Option Past) (bytes file line : List ℕ) → mid ≡ old → bytes ≡ file → IsNewAsmap old file line →
    Always mid new (PublishesOrNot name.AsmapTemp name.Asmap bytes) → Always old new (IsOldOrNew old)
old_or_new old mid new bytes file line same code is always =
    joined (IsOldOrNew old) (PublishesOrNot name.AsmapTemp name.Asmap bytes) (IsOldOrNew old) old old new (unchanged old)
    (subst (λ past. Always past new (PublishesOrNot name.AsmapTemp name.Asmap bytes)) same always)
    (λ start d p. p)
    (λ start d e first p. record {
      asmap = λ found may. elim (p.at found may) [
        | inl was ↦ first.asmap found was
        | inr now ↦ inr (is.0, file, is.1, now ∙ ap Some code)
      ];
      others = λ other t n found may. first.others other t n found (p.others other t n found may);
    })

-- EACH STATUS

-- prefixes.txt was not loaded
pub none_loaded : (old new : Option Past) (written : Option (List ℕ)) (status : Status) → new ≡ old →
    IsNotLoaded input.Prefixes old status → CompileText old new written written status
none_loaded old new written status same why =
    not_loaded (CompileText old new written written) input.Prefixes old status why
    (λ absent. (refl, absent, same, refl)) (inl same, refl) (same, refl) (λ size is. (is, same, refl))

-- its table was not compiled
pub none_compiled : (old new : Option Past) (text : List ℕ) (written : Option (List ℕ)) (status : Status) → new ≡ old →
    IsLoaded input.Prefixes old text → IsNotCompiled text status → CompileText old new written written status
none_compiled old new text written status same loaded why = elim why [
  | inl memory ↦ subst (CompileText old new written written) (sym memory) (same, refl)
  | inr refused ↦ subst (CompileText old new written written) (sym refused.1) (refused.2 old loaded, same, refl)
]

-- it was compiled
pub saved : (old new : Option Past) (file line : List ℕ) (before after : Option (List ℕ)) (status : Status) → IsNewAsmap old file line →
    SaveEnds name.Asmap file line new before after status → CompileText old new before after status
saved old new file line before after status is ends = elim ends [
  | inl failed ↦ subst (CompileText old new before after) (sym failed.0) (inr (is.0, file, is.1), failed.1)
  | inr done ↦ elim done.1 [
    | inl whole ↦ subst (CompileText old new before after) (sym whole.0) (is.0, file, is.1, done.0, subst (Appended before after) is.2 whole.1)
    | inr part ↦ subst (CompileText old new before after) (sym part.0) (is.0, file, is.1, done.0, subst (AppendedPart before after) is.2 part.1)
  ]
]
