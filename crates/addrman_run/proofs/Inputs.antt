-- How a command ends that needs a file and writes one line.
use Rattle.std.proofs.Common.{◌≡◌, ◌≤◌, ℕ, List, length, refl, sym, subst, inl, inr}
use Rattle.std.specs.Prelude.{Option, Some, None, IfSome, MatchOption}
use Rattle.host_io.specs.Past.{Past, files_of}
use Rattle.host_io.specs.PerName.{under}
use Rattle.addrman_run.specs.FileLine.{FileLineText}
use Rattle.addrman_run.specs.InFolder.{IsAbsent}
use Rattle.addrman_run.specs.Inside.{name_of, max_of, too_large_of, IsLoaded, IsLarge, IsNotLoaded, LineEnds}
use Rattle.addrman_run.specs.declared.input.Input.{Input}
use Rattle.addrman_run.specs.declared.input.Input.TheVariants as input
use Rattle.addrman_run.specs.declared.status.Status.{Status}
use Rattle.addrman_run.specs.declared.status.Status.TheVariants.{DiskFault, Memory, NoFile}

-- what holds of each status that a file is not loaded for
pub not_loaded : (P : Status → Type 0) (file : Input) (past : Option Past) (status : Status) → IsNotLoaded file past status →
    (IsAbsent (name_of file) past → P (NoFile (name_of file))) → P DiskFault → P Memory →
    ((size : ℕ) → IsLarge file past size → P (too_large_of file size)) → P status
not_loaded P file past status why absent disk memory large = elim why [
  | inl none ↦ subst P (sym none.0) (absent none.1)
  | inr fault ↦ elim fault [
    | inl failed ↦ subst P (sym failed) disk
    | inr more ↦ elim more [
      | inl is ↦ subst P (sym is) memory
      | inr size ↦ subst P (sym size.1) (large size.0 size.2)
    ]
  ]
]

-- a refusal for the size, of any of the files
too_large : (IsLine : Option Past → List ℕ → Type 0) (Refuses : Option Past → Status → Type 0) (file : Input) (past : Option Past) (written : Option (List ℕ)) (size : ℕ) →
    Refuses past (too_large_of file size) → FileLineText (name_of file) IsLine Refuses past written written (too_large_of file size)
too_large IsLine Refuses input.Asmap past written size refused = (refused, refl)
too_large IsLine Refuses input.AsmapOld past written size refused = (refused, refl)
too_large IsLine Refuses input.Prefixes past written size refused = (refused, refl)
too_large IsLine Refuses input.Peers past written size refused = (refused, refl)
too_large IsLine Refuses input.Bans past written size refused = (refused, refl)
too_large IsLine Refuses input.Anchors past written size refused = (refused, refl)
too_large IsLine Refuses input.Listing past written size refused = (refused, refl)

-- the file was not loaded
pub no_file : (IsLine : Option Past → List ℕ → Type 0) (Refuses : Option Past → Status → Type 0) (file : Input) (past : Option Past) (written : Option (List ℕ)) (status : Status) →
    ((size : ℕ) → IsLarge file past size → Refuses past (too_large_of file size)) → IsNotLoaded file past status →
    FileLineText (name_of file) IsLine Refuses past written written status
no_file IsLine Refuses file past written status large why =
    not_loaded (FileLineText (name_of file) IsLine Refuses past written written) file past status why
    (λ absent. (refl, absent, refl)) refl refl (λ size is. too_large IsLine Refuses file past written size (large size is))

-- the line was written, or a part of it
pub file_line : (IsLine : Option Past → List ℕ → Type 0) (Refuses : Option Past → Status → Type 0) (file : Input) (past : Option Past) (line : List ℕ) (old new : Option (List ℕ)) (status : Status) →
    IsLine past line → LineEnds line old new status → FileLineText (name_of file) IsLine Refuses past old new status
file_line IsLine Refuses file past line old new status is ends = elim ends [
  | inl whole ↦ subst (FileLineText (name_of file) IsLine Refuses past old new) (sym whole.0) (line, is, whole.1)
  | inr part ↦ subst (FileLineText (name_of file) IsLine Refuses past old new) (sym part.0) (line, is, part.1)
]

-- what was loaded is the folder's file
pub loaded_in : (input : Input) (past : Option Past) (loaded : Option (List ℕ)) →
    IfSome (files_of past) (λ files. loaded ≡ under files (name_of input)) → IfSome loaded (λ bytes. length bytes ≤ max_of input) →
    MatchOption loaded (IsAbsent (name_of input) past) (IsLoaded input past)
loaded_in input None None found small = tt
loaded_in input None (Some bytes) found small = (small, tt)
loaded_in input (Some past) None found small = sym found
loaded_in input (Some past) (Some bytes) found small = (small, sym found)
