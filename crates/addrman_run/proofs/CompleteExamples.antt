-- Worked examples of what nothing is wrong with: a log and a folder without files.
use Rattle.std.proofs.Common.{◌≡◌, ◌≤◌, ℕ, List, [], ◌∷◌, length, refl, sym, inl, inr, arith}
use Rattle.std.specs.Prelude.{All, Option, Some, None, codes}
use Rattle.std.proofs.lemmas.List.Elements.{All-from_recursion}
use Rattle.host_io.specs.Lines.{lines_of}
use Rattle.log_lines.specs.declared.command.Command.TheVariants.{Size}
use Rattle.log_run.specs.declared.sizes.TheConstants.{MAX_LINE}
use Rattle.peers_file.specs.declared.chain.Chain.TheVariants.{Main}
use Rattle.addrman_run.specs.Complete.{IsGoodLog, IsReplayLine, NoRefusal}
use Rattle.addrman_run.specs.Opening.{ReportsOpening}
use Rattle.addrman_run.proofs.OpeningExamples.{folder}
use Rattle.addrman_run.specs.declared.peers_fault.PeersFault.TheVariants.{File, Duplicate}
use Rattle.asmap_vm.specs.declared.fault.CodeFault.TheVariants.{TooLarge, Insane}
use Rattle.addrman_run.specs.declared.status.Status.TheVariants.{AsmapRefused, NoKey, PeersRefused}

none_some : {T : Type 0} (x : T) → ◌≡◌ {A = Option T} None (Some x) → ⊥
none_some x is = cc

-- a comment, a line that spells a command, and an empty line
abbrev lines : List (List ℕ)
lines = codes "# a log" ∷ codes "size" ∷ [] ∷ []

three_lines : lines_of (codes "# a log\nsize\n\n") ≡ lines
unfolding lines_of
three_lines = refl

good_lines : All IsReplayLine lines
good_lines = All-from_recursion IsReplayLine lines (inl refl, (inr (Size, (codes "size", [], refl, (refl, tt))), (inl tt, tt)))

abbrev IsShort : List ℕ → Type 0
IsShort line = length line ≤ MAX_LINE

short_lines : All IsShort lines
short_lines = All-from_recursion IsShort lines (omega arith, (omega arith, (omega arith, tt)))

good_log : IsGoodLog IsReplayLine (Some (codes "# a log\nsize\n\n"))
good_log = record {
  log = codes "# a log\nsize\n\n";
  known = refl;
  within = omega arith;
  short = rw three_lines short_lines;
  right = rw three_lines good_lines;
}

-- a folder without files, and a key
nothing_refused : (key : List ℕ) → NoRefusal (ReportsOpening (Some key) Main (folder None))
nothing_refused key (AsmapRefused (TooLarge size)) why = none_some size why.1
nothing_refused key (AsmapRefused Insane) why = none_some why.0 why.1.1
nothing_refused key (PeersRefused (File fault)) why = none_some why.1.1.0 why.1.1.1
nothing_refused key (PeersRefused (Duplicate index)) why = none_some why.1.1.0 why.1.1.1
nothing_refused key NoKey why = none_some key (sym why.1.0)
nothing_refused key other why = why
