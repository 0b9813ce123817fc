-- Worked examples, computed over the definitions.
use Rattle.std.proofs.Common.{◌≡◌, ◌^◌, ◌-◌, [], ◌∷◌, Some, None, refl, inl, arith}
use Rattle.std.proofs.lemmas.Bool.{false≢true}
use Rattle.std.specs.Prelude.{codes}
use Rattle.host_io.specs.Faults.{Rose, raised}
use Rattle.host_io.specs.Files.{Files, known_bytes, IsThere}
use Rattle.host_io.specs.Lines.{lines_of}
use Rattle.host_io.specs.Reading.{MovesBytes, TakesAtMost}
use Rattle.host_io.specs.Writing.{Appended, AppendedPrefix, AppendedPart}
use Rattle.host_io.specs.declared.name.Name.TheVariants as name

one_more_fault : Rose 3 4
one_more_fault = inl (omega arith)

last_count : raised (2 ^ 64 - 1) ≡ 2 ^ 64 - 1
last_count = refl

-- A folder with one file, of two bytes.
abbrev one_file : Files
one_file = record {
  peers = None;
  peers_temp = None;
  asmap = Some (1 ∷ 2 ∷ []);
  asmap_temp = None;
  asmap_old = None;
  prefixes = None;
  bans = None;
  bans_temp = None;
}

bytes_of_the_file : known_bytes (Some one_file) name.Asmap ≡ Some (1 ∷ 2 ∷ [])
bytes_of_the_file = refl

no_file_of_another_name : IsThere (Some one_file) name.AsmapTemp → ⊥
no_file_of_another_name there = false≢true there

appended_at_the_end : Appended (Some (7 ∷ [])) (Some (7 ∷ 8 ∷ 9 ∷ [])) (8 ∷ 9 ∷ [])
appended_at_the_end = refl

-- a sink whose bytes are not known meets each claim on them
not_known : Appended None None (8 ∷ 9 ∷ [])
not_known = tt

-- all bytes are a prefix, and so are none
all_of_them : AppendedPrefix (Some (7 ∷ [])) (Some (7 ∷ 8 ∷ 9 ∷ [])) (8 ∷ 9 ∷ [])
all_of_them = (2, omega arith, refl)

none_of_them : AppendedPart (Some (7 ∷ [])) (Some (7 ∷ [])) (8 ∷ 9 ∷ [])
none_of_them = (0, omega arith, refl)

one_byte_moves : MovesBytes (Some (7 ∷ 8 ∷ [])) (Some (8 ∷ [])) (6 ∷ []) (6 ∷ 7 ∷ [])
one_byte_moves bytes is = (8 ∷ [], refl, cc)

two_bytes_taken : TakesAtMost (Some (7 ∷ 8 ∷ 9 ∷ [])) (Some (9 ∷ [])) 2
two_bytes_taken = (2, omega arith, refl)

the_last_line_may_lack_its_line_feed : lines_of (codes "a\n\nbc") ≡ codes "a" ∷ [] ∷ codes "bc" ∷ []
unfolding lines_of
the_last_line_may_lack_its_line_feed = refl

a_line_feed_at_the_end_adds_no_line : lines_of (codes "a\n") ≡ codes "a" ∷ []
unfolding lines_of
a_line_feed_at_the_end_adds_no_line = refl

no_bytes_no_lines : lines_of [] ≡ []
unfolding lines_of
no_bytes_no_lines = refl
