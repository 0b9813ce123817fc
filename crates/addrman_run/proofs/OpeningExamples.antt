-- Worked examples of how a replay opens the folder.
use Rattle.std.specs.Prelude.{◌≡◌, ℕ, List, [], ◌∷◌, ◌++◌, replicate, Option, Some, None, refl}
use Rattle.std.proofs.Common.{inl}
use Rattle.host_io.specs.Disk.{safe}
use Rattle.host_io.specs.Past.{Past}
use Rattle.table_machine.specs.State.{empty_state}
use Rattle.table_machine.specs.Restoring.{duplicate}
use Rattle.peer_rec.specs.Snapshot.{Snapshot}
use Rattle.peers_file.specs.Layout.{IsFile, whole_fault}
use Rattle.peers_file.specs.declared.chain.Chain.TheVariants.{Main, Test}
use Rattle.peers_file.specs.declared.fault.FileFault.TheVariants.{Truncated, BadMagic, Memory}
use Rattle.placing.specs.declared.sum.SumRule.{SumRule}
use Rattle.arguments.specs.declared.file_kind.FileKind.{FileKind}
use Rattle.addrman_run.specs.Opening.{Opens, RefusesTables, LacksKey, places_of, tables_of}
use Rattle.addrman_run.specs.Opening.Opens.{from_file, from_key}
use Rattle.addrman_run.specs.declared.peers_fault.PeersFault.TheVariants.{File, Duplicate}

abbrev key : List ℕ
key = replicate 31 0 ++ 255 ∷ []

-- a file of main, by a rule
abbrev of_main : SumRule → FileKind
of_main rule = record { chain = Main; rule = rule }

-- a folder with these bytes in peers.dat, or without the file, and no other file
abbrev pub folder : Option (List ℕ) → Option Past
folder bytes = Some (record {
  now = record {
    peers = safe bytes;
    peers_temp = safe None;
    asmap = safe None;
    asmap_temp = safe None;
    asmap_old = safe None;
    prefixes = safe None;
    bans = safe None;
    bans_temp = safe None;
  };
  before = [];
})

no_file_but_a_key : (rule : SumRule) → Opens (Some key) (of_main rule) (folder None) None (empty_state (places_of rule key None))
no_file_but_a_key rule = from_key key refl refl refl

neither_file_nor_key : LacksKey None (folder None)
neither_file_nor_key = (refl, refl)

-- the key of the arguments does not count beside a file
file_and_key : (rule : SumRule) (bytes : List ℕ) (snap : Snapshot) → IsFile Main bytes snap → duplicate snap ≡ None
    → Opens (Some key) (of_main rule) (folder (Some bytes)) None (tables_of rule snap None)
file_and_key rule bytes snap is none = from_file snap (bytes, refl, is) none refl

-- a fault of bytes is not a lack of memory
truncated_is_not_memory : Truncated ≡ Memory → ⊥
truncated_is_not_memory is = cc

other_is_no_want : BadMagic ≡ Memory → ⊥
other_is_no_want is = cc

file_of_35_bytes : RefusesTables Main (folder (Some (replicate 35 0))) (File Truncated)
unfolding whole_fault
file_of_35_bytes = (truncated_is_not_memory, (replicate 35 0, refl, inl refl))

file_of_another_chain : RefusesTables Test (folder (Some (0xf9 ∷ 0xbe ∷ 0xb4 ∷ 0xd9 ∷ replicate 32 0))) (File BadMagic)
unfolding whole_fault
file_of_another_chain = (other_is_no_want, (0xf9 ∷ 0xbe ∷ 0xb4 ∷ 0xd9 ∷ replicate 32 0, refl, inl refl))

two_records_of_a_peer : (bytes : List ℕ) (snap : Snapshot) → IsFile Main bytes snap → duplicate snap ≡ Some 3 → RefusesTables Main (folder (Some bytes)) (Duplicate 3)
two_records_of_a_peer bytes snap is repeated = (snap, (bytes, refl, is), repeated)
