-- Worked examples of the list, computed over the definitions, with the texts that an independent program
-- prints.
use Rattle.std.proofs.Common.{◌≡◌, [], ◌∷◌, ◌++◌, refl}
use Rattle.std.specs.Prelude.{codes, false, replicate, true}
use Rattle.std.specs.Fmt.{digits}
use Rattle.std.specs.Net.Text.{hex, hex_groups_text}
use Rattle.hex.proofs.OnLiterals.{hex_on_literals}
use Rattle.net_addr.specs.OldForm.{address}
use Rattle.net_addr.specs.declared.net.Net.TheVariants.{Ipv4, Ipv6}
use Rattle.peer_rec.specs.declared.file_rec.FileRec.{FileRec}
use Rattle.peer_rec.specs.Snapshot.{snapshot}
use Rattle.peers_file.specs.Listing.{snapshot_text}

-- 8.8.8.8:8333 from 1.2.3.4
abbrev first : FileRec
first = record {
  peer = record { addr = address Ipv4 (8 ∷ 8 ∷ 8 ∷ 8 ∷ []); port = 8333 };
  source = address Ipv4 (1 ∷ 2 ∷ 3 ∷ 4 ∷ []);
  time = 1699992800;
  services = 1;
  last_success = 0;
  attempts = 0;
}

-- [2a01:4f8::1]:0 from ::, with the largest numbers
abbrev last : FileRec
last = record {
  peer = record { addr = address Ipv6 (42 ∷ 1 ∷ 4 ∷ 248 ∷ replicate 11 0 ++ 1 ∷ []); port = 0 };
  source = address Ipv6 (replicate 16 0);
  time = 4294967295;
  services = 18446744073709551615;
  last_success = 4294967295;
  attempts = 2147483647;
}

no_records : snapshot_text true (snapshot (replicate 32 171) [] [] 0 [] (replicate 32 9))
    ≡ codes "file new 0 tried 0 buckets 0 key abababababababababababababababababababababababababababababababab sum 0909090909090909090909090909090909090909090909090909090909090909\n"
unfolding snapshot_text digits hex_on_literals
no_records = refl

-- without its key
unkeyed : snapshot_text false (snapshot (replicate 32 171) [] [] 0 [] (replicate 32 9))
    ≡ codes "file new 0 tried 0 buckets 0 sum 0909090909090909090909090909090909090909090909090909090909090909\n"
unfolding snapshot_text digits hex_on_literals
unkeyed = refl

-- the first byte of a key comes first
bytes_in_order : snapshot_text true (snapshot (1 ∷ replicate 31 0) [] [] 1024 [] (replicate 31 0 ++ 2 ∷ []))
    ≡ codes "file new 0 tried 0 buckets 1024 key 0100000000000000000000000000000000000000000000000000000000000000 sum 0000000000000000000000000000000000000000000000000000000000000002\n"
unfolding snapshot_text digits hex_on_literals
bytes_in_order = refl

-- each table is counted from 0
two_tables : snapshot_text true (snapshot (replicate 32 0) (first ∷ last ∷ []) (first ∷ []) 1024 [] (replicate 32 0))
    ≡ codes "file new 2 tried 1 buckets 1024 key 0000000000000000000000000000000000000000000000000000000000000000 sum 0000000000000000000000000000000000000000000000000000000000000000\n" ++
    codes "new 0 8.8.8.8:8333 source 1.2.3.4 time 1699992800 services 1 success 0 attempts 0\n" ++
    codes "new 1 [2a01:4f8::1]:0 source [::] time 4294967295 services 18446744073709551615 success 4294967295 attempts 2147483647\n" ++
    codes "tried 0 8.8.8.8:8333 source 1.2.3.4 time 1699992800 services 1 success 0 attempts 0\n"
unfolding snapshot_text digits hex_on_literals hex_groups_text hex
two_tables = refl
