-- Worked examples, with the values that an independent program gives: files of each format, and
-- first faults.
use Rattle.std.specs.Prelude.{◌≡◌, ℕ, List, [], ◌∷◌, ◌++◌, replicate, Some, None, Result, Ok, Err, refl}
use Rattle.sha2.specs.Sha256.{sha256, digest_bytes, hash_after, compress, rounds, schedule, first_words}
use Rattle.std.specs.Prelude.ℤ.{pos, negsuc}
use Rattle.net_addr.specs.Address.{Address}
use Rattle.net_addr.specs.OldForm.{address}
use Rattle.net_addr.specs.declared.net.Net.TheVariants.{Ipv4, Ipv6, Internal}
use Rattle.wire_num.specs.CompactSize.{compact_size}
use Rattle.wire_num.specs.Readings.{all_of, compact_at, times_at}
use Rattle.addr_codecs.specs.Readings.{address_at, length_at}
use Rattle.addr_codecs.specs.Texts.{address_text}
use Rattle.placing.specs.Places.{double_sha256}
use Rattle.peer_rec.specs.declared.file_rec.FileRec.{FileRec}
use Rattle.peer_rec.specs.Snapshot.{Snapshot, snapshot}
use Rattle.peers_file.specs.Layout.{file_rec, whole_fault}
use Rattle.peers_file.specs.Readings.{body_at, head_at, all_buckets_at, count_at, buckets_at, bucket_at, record_at, old_record_at, layout_at, success_at, attempts_at}
use Rattle.peers_file.specs.Texts.{record_text, bucket_text, head_text, body_text, file_text}
use Rattle.peers_file.specs.declared.chain.Chain.TheVariants.{Main, Test}
use Rattle.peers_file.specs.declared.fault.Which.TheVariants as which
use Rattle.peers_file.specs.declared.fault.RecordCause.TheVariants as cause
use Rattle.peers_file.specs.declared.fault.FileFault.{FileFault}
use Rattle.peers_file.specs.declared.fault.FileFault.TheVariants.{Truncated, BadMagic, BadSum, Compat, Version, Count, Record, Buckets, Time, Attempts, Trailing}

-- 8.8.8.8:8333 from 1.2.3.4
abbrev the_record : FileRec
the_record = file_rec (address Ipv4 (8 ∷ 8 ∷ 8 ∷ 8 ∷ [])) 8333 (address Ipv4 (1 ∷ 2 ∷ 3 ∷ 4 ∷ [])) 1699992800 1 0 0

abbrev zero : Address
zero = address Ipv6 (replicate 16 0)

-- what the bytes between magic and sum give
abbrev read : List ℕ → Result Snapshot FileFault
read bytes = all_of body_at Trailing bytes

-- a record that a bucket lists, in format 4
stored : read ((4 ∷ 36 ∷ []) ++ (replicate 32 7 ++ ((1 ∷ []) ++ (replicate 7 0 ++ ((2 ∷ 0 ∷ 0 ∷ 64 ∷ 96 ∷ 91 ∷ 3 ∷ 32 ∷ 224 ∷ 212 ∷ 83 ∷ 101 ∷ 1 ∷ 1 ∷ 4 ∷ 8 ∷ 8 ∷ 8 ∷ 8 ∷ 32 ∷ 141 ∷ 1 ∷ 4 ∷ 1 ∷ 2 ∷ 3 ∷ 4 ∷ []) ++ (replicate 12 0 ++ ((1 ∷ []) ++ (replicate 11 0 ++ replicate 32 9)))))))) ≡ Ok (snapshot (replicate 32 7) (the_record ∷ []) [] 2 ((0, 0) ∷ []) (replicate 32 9))
unfolding body_at head_at all_buckets_at count_at buckets_at bucket_at record_at old_record_at layout_at success_at attempts_at address_at length_at compact_at times_at
stored = refl

-- records are counted through both tables; the last bucket lists the second new one
tried_after_new : read ((4 ∷ 36 ∷ []) ++ (replicate 32 7 ++ ((2 ∷ 0 ∷ 0 ∷ 0 ∷ 1 ∷ 0 ∷ 0 ∷ 0 ∷ 2 ∷ 0 ∷ 0 ∷ 64 ∷ 96 ∷ 91 ∷ 3 ∷ 32 ∷ 224 ∷ 212 ∷ 83 ∷ 101 ∷ 1 ∷ 1 ∷ 4 ∷ 8 ∷ 8 ∷ 8 ∷ 8 ∷ 32 ∷ 141 ∷ 1 ∷ 4 ∷ 1 ∷ 2 ∷ 3 ∷ 4 ∷ []) ++ (replicate 12 0 ++ ((96 ∷ 91 ∷ 3 ∷ 32 ∷ 224 ∷ 212 ∷ 83 ∷ 101 ∷ 1 ∷ 1 ∷ 4 ∷ 8 ∷ 8 ∷ 8 ∷ 8 ∷ 32 ∷ 141 ∷ 1 ∷ 4 ∷ 1 ∷ 2 ∷ 3 ∷ 4 ∷ []) ++ (replicate 12 0 ++ ((96 ∷ 91 ∷ 3 ∷ 32 ∷ 224 ∷ 212 ∷ 83 ∷ 101 ∷ 1 ∷ 1 ∷ 4 ∷ 8 ∷ 8 ∷ 8 ∷ 8 ∷ 32 ∷ 141 ∷ 1 ∷ 4 ∷ 1 ∷ 2 ∷ 3 ∷ 4 ∷ []) ++ (replicate 16 0 ++ ((1 ∷ 0 ∷ 0 ∷ 0 ∷ 1 ∷ 0 ∷ 0 ∷ 0 ∷ []) ++ replicate 32 9))))))))) ≡ Ok (snapshot (replicate 32 7) (the_record ∷ the_record ∷ []) (the_record ∷ []) 2 ((1, 1) ∷ []) (replicate 32 9))
unfolding body_at head_at all_buckets_at count_at buckets_at bucket_at record_at old_record_at layout_at success_at attempts_at address_at length_at compact_at times_at
tried_after_new = refl

format_3 : read ((3 ∷ 35 ∷ []) ++ (replicate 32 7 ++ ((1 ∷ []) ++ (replicate 7 0 ++ ((2 ∷ 0 ∷ 0 ∷ 64 ∷ 96 ∷ 91 ∷ 3 ∷ 32 ∷ 224 ∷ 212 ∷ 83 ∷ 101 ∷ 1 ∷ 1 ∷ 4 ∷ 8 ∷ 8 ∷ 8 ∷ 8 ∷ 32 ∷ 141 ∷ 1 ∷ 4 ∷ 1 ∷ 2 ∷ 3 ∷ 4 ∷ []) ++ (replicate 12 0 ++ ((1 ∷ []) ++ (replicate 11 0 ++ replicate 32 9)))))))) ≡ Ok (snapshot (replicate 32 7) (the_record ∷ []) [] 2 ((0, 0) ∷ []) (replicate 32 9))
unfolding body_at head_at all_buckets_at count_at buckets_at bucket_at record_at old_record_at layout_at success_at attempts_at address_at length_at compact_at times_at
format_3 = refl

-- the record of format 2, and indexes of no record, which are passed over
format_2 : read ((2 ∷ 32 ∷ []) ++ (replicate 32 7 ++ ((1 ∷ []) ++ (replicate 7 0 ++ ((2 ∷ 0 ∷ 0 ∷ 64 ∷ 64 ∷ 13 ∷ 3 ∷ 0 ∷ 224 ∷ 212 ∷ 83 ∷ 101 ∷ 1 ∷ []) ++ (replicate 17 0 ++ ((255 ∷ 255 ∷ 8 ∷ 8 ∷ 8 ∷ 8 ∷ 32 ∷ 141 ∷ []) ++ (replicate 10 0 ++ ((255 ∷ 255 ∷ 1 ∷ 2 ∷ 3 ∷ 4 ∷ []) ++ (replicate 12 0 ++ ((3 ∷ []) ++ (replicate 7 0 ++ ((5 ∷ 0 ∷ 0 ∷ 0 ∷ 255 ∷ 255 ∷ 255 ∷ 255 ∷ 1 ∷ []) ++ (replicate 7 0 ++ replicate 32 9)))))))))))))) ≡ Ok (snapshot (replicate 32 7) (the_record ∷ []) [] 2 ((0, 0) ∷ (1, 0) ∷ []) (replicate 32 9))
unfolding body_at head_at all_buckets_at count_at buckets_at bucket_at record_at old_record_at layout_at success_at attempts_at address_at length_at compact_at times_at
format_2 = refl

-- format 1 has no checksum
format_1 : read ((1 ∷ 32 ∷ []) ++ (replicate 32 7 ++ ((0 ∷ 0 ∷ 0 ∷ 0 ∷ 1 ∷ 0 ∷ 0 ∷ 0 ∷ 2 ∷ 0 ∷ 0 ∷ 64 ∷ 64 ∷ 13 ∷ 3 ∷ 0 ∷ 224 ∷ 212 ∷ 83 ∷ 101 ∷ 1 ∷ []) ++ (replicate 17 0 ++ ((255 ∷ 255 ∷ 8 ∷ 8 ∷ 8 ∷ 8 ∷ 32 ∷ 141 ∷ []) ++ (replicate 10 0 ++ ((255 ∷ 255 ∷ 1 ∷ 2 ∷ 3 ∷ 4 ∷ []) ++ replicate 20 0))))))) ≡ Ok (snapshot (replicate 32 7) [] (the_record ∷ []) 2 [] (replicate 32 0))
unfolding body_at head_at all_buckets_at count_at buckets_at bucket_at record_at old_record_at layout_at success_at attempts_at address_at length_at compact_at times_at
format_1 = refl

-- a negative number of entries is none
negative_entries : read ((4 ∷ 36 ∷ []) ++ (replicate 32 7 ++ ((1 ∷ []) ++ (replicate 7 0 ++ ((2 ∷ 0 ∷ 0 ∷ 64 ∷ 96 ∷ 91 ∷ 3 ∷ 32 ∷ 224 ∷ 212 ∷ 83 ∷ 101 ∷ 1 ∷ 1 ∷ 4 ∷ 8 ∷ 8 ∷ 8 ∷ 8 ∷ 32 ∷ 141 ∷ 1 ∷ 4 ∷ 1 ∷ 2 ∷ 3 ∷ 4 ∷ []) ++ (replicate 12 0 ++ ((255 ∷ 255 ∷ 255 ∷ 255 ∷ 0 ∷ 0 ∷ 0 ∷ 0 ∷ []) ++ replicate 32 9))))))) ≡ Ok (snapshot (replicate 32 7) (the_record ∷ []) [] 2 [] (replicate 32 9))
unfolding body_at head_at all_buckets_at count_at buckets_at bucket_at record_at old_record_at layout_at success_at attempts_at address_at length_at compact_at times_at
negative_entries = refl

no_buckets : read ((4 ∷ 36 ∷ []) ++ (replicate 32 7 ++ (replicate 11 0 ++ ((64 ∷ []) ++ replicate 32 9)))) ≡ Ok (snapshot (replicate 32 7) [] [] 0 [] (replicate 32 9))
unfolding body_at head_at all_buckets_at count_at buckets_at bucket_at record_at old_record_at layout_at success_at attempts_at address_at length_at compact_at times_at
no_buckets = refl

-- an internal name is written as IPv6 with its prefix
internal_source : read ((4 ∷ 36 ∷ []) ++ (replicate 32 7 ++ ((1 ∷ []) ++ (replicate 7 0 ++ ((2 ∷ 0 ∷ 0 ∷ 64 ∷ 96 ∷ 91 ∷ 3 ∷ 32 ∷ 224 ∷ 212 ∷ 83 ∷ 101 ∷ 1 ∷ 1 ∷ 4 ∷ 8 ∷ 8 ∷ 8 ∷ 8 ∷ 32 ∷ 141 ∷ 2 ∷ 16 ∷ 253 ∷ 107 ∷ 136 ∷ 192 ∷ 135 ∷ 36 ∷ 1 ∷ 2 ∷ 3 ∷ 4 ∷ 5 ∷ 6 ∷ 7 ∷ 8 ∷ 9 ∷ 10 ∷ []) ++ (replicate 20 0 ++ replicate 32 9)))))) ≡ Ok (snapshot (replicate 32 7) (record the_record { source = address Internal (1 ∷ 2 ∷ 3 ∷ 4 ∷ 5 ∷ 6 ∷ 7 ∷ 8 ∷ 9 ∷ 10 ∷ []) } ∷ []) [] 2 [] (replicate 32 9))
unfolding body_at head_at all_buckets_at count_at buckets_at bucket_at record_at old_record_at layout_at success_at attempts_at address_at length_at compact_at times_at
internal_source = refl

-- an unknown network, and an IPv4 address within IPv6, are read as zero
unknown_network : read ((4 ∷ 36 ∷ []) ++ (replicate 32 7 ++ ((1 ∷ []) ++ (replicate 7 0 ++ ((2 ∷ 0 ∷ 0 ∷ 64 ∷ 96 ∷ 91 ∷ 3 ∷ 32 ∷ 224 ∷ 212 ∷ 83 ∷ 101 ∷ 0 ∷ 9 ∷ 3 ∷ 1 ∷ 2 ∷ 3 ∷ 32 ∷ 141 ∷ 2 ∷ 16 ∷ []) ++ (replicate 10 0 ++ ((255 ∷ 255 ∷ 8 ∷ 8 ∷ 8 ∷ 8 ∷ []) ++ (replicate 20 0 ++ replicate 32 9)))))))) ≡ Ok (snapshot (replicate 32 7) (file_rec zero 8333 zero 1699992800 0 0 0 ∷ []) [] 2 [] (replicate 32 9))
unfolding body_at head_at all_buckets_at count_at buckets_at bucket_at record_at old_record_at layout_at success_at attempts_at address_at length_at compact_at times_at
unknown_network = refl

-- in format 1 a Tor v2 address is read as zero
old_tor : read ((1 ∷ 36 ∷ []) ++ (replicate 32 7 ++ ((1 ∷ []) ++ (replicate 7 0 ++ ((2 ∷ 0 ∷ 0 ∷ 64 ∷ 64 ∷ 13 ∷ 3 ∷ 0 ∷ 224 ∷ 212 ∷ 83 ∷ 101 ∷ 1 ∷ []) ++ (replicate 7 0 ++ ((253 ∷ 135 ∷ 216 ∷ 126 ∷ 235 ∷ 67 ∷ []) ++ (replicate 10 0 ++ ((32 ∷ 141 ∷ []) ++ (replicate 10 0 ++ ((255 ∷ 255 ∷ 1 ∷ 2 ∷ 3 ∷ 4 ∷ []) ++ replicate 20 0))))))))))) ≡ Ok (snapshot (replicate 32 7) (file_rec zero 8333 (address Ipv4 (1 ∷ 2 ∷ 3 ∷ 4 ∷ [])) 1699992800 1 0 0 ∷ []) [] 2 [] (replicate 32 0))
unfolding body_at head_at all_buckets_at count_at buckets_at bucket_at record_at old_record_at layout_at success_at attempts_at address_at length_at compact_at times_at
old_tor = refl

compat_31 : read ((4 ∷ 31 ∷ []) ++ (replicate 32 7 ++ (replicate 8 0 ++ ((2 ∷ 0 ∷ 0 ∷ 64 ∷ []) ++ (replicate 8 0 ++ replicate 32 9))))) ≡ Err (Compat 31)
unfolding body_at head_at all_buckets_at count_at buckets_at bucket_at record_at old_record_at layout_at success_at attempts_at address_at length_at compact_at times_at
compat_31 = refl

-- the compat byte is tested before the format
compat_before_version : read ((5 ∷ 37 ∷ []) ++ (replicate 32 7 ++ (replicate 8 0 ++ ((2 ∷ 0 ∷ 0 ∷ 64 ∷ []) ++ (replicate 8 0 ++ replicate 32 9))))) ≡ Err (Compat 37)
unfolding body_at head_at all_buckets_at count_at buckets_at bucket_at record_at old_record_at layout_at success_at attempts_at address_at length_at compact_at times_at
compat_before_version = refl

version_0 : read ((0 ∷ 36 ∷ []) ++ (replicate 32 7 ++ (replicate 8 0 ++ ((2 ∷ 0 ∷ 0 ∷ 64 ∷ []) ++ (replicate 8 0 ++ replicate 32 9))))) ≡ Err (Version 0)
unfolding body_at head_at all_buckets_at count_at buckets_at bucket_at record_at old_record_at layout_at success_at attempts_at address_at length_at compact_at times_at
version_0 = refl

version_5 : read ((5 ∷ 36 ∷ []) ++ (replicate 32 7 ++ (replicate 8 0 ++ ((2 ∷ 0 ∷ 0 ∷ 64 ∷ []) ++ (replicate 8 0 ++ replicate 32 9))))) ≡ Err (Version 5)
unfolding body_at head_at all_buckets_at count_at buckets_at bucket_at record_at old_record_at layout_at success_at attempts_at address_at length_at compact_at times_at
version_5 = refl

-- a version is refused without a key
version_before_the_key : read ((5 ∷ 36 ∷ [])) ≡ Err (Version 5)
unfolding body_at head_at all_buckets_at count_at buckets_at bucket_at record_at old_record_at layout_at success_at attempts_at address_at length_at compact_at times_at
version_before_the_key = refl

cut_key : read ((4 ∷ 36 ∷ []) ++ replicate 31 7) ≡ Err Truncated
unfolding body_at head_at all_buckets_at count_at buckets_at bucket_at record_at old_record_at layout_at success_at attempts_at address_at length_at compact_at times_at
cut_key = refl

-- a count is tested before the next one is read
new_count_65537 : read ((4 ∷ 36 ∷ []) ++ (replicate 32 7 ++ (1 ∷ 0 ∷ 1 ∷ 0 ∷ []))) ≡ Err (Count which.New (pos 65537))
unfolding body_at head_at all_buckets_at count_at buckets_at bucket_at record_at old_record_at layout_at success_at attempts_at address_at length_at compact_at times_at
new_count_65537 = refl

new_count_negative : read ((4 ∷ 36 ∷ []) ++ (replicate 32 7 ++ ((255 ∷ 255 ∷ 255 ∷ 255 ∷ 0 ∷ 0 ∷ 0 ∷ 0 ∷ 2 ∷ 0 ∷ 0 ∷ 64 ∷ []) ++ (replicate 8 0 ++ replicate 32 9)))) ≡ Err (Count which.New (negsuc 0))
unfolding body_at head_at all_buckets_at count_at buckets_at bucket_at record_at old_record_at layout_at success_at attempts_at address_at length_at compact_at times_at
new_count_negative = refl

tried_count_16385 : read ((4 ∷ 36 ∷ []) ++ (replicate 32 7 ++ ((0 ∷ 0 ∷ 0 ∷ 0 ∷ 1 ∷ 64 ∷ 0 ∷ 0 ∷ 2 ∷ 0 ∷ 0 ∷ 64 ∷ []) ++ (replicate 8 0 ++ replicate 32 9)))) ≡ Err (Count which.Tried (pos 16385))
unfolding body_at head_at all_buckets_at count_at buckets_at bucket_at record_at old_record_at layout_at success_at attempts_at address_at length_at compact_at times_at
tried_count_16385 = refl

buckets_65537 : read ((4 ∷ 36 ∷ []) ++ (replicate 32 7 ++ (replicate 8 0 ++ ((1 ∷ 0 ∷ 1 ∷ 64 ∷ []) ++ (replicate 8 0 ++ replicate 32 9))))) ≡ Err (Buckets (pos 65537))
unfolding body_at head_at all_buckets_at count_at buckets_at bucket_at record_at old_record_at layout_at success_at attempts_at address_at length_at compact_at times_at
buckets_65537 = refl

buckets_negative : read ((4 ∷ 36 ∷ []) ++ (replicate 32 7 ++ (replicate 8 0 ++ ((255 ∷ 255 ∷ 255 ∷ 191 ∷ []) ++ (replicate 8 0 ++ replicate 32 9))))) ≡ Err (Buckets (negsuc 0))
unfolding body_at head_at all_buckets_at count_at buckets_at bucket_at record_at old_record_at layout_at success_at attempts_at address_at length_at compact_at times_at
buckets_negative = refl

-- the second tried record has index 3
old_version_in_format_4 : read ((4 ∷ 36 ∷ []) ++ (replicate 32 7 ++ ((1 ∷ 0 ∷ 0 ∷ 0 ∷ 2 ∷ 0 ∷ 0 ∷ 0 ∷ 2 ∷ 0 ∷ 0 ∷ 64 ∷ 96 ∷ 91 ∷ 3 ∷ 32 ∷ 224 ∷ 212 ∷ 83 ∷ 101 ∷ 1 ∷ 1 ∷ 4 ∷ 8 ∷ 8 ∷ 8 ∷ 8 ∷ 32 ∷ 141 ∷ 1 ∷ 4 ∷ 1 ∷ 2 ∷ 3 ∷ 4 ∷ []) ++ (replicate 12 0 ++ ((96 ∷ 91 ∷ 3 ∷ 32 ∷ 224 ∷ 212 ∷ 83 ∷ 101 ∷ 1 ∷ 1 ∷ 4 ∷ 8 ∷ 8 ∷ 8 ∷ 8 ∷ 32 ∷ 141 ∷ 1 ∷ 4 ∷ 1 ∷ 2 ∷ 3 ∷ 4 ∷ []) ++ (replicate 12 0 ++ ((64 ∷ 13 ∷ 3 ∷ 0 ∷ 224 ∷ 212 ∷ 83 ∷ 101 ∷ 1 ∷ []) ++ (replicate 17 0 ++ ((255 ∷ 255 ∷ 8 ∷ 8 ∷ 8 ∷ 8 ∷ 32 ∷ 141 ∷ []) ++ (replicate 10 0 ++ ((255 ∷ 255 ∷ 1 ∷ 2 ∷ 3 ∷ 4 ∷ []) ++ (replicate 20 0 ++ replicate 32 9)))))))))))) ≡ Err (Record 2 cause.Version)
unfolding body_at head_at all_buckets_at count_at buckets_at bucket_at record_at old_record_at layout_at success_at attempts_at address_at length_at compact_at times_at
old_version_in_format_4 = refl

version_bits_all_zero : read ((3 ∷ 36 ∷ []) ++ (replicate 32 7 ++ ((1 ∷ []) ++ (replicate 7 0 ++ ((2 ∷ 0 ∷ 0 ∷ 64 ∷ 64 ∷ 13 ∷ 3 ∷ 0 ∷ 224 ∷ 212 ∷ 83 ∷ 101 ∷ 1 ∷ []) ++ (replicate 17 0 ++ ((255 ∷ 255 ∷ 8 ∷ 8 ∷ 8 ∷ 8 ∷ 32 ∷ 141 ∷ []) ++ (replicate 10 0 ++ ((255 ∷ 255 ∷ 1 ∷ 2 ∷ 3 ∷ 4 ∷ []) ++ (replicate 20 0 ++ replicate 32 9)))))))))) ≡ Err (Record 0 cause.Version)
unfolding body_at head_at all_buckets_at count_at buckets_at bucket_at record_at old_record_at layout_at success_at attempts_at address_at length_at compact_at times_at
version_bits_all_zero = refl

new_version_in_format_2 : read ((2 ∷ 36 ∷ []) ++ (replicate 32 7 ++ ((1 ∷ []) ++ (replicate 7 0 ++ ((2 ∷ 0 ∷ 0 ∷ 64 ∷ 96 ∷ 91 ∷ 3 ∷ 32 ∷ 224 ∷ 212 ∷ 83 ∷ 101 ∷ 1 ∷ 1 ∷ 4 ∷ 8 ∷ 8 ∷ 8 ∷ 8 ∷ 32 ∷ 141 ∷ 1 ∷ 4 ∷ 1 ∷ 2 ∷ 3 ∷ 4 ∷ []) ++ (replicate 20 0 ++ replicate 32 9)))))) ≡ Err (Record 0 cause.Version)
unfolding body_at head_at all_buckets_at count_at buckets_at bucket_at record_at old_record_at layout_at success_at attempts_at address_at length_at compact_at times_at
new_version_in_format_2 = refl

-- services in three bytes that fit one
long_services : read ((4 ∷ 36 ∷ []) ++ (replicate 32 7 ++ ((1 ∷ []) ++ (replicate 7 0 ++ ((2 ∷ 0 ∷ 0 ∷ 64 ∷ 96 ∷ 91 ∷ 3 ∷ 32 ∷ 224 ∷ 212 ∷ 83 ∷ 101 ∷ 253 ∷ 1 ∷ 0 ∷ 8 ∷ 8 ∷ 8 ∷ 8 ∷ 32 ∷ 141 ∷ 1 ∷ 4 ∷ 1 ∷ 2 ∷ 3 ∷ 4 ∷ []) ++ (replicate 20 0 ++ replicate 32 9)))))) ≡ Err (Record 0 cause.NonCanonical)
unfolding body_at head_at all_buckets_at count_at buckets_at bucket_at record_at old_record_at layout_at success_at attempts_at address_at length_at compact_at times_at
long_services = refl

address_of_513 : read ((4 ∷ 36 ∷ []) ++ (replicate 32 7 ++ ((1 ∷ []) ++ (replicate 7 0 ++ ((2 ∷ 0 ∷ 0 ∷ 64 ∷ 96 ∷ 91 ∷ 3 ∷ 32 ∷ 224 ∷ 212 ∷ 83 ∷ 101 ∷ 1 ∷ 1 ∷ 253 ∷ 1 ∷ 2 ∷ 8 ∷ 8 ∷ 32 ∷ 141 ∷ 1 ∷ 4 ∷ 1 ∷ 2 ∷ 3 ∷ 4 ∷ []) ++ (replicate 20 0 ++ replicate 32 9)))))) ≡ Err (Record 0 cause.TooLong)
unfolding body_at head_at all_buckets_at count_at buckets_at bucket_at record_at old_record_at layout_at success_at attempts_at address_at length_at compact_at times_at
address_of_513 = refl

ipv4_of_five : read ((4 ∷ 36 ∷ []) ++ (replicate 32 7 ++ ((2 ∷ []) ++ (replicate 7 0 ++ ((2 ∷ 0 ∷ 0 ∷ 64 ∷ 96 ∷ 91 ∷ 3 ∷ 32 ∷ 224 ∷ 212 ∷ 83 ∷ 101 ∷ 1 ∷ 1 ∷ 4 ∷ 8 ∷ 8 ∷ 8 ∷ 8 ∷ 32 ∷ 141 ∷ 1 ∷ 4 ∷ 1 ∷ 2 ∷ 3 ∷ 4 ∷ []) ++ (replicate 12 0 ++ ((96 ∷ 91 ∷ 3 ∷ 32 ∷ 224 ∷ 212 ∷ 83 ∷ 101 ∷ 1 ∷ 1 ∷ 5 ∷ 8 ∷ 8 ∷ 8 ∷ 8 ∷ 32 ∷ 141 ∷ 1 ∷ 4 ∷ 1 ∷ 2 ∷ 3 ∷ 4 ∷ []) ++ (replicate 20 0 ++ replicate 32 9)))))))) ≡ Err (Record 1 cause.BadLength)
unfolding body_at head_at all_buckets_at count_at buckets_at bucket_at record_at old_record_at layout_at success_at attempts_at address_at length_at compact_at times_at
ipv4_of_five = refl

source_of_onion_of_four : read ((4 ∷ 36 ∷ []) ++ (replicate 32 7 ++ ((1 ∷ []) ++ (replicate 7 0 ++ ((2 ∷ 0 ∷ 0 ∷ 64 ∷ 96 ∷ 91 ∷ 3 ∷ 32 ∷ 224 ∷ 212 ∷ 83 ∷ 101 ∷ 1 ∷ 1 ∷ 4 ∷ 8 ∷ 8 ∷ 8 ∷ 8 ∷ 32 ∷ 141 ∷ 4 ∷ 4 ∷ 1 ∷ 2 ∷ 3 ∷ 4 ∷ []) ++ (replicate 20 0 ++ replicate 32 9)))))) ≡ Err (Record 0 cause.BadLength)
unfolding body_at head_at all_buckets_at count_at buckets_at bucket_at record_at old_record_at layout_at success_at attempts_at address_at length_at compact_at times_at
source_of_onion_of_four = refl

-- the last success is tested before the attempts
success_of_2_to_the_32 : read ((4 ∷ 36 ∷ []) ++ (replicate 32 7 ++ ((1 ∷ []) ++ (replicate 7 0 ++ ((2 ∷ 0 ∷ 0 ∷ 64 ∷ 96 ∷ 91 ∷ 3 ∷ 32 ∷ 224 ∷ 212 ∷ 83 ∷ 101 ∷ 1 ∷ 1 ∷ 4 ∷ 8 ∷ 8 ∷ 8 ∷ 8 ∷ 32 ∷ 141 ∷ 1 ∷ 4 ∷ 1 ∷ 2 ∷ 3 ∷ 4 ∷ 0 ∷ 0 ∷ 0 ∷ 0 ∷ 1 ∷ 0 ∷ 0 ∷ 0 ∷ 255 ∷ 255 ∷ 255 ∷ 255 ∷ []) ++ (replicate 8 0 ++ replicate 32 9)))))) ≡ Err (Time 0)
unfolding body_at head_at all_buckets_at count_at buckets_at bucket_at record_at old_record_at layout_at success_at attempts_at address_at length_at compact_at times_at
success_of_2_to_the_32 = refl

success_negative : read ((4 ∷ 36 ∷ []) ++ (replicate 32 7 ++ ((1 ∷ []) ++ (replicate 7 0 ++ ((2 ∷ 0 ∷ 0 ∷ 64 ∷ 96 ∷ 91 ∷ 3 ∷ 32 ∷ 224 ∷ 212 ∷ 83 ∷ 101 ∷ 1 ∷ 1 ∷ 4 ∷ 8 ∷ 8 ∷ 8 ∷ 8 ∷ 32 ∷ 141 ∷ 1 ∷ 4 ∷ 1 ∷ 2 ∷ 3 ∷ 4 ∷ []) ++ (replicate 8 255 ++ (replicate 12 0 ++ replicate 32 9))))))) ≡ Err (Time 0)
unfolding body_at head_at all_buckets_at count_at buckets_at bucket_at record_at old_record_at layout_at success_at attempts_at address_at length_at compact_at times_at
success_negative = refl

attempts_negative : read ((2 ∷ 36 ∷ []) ++ (replicate 32 7 ++ ((1 ∷ []) ++ (replicate 7 0 ++ ((2 ∷ 0 ∷ 0 ∷ 64 ∷ 64 ∷ 13 ∷ 3 ∷ 0 ∷ 224 ∷ 212 ∷ 83 ∷ 101 ∷ 1 ∷ []) ++ (replicate 17 0 ++ ((255 ∷ 255 ∷ 8 ∷ 8 ∷ 8 ∷ 8 ∷ 32 ∷ 141 ∷ []) ++ (replicate 10 0 ++ ((255 ∷ 255 ∷ 1 ∷ 2 ∷ 3 ∷ 4 ∷ []) ++ (replicate 11 0 ++ ((128 ∷ []) ++ (replicate 8 0 ++ replicate 32 9)))))))))))) ≡ Err (Attempts 0)
unfolding body_at head_at all_buckets_at count_at buckets_at bucket_at record_at old_record_at layout_at success_at attempts_at address_at length_at compact_at times_at
attempts_negative = refl

cut_in_a_bucket : read ((4 ∷ 36 ∷ []) ++ (replicate 32 7 ++ (replicate 8 0 ++ (2 ∷ 0 ∷ 0 ∷ 64 ∷ 0 ∷ 0 ∷ 0 ∷ 0 ∷ 1 ∷ 0 ∷ 0 ∷ 0 ∷ [])))) ≡ Err Truncated
unfolding body_at head_at all_buckets_at count_at buckets_at bucket_at record_at old_record_at layout_at success_at attempts_at address_at length_at compact_at times_at
cut_in_a_bucket = refl

cut_sum : read ((4 ∷ 36 ∷ []) ++ (replicate 32 7 ++ (replicate 8 0 ++ ((2 ∷ 0 ∷ 0 ∷ 64 ∷ []) ++ (replicate 8 0 ++ replicate 31 9))))) ≡ Err Truncated
unfolding body_at head_at all_buckets_at count_at buckets_at bucket_at record_at old_record_at layout_at success_at attempts_at address_at length_at compact_at times_at
cut_sum = refl

byte_after_the_sum : read ((4 ∷ 36 ∷ []) ++ (replicate 32 7 ++ (replicate 8 0 ++ ((2 ∷ 0 ∷ 0 ∷ 64 ∷ []) ++ (replicate 8 0 ++ (replicate 32 9 ++ (0 ∷ []))))))) ≡ Err Trailing
unfolding body_at head_at all_buckets_at count_at buckets_at bucket_at record_at old_record_at layout_at success_at attempts_at address_at length_at compact_at times_at
byte_after_the_sum = refl

sum_in_format_1 : read ((1 ∷ 36 ∷ []) ++ (replicate 32 7 ++ (replicate 8 0 ++ ((2 ∷ 0 ∷ 0 ∷ 64 ∷ []) ++ (replicate 8 0 ++ replicate 32 9))))) ≡ Err Trailing
unfolding body_at head_at all_buckets_at count_at buckets_at bucket_at record_at old_record_at layout_at success_at attempts_at address_at length_at compact_at times_at
sum_in_format_1 = refl

-- ---- a file as a whole

abbrev the_snapshot : Snapshot
the_snapshot = snapshot (replicate 32 7) (the_record ∷ []) [] 2 ((0, 0) ∷ []) (replicate 32 9)

abbrev the_file : List ℕ
the_file = (249 ∷ 190 ∷ 180 ∷ 217 ∷ 4 ∷ 36 ∷ []) ++ (replicate 32 7 ++ ((1 ∷ []) ++ (replicate 7 0 ++ ((2 ∷ 0 ∷ 0 ∷ 64 ∷ 96 ∷ 91 ∷ 3 ∷ 32 ∷ 224 ∷ 212 ∷ 83 ∷ 101 ∷ 1 ∷ 1 ∷ 4 ∷ 8 ∷ 8 ∷ 8 ∷ 8 ∷ 32 ∷ 141 ∷ 1 ∷ 4 ∷ 1 ∷ 2 ∷ 3 ∷ 4 ∷ []) ++ (replicate 12 0 ++ ((1 ∷ []) ++ (replicate 11 0 ++ (replicate 32 9 ++ (170 ∷ 239 ∷ 14 ∷ 196 ∷ 142 ∷ 129 ∷ 76 ∷ 14 ∷ 100 ∷ 100 ∷ 149 ∷ 135 ∷ 217 ∷ 20 ∷ 237 ∷ 150 ∷ 243 ∷ 156 ∷ 234 ∷ 132 ∷ 0 ∷ 44 ∷ 48 ∷ 82 ∷ 13 ∷ 182 ∷ 209 ∷ 195 ∷ 192 ∷ 242 ∷ 32 ∷ 149 ∷ [])))))))))

written : file_text Main the_snapshot ≡ the_file
unfolding file_text head_text body_text bucket_text record_text address_text compact_size double_sha256 digest_bytes hash_after compress rounds schedule first_words sha256
written = refl

no_fault : whole_fault Main the_file ≡ None
unfolding whole_fault double_sha256 digest_bytes hash_after compress rounds schedule first_words sha256
no_fault = refl

-- the magic is tested before the sum
of_another_chain : whole_fault Test (0xf9 ∷ 0xbe ∷ 0xb4 ∷ 0xd9 ∷ replicate 32 0) ≡ Some BadMagic
unfolding whole_fault
of_another_chain = refl

no_body : whole_fault Test (0x0b ∷ 0x11 ∷ 0x09 ∷ 0x07 ∷ replicate 32 0) ≡ Some BadSum
unfolding whole_fault double_sha256 digest_bytes hash_after compress rounds schedule first_words sha256
no_body = refl

bytes_35 : whole_fault Main (replicate 35 0) ≡ Some Truncated
unfolding whole_fault
bytes_35 = refl
