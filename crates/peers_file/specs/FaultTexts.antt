-- The word for each fault of a peers.dat. What a fault carries is no part of its word.
use Rattle.std.specs.Prelude.{ℕ, List, codes}
use Rattle.peers_file.specs.declared.fault.FileFault.{FileFault}
use Rattle.peers_file.specs.declared.fault.FileFault.TheVariants.{Truncated, BadMagic, BadSum, Compat, Version, Count, Record}
use Rattle.peers_file.specs.declared.fault.FileFault.TheVariants.{Buckets, Time, Attempts, Trailing, TooLarge, Memory}

-- The word of a fault.
abbrev pub file_fault_text : FileFault → List ℕ
file_fault_text Truncated = codes "truncated"
file_fault_text BadMagic = codes "bad-magic"
file_fault_text BadSum = codes "bad-sum"
file_fault_text (Compat byte) = codes "compat"
file_fault_text (Version byte) = codes "version"
file_fault_text (Count which value) = codes "count"
file_fault_text (Record index cause) = codes "record"
file_fault_text (Buckets value) = codes "buckets"
file_fault_text (Time index) = codes "time"
file_fault_text (Attempts index) = codes "attempts"
file_fault_text Trailing = codes "trailing"
file_fault_text (TooLarge size) = codes "too-large"
file_fault_text Memory = codes "out of memory"
