use Rattle.std.proofs.Common.{rules}
use Rattle.host_io.specs.MemFolder.{past_of}
use Rattle.host_io.proofs.mem_disk.MemDisk.make.Goals as goal

pub invariant_of-result : goal.invariant_of-result
unfolding past_of
invariant_of-result c = search rules
