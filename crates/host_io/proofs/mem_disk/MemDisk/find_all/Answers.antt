use Rattle.host_io.specs.MemFolder.{disk_of}
use Rattle.host_io.proofs.Fates.{image_of, reads_as}
use Rattle.host_io.proofs.mem_disk.MemDisk.find_all.Goals as goal

pub returns-clause-image : goal.returns-clause-image
returns-clause-image c =
    image_of (disk_of c.args.self.now) _
    c.in_ok-files.ensures.allowed c.in_ok-files-2.ensures.allowed c.in_ok-files-3.ensures.allowed
    c.in_ok-files-4.ensures.allowed c.in_ok-files-5.ensures.allowed c.in_ok-files-6.ensures.allowed
    c.in_ok-files-7.ensures.allowed c.in_ok-files-8.ensures.allowed

pub returns-clause-as_read : goal.returns-clause-as_read
returns-clause-as_read c zero =
    reads_as (disk_of c.args.self.now) _
    (c.in_ok-files.ensures.as_read zero) (c.in_ok-files-2.ensures.as_read zero)
    (c.in_ok-files-3.ensures.as_read zero) (c.in_ok-files-4.ensures.as_read zero)
    (c.in_ok-files-5.ensures.as_read zero) (c.in_ok-files-6.ensures.as_read zero)
    (c.in_ok-files-7.ensures.as_read zero) (c.in_ok-files-8.ensures.as_read zero)
