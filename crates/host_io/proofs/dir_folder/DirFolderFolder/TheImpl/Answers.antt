use Rattle.std.proofs.Common.{arith}
use Rattle.host_io.proofs.dir_folder.DirFolderFolder.TheImpl.Goals as goal

pub size-tells : goal.size-tells
size-tells g c = grind arith

pub read-tells : goal.read-tells
read-tells g c = grind arith

pub create-tells : goal.create-tells
create-tells g c = grind arith

pub append-tells : goal.append-tells
append-tells g c = grind arith

pub sync-tells : goal.sync-tells
sync-tells g c = grind arith

pub rename-tells : goal.rename-tells
rename-tells g c = grind arith

pub sync_dir-tells : goal.sync_dir-tells
sync_dir-tells g c = grind arith
