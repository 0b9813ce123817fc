use Rattle.addrman_run.proofs.Asmaps.{within}
use Rattle.addrman_run.proofs.opening.open_map.Goals as goal

pub check_map-requires : goal.check_map-requires
check_map-requires g c = within (g.F.Folder.past c.args.folder.now) c.in-Ok.bytes c.in-Ok.ensures.found
