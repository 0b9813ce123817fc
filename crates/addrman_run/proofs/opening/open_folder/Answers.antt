use Rattle.std.proofs.Common.{subst}
use Rattle.placing.specs.Inside.{map_of}
use Rattle.addrman_run.specs.Inside.{IsLoadFault}
use Rattle.addrman_run.specs.Opening.{HasMap}
use Rattle.addrman_run.specs.declared.input.Input.TheVariants as input
use Rattle.addrman_run.proofs.Openings.{err_so, found_before, no_peers, not_opened, ok_both, opens}
use Rattle.addrman_run.proofs.opening.open_folder.Goals as goal

pub returns-in-Err-load_input-clause-cause : goal.returns-in-Err-load_input-clause-cause
returns-in-Err-load_input-clause-cause g c =
    let past = g.F.Folder.past c.args.folder.now in
    let map : HasMap past = (map_of c.in-Ok.map, c.in-Ok.ensures.found) in
    no_peers c.args.key c.args.kind.chain past map c.in-Err-load_input.status
    (subst (λ p. IsLoadFault input.Peers p c.in-Err-load_input.status) c.open_map.ensures.same c.in-Err-load_input.ensures.cause)

pub returns-clause-found : goal.returns-clause-found
returns-clause-found g c =
    let past = g.F.Folder.past c.args.folder.now in
    let map = map_of c.in-Ok.map in
    ok_both _ _ _ c.open_tables.result
    (λ tables is sound. record {
      map = map;
      has_map = c.in-Ok.ensures.found;
      opens = opens c.args.key c.args.kind past c.in-Ok-load_input.file map tables
          (found_before _ past c.in-Ok-load_input.file c.open_map.ensures.same c.in-Ok-load_input.ensures.found) is;
      sound = sound;
    })
    c.open_tables.ensures.found c.open_tables.ensures.sound

pub returns-clause-cause : goal.returns-clause-cause
returns-clause-cause g c =
    let past = g.F.Folder.past c.args.folder.now in
    let map : HasMap past = (map_of c.in-Ok.map, c.in-Ok.ensures.found) in
    err_so _ _ c.open_tables.result
    (λ status is. not_opened c.args.key c.args.kind.chain past map c.in-Ok-load_input.file status
    (found_before _ past c.in-Ok-load_input.file c.open_map.ensures.same c.in-Ok-load_input.ensures.found) is)
    c.open_tables.ensures.cause
