use Rattle.std.proofs.Common.{subst}
use Rattle.placing.specs.Inside.{map_of}
use Rattle.addrman_run.specs.Inside.{IsLoaded, IsNoRaw}
use Rattle.addrman_run.specs.Opening.{HasMap}
use Rattle.addrman_run.specs.declared.input.Input.TheVariants as input
use Rattle.addrman_run.proofs.Listings.{not_listed}
use Rattle.addrman_run.proofs.listing.open_listing.Goals as goal

pub returns-clause-cause : goal.returns-clause-cause
returns-clause-cause g c =
    let past = g.F.Folder.past c.args.folder.now in
    let map : HasMap past = (map_of c.in-Ok.map, c.in-Ok.ensures.found) in
    not_listed past c.in-Ok-load_present.bytes c.in-Err-view_under.status map
    (subst (λ p. IsLoaded input.Listing p c.in-Ok-load_present.bytes) c.open_map.ensures.same c.in-Ok-load_present.ensures.found)
    (subst (λ b. IsNoRaw b c.in-Err-view_under.status) c.items.ensures c.in-Err-view_under.ensures.cause)
