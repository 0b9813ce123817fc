use Rattle.std.proofs.Common.{◌≡◌, ap, length, refl, subst}
use Rattle.std.specs.Prelude.{IfOk}
use Rattle.addrman_run.proofs.SavedListings.{peers_line}
use Rattle.addrman_run.proofs.from_raw.peers_line.Goals as goal

pub returns : goal.returns
returns c =
    subst (λ t. IfOk c.line_of.result (λ text. text.items ≡ t))
    (peers_line c.args.snap.now c.args.file.now _ _ _ (ap length c.new_recs.ensures.found) (ap length c.tried_recs.ensures.found) refl)
    c.line_of.ensures
