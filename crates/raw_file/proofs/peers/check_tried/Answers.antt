use Rattle.std.proofs.Common.{◌+◌, ◌∙◌, ap, drop, refl, rules, sym}
use Rattle.raw_read.specs.declared.raw.RawTable.TheVariants.{Tried}
use Rattle.raw_file.specs.Listing.{again_at, first_twice}
use Rattle.raw_file.proofs.Agains.{found_twice, none_twice, not_twice}
use Rattle.raw_file.proofs.peers.check_tried.Goals as goal

pub loop-row-init : goal.loop-row-init
loop-row-init c = refl

pub loop-row-preserved : goal.loop-row-preserved
loop-row-preserved c =
    let rows = c.args.rows.now in
    let i = c.loop-row.row-index in
    not_twice rows i c.row-item.result c.loop-row-test.true c.row-item.is c.args.peers.now.keys c.loop-row.peers.keys c.loop-row.invariant
    (sym c.in_ok-add_peer.ensures.there ∙ c.if-branch.false)
    ∙ ap (λ keys. first_twice keys (drop (i + 1) rows)) (sym (c.in_ok-add_peer.ensures.keys c.if-branch.false))

pub returns-then-branch-clause-cause : goal.returns-then-branch-clause-cause
returns-then-branch-clause-cause c = λ some.
    ap (again_at Tried) (found_twice c.args.rows.now c.loop-row.row-index c.row-item.result c.loop-row-test.true c.row-item.is c.args.peers.now.keys c.loop-row.peers.keys c.loop-row.invariant
    (sym c.in_ok-add_peer.ensures.there ∙ c.if-branch.true))

pub returns-clause-none : goal.returns-clause-none
returns-clause-none c = none_twice c.args.peers.now.keys c.loop-row.peers.keys c.args.rows.now c.loop-row.row-index (search rules) c.loop-row.invariant
