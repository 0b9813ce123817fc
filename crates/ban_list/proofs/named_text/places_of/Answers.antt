use Rattle.ban_list.proofs.NamedLaws.{places_more, places_none}
use Rattle.ban_list.proofs.named_text.places_of.Goals as goal

pub loop-i-init : goal.loop-i-init
loop-i-init c = places_none _ c.new-places.ensures.empty

pub loop-i-preserved : goal.loop-i-preserved
loop-i-preserved c =
    places_more c.args.subnets.now c.loop-i.i c.index-subnets-i.result c.loop-i.places.entries c.store.new.places.entries c.loop-i-test.true c.index-subnets-i.is c.loop-i.invariant c.in_ok-store.ensures
