use Rattle.std.proofs.Common.{subst, ap, take}
use Rattle.std.proofs.lemmas.List.{take_rest}
use Rattle.log_run.specs.Log.{HasNoFeed}
use Rattle.log_run.proofs.Readers.{no_feed_all, no_feed_on}
use Rattle.log_run.proofs.log_reader.find_feed.Goals as goal

pub returns-in-Some-clause-first : goal.returns-in-Some-clause-first
returns-in-Some-clause-first c =
    no_feed_on c.args.bytes.now c.args.searched c.in-Some.at c.requires.searched
    (subst HasNoFeed (ap (take c.in-Some.at) (take_rest c.args.bytes.now c.args.searched)) c.in-Some.ensures.first)

pub returns-in-None-clause-none : goal.returns-in-None-clause-none
returns-in-None-clause-none c =
    no_feed_all c.args.bytes.now c.args.searched c.requires.searched
    (subst HasNoFeed (take_rest c.args.bytes.now c.args.searched) c.in-None.ensures.none)
