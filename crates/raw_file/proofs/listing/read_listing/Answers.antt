use Rattle.raw_file.proofs.Agains.{bucket_count_of, listing_fault, listing_of}
use Rattle.raw_file.proofs.listing.read_listing.Goals as goal

pub snapshot_of-requires : goal.snapshot_of-requires
snapshot_of-requires c = record {
  new = c.in-Ok.ensures.found.new;
  tried = c.in-Ok.ensures.found.tried;
  new_rows = c.in-Ok.ensures.found.new_rows;
  tried_rows = c.in-Ok.ensures.found.tried_rows;
}

pub returns-clause-found : goal.returns-clause-found
returns-clause-found c = listing_of c.args.bytes.now c.in-Ok.raw c.in-Ok.ensures.found c.args.key c.args.sum c.snapshot_of.result c.snapshot_of.ensures.none c.snapshot_of.ensures.snapshot

pub returns-clause-cause : goal.returns-clause-cause
returns-clause-cause c = listing_fault c.args.bytes.now c.in-Ok.raw c.in-Ok.ensures.found c.snapshot_of.result c.snapshot_of.ensures.cause

pub returns-clause-buckets : goal.returns-clause-buckets
returns-clause-buckets c = bucket_count_of c.args.bytes.now c.in-Ok.raw c.in-Ok.ensures.found c.args.key c.args.sum c.snapshot_of.result c.snapshot_of.ensures.snapshot
