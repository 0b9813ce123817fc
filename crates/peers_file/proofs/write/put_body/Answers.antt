use Rattle.std.proofs.Common.{◌++◌, ap, ◌∙◌}
use Rattle.std.specs.List.{flat_map, range_with_len}
use Rattle.peers_file.specs.Texts.{record_text, bucket_text, head_text, body_text}
use Rattle.peers_file.proofs.WriteLaws.{five_parts}
use Rattle.peers_file.proofs.write.put_body.Goals as goal

pub returns-clause-found : goal.returns-clause-found
unfolding body_text
returns-clause-found c =
    let snap = c.args.snap.now in
    five_parts c.args.out.now.items (head_text snap) (flat_map record_text snap.new_recs) (flat_map record_text snap.tried_recs) (flat_map (bucket_text snap.listed) (range_with_len 0 snap.bucket_count)) snap.sum
    c.put_head.new.out.items c.put_records.new.out.items c.put_records-2.new.out.items c.put_buckets.new.out.items c.extend_from_slice.new.self.items
    c.in_ok-put_head.ensures.found
    (c.in_ok-put_records.ensures.found ∙ ap (λ rs. c.put_head.new.out.items ++ flat_map record_text rs) c.new_recs.ensures.found)
    (c.in_ok-put_records-2.ensures.found ∙ ap (λ rs. c.put_records.new.out.items ++ flat_map record_text rs) c.tried_recs.ensures.found)
    (c.in_ok-put_buckets.ensures ∙ ap (λ n. c.put_records-2.new.out.items ++ flat_map (bucket_text c.listed.result.now) (range_with_len 0 n)) c.bucket_count.ensures.found ∙ ap (λ ps. c.put_records-2.new.out.items ++ flat_map (bucket_text ps) (range_with_len 0 snap.bucket_count)) c.listed.ensures.found)
    (c.in_ok-extend_from_slice.ensures.items ∙ ap (λ t. c.put_buckets.new.out.items ++ t) c.sum.ensures)
