use Rattle.std.proofs.Common.{rules, ℕ, ◌≡◌, ◌<◌, ◌≤◌, ◌∙◌, List, All, AllPairs, ap, length, map, subst, sym}
use Rattle.peer_rec.specs.Snapshot.{Snapshot, snapshot}
use Rattle.peer_rec.specs.declared.file_rec.FileRec.{FileRec}
use Rattle.std.proofs.lemmas.List.{length-map}
use Rattle.raw_file.specs.Listing.{firsts, new_recs, pair_of, peers_of, recs_of, tried_of}
use Rattle.raw_file.proofs.Agains.{new_fault, no_fault, tried_fault}
use Rattle.raw_file.proofs.Facts.{fits}
use Rattle.raw_file.proofs.listing.snapshot_of.Goals as goal

pub make-requires-clause-few_new : goal.make-requires-clause-few_new
make-requires-clause-few_new c =
    let news : c.of-new_recs.result ≡ new_recs c.args.raw.now = c.of-new_recs.ensures ∙ c.in-Ok.ensures.recs ∙ ap (λ rows. firsts (recs_of rows)) c.items-rows.ensures in
    subst (λ (rs : List FileRec). length rs ≤ 65536) (sym news) (fits c.args.raw.now c.requires).few_new

pub make-requires-clause-few_tried : goal.make-requires-clause-few_tried
make-requires-clause-few_tried c =
    let trieds : c.of-tried_recs.result ≡ tried_of c.args.raw.now.tried = c.of-tried_recs.ensures ∙ c.in_ok-tried.ensures ∙ ap tried_of c.items-tried_rows.ensures in
    subst (λ (rs : List FileRec). length rs ≤ 16384) (sym trieds) (fits c.args.raw.now c.requires).few_tried

pub make-requires-clause-new_attempts : goal.make-requires-clause-new_attempts
make-requires-clause-new_attempts c =
    let news : c.of-new_recs.result ≡ new_recs c.args.raw.now = c.of-new_recs.ensures ∙ c.in-Ok.ensures.recs ∙ ap (λ rows. firsts (recs_of rows)) c.items-rows.ensures in
    subst (All (λ (r : FileRec). r.attempts ≤ 2147483647)) (sym news) (fits c.args.raw.now c.requires).new_attempts

pub make-requires-clause-tried_attempts : goal.make-requires-clause-tried_attempts
make-requires-clause-tried_attempts c =
    let trieds : c.of-tried_recs.result ≡ tried_of c.args.raw.now.tried = c.of-tried_recs.ensures ∙ c.in_ok-tried.ensures ∙ ap tried_of c.items-tried_rows.ensures in
    subst (All (λ (r : FileRec). r.attempts ≤ 2147483647)) (sym trieds) (fits c.args.raw.now c.requires).tried_attempts

pub make-requires-clause-buckets : goal.make-requires-clause-buckets
make-requires-clause-buckets c =
    let news : c.in-Ok.recs.items ≡ new_recs c.args.raw.now = c.in-Ok.ensures.recs ∙ ap (λ rows. firsts (recs_of rows)) c.items-rows.ensures in
    let listed : c.of-listed.result ≡ map (pair_of (new_recs c.args.raw.now)) c.args.raw.now.new = c.of-listed.ensures ∙ c.in_ok-pairs.ensures c.in-Ok.recs.items c.in-Ok.ensures.peers ∙ (λ i. map (pair_of (news i)) (c.items-rows.ensures i)) in
    let count : c.from.result ≡ 1024 = search rules in
    subst (λ n. All (λ (p : ℕ × ℕ). p.0 < n) c.of-listed.result) (sym count)
    (subst (All (λ (p : ℕ × ℕ). p.0 < 1024)) (sym listed) (fits c.args.raw.now c.requires).buckets_below)

pub make-requires-clause-indexes : goal.make-requires-clause-indexes
make-requires-clause-indexes c =
    let same : c.in-Ok.recs.items ≡ new_recs c.args.raw.now = c.in-Ok.ensures.recs ∙ ap (λ rows. firsts (recs_of rows)) c.items-rows.ensures in
    let news : c.of-new_recs.result ≡ new_recs c.args.raw.now = c.of-new_recs.ensures ∙ same in
    let listed : c.of-listed.result ≡ map (pair_of (new_recs c.args.raw.now)) c.args.raw.now.new = c.of-listed.ensures ∙ c.in_ok-pairs.ensures c.in-Ok.recs.items c.in-Ok.ensures.peers ∙ (λ i. map (pair_of (same i)) (c.items-rows.ensures i)) in
    subst (λ (rs : List FileRec). All (λ (p : ℕ × ℕ). p.1 < length rs) c.of-listed.result) (sym news)
    (subst (All (λ (p : ℕ × ℕ). p.1 < length (new_recs c.args.raw.now))) (sym listed) (fits c.args.raw.now c.requires).indexes)

pub make-requires-clause-rising : goal.make-requires-clause-rising
make-requires-clause-rising c =
    let news : c.in-Ok.recs.items ≡ new_recs c.args.raw.now = c.in-Ok.ensures.recs ∙ ap (λ rows. firsts (recs_of rows)) c.items-rows.ensures in
    let listed : c.of-listed.result ≡ map (pair_of (new_recs c.args.raw.now)) c.args.raw.now.new = c.of-listed.ensures ∙ c.in_ok-pairs.ensures c.in-Ok.recs.items c.in-Ok.ensures.peers ∙ (λ i. map (pair_of (news i)) (c.items-rows.ensures i)) in
    subst (AllPairs (λ (p : ℕ × ℕ) (q : ℕ × ℕ). p.0 ≤ q.0)) (sym listed) (fits c.args.raw.now c.requires).rise

pub returns-in-Err-clause-cause : goal.returns-in-Err-clause-cause
returns-in-Err-clause-cause c = λ some. new_fault c.args.raw.now c.items-rows.result.now c.items-rows.ensures c.in-Err.fault (c.in-Err.ensures.cause some)

pub returns-in-Err-check_tried-clause-cause : goal.returns-in-Err-check_tried-clause-cause
returns-in-Err-check_tried-clause-cause c = λ some.
    let news : c.in-Ok.recs.items ≡ new_recs c.args.raw.now = c.in-Ok.ensures.recs ∙ ap (λ rows. firsts (recs_of rows)) c.items-rows.ensures in
    tried_fault c.args.raw.now c.items-rows.result.now c.items-rows.ensures c.items-tried_rows.result.now c.items-tried_rows.ensures _ (c.in-Ok.ensures.peers ∙ ap peers_of news) c.in-Ok.ensures.none c.in-Err-check_tried.fault (c.in-Err-check_tried.ensures.cause some)

pub returns-clause-none : goal.returns-clause-none
returns-clause-none c =
    let news : c.in-Ok.recs.items ≡ new_recs c.args.raw.now = c.in-Ok.ensures.recs ∙ ap (λ rows. firsts (recs_of rows)) c.items-rows.ensures in
    no_fault c.args.raw.now c.items-rows.result.now c.items-rows.ensures c.items-tried_rows.result.now c.items-tried_rows.ensures _ (c.in-Ok.ensures.peers ∙ ap peers_of news) c.in-Ok.ensures.none c.in-Ok-check_tried.ensures.none

pub returns-clause-snapshot : goal.returns-clause-snapshot
returns-clause-snapshot c =
    let same : c.in-Ok.recs.items ≡ new_recs c.args.raw.now = c.in-Ok.ensures.recs ∙ ap (λ rows. firsts (recs_of rows)) c.items-rows.ensures in
    let news : c.of-new_recs.result ≡ new_recs c.args.raw.now = c.of-new_recs.ensures ∙ same in
    let trieds : c.of-tried_recs.result ≡ tried_of c.args.raw.now.tried = c.of-tried_recs.ensures ∙ c.in_ok-tried.ensures ∙ ap tried_of c.items-tried_rows.ensures in
    let listed : c.of-listed.result ≡ map (pair_of (new_recs c.args.raw.now)) c.args.raw.now.new = c.of-listed.ensures ∙ c.in_ok-pairs.ensures c.in-Ok.recs.items c.in-Ok.ensures.peers ∙ (λ i. map (pair_of (same i)) (c.items-rows.ensures i)) in
    let count : c.from.result ≡ 1024 = search rules in
    c.make.ensures ∙ (λ i. snapshot c.args.key (news i) (trieds i) (count i) (listed i) c.args.sum)

pub returns-clause-few_listed : goal.returns-clause-few_listed
returns-clause-few_listed c =
    subst (λ n. n ≤ 65536) (sym (ap (λ (s : Snapshot). length s.listed) (returns-clause-snapshot c))) (fits c.args.raw.now c.requires).few_listed

pub pairs_of-requires : goal.pairs_of-requires
pairs_of-requires c =
    let news : c.in-Ok.recs.items ≡ new_recs c.args.raw.now = c.in-Ok.ensures.recs ∙ ap (λ rows. firsts (recs_of rows)) c.items-rows.ensures in
    subst (λ n. n ≤ 65536) (sym (ap length (c.in-Ok.ensures.peers ∙ ap peers_of news) ∙ length-map (new_recs c.args.raw.now) (λ (r : FileRec). r.peer)))
    (fits c.args.raw.now c.requires).few_new
