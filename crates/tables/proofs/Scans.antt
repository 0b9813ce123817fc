-- A search for duplicates, record by record.
use Rattle.std.proofs.Common.{◌≡◌, ℕ, suc, ◌+◌, ◌<◌, ◌≤◌, Bool, true, false, ◌&&◌, ◌||◌, List, [], ◌∷◌, ◌++◌, length, get_or, take, drop, Option, Some, None, is_some, refl, sym, ap, subst, ◌∙◌, arith, true≢false, if◌then◌else◌, not}
use Rattle.std.specs.List.{list_any}
use Rattle.std.specs.Option.{option_or}
use Rattle.std.proofs.lemmas.List.{append_assoc, append-nil, take_more, take_all, drop_more, drop_all}
use Rattle.std.proofs.lemmas.List.Folds.{list_any-append}
use Rattle.net_addr.specs.Ranges.{is_valid}
use Rattle.net_addr.specs.Same.{same_peer}
use Rattle.net_addr.specs.declared.peer.Peer.{Peer}
use Rattle.peer_rec.specs.declared.file_rec.FileRec.{FileRec}
use Rattle.peer_index.specs.Peers.{has_peer}
use Rattle.table_machine.specs.Restoring.{duplicate_from, is_repeated}
use Rattle.tables.specs.Duplicates.{AreIn}
use Rattle.tables.specs.Scanned.{IsScanned}

abbrev has : Peer → FileRec → Bool
has peer q = is_valid q.peer.addr && same_peer q.peer peer

or-false : (b : Bool) → (b || false) ≡ b
or-false true = refl
or-false false = refl

or-true : (b : Bool) → (b || true) ≡ true
or-true true = refl
or-true false = refl

one-more : (earlier : List FileRec) (r : FileRec) (peer : Peer) → list_any (has peer) (earlier ++ r ∷ []) ≡ (list_any (has peer) earlier || has peer r)
one-more earlier r peer = list_any-append (has peer) earlier (r ∷ []) ∙ ap (λ b. list_any (has peer) earlier || b) (or-false (has peer r))

-- a record that is not valid adds no peer
pub are-passed : (earlier : List FileRec) (peers : List Peer) (r : FileRec) → AreIn earlier peers → is_valid r.peer.addr ≡ false → AreIn (earlier ++ r ∷ []) peers
are-passed earlier peers r are invalid peer =
    are peer ∙ sym (one-more earlier r peer ∙ ap (λ b. list_any (has peer) earlier || (b && same_peer r.peer peer)) invalid ∙ or-false (list_any (has peer) earlier))

or-comm : (a b : Bool) → (a || b) ≡ (b || a)
or-comm true b = sym (or-true b)
or-comm false b = sym (or-false b)

-- a valid record adds its peer
pub are-more : (earlier : List FileRec) (peers new : List Peer) (r : FileRec) → AreIn earlier peers → is_valid r.peer.addr ≡ true
    → ((other : Peer) → has_peer new other ≡ (same_peer r.peer other || has_peer peers other)) → AreIn (earlier ++ r ∷ []) new
are-more earlier peers new r are valid added peer =
    added peer
    ∙ or-comm (same_peer r.peer peer) (has_peer peers peer)
    ∙ (λ i. are peer i || (sym valid i && same_peer r.peer peer))
    ∙ sym (one-more earlier r peer)

-- what a set answers to the peer of a valid record
pub is-old : (earlier : List FileRec) (peers : List Peer) (r : FileRec) (is_new : Bool) → AreIn earlier peers → is_valid r.peer.addr ≡ true → is_new ≡ not (has_peer peers r.peer)
    → not is_new ≡ is_repeated earlier r
is-old earlier peers r is_new are valid is =
    ap not is ∙ twice (has_peer peers r.peer) ∙ (λ i. sym valid i && are r.peer i)
  where
    twice : (b : Bool) → not (not b) ≡ b
    twice true = refl
    twice false = refl

-- the turn of a record
module _ (earlier recs : List FileRec) (start : ℕ) (peers : List Peer) (done at : ℕ) (r : FileRec) (scanned : IsScanned earlier recs start peers done at)
    (within : done < length recs) (is : r ≡ get_or recs done r) where
  rest-is : drop done recs ≡ r ∷ drop (done + 1) recs
  rest-is = drop_more recs done r within ∙ ap (λ x. x ∷ drop (done + 1) recs) (sym is)

  pub done-is : earlier ++ take (done + 1) recs ≡ (earlier ++ take done recs) ++ r ∷ []
  done-is =
      ap (λ xs. earlier ++ xs) (take_more recs done r within ∙ ap (λ x. take done recs ++ x ∷ []) (sym is))
      ∙ sym (append_assoc earlier (take done recs) (r ∷ []))

  pub scan-found : is_repeated (earlier ++ take done recs) r ≡ true → Some at ≡ duplicate_from earlier start recs
  scan-found repeated =
      sym (ap (λ b. if b then Some at else duplicate_from ((earlier ++ take done recs) ++ r ∷ []) (at + 1) (drop (done + 1) recs)) repeated)
      ∙ sym (ap (duplicate_from (earlier ++ take done recs) at) rest-is)
      ∙ scanned.same

  pub scan-more : (new : List Peer) → is_repeated (earlier ++ take done recs) r ≡ false → AreIn ((earlier ++ take done recs) ++ r ∷ []) new
      → IsScanned earlier recs start new (done + 1) (at + 1)
  scan-more new fresh are = record {
    are = subst (λ xs. AreIn xs new) (sym done-is) are;
    same =
        ap (λ xs. duplicate_from xs (at + 1) (drop (done + 1) recs)) done-is
        ∙ sym (ap (λ b. if b then Some at else duplicate_from ((earlier ++ take done recs) ++ r ∷ []) (at + 1) (drop (done + 1) recs)) fresh)
        ∙ sym (ap (duplicate_from (earlier ++ take done recs) at) rest-is)
        ∙ scanned.same;
  }

pub scan-start : (earlier recs : List FileRec) (start : ℕ) (peers : List Peer) → AreIn earlier peers → IsScanned earlier recs start peers 0 start
scan-start earlier recs start peers are = record {
  are = subst (λ xs. AreIn xs peers) (sym (append-nil earlier)) are;
  same = ap (λ xs. duplicate_from xs start recs) (append-nil earlier);
}

-- the end of the list
module _ (earlier recs : List FileRec) (start : ℕ) (peers : List Peer) (done at : ℕ) (scanned : IsScanned earlier recs start peers done at) (all : length recs ≤ done) where
  pub scan-none : None ≡ duplicate_from earlier start recs
  scan-none = sym (ap (duplicate_from (earlier ++ take done recs) at) (drop_all done recs all)) ∙ scanned.same

  pub scan-all : AreIn (earlier ++ recs) peers
  scan-all = subst (λ xs. AreIn (earlier ++ xs) peers) (take_all done recs all) scanned.are

-- a list in two parts
pub duplicate-append : (earlier xs ys : List FileRec) (start : ℕ)
    → duplicate_from earlier start (xs ++ ys) ≡ option_or (duplicate_from earlier start xs) (duplicate_from (earlier ++ xs) (start + length xs) ys)
duplicate-append earlier [] ys start = λ i. duplicate_from (sym (append-nil earlier) i) (same i) ys
  where
    same : start ≡ start + 0
    same = omega arith
duplicate-append earlier (x ∷ xs) ys start = by (is_repeated earlier x) (duplicate-append (earlier ++ x ∷ []) xs ys (start + 1))
  where
    long : start + 1 + length xs ≡ start + suc (length xs)
    long = omega arith

    by : (b : Bool) → duplicate_from (earlier ++ x ∷ []) (start + 1) (xs ++ ys) ≡ option_or (duplicate_from (earlier ++ x ∷ []) (start + 1) xs) (duplicate_from ((earlier ++ x ∷ []) ++ xs) (start + 1 + length xs) ys)
        → (if b then Some start else duplicate_from (earlier ++ x ∷ []) (start + 1) (xs ++ ys))
        ≡ option_or (if b then Some start else duplicate_from (earlier ++ x ∷ []) (start + 1) xs) (duplicate_from (earlier ++ (x ∷ xs)) (start + suc (length xs)) ys)
    by true rest = refl
    by false rest = rest ∙ (λ i. option_or (duplicate_from (earlier ++ x ∷ []) (start + 1) xs) (duplicate_from (append_assoc earlier (x ∷ []) xs i) (long i) ys))

pub none-in : AreIn [] []
none-in peer = refl

-- the search of the first part decides if it finds one
pub duplicate-some : (xs ys : List FileRec) (o : Option ℕ) → o ≡ duplicate_from [] 0 xs → is_some o ≡ true → o ≡ duplicate_from [] 0 (xs ++ ys)
duplicate-some xs ys None is some = absurd (true≢false (sym some))
duplicate-some xs ys (Some at) is some = sym (duplicate-append [] xs ys 0 ∙ ap (λ o. option_or o (duplicate_from xs (0 + length xs) ys)) (sym is))

pub none-is : (o : Option ℕ) → is_some o ≡ false → o ≡ None
none-is None h = refl
none-is (Some at) h = absurd (true≢false h)

-- and else that of the second
pub duplicate-rest : (xs ys : List FileRec) → None ≡ duplicate_from [] 0 xs → duplicate_from xs (length xs) ys ≡ duplicate_from [] 0 (xs ++ ys)
duplicate-rest xs ys none = sym (duplicate-append [] xs ys 0 ∙ ap (λ o. option_or o (duplicate_from xs (0 + length xs) ys)) (sym none) ∙ ap (λ n. duplicate_from xs n ys) plain)
  where
    plain : 0 + length xs ≡ length xs
    plain = omega arith
