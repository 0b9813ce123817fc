-- What is written of a list is read as the list.
use Rattle.std.proofs.Common.{◌≡◌, ℕ, ◌≤◌, false, cond, All, List, [], ◌∷◌, ◌++◌, map, Some, refl, sym, ap, ◌∙◌, subst, arith, append_assoc, append-nil, inr}
use Rattle.std.specs.Prelude.{AllPairs, IsUtf8, min}
use Rattle.std.specs.List.{fold}
use Rattle.std.proofs.lemmas.List.Elements.{All-nil, All-cons, All-head, All-tail}
use Rattle.serde_json.specs.Data.{depth, items_depth}
use Rattle.serde_json.specs.Read.{read, max_depth}
use Rattle.serde_json.specs.View.{items_of}
use Rattle.serde_json.specs.Written.{has_float, items_have_float}
use Rattle.ban_list.specs.Bans.{put, AreBans}
use Rattle.ban_list.specs.BanFile.{IsElement, AreElements, IsReadBack, IsBanFile, ban_data, file_data, max_time}
use Rattle.ban_list.specs.SubnetText.{subnet_text}
use Rattle.ban_list.specs.declared.ban.Ban.{Ban}
use Rattle.ban_list.specs.declared.ban.BanRule.TheVariants.{Labels}
use Rattle.ban_list.proofs.BanLaws.{Apart, pairs_head, pairs_tail}
use Rattle.ban_list.proofs.FileLaws.{file_of}

time_back : (n : ℕ) → n ≤ max_time → Some (min n max_time) ≡ Some n
time_back n h = let e : min n max_time ≡ n = omega arith in ap Some e

element_back : (ban : Ban) → IsReadBack ban → IsElement Labels (ban_data ban) ban
element_back ban h = record {
  version = refl;
  address = subnet_text ban.subnet;
  address_text = refl;
  subnet = h.subnet;
  created = time_back ban.created h.created;
  until = time_back ban.until h.until;
}

elements_back : (bans : List Ban) → All IsReadBack bans → AreElements Labels (map ban_data bans) bans
unfolding AreElements
elements_back [] h = refl
elements_back (ban ∷ bans) h = inr (element_back ban (All-head IsReadBack ban bans h), elements_back bans (All-tail IsReadBack ban bans h))

middle : (P : Ban → Type 0) (xs : List Ban) (y : Ban) (ys : List Ban) → All P (xs ++ y ∷ ys) → P y
middle P [] y ys h = All-head P y ys h
middle P (x ∷ xs) y ys h = middle P xs y ys (All-tail P x (xs ++ y ∷ ys) h)

before : (xs : List Ban) (y : Ban) (ys : List Ban) → AllPairs Apart (xs ++ y ∷ ys) → All (λ x. Apart x y) xs
before [] y ys h = All-nil (λ x. Apart x y)
before (x ∷ xs) y ys h = All-cons (λ z. Apart z y) x xs (middle (Apart x) xs y ys (pairs_head Apart x (xs ++ y ∷ ys) h)) (before xs y ys (pairs_tail Apart x (xs ++ y ∷ ys) h))

put_apart : (new : Ban) (bans : List Ban) → All (λ ban. Apart ban new) bans → put new bans ≡ bans ++ new ∷ []
unfolding put
put_apart new [] h = refl
put_apart new (ban ∷ bans) h =
    ap (λ b. cond b (new ∷ bans) (ban ∷ put new bans)) (All-head (λ b. Apart b new) ban bans h)
    ∙ ap (λ bs. ban ∷ bs) (put_apart new bans (All-tail (λ b. Apart b new) ban bans h))

-- distinct bans are merged to themselves
pub merged_onto : (done bans : List Ban) → AllPairs Apart (done ++ bans) → fold (λ list ban. put ban list) done bans ≡ done ++ bans
merged_onto done [] h = sym (append-nil done)
merged_onto done (ban ∷ bans) h =
    let same = append_assoc done (ban ∷ []) bans in
    ap (λ list. fold (λ l b. put b l) list bans) (put_apart ban done (before done ban bans h))
    ∙ merged_onto (done ++ ban ∷ []) bans (subst (AllPairs Apart) (sym same) h) ∙ same

elements_shallow : (bans : List Ban) → items_depth (items_of (map ban_data bans)) ≤ 1
elements_shallow [] = omega arith
elements_shallow (ban ∷ bans) = let rest = elements_shallow bans in omega (arith, rest)

pub file_shallow : (bans : List Ban) → depth (file_data bans) ≤ max_depth
file_shallow bans = let rest = elements_shallow bans in omega (arith, rest)

elements_whole : (bans : List Ban) → items_have_float (items_of (map ban_data bans)) ≡ false
elements_whole [] = refl
elements_whole (ban ∷ bans) = elements_whole bans

pub file_whole : (bans : List Ban) → has_float (file_data bans) ≡ false
file_whole bans = rw (elements_whole bans) refl

pub file_back : (bytes : List ℕ) (bans : List Ban) → AreBans bans → All IsReadBack bans → IsUtf8 bytes → read bytes ≡ Some (file_data bans) → IsBanFile bytes bans
file_back bytes bans h back utf8 e =
    file_of Labels bytes (file_data bans) (map ban_data bans) bans bans (utf8, e) refl (elements_back bans back) h.few (sym (merged_onto [] bans h.distinct))
