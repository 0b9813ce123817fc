-- What counts of each record gives the kinds of each table.
use Rattle.std.proofs.Common.{◌≡◌, ℕ, zero, suc, ◌+◌, ◌*◌, ◌^◌, ◌≤◌, ◌<◌, min, Bool, true, false, cond, ◌&&◌, ◌||◌, ◌==◌, List, [], ◌∷◌, ◌++◌, All, filter, get_or, length, map, sum_by, take, refl, sym, ap, subst, ◌∙◌, arith, if◌then◌else◌}
use Rattle.std.specs.Prelude.{Err, IfOk, Ok, Result, codes, decimal}
use Rattle.std.proofs.lemmas.Grind.{common_steps}
use Rattle.std.proofs.lemmas.List.{map-append, take_more}
use Rattle.std.proofs.lemmas.List.Elements.{All-map}
use Rattle.std.proofs.lemmas.List.Sums.{get_or-le-sum_by, sum_by-cons}
use Rattle.ban_list.specs.SubnetText.{IsSubnetText}
use Rattle.ban_list.specs.declared.subnet.Subnet.{Subnet}
use Rattle.net_addr.specs.NetSet.{all}
use Rattle.net_addr.specs.declared.peer.Peer.{Peer}
use Rattle.peer_rec.specs.Rec.{chance}
use Rattle.peer_rec.specs.declared.rec.Rec.{Rec}
use Rattle.risk_laws.specs.Classes.{bound_of, chances, kind_of, kinds_of, starts_for}
use Rattle.risk_laws.proofs.Classed.{sum_filter, sum_map}
use Rattle.risk_laws.proofs.ClassesOf.{by_whole}
use Rattle.risk_sum.specs.Kinds.{AreKinds, most_by, starts_of}
use Rattle.risk_sum.specs.declared.kinds.Kind.{Kind}
use Rattle.table_laws.specs.Odds.{leading_starts}
use Rattle.table_laws.specs.Searches.{idle_rounds}
use Rattle.table_machine.specs.Picks.{bucket_count, first_factor, is_wanted, wanted_new, wanted_tried}
use Rattle.table_machine.specs.Sound.{IsSound}
use Rattle.table_machine.specs.State.{State}
use Rattle.risk_parts.specs.Leads.{AreLeads, FitTable, FitsSets, among, class_starts, has_lead, kind_of_all, kinds_of_all, kinds_share, lead_of, lead_starts, parts_in, share_within, with_theirs}
use Rattle.risk_parts.specs.Parts.{bound_in, parts_for, parts_from, share_for, wanted_in}
use Rattle.risk_parts.specs.Sets.{IsSetText, is_among}
use Rattle.risk_parts.specs.declared.addr_set.AddrSet.{AddrSet}
use Rattle.risk_parts.specs.declared.addr_set.AddrSet.TheVariants as set
use Rattle.risk_parts.specs.declared.leads.Lead.{Lead}
use Rattle.risk_parts.specs.declared.parts.Parts.{Parts}
use Rattle.risk_parts.proofs.BoundsOf.{kinds_there, not_none, wanted_all}

map_map : {A B C : Type 0} (f : B → C) (g : A → B) (xs : List A) → map f (map g xs) ≡ map (λ x. f (g x)) xs
map_map f g [] = refl
map_map f g (x ∷ xs) = ap (λ ys. f (g x) ∷ ys) (map_map f g xs)

filter_map_is : {A B : Type 0} (p : B → Bool) (f : A → B) (xs : List A) → filter p (map f xs) ≡ map f (filter (λ x. p (f x)) xs)
filter_map_is p f [] = refl
filter_map_is p f (x ∷ xs) = by (p (f x)) (filter_map_is p f xs)
  where
    by : (b : Bool) → filter p (map f xs) ≡ map f (filter (λ y. p (f y)) xs)
        → (if b then f x ∷ filter p (map f xs) else filter p (map f xs)) ≡ map f (if b then x ∷ filter (λ y. p (f y)) xs else filter (λ y. p (f y)) xs)
    by true is = ap (λ ys. f x ∷ ys) is
    by false is = is

module _ (st : State) (now : ℕ) where
  abbrev leads : List Lead
  leads = map (lead_of st now) st.records

  abbrev theirs : List AddrSet → Peer → Bool
  theirs sets peer = is_among st.places sets peer

  lead_is : (in_new : Bool) (r : Rec) → lead_starts in_new (lead_of st now r) ≡ leading_starts st in_new all r
  lead_is true r = refl
  lead_is false r = refl

  -- the sum over some records is that of the kinds
  each : (in_new : Bool) (likely : ℕ) (test : Rec → Bool) (r : Rec)
      → cond (test r) (class_starts in_new likely (lead_of st now r)) 0 ≡ cond (test r && is_wanted all r && chance r now == likely) (leading_starts st in_new all r) 0
  each in_new likely test r =
      (λ i. cond (test r) (if chance r now == likely then lead_is in_new r i else 0) 0)
      ∙ by (test r) (chance r now == likely) (leading_starts st in_new all r)
      ∙ (λ i. cond (test r && sym (wanted_all r) i && chance r now == likely) (leading_starts st in_new all r) 0)
    where
      by : (t c : Bool) (n : ℕ) → cond t (if c then n else 0) 0 ≡ cond (t && true && c) n 0
      by true true n = refl
      by true false n = refl
      by false true n = refl
      by false false n = refl

  some_is : (in_new : Bool) (likely : ℕ) (test : Rec → Bool) → sum_by (class_starts in_new likely) (map (lead_of st now) (filter test st.records)) ≡ starts_for st in_new all now test likely
  some_is in_new likely test =
      sum_map (class_starts in_new likely) (lead_of st now) (filter test st.records)
      ∙ sum_filter (λ r. class_starts in_new likely (lead_of st now r)) test st.records
      ∙ (λ i. sum_by (λ r. each in_new likely test r i) st.records)
      ∙ sym (sum_filter (leading_starts st in_new all) (λ r. test r && is_wanted all r && chance r now == likely) st.records)

  all_is : (in_new : Bool) (likely : ℕ) → sum_by (class_starts in_new likely) leads ≡ starts_for st in_new all now (λ r. true) likely
  all_is in_new likely =
      sum_map (class_starts in_new likely) (lead_of st now) st.records
      ∙ (λ i. sum_by (λ r. each in_new likely (λ q. true) r i) st.records)
      ∙ sym (sum_filter (leading_starts st in_new all) (λ r. true && is_wanted all r && chance r now == likely) st.records)

  among_is : (sets : List AddrSet) → among leads sets ≡ map (lead_of st now) (filter (λ r. theirs sets r.peer) st.records)
  among_is sets = filter_map_is (has_lead sets) (lead_of st now) st.records

  kinds_are : (in_new : Bool) (sets : List AddrSet) → map (with_theirs (among leads sets) in_new) (kinds_of_all leads in_new) ≡ kinds_of st in_new all now (λ r. theirs sets r.peer)
  kinds_are in_new sets =
      map_map (with_theirs (among leads sets) in_new)
      (kind_of_all leads in_new) chances
      ∙ (λ i. map (λ likely. record {
        chance = likely;
        all = all_is in_new likely i;
        theirs = (ap (sum_by (class_starts in_new likely)) (among_is sets) ∙ some_is in_new likely (λ r. theirs sets r.peer)) i;
      }) chances)

  -- ---- no more starts than the table has

  few_rounds : (in_new : Bool) (n idle : ℕ) → n * 2 ^ 30 + idle ≡ bucket_count in_new * (64 * 2 ^ 30) → n ≤ 65536
  few_rounds true n idle is = omega (arith, is)
  few_rounds false n idle is = omega (arith, is)

  below : {a b c d : ℕ} → a ≡ b → b ≤ c → c ≤ d → a ≤ d
  below one two three = omega (arith, one, two, three)

  module _ (sound : IsSound st) where
    pub all_fit : (in_new : Bool) → FitTable leads in_new
    all_fit in_new i low =
        let test : Rec → Bool = λ r. true in
        let starts : ℕ → ℕ = starts_for st in_new all now test in
        let whole = few_rounds in_new (starts_of (kinds_of st in_new all now test)) (idle_rounds st in_new all) (by_whole st in_new all now test sound) in
        let sum : starts_of (kinds_of st in_new all now test) ≡ sum_by starts chances = sum_map (λ k. k.all) (kind_of st in_new all now test) chances in
        below (all_is in_new (get_or chances i 0)) (get_or-le-sum_by starts chances i 0 low) (subst (λ n. n ≤ 65536) sum whole)

    fewer : (f : Lead → ℕ) (p : Lead → Bool) (xs : List Lead) → sum_by f (filter p xs) ≤ sum_by f xs
    fewer f p [] = omega arith
    fewer f p (x ∷ xs) = by (p x) (fewer f p xs) (sum_by-cons f x xs) (sum_by-cons f x (filter p xs))
      where
        by : (b : Bool) → sum_by f (filter p xs) ≤ sum_by f xs → sum_by f (x ∷ xs) ≡ f x + sum_by f xs → sum_by f (x ∷ filter p xs) ≡ f x + sum_by f (filter p xs)
            → sum_by f (if b then x ∷ filter p xs else filter p xs) ≤ sum_by f (x ∷ xs)
        by true less one two = omega (arith, less, one, two)
        by false less one two = omega (arith, less, one)

    pub fits : (in_new : Bool) (sets : List AddrSet) → FitsSets leads in_new (kinds_of_all leads in_new) (wanted_in st in_new) sets
    fits in_new sets = record {
      few = let is : length (kinds_of_all leads in_new) ≡ 18 = refl in omega (arith, is);
      fit = All-map (λ k. sum_by (class_starts in_new k.chance) (among leads sets) ≤ 65536)
          (kind_of_all leads in_new) chances
          (λ i d low. below refl (fewer (class_starts in_new (get_or chances i d)) (has_lead sets) leads) (subst (λ c. sum_by (class_starts in_new c) leads ≤ 65536) (same i d low) (all_fit in_new i low)));
      are = λ there. subst AreKinds (sym (kinds_are in_new sets)) (kinds_there st in_new now (λ r. theirs sets r.peer) sound (not_none (wanted_in st in_new) there));
    }
      where
        same : (i d : ℕ) → i < 18 → get_or chances i 0 ≡ get_or chances i d
        same i d low = grind (arith, common_steps)

    share_same : (in_new : Bool) (sets : List AddrSet)
        → share_within (wanted_in st in_new) (map (with_theirs (among leads sets) in_new) (kinds_of_all leads in_new)) ≡ share_for st in_new now (theirs sets)
    unfolding bound_in kinds_share
    share_same in_new sets =
        λ i. if wanted_in st in_new == 0 then 0
        else min (most_by (kinds_are in_new sets i) (starts_of (kinds_are in_new sets i) * 2 ^ 30) (2 ^ 64) 48 first_factor) (2 ^ 64)

    pub parts_same : (sets : List AddrSet) → parts_in leads (kinds_of_all leads true) (kinds_of_all leads false) (wanted_in st true) (wanted_in st false) sets ≡ parts_for st now (theirs sets)
    parts_same sets =
        λ i. parts_from (share_same true sets i) (share_same false sets i) (wanted_new st all == 0 || wanted_tried st all == 0)

-- ---- the same of what is computed

module _ (st : State) (now : ℕ) (ls : List Lead) (new tried : List Kind) (wanted : ℕ × ℕ) (are : AreLeads st now ls new tried wanted) where
  pub fits_new : (sets : List AddrSet) → FitsSets ls true new wanted.0 sets
  fits_new sets =
      subst (λ n. FitsSets ls true new n sets) (sym are.wanted_new)
      (subst (λ ks. FitsSets ls true ks (wanted_in st true) sets) (sym are.new_kinds)
      (subst (λ xs. FitsSets xs true (kinds_of_all xs true) (wanted_in st true) sets) (sym are.each) (fits st now are.sound true sets)))

  pub fits_tried : (sets : List AddrSet) → FitsSets ls false tried wanted.1 sets
  fits_tried sets =
      subst (λ n. FitsSets ls false tried n sets) (sym are.wanted_tried)
      (subst (λ ks. FitsSets ls false ks (wanted_in st false) sets) (sym are.tried_kinds)
      (subst (λ xs. FitsSets xs false (kinds_of_all xs false) (wanted_in st false) sets) (sym are.each) (fits st now are.sound false sets)))

  pub parts_are : (sets : List AddrSet) → parts_in ls new tried wanted.0 wanted.1 sets ≡ parts_for st now (is_among st.places sets)
  parts_are sets =
      (λ i. parts_in ls (are.new_kinds i) (are.tried_kinds i) (are.wanted_new i) (are.wanted_tried i) sets)
      ∙ (λ i. parts_in (are.each i) (kinds_of_all (are.each i) true) (kinds_of_all (are.each i) false) (wanted_in st true) (wanted_in st false) sets)
      ∙ parts_same st now are.sound sets

-- the leads of the records fit their tables
pub fit_of : (st : State) (now : ℕ) (ls : List Lead) (in_new : Bool) → IsSound st → ls ≡ map (lead_of st now) st.records → FitTable ls in_new
fit_of st now ls in_new sound are = subst (λ xs. FitTable xs in_new) (sym are) (all_fit st now sound in_new)

-- what the program is told of its answer
pub told : {E : Type 0} (r : Result Parts E) (ls : List Lead) (new tried : List Kind) (wanted : ℕ × ℕ) (sets : List AddrSet) → IfOk r (λ p. p ≡ parts_in ls new tried wanted.0 wanted.1 sets)
    → IfOk r (λ p. (st : State) (now : ℕ) → AreLeads st now ls new tried wanted → p ≡ parts_for st now (is_among st.places sets))
told (Ok p) ls new tried wanted sets is = λ st now are. is ∙ parts_are st now ls new tried wanted are sets
told (Err e) ls new tried wanted sets is = tt

-- ---- what the program computes

pub below_whole : (kinds : List Kind) (wanted share : ℕ) → (wanted == 0) ≡ false → share ≡ kinds_share kinds → share < 2 ^ 64 → share ≡ share_within wanted kinds
below_whole kinds wanted share there is low =
    let least : share ≡ min share (2 ^ 64) = omega (arith, low) in
    least ∙ ap (λ n. min n (2 ^ 64)) is ∙ (λ i. if sym there i then 0 else min (kinds_share kinds) (2 ^ 64))

pub whole : (kinds : List Kind) (wanted share : ℕ) → (wanted == 0) ≡ false → share ≡ kinds_share kinds → 2 ^ 64 ≤ share → 2 ^ 64 ≡ share_within wanted kinds
whole kinds wanted share there is high =
    let least : 2 ^ 64 ≡ min share (2 ^ 64) = omega (arith, high) in
    least ∙ ap (λ n. min n (2 ^ 64)) is ∙ (λ i. if sym there i then 0 else min (kinds_share kinds) (2 ^ 64))

pub is_share : (kinds : List Kind) (share : ℕ) → share ≡ most_by kinds (starts_of kinds * 2 ^ 30) (2 ^ 64) 48 (2 ^ 30) → share ≡ kinds_share kinds
unfolding kinds_share
is_share kinds share is = is

-- one chance more
pub kinds_more : (ls : List Lead) (in_new : Bool) (i : ℕ) (old new : List Kind) (kind : Kind) → i < 18 → old ≡ map (kind_of_all ls in_new) (take i chances)
    → kind ≡ kind_of_all ls in_new (get_or chances i 0) → new ≡ old ++ kind ∷ [] → new ≡ map (kind_of_all ls in_new) (take (i + 1) chances)
kinds_more ls in_new i old new kind low so_far made more =
    more ∙ (λ j. so_far j ++ made j ∷ [])
    ∙ sym (ap (map (kind_of_all ls in_new)) (take_more chances i 0 low) ∙ map-append (kind_of_all ls in_new) (take i chances) (get_or chances i 0 ∷ []))

-- ---- texts

pub no_set : (text : List ℕ) → ((rest : List ℕ) → text ≡ codes "AS" ++ rest → ⊥) → ((s : Subnet) → IsSubnetText text s → ⊥) → (set : AddrSet) → IsSetText text set → ⊥
no_set text none never (set.Subnet s) is = never s is.1
no_set text none never (set.Number n) is = none (decimal n) is.2
