-- Bans that are merged by their subnets.
use Rattle.std.proofs.Common.{◌≡◌, ◌+◌, ◌≤◌, Bool, true, false, cond, List, [], ◌∷◌, All, length, refl, sym, ap, ◌∙◌, arith}
use Rattle.std.specs.List.{fold}
use Rattle.std.specs.Map.{values_of}
use Rattle.std.proofs.lemmas.Bool.{cond_both}
use Rattle.std.proofs.lemmas.List.Elements.{All-nil, All-cons, All-head, All-tail}
use Rattle.indexmap.specs.IndexMap.{insert_entry}
use Rattle.ban_list.specs.Subnet.{IsProper}
use Rattle.ban_list.specs.Bans.{same_subnet, AreBans, put}
use Rattle.ban_list.specs.declared.subnet.Subnet.{Subnet}
use Rattle.ban_list.specs.declared.ban.Ban.{Ban}
use Rattle.ban_list.specs.declared.bans.TheConstants.{MAX_BANS}
use Rattle.ban_list.proofs.BanLaws.{same_subnet-Decides, AreBans-put, length-put}

-- a ban under its subnet
abbrev pub IsOwn : Subnet × Ban → Type 0
IsOwn e = e.0 ≡ e.1.subnet

one_of : (b c : Bool) → (b ≡ true → c ≡ true) → (c ≡ true → b ≡ true) → b ≡ c
one_of true true f g = refl
one_of true false f g = sym (f refl)
one_of false true f g = g refl
one_of false false f g = refl

same_subnet-flip : (s t : Subnet) → same_subnet s t ≡ same_subnet t s
same_subnet-flip s t = one_of (same_subnet s t) (same_subnet t s) (λ e. (same_subnet-Decides t s).1 (sym ((same_subnet-Decides s t).0 e))) (λ e. (same_subnet-Decides s t).1 (sym ((same_subnet-Decides t s).0 e)))

abbrev inserted : Ban → List (Subnet × Ban) → List (Subnet × Ban)
inserted new es = insert_entry same_subnet es new.subnet new

insert_by : (b : Bool) (new : Ban) (e : Subnet × Ban) (es : List (Subnet × Ban)) → values_of (inserted new es) ≡ put new (values_of es) →
    values_of (cond b ((e.0, new) ∷ es) (e ∷ inserted new es)) ≡ cond b (new ∷ values_of es) (e.1 ∷ put new (values_of es))
insert_by true new e es h = refl
insert_by false new e es h = ap (λ bs. e.1 ∷ bs) h

-- an insertion puts the ban into the place of the ban of its subnet, or last
pub values-inserted : (new : Ban) (es : List (Subnet × Ban)) → All IsOwn es → values_of (insert_entry same_subnet es new.subnet new) ≡ put new (values_of es)
unfolding put
values-inserted new [] own = refl
values-inserted new (e ∷ es) own =
    insert_by (same_subnet new.subnet e.0) new e es (values-inserted new es (All-tail IsOwn e es own))
    ∙ ap (λ b. cond b (new ∷ values_of es) (e.1 ∷ put new (values_of es))) (same_subnet-flip new.subnet e.0 ∙ ap (λ s. same_subnet s new.subnet) (All-head IsOwn e es own))

pub own-inserted : (new : Ban) (es : List (Subnet × Ban)) → All IsOwn es → All IsOwn (insert_entry same_subnet es new.subnet new)
own-inserted new [] own = All-cons IsOwn (new.subnet, new) [] refl (All-nil IsOwn)
own-inserted new (e ∷ es) own =
    cond_both (same_subnet new.subnet e.0) ((e.0, new) ∷ es) (e ∷ inserted new es) (All IsOwn)
    (λ is. All-cons IsOwn (e.0, new) es (sym ((same_subnet-Decides new.subnet e.0).0 is)) (All-tail IsOwn e es own))
    (λ is. All-cons IsOwn e (inserted new es) (All-head IsOwn e es own) (own-inserted new es (All-tail IsOwn e es own)))

-- no bans
pub none-sound : AreBans []
none-sound = record {
  proper = All-nil (λ (ban : Ban). IsProper ban.subnet);
  distinct = λ i j d l w. absurd (omega arith);
  few = omega arith;
}

-- bans that are merged into others
pub AreBans-merged : (done bans : List Ban) → All (λ ban. IsProper ban.subnet) bans → AreBans done → length done + length bans ≤ MAX_BANS → AreBans (fold (λ list ban. put ban list) done bans)
AreBans-merged done [] proper sound few = sound
AreBans-merged done (ban ∷ bans) proper sound few =
    let longer = length-put ban done in
    AreBans-merged (put ban done) bans (All-tail (λ (b : Ban). IsProper b.subnet) ban bans proper)
    (AreBans-put ban done (All-head (λ (b : Ban). IsProper b.subnet) ban bans proper) sound (omega (arith, longer, few))) (omega (arith, longer, few))
