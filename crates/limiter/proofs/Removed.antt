-- What removing an entry leaves of the others.
use Rattle.std.proofs.Common.{◌≡◌, ℕ, ◌-◌, ◌<◌, List, [], ◌∷◌, length, nat_eq, position, Option, Some, None, All, refl, sym, subst, arith}
use Rattle.std.specs.List.{swap_remove}
use Rattle.std.proofs.lemmas.List.Elements.{All-from_recursion, recursion_from_All, All-take, All-set, All-get_or}
use Rattle.std.specs.Map.{keys_of}
use Rattle.indexmap.specs.IndexMap.{swap_remove_entry}
use Rattle.indexmap.proofs.MapLemmas.{Found-position, swap_remove_entry-found, swap_remove_entry-missing}
use Rattle.limiter.specs.declared.limiter.Conn.{Conn}
use Rattle.limiter.specs.Inside.{AreEntries, IsConn}

All-swapped : {X : Type 0} (P : X → Type 0) (xs : List X) (i : ℕ) (d : X) → i < length xs → All P xs → All P (swap_remove xs i d)
All-swapped P xs i d within all =
    All-take P (length xs - 1) _ (All-set P xs i _ (All-get_or P xs (length xs - 1) d (omega (arith, within)) all) all)

abbrev IsEntry : ℕ × Conn → Type 0
IsEntry e = (e.1.number ≡ e.0) × IsConn e.1

pub removed-entries : (number : ℕ) (es : List (ℕ × Conn)) → AreEntries es → AreEntries (swap_remove_entry (nat_eq number) es)
removed-entries number [] h = h
removed-entries number (e ∷ es) h = by (position (nat_eq number) (keys_of (e ∷ es))) refl
  where
    by : (o : Option ℕ) → position (nat_eq number) (keys_of (e ∷ es)) ≡ o → AreEntries (swap_remove_entry (nat_eq number) (e ∷ es))
    by None at = subst AreEntries (sym (swap_remove_entry-missing (nat_eq number) (e ∷ es) at)) h
    by (Some i) at =
        subst AreEntries (sym (swap_remove_entry-found (nat_eq number) (e ∷ es) i e at))
        (recursion_from_All IsEntry _ (All-swapped IsEntry (e ∷ es) i e (Found-position (nat_eq number) (e ∷ es) i at).within (All-from_recursion IsEntry (e ∷ es) h)))
