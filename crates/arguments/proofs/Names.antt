-- The names of commands.
use Rattle.std.proofs.Common.{◌≡◌, ℕ, Bool, true, false, cond, List, [], ◌∷◌, find, get_or, Option, Some, None, refl, sym, ap, subst, ◌∙◌}
use Rattle.std.specs.Prelude.{bytes_eq, unwrap_or}
use Rattle.std.proofs.lemmas.Option.{none-some}
use Rattle.std.proofs.lemmas.Slice.Eq.{bytes_eq-Decides}
use Rattle.arguments.specs.Table.{HasNoValues, NameCommand, OfCommand, command_word}
use Rattle.arguments.specs.declared.name.CommandName.{CommandName}
use Rattle.arguments.specs.declared.name.CommandName.TheVariants as name
use Rattle.arguments.specs.declared.name.TheConstants.{NAMES}

found_name : (n : CommandName) → find (λ k. bytes_eq (command_word k) (command_word n)) NAMES ≡ Some n
found_name name.Replay = refl
found_name other = refl

pub passes : {X : Type 0} (p : X → Bool) (xs : List X) (x : X) → find p xs ≡ Some x → p x ≡ true
passes p [] x is = absurd (cc)
passes {X} p (y ∷ ys) x is = by (p y) refl (passes p ys x) is
  where
    by : (b : Bool) → p y ≡ b → (find p ys ≡ Some x → p x ≡ true) → cond b (Some y) (find p ys) ≡ Some x → p x ≡ true
    by true e more same = subst (λ z. p z ≡ true) (ap (λ o. unwrap_or o y) same) e
    by false e more same = more same

pub word_found : (word : List ℕ) (found : Option CommandName) (n : CommandName) → found ≡ find (λ k. bytes_eq (command_word k) word) NAMES → found ≡ Some n → word ≡ command_word n
word_found word found n searched some = sym ((bytes_eq-Decides (command_word n) word).0 (passes (λ k. bytes_eq (command_word k) word) NAMES n (sym searched ∙ some)))

pub name_found : (word : List ℕ) (n : CommandName) → word ≡ command_word n → find (λ k. bytes_eq (command_word k) word) NAMES ≡ Some n
name_found word n is = subst (λ w. find (λ k. bytes_eq (command_word k) w) NAMES ≡ Some n) (sym is) (found_name n)

none_some_list : {X : Type 0} {x : X} {xs : List X} → [] ≡ x ∷ xs → ⊥
none_some_list is = cc

-- texts name one command, or none
pub one_command : (texts : List (List ℕ)) (a b : Option CommandName) → NameCommand texts a → NameCommand texts b → a ≡ b
one_command texts None None h k = refl
one_command texts None (Some n) h k = absurd (none_some_list (sym h ∙ k))
one_command texts (Some m) None h k = absurd (none_some_list (sym k ∙ h))
one_command texts (Some m) (Some n) h k =
    sym (found_name m) ∙ name_found (command_word m) n (ap (λ ts. get_or ts 0 []) (sym h ∙ k))

-- the word of the only text, if it is a name
pub found_command : (texts : List (List ℕ)) (word : List ℕ) (n : CommandName) → texts ≡ word ∷ [] → word ≡ command_word n → NameCommand texts (Some n)
found_command texts word n is named = is ∙ ap (λ w. w ∷ []) named

pub no_command : (texts : List (List ℕ)) (word : List ℕ) (found : Option CommandName) → texts ≡ word ∷ [] → found ≡ find (λ k. bytes_eq (command_word k) word) NAMES → found ≡ None → HasNoValues OfCommand texts
unfolding HasNoValues
no_command texts word found is searched none v (None, same, names) = none_some_list (sym names ∙ is)
no_command texts word found is searched none v (Some n, same, names) =
    none-some n (sym none ∙ searched ∙ name_found word n (ap (λ ts. get_or ts 0 []) (sym is ∙ names)))

-- more than one text name no command
pub no_commands : (texts : List (List ℕ)) → (texts ≡ [] → ⊥) → ((word : List ℕ) → texts ≡ word ∷ [] → ⊥) → HasNoValues OfCommand texts
unfolding HasNoValues
no_commands texts some many v (None, same, names) = some names
no_commands texts some many v (Some n, same, names) = many (command_word n) names
