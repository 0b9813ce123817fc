-- The first bytes of a file, after one more read.
use Rattle.std.proofs.Common.{◌≡◌, ℕ, ◌+◌, List, ◌++◌, take, drop, Option, None, Some, IfSome, sym, ap, ◌∙◌, subst}
use Rattle.std.proofs.Math.Seq.{take-add}
use Rattle.host_io.specs.Files.{known_bytes}
use Rattle.host_io.specs.Past.{Past, files_of}
use Rattle.host_io.specs.declared.name.Name.{Name}

more : (file : Option (List ℕ)) (text now : List ℕ) (done n count : ℕ)
    → IfSome file (λ bytes. text ≡ take done bytes)
    → IfSome file (λ bytes. now ≡ text ++ take n (drop done bytes))
    → count ≡ done + n → IfSome file (λ bytes. now ≡ take count bytes)
more None text now done n count before after is = tt
more (Some bytes) text now done n count before after is =
    after
    ∙ ap (λ xs. xs ++ take n (drop done bytes)) before
    ∙ sym (take-add done n bytes)
    ∙ ap (λ k. take k bytes) (sym is)

-- the first `done` bytes and the next `n` are the first `done + n`
pub one_more : (name : Name) (old mid : Option Past) (text now : List ℕ) (done n count : ℕ)
    → mid ≡ old
    → IfSome (known_bytes (files_of old) name) (λ bytes. text ≡ take done bytes)
    → IfSome (known_bytes (files_of mid) name) (λ bytes. now ≡ text ++ take n (drop done bytes))
    → count ≡ done + n
    → IfSome (known_bytes (files_of old) name) (λ bytes. now ≡ take count bytes)
one_more name old mid text now done n count same before after is =
    more (known_bytes (files_of old) name) text now done n count before
    (subst (λ p. IfSome (known_bytes (files_of p) name) (λ bytes. now ≡ text ++ take n (drop done bytes)))
    same after) is
