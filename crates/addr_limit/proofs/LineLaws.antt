-- Which lines are about a number, and that a number's outputs depend only on these lines.
use Rattle.std.proofs.Common.{◌≡◌, ◌≢◌, ℕ, ◌<◌, ◌^◌, List, [], ◌∷◌, ◌++◌, ◌==◌, Bool, true, false, Option, Some, None, codes, decimal, bytes_eq, refl, sym, ◌∙◌, ap, subst, arith}
use Rattle.std.proofs.lemmas.Bool.{eqb-true, eqb-false}
use Rattle.std.proofs.lemmas.Fmt.{decimal_injective}
use Rattle.std.proofs.lemmas.Slice.Eq.{bytes_eq-Decides}
use Rattle.addr_codecs.specs.declared.form.Form.{Form}
use Rattle.addr_codecs.specs.declared.form.Form.TheVariants.{Addr, Addrv2}
use Rattle.grammar.specs.Contents.{number_in}
use Rattle.grammar.specs.Fields.{Kind, OfAddr, Hex, Random, Either, Value, TheNumber, TheAddr, TheBytes, TheWords, TheChoice, AllMean, u32_field}
use Rattle.addr_limit.specs.LogState.{LimitState}
use Rattle.addr_limit.specs.Steps.{after_event}
use Rattle.addr_limit.specs.declared.command.Event.{Event}
use Rattle.addr_limit.specs.declared.command.LimitCommand.{LimitCommand}
use Rattle.addr_limit.specs.declared.command.LimitCommand.TheVariants.{Close, GetAddr, Stat}
use Rattle.addr_limit.specs.Apart.{DependsOn, IsLastOutput}
use Rattle.addr_limit.specs.declared.command.LimitWord.{LimitWord}
use Rattle.addr_limit.specs.declared.command.LimitWord.TheVariants as v
use Rattle.addr_limit.specs.Lines.{limit_kinds, message_kinds, verb_at, SaysEvent, SaysBy, SaysMessage, SaysOf, SaysRequest, LimitStep, are_about, is_about, is_about_by}
use Rattle.addr_limit.proofs.Apart.{depends_on, last_output}
use Rattle.addr_limit.proofs.Served.{part_of, concerns, others_leave, answers_alike}

differ : (a b : List ℕ) → a ≢ b → bytes_eq a b ≡ false
differ a b h = by (bytes_eq a b) refl
  where
    by : (c : Bool) → bytes_eq a b ≡ c → c ≡ false
    by true e = absurd (h ((bytes_eq-Decides a b).0 e))
    by false e = refl

-- numbers are the same if their texts are
decimals : (m n : ℕ) → m < 2 ^ 64 → n < 2 ^ 64 → bytes_eq (decimal m) (decimal n) ≡ (m == n)
decimals m n low low' = by (m == n) refl
  where
    by : (c : Bool) → (m == n) ≡ c → bytes_eq (decimal m) (decimal n) ≡ c
    by true e = (bytes_eq-Decides (decimal m) (decimal n)).1 (ap decimal (eqb-true m n e))
    by false e = differ (decimal m) (decimal n) (λ h. eqb-false m n e (decimal_injective m n low low' h))

-- a line whose first field after its keyword is a number
named : (number n : ℕ) (texts : List (List ℕ)) (kinds : List Kind) (rest : List Value) (about : List (List ℕ) → Bool)
    → ((text : List ℕ) (texts : List (List ℕ)) → about (text ∷ texts) ≡ bytes_eq text (decimal number))
    → number < 2 ^ 64 → AllMean (u32_field ∷ kinds) texts (TheNumber n ∷ rest) → about texts ≡ (n == number)
named number n [] kinds rest about is low means = absurd means
named number n (text ∷ texts) kinds rest about is low means =
    let m = means.0 in
    let same : m.0 ≡ n = ap number_in (sym m.1) in
    is text texts ∙ ap (λ t. bytes_eq t (decimal number)) (m.4 ∙ ap decimal same)
    ∙ decimals n number (subst (λ k. k < 2 ^ 64) same (omega (arith, m.3))) low

-- the test on a line's text tells which events concern the number
pub about_is : (number : ℕ) (line : List ℕ) (e : Event) → number < 2 ^ 64 → SaysEvent line e → is_about number line ≡ concerns number e
about_is number line e low (word, texts, is, says) = ap (are_about number) is ∙ by (verb_at word) says
  where
    open_line : (values : List Value) → AllMean (limit_kinds v.Open) texts values → SaysOf v.Open values e → is_about_by number (Some v.Open) texts ≡ concerns number e
    open_line values means (n, addr, unlimited, h, said) =
        named number n texts (OfAddr ∷ Either (codes "unlimited") (codes "limited") ∷ []) (TheAddr addr ∷ TheChoice unlimited ∷ []) (is_about_by number (Some v.Open)) (λ t ts. refl) low (subst (λ vs. AllMean (limit_kinds v.Open) texts vs) h means) ∙ sym (ap (concerns number) said)

    request_line : (request : LimitCommand) (about : List (List ℕ) → Bool) → ((text : List ℕ) (rest : List (List ℕ)) → about (text ∷ rest) ≡ bytes_eq text (decimal number))
        → (values : List Value) → AllMean (u32_field ∷ []) texts values → SaysRequest request values e → about texts ≡ concerns number e
    request_line request about tests values means (n, h, said) =
        named number n texts [] [] about tests low (subst (λ vs. AllMean (u32_field ∷ []) texts vs) h means) ∙ sym (ap (concerns number) said)

    message_line : (form : Form) (about : List (List ℕ) → Bool) → ((text : List ℕ) (rest : List (List ℕ)) → about (text ∷ rest) ≡ bytes_eq text (decimal number))
        → (values : List Value) → AllMean message_kinds texts values → SaysMessage form values e → about texts ≡ concerns number e
    message_line form about tests values means (n, payload, words, read, h, bytes, reads, said) =
        named number n texts (Hex ∷ Random ∷ []) (TheBytes payload ∷ TheWords words ∷ []) about tests low (subst (λ vs. AllMean message_kinds texts vs) h means) ∙ sym (ap (concerns number) said)

    by : (o : Option LimitWord) → SaysBy o texts e → is_about_by number o texts ≡ concerns number e
    by None said = sym (ap (concerns number) said)
    by (Some v.Now) (values, means, (t, h, said)) = sym (ap (concerns number) said)
    by (Some v.Open) (values, means, said) = open_line values means said
    by (Some v.Close) (values, means, said) = request_line Close (is_about_by number (Some v.Close)) (λ t ts. refl) values means said
    by (Some v.GetAddr) (values, means, said) = request_line GetAddr (is_about_by number (Some v.GetAddr)) (λ t ts. refl) values means said
    by (Some v.From) (values, means, said) = message_line Addr (is_about_by number (Some v.From)) (λ t ts. refl) values means said
    by (Some v.From2) (values, means, said) = message_line Addrv2 (is_about_by number (Some v.From2)) (λ t ts. refl) values means said
    by (Some v.Stat) (values, means, said) = request_line Stat (is_about_by number (Some v.Stat)) (λ t ts. refl) values means said

-- each output line for a number is that of a log of the number's own lines and the times
pub limits_apart : (number : ℕ) → number < 2 ^ 64 → (start : LimitState) → DependsOn LimitStep start (is_about number)
limits_apart number low start = depends_on LimitStep (part_of number) (is_about number)
    (λ s line out t step h. ap (part_of number) step.3 ∙ others_leave number s step.0 (sym (about_is number line step.0 low step.1) ∙ h))
    (λ s line out t u step h same.
    let both = answers_alike number s u line step.0 (sym (about_is number line step.0 low step.1) ∙ h) same in
    (after_event u step.0, (step.0, step.1, step.2 ∙ ap (λ text. text ++ 10 ∷ []) (sym both.0), refl), both.1 ∙ ap (part_of number) (sym step.3)))
    start

-- what a line of a connection gives is what only the times and the lines of this connection give
pub limits_apart_by_line : (number : ℕ) → number < 2 ^ 64 → (start : LimitState) → IsLastOutput LimitStep start (is_about number)
limits_apart_by_line number low start = last_output LimitStep start (is_about number) (limits_apart number low start)
