-- Outputs that depend only on a part of the state.
use Rattle.std.proofs.Common.{cond, ◌≡◌, List, [], ◌∷◌, ◌++◌, Bool, true, false, filter, refl, sym, ◌∙◌, ap, subst}
use Rattle.std.specs.List.{last_or}
use Rattle.std.proofs.Common.{length, suc, Option, Some, None}
use Rattle.addr_limit.specs.Apart.{Steps, Outputs, DependsOn, IsLastOutput}

-- the outputs of the first lines, and those of the rest
record Split {S L O : Type 0} (step : Steps S L O) (s : S) (before rest : List L) (outs : List O) (t : S) : Type 0 where
  front : List O
  back : List O
  mid : S
  whole : outs ≡ front ++ back
  count : length front ≡ length before
  first : Outputs step s before front mid
  second : Outputs step mid rest back t

split : {S L O : Type 0} (step : Steps S L O) (s : S) (before rest : List L) (outs : List O) (t : S) → Outputs step s (before ++ rest) outs t → Split step s before rest outs t
split step s [] rest outs t run = record { front = []; back = outs; mid = s; whole = refl; count = refl; first = (refl, refl); second = run }
split step s (line ∷ before) rest outs t run =
    let more = split step run.2 before rest run.1 t run.5 in
    record {
      front = run.0 ∷ more.front;
      back = more.back;
      mid = more.mid;
      whole = run.3 ∙ ap (λ os. run.0 ∷ os) more.whole;
      count = ap suc more.count;
      first = (run.0, more.front, run.2, refl, run.4, more.first);
      second = more.second;
    }

-- one more line
one_more : {S L O : Type 0} (step : Steps S L O) (s : S) (lines : List L) (outs : List O) (mid : S) (line : L) (out : O) (t : S) →
    Outputs step s lines outs mid → step mid line out t → Outputs step s (lines ++ line ∷ []) (outs ++ out ∷ []) t
one_more step s [] outs mid line out t run one =
    (out, [], t, ap (λ os. os ++ out ∷ []) run.0, subst (λ m. step m line out t) run.1 one, (refl, refl))
one_more step s (first ∷ lines) outs mid line out t run one =
    (run.0, run.1 ++ out ∷ [], run.2, ap (λ os. os ++ out ∷ []) run.3, run.4, one_more step run.2 lines run.1 mid line out t run.5 one)

last_or-push : {O : Type 0} (d : Option O) (outs : List O) (out : O) → last_or d (outs ++ out ∷ []) ≡ Some out
last_or-push d [] out = refl
last_or-push d (o ∷ outs) out = last_or-push (Some o) outs out

filter-push : {L : Type 0} (about : L → Bool) (lines : List L) (line : L) → about line ≡ true → filter about (lines ++ line ∷ []) ≡ filter about lines ++ line ∷ []
filter-push about [] line h = rw h refl
filter-push about (l ∷ lines) line h = by (about l) (filter-push about lines line h)
  where
    by : (b : Bool) → filter about (lines ++ line ∷ []) ≡ filter about lines ++ line ∷ [] →
        cond b (l ∷ filter about (lines ++ line ∷ [])) (filter about (lines ++ line ∷ [])) ≡ cond b (l ∷ filter about lines) (filter about lines) ++ line ∷ []
    by true rest = ap (λ ls. l ∷ ls) rest
    by false rest = rest

pub last_output : {S L O : Type 0} (step : Steps S L O) (start : S) (about : L → Bool) → DependsOn step start about → IsLastOutput step start about
last_output step start about depends before line after outs end run h =
    let parts = split step start before (line ∷ after) outs end run in
    let one = parts.second in
    let own = depends before parts.front parts.mid line one.0 one.2 parts.first one.4 h in (
      own.0 ++ one.0 ∷ [],
      own.2,
      parts.front,
      one.0,
      one.1,
      subst (λ ls. Outputs step start ls (own.0 ++ one.0 ∷ []) own.2) (sym (filter-push about before line h)) (one_more step start (filter about before) own.0 own.1 line one.0 own.2 own.3 own.4),
      parts.whole ∙ ap (λ os. parts.front ++ os) one.3,
      parts.count,
      last_or-push None own.0 one.0,
    )

-- A part of the state that other lines leave, and that is all that these lines are answered from.
module _ {S L O P : Type 0} (step : Steps S L O) (part : S → P) (about : L → Bool)
    (leaves : (s : S) (line : L) (out : O) (t : S) → step s line out t → about line ≡ false → part t ≡ part s)
    (answers : (s : S) (line : L) (out : O) (t u : S) → step s line out t → about line ≡ true → part u ≡ part s →
    (v : S) × step u line out v × (part v ≡ part t)) where
  abbrev Alike : S → List L → S → Type 0
  Alike u lines t = (outs : List O) × (v : S) × Outputs step u lines outs v × (part v ≡ part t)

  -- from a state with the same part, these lines lead, without the others, to one with that part
  alike : (lines : List L) (outs : List O) (s t u : S) → Outputs step s lines outs t → part u ≡ part s → Alike u (filter about lines) t
  alike [] outs s t u run same = ([], u, (refl, refl), same ∙ ap part (sym run.1))
  alike (line ∷ lines) outs s t u run same = by (about line) refl (λ v h. alike lines run.1 run.2 t v run.5 h)
    where
      by : (b : Bool) → about line ≡ b → ((v : S) → part v ≡ part run.2 → Alike v (filter about lines) t) → Alike u (filter about (line ∷ lines)) t
      by true h more =
          let one = answers s line run.0 run.2 u run.4 h same in
          let rest = more one.0 one.2 in
          rw h (run.0 ∷ rest.0, rest.1, (run.0, rest.0, one.0, refl, one.1, rest.2), rest.3)
      by false h more = rw h (more u (same ∙ sym (leaves s line run.0 run.2 run.4 h)))

  pub depends_on : (start : S) → DependsOn step start about
  depends_on start before outs mid line out end run one h =
      let own = alike before outs start mid start run refl in
      let last = answers mid line out end own.1 one h own.3 in
      (own.0, own.1, last.0, own.2, last.1)
