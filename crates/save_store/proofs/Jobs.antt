-- A job after more bytes.
use Rattle.std.proofs.Common.{◌≡◌, ℕ, ◌+◌, List, [], ◌∷◌, ◌++◌, zero, suc, length, take, drop, refl, sym, ap, ◌∙◌, subst}
use Rattle.std.proofs.Math.Seq.{take-add}
use Rattle.std.proofs.lemmas.List.{drop-drop}
use Rattle.std.specs.Prelude.{Option}
use Rattle.host_io.specs.Past.{Past}
use Rattle.host_io.specs.declared.name.Name.{Name}
use Rattle.save_store.specs.Job.{Job, ReadsAs}

take_length : (c : ℕ) (ys : List ℕ) → take (length (take c ys)) ys ≡ take c ys
take_length zero ys = refl
take_length (suc c) [] = refl
take_length (suc c) (y ∷ ys) = ap (λ zs. y ∷ zs) (take_length c ys)

drop_length : (c : ℕ) (ys : List ℕ) → drop (length (take c ys)) ys ≡ drop c ys
drop_length zero ys = refl
drop_length (suc c) [] = refl
drop_length (suc c) (y ∷ ys) = drop_length c ys

abbrev pub job_with : Name → List ℕ → List ℕ → Job
job_with temp written left = record { temp = temp; written = written; left = left }

pub stepped : (temp : Name) (bytes : List ℕ) (done count n : ℕ) → n ≡ length (take count (drop done bytes))
    → job_with temp (take (done + n) bytes) (drop (done + n) bytes)
    ≡ job_with temp (take done bytes ++ take count (drop done bytes)) (drop count (drop done bytes))
stepped t xs d c n is =
    subst (λ m. job_with t (take (d + m) xs) (drop (d + m) xs)
    ≡ job_with t (take d xs ++ take c (drop d xs)) (drop c (drop d xs))) (sym is)
    (ap (λ w. job_with t w (drop (d + length (take c (drop d xs))) xs))
    (take-add d (length (take c (drop d xs))) xs ∙ ap (λ ys. take d xs ++ ys) (take_length c (drop d xs)))
    ∙ ap (λ l. job_with t (take d xs ++ take c (drop d xs)) l)
    (sym (drop-drop (length (take c (drop d xs))) d xs) ∙ drop_length c (drop d xs)))

-- what is written of a job, said of a job that is equal
pub reads_as : (past : Option Past) (j k : Job) → j ≡ k → ReadsAs j.temp j.written past → ReadsAs k.temp k.written past
reads_as past j k e = subst (λ (x : Job). ReadsAs x.temp x.written past) e

-- the bytes that come next, in a list that is equal
pub next_same : (past : Option Past) (temp : Name) (written xs ys : List ℕ) (n : ℕ) → xs ≡ ys
    → ReadsAs temp (written ++ take n xs) past → ReadsAs temp (written ++ take n ys) past
next_same past temp written xs ys n e = subst (λ zs. ReadsAs temp (written ++ take n zs) past) e
