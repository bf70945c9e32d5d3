-- Where two readings of one script stop at the same line, the same was played.
-- For the contract of `calm_stops_agree`.
use Rattle.std.proofs.Common.{◌≡◌, ℕ, suc, ◌+◌, List, [], ◌∷◌, ◌++◌, length, Option, Some, None, Result, Ok, Err, ◌⊎◌, inl, inr, refl, ap, sym, subst, ◌∙◌, append-nil, arith}
use Rattle.std.specs.Io.KnownBytes.{Consumes}
use Rattle.std.proofs.lemmas.List.{append_assoc, length-append}
use Rattle.tsc_script.specs.Lines.{lines_of}
use Rattle.tsc_script.specs.Instructions.{Instruction, receive, tick, close, instruction_of}
use Rattle.tsc_script.specs.Script.{with_first, with_all_first, after_line, instructions_from, instructions_of}
use Rattle.tsc_script.specs.Progress.{Begins, Closes, StopsAt}

abbrev Said : Type 0
Said = Result (List Instruction) ℕ

all-first-ok : (done rest : List Instruction) → with_all_first done (Ok rest) ≡ Ok (done ++ rest)
all-first-ok [] rest = refl
all-first-ok (i ∷ done) rest = ap (with_first i) (all-first-ok done rest)

all-first-err : (done : List Instruction) (k : ℕ) → with_all_first done (Err k) ≡ Err k
all-first-err [] k = refl
all-first-err (i ∷ done) k = ap (with_first i) (all-first-err done k)

ok-is : (a b : List Instruction) → ◌≡◌ {A = Said} (Ok a) (Ok b) → a ≡ b
ok-is a b h = cc

ok-not-err : (a : List Instruction) (k : ℕ) → ◌≡◌ {A = Said} (Ok a) (Err k) → ⊥
ok-not-err a k h = cc

-- instructions end by a close, so there are some
with-first-some : (i : Instruction) (r : Said) → with_first i r ≡ Ok [] → ⊥
with-first-some i (Ok xs) h = cc
with-first-some i (Err k) h = cc

after-some : (k : ℕ) (o : Option Instruction) (ls : List (List ℕ)) (r : Said) → after_line k o ls r ≡ Ok [] → ⊥
after-some k None ls r h = cc
after-some k (Some close) [] r h = cc
after-some k (Some close) (l ∷ ls) r h = cc
after-some k (Some (receive c m j)) ls r h = with-first-some (receive c m j) r h
after-some k (Some (tick m)) ls r h = with-first-some (tick m) r h

from-some : (k : ℕ) (ls : List (List ℕ)) → instructions_from k ls ≡ Ok [] → ⊥
from-some k [] h = cc
from-some k (l ∷ ls) h = after-some k (instruction_of l) ls (instructions_from (k + 1) ls) h

-- ---- parts of one list

not-two : {X : Type 0} (x : X) (xs : List X) → [] ≡ x ∷ xs → ⊥
not-two x xs h = cc

same-first : {X : Type 0} (x y : X) (xs ys : List X) → x ∷ xs ≡ y ∷ ys → x ≡ y
same-first x y xs ys h = cc

same-rest : {X : Type 0} (x y : X) (xs ys : List X) → x ∷ xs ≡ y ∷ ys → xs ≡ ys
same-rest x y xs ys h = cc

same-head : {X : Type 0} (x y : X) (xs ys : List X) → x ∷ xs ≡ y ∷ ys → (x ≡ y) × (xs ≡ ys)
same-head x y xs ys h = (same-first x y xs ys h, same-rest x y xs ys h)

same-front : {X : Type 0} (xs ys us vs : List X) → length xs ≡ length ys → xs ++ us ≡ ys ++ vs → xs ≡ ys
same-front [] [] us vs l h = refl
same-front [] (y ∷ ys) us vs l h = absurd (omega (arith, l))
same-front (x ∷ xs) [] us vs l h = absurd (omega (arith, l))
same-front (x ∷ xs) (y ∷ ys) us vs l h =
    let w = same-head x y (xs ++ us) (ys ++ vs) h in
    ap (λ z. z ∷ xs) w.0 ∙ ap (λ zs. y ∷ zs) (same-front xs ys us vs (omega (arith, l)) w.1)

empty : {X : Type 0} (xs : List X) → length xs ≡ 0 → xs ≡ []
empty [] h = refl
empty (x ∷ xs) h = absurd (omega (arith, h))

-- one of two fronts goes on as the other
abbrev Longer : (xs ys : List ℕ) → Type 0
Longer xs ys = (d : List ℕ) × (ys ≡ xs ++ d)

fronts : (xs ys us vs : List ℕ) → xs ++ us ≡ ys ++ vs → Longer xs ys ⊎ Longer ys xs
fronts [] ys us vs h = inl (ys, refl)
fronts (x ∷ xs) [] us vs h = inr (x ∷ xs, refl)
fronts (x ∷ xs) (y ∷ ys) us vs h =
    let w = same-head x y (xs ++ us) (ys ++ vs) h in
    elim (fronts xs ys us vs w.1) [
      | inl d ↦ inl (d.0, ap (λ z. z ∷ ys) (sym w.0) ∙ ap (λ zs. x ∷ zs) d.1)
      | inr d ↦ inr (d.0, ap (λ z. z ∷ xs) w.0 ∙ ap (λ zs. y ∷ zs) d.1)
    ]

part : (script : List ℕ) (after : Option (List ℕ)) (xs : List ℕ) → Consumes (Some script) after xs → (more : List ℕ) × (script ≡ xs ++ more)
part script None xs c = absurd c
part script (Some ys) xs c = (ys, c)

part-of : (script : List ℕ) (after : Option (List ℕ)) (used ahead : List ℕ) → Consumes (Some script) after (used ++ ahead) → (more : List ℕ) × (script ≡ used ++ more)
part-of script after used ahead c = let w = part script after (used ++ ahead) c in (ahead ++ w.0, w.1 ∙ append_assoc used ahead w.0)

-- ---- what was read

begun : {before after : Option (List ℕ)} {done : List Instruction} (b : Begins before after done) → instructions_of b.used ≡ Ok (done ++ close ∷ [])
begun {done = done} b = ap instructions_of (sym (append-nil b.used)) ∙ b.says_first [] ∙ all-first-ok done (close ∷ [])

-- what goes on behind the lines of these instructions says them first
goes-on : (done other : List Instruction) (r : Said) → Ok other ≡ with_all_first done r → (rest : List Instruction) × (r ≡ Ok rest) × (other ≡ done ++ rest)
goes-on done other (Ok rest) h = (rest, refl, ok-is other (done ++ rest) (h ∙ all-first-ok done rest))
goes-on done other (Err k) h = absurd (ok-not-err other k (h ∙ all-first-err done k))

behind : {before after : Option (List ℕ)} {done : List Instruction} (b : Begins before after done) (other : List Instruction) (longer : List ℕ) → Longer b.used longer → instructions_of longer ≡ Ok other →
    (k : ℕ) × (ls : List (List ℕ)) × (rest : List Instruction) × (instructions_from k ls ≡ Ok rest) × (other ≡ done ++ rest)
behind {done = done} b other longer d h =
    let w = goes-on done other (instructions_from (1 + length done) (lines_of d.0)) (sym h ∙ ap instructions_of d.1 ∙ b.says_first d.0) in
    (1 + length done, lines_of d.0, w.0, w.1, w.2)

one-shorter : (a b : List Instruction) → a ++ close ∷ [] ≡ b ++ close ∷ [] → length a ≡ length b
one-shorter a b h = let l = sym (length-append a (close ∷ [])) ∙ ap length h ∙ length-append b (close ∷ []) in omega (arith, l)

begins-begins : {script : List ℕ} {l r : Option (List ℕ)} {a b : List Instruction} → Begins (Some script) l a → Begins (Some script) r b → length a ≡ length b → a ≡ b
begins-begins {script} {l} {r} {a} {b} x y n =
    let p = part-of script l x.used x.ahead x.consumed in
    let q = part-of script r y.used y.ahead y.consumed in
    elim (fronts x.used y.used p.0 q.0 (sym p.1 ∙ q.1)) [
      | inl d ↦ let w = behind x (b ++ close ∷ []) y.used d (begun y) in same-front a b w.2 (close ∷ []) n (sym w.4)
      | inr d ↦ let w = behind y (a ++ close ∷ []) x.used d (begun x) in same-front a b (close ∷ []) w.2 n w.4
    ]

-- behind a close nothing is said
closed-longer : {before after : Option (List ℕ)} {done : List Instruction} (c : Closes before after done) (other : List Instruction) (longer : List ℕ) → Longer c.used longer → instructions_of longer ≡ Ok other → done ++ close ∷ [] ≡ other
closed-longer {done = done} c other longer d h = (elim d.0 as (λ e. longer ≡ c.used ++ e → done ++ close ∷ [] ≡ other) [
  | [] ↦ λ e. ok-is (done ++ close ∷ []) other (sym c.closes ∙ ap instructions_of (sym (append-nil c.used)) ∙ ap instructions_of (sym e) ∙ h)
  | x ∷ xs ↦ λ e. absurd (ok-not-err other (2 + length done) (sym h ∙ ap instructions_of e ∙ c.ended (x ∷ xs) (λ n. not-two x xs (sym n))))
]) d.1

closes-closes : {script : List ℕ} {l r : Option (List ℕ)} {a b : List Instruction} → Closes (Some script) l a → Closes (Some script) r b → a ++ close ∷ [] ≡ b ++ close ∷ []
closes-closes {script} {l} {r} {a} {b} x y =
    let p = part-of script l x.used x.ahead x.consumed in
    let q = part-of script r y.used y.ahead y.consumed in
    elim (fronts x.used y.used p.0 q.0 (sym p.1 ∙ q.1)) [
      | inl d ↦ closed-longer x (b ++ close ∷ []) y.used d y.closes
      | inr d ↦ sym (closed-longer y (a ++ close ∷ []) x.used d x.closes)
    ]

-- a close behind as many lines as were read elsewhere is said by no prefix of the script
begins-closes : {script : List ℕ} {l r : Option (List ℕ)} {a b : List Instruction} → Begins (Some script) l a → Closes (Some script) r b → length a ≡ suc (length b) → ⊥
begins-closes {script} {l} {r} {a} {b} x y n =
    let p = part-of script l x.used x.ahead x.consumed in
    let q = part-of script r y.used y.ahead y.consumed in
    elim (fronts x.used y.used p.0 q.0 (sym p.1 ∙ q.1)) [
      | inl d ↦
          let w = behind x (b ++ close ∷ []) y.used d y.closes in
          let total = sym (length-append b (close ∷ [])) ∙ ap length w.4 ∙ length-append a w.2 in
          let none : length w.2 ≡ 0 = omega (arith, total, n) in
          from-some w.0 w.1 (w.3 ∙ ap (λ (xs : List Instruction). Ok xs) (empty w.2 none))
      | inr d ↦ let m = one-shorter b a (closed-longer y (a ++ close ∷ []) x.used d (begun x)) in absurd (omega (arith, m, n))
    ]

suc-same : (m n k : ℕ) → k ≡ 1 + m → k ≡ 1 + n → m ≡ n
suc-same m n k h i = omega (arith, h, i)

suc-more : (m n k : ℕ) → k ≡ 1 + m → k ≡ 2 + n → m ≡ suc n
suc-more m n k h i = omega (arith, h, i)

-- what was played, and that it was
abbrev pub PlayedOne : (List Instruction → Type 0) → (List Instruction → Type 0) → Type 0
PlayedOne P Q = (played : List Instruction) × P played × Q played

pub stops_alike : (P Q : List Instruction → Type 0) (script : List ℕ) (l r : Option (List ℕ)) (number : ℕ) → StopsAt P (Some script) l number → StopsAt Q (Some script) r number → PlayedOne P Q
stops_alike P Q script l r number (inl x) (inl y) = (x.0, x.3, subst Q (sym (begins-begins x.1 y.1 (suc-same (length x.0) (length y.0) number x.2 y.2))) y.3)
stops_alike P Q script l r number (inl x) (inr y) = absurd (begins-closes x.1 y.1 (suc-more (length x.0) (length y.0) number x.2 y.2))
stops_alike P Q script l r number (inr x) (inl y) = absurd (begins-closes y.1 x.1 (suc-more (length y.0) (length x.0) number y.2 x.2))
stops_alike P Q script l r number (inr x) (inr y) = (x.0 ++ close ∷ [], x.3, subst Q (sym (closes-closes x.1 y.1)) y.3)
