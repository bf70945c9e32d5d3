-- What a reader finds in a whole file.
use Rattle.std.proofs.Common.{◌≡◌, ℕ, true, List, [], ◌∷◌, ◌++◌, length, take, drop, refl, sym, ◌∙◌, ap, inl, inr, arith, append_assoc}
use Rattle.std.proofs.lemmas.Bool.{cond-true, cases_eq}
use Rattle.std.proofs.lemmas.Slice.Eq.{bytes_eq-Decides}
use Rattle.std.proofs.lemmas.Nat.{from_le_bytes-to_le_bytes_4}
use Rattle.std.proofs.lemmas.List.{append-nil, take_at, drop_at}
use Rattle.ledger_file.specs.Format.{Fits, frames, records_in, header, seed_of, parameters_of, is_ledger, records_of, front}
use Rattle.ledger_file.specs.Ledger.{EndsBehind, HasFirstOrBoth}
use Rattle.ledger_file.proofs.Found.{AllFit, in_frames, in_shut, frames-append, fit-append}

pub parameters-header : (parameters body : List ℕ) → Fits parameters → parameters_of (header parameters ++ body) ≡ parameters
unfolding parameters_of
parameters-header parameters body known = take_at parameters body _ (sym (from_le_bytes-to_le_bytes_4 (length parameters) (omega arith)))

pub ledger-header : (parameters body : List ℕ) → Fits parameters → is_ledger (header parameters ++ body) ≡ true
unfolding is_ledger
ledger-header parameters body known =
    let is = parameters-header parameters body known in
    (bytes_eq-Decides _ _).1 (ap (λ (p : List ℕ). take (length (header p)) (header parameters ++ body)) is ∙ take_at (header parameters) body _ refl ∙ ap header (sym is))

pub records-header : (parameters body : List ℕ) → Fits parameters → records_of (header parameters ++ body) ≡ records_in (seed_of parameters) body
unfolding records_of
records-header parameters body known =
    let is = parameters-header parameters body known in
    cond-true _ _ _ (ledger-header parameters body known)
    ∙ ap (λ (p : List ℕ). records_in (seed_of p) (drop (length (header p)) (header parameters ++ body))) is
    ∙ ap (records_in (seed_of parameters)) (drop_at (header parameters) body _ refl)

module _ (parameters : List ℕ) (known : Fits parameters) where
  pub records-front : (items : List (List ℕ)) (rest : List ℕ) → AllFit items → records_of (front parameters items ++ rest) ≡ items ++ records_in (seed_of parameters) rest
  records-front items rest fit =
      ap records_of (append_assoc (header parameters) (frames (seed_of parameters) items) rest)
      ∙ records-header parameters (frames (seed_of parameters) items ++ rest) known ∙ in_frames (seed_of parameters) items rest fit

  pub parameters-front : (items : List (List ℕ)) (rest : List ℕ) → parameters_of (front parameters items ++ rest) ≡ parameters
  parameters-front items rest =
      ap parameters_of (append_assoc (header parameters) (frames (seed_of parameters) items) rest)
      ∙ parameters-header parameters (frames (seed_of parameters) items ++ rest) known

  -- behind a shut gate nothing is found
  pub ends : (items : List (List ℕ)) (file : List ℕ) → AllFit items → EndsBehind (front parameters items) file → records_of file ≡ items
  ends items file fit (gate, rest, shut, is) =
      ap records_of is ∙ records-front items (gate ∷ rest) fit ∙ ap (λ (l : List (List ℕ)). items ++ l) (in_shut (seed_of parameters) gate rest shut) ∙ append-nil items

  pub named : (items : List (List ℕ)) (file : List ℕ) → EndsBehind (front parameters items) file → parameters_of file ≡ parameters
  named items file (gate, rest, shut, is) = ap parameters_of is ∙ parameters-front items (gate ∷ rest)

  pub front-append : (items more : List (List ℕ)) (rest : List ℕ) → front parameters items ++ (frames (seed_of parameters) more ++ rest) ≡ front parameters (items ++ more) ++ rest
  front-append items more rest =
      sym (append_assoc (front parameters items) (frames (seed_of parameters) more) rest)
      ∙ ap (λ (l : List ℕ). l ++ rest) (append_assoc (header parameters) (frames (seed_of parameters) items) (frames (seed_of parameters) more))
      ∙ ap (λ (l : List ℕ). header parameters ++ l ++ rest) (sym (frames-append (seed_of parameters) items more))

  -- a batch stands behind the gate, with a shut gate behind it: open or not, it is all found or none of it
  pub opened : (items more : List (List ℕ)) (tail rest file : List ℕ) → AllFit items → AllFit more
      → 1 ∷ tail ≡ frames (seed_of parameters) more ++ 0 ∷ [] → file ≡ front parameters items ++ 1 ∷ (tail ++ rest) → EndsBehind (front parameters (items ++ more)) file
  opened items more tail rest file fit fits whole is = (
    0,
    rest,
    (omega arith),
    is ∙ ap (λ (l : List ℕ). front parameters items ++ (l ++ rest)) whole
        ∙ ap (λ (l : List ℕ). front parameters items ++ l) (append_assoc (frames (seed_of parameters) more) (0 ∷ []) rest)
        ∙ front-append items more (0 ∷ rest),
  )

  pub either : (items more : List (List ℕ)) (gate : ℕ) (tail rest file : List ℕ) → AllFit items → AllFit more
      → 1 ∷ tail ≡ frames (seed_of parameters) more ++ 0 ∷ [] → file ≡ front parameters items ++ gate ∷ (tail ++ rest) → HasFirstOrBoth items more file
  either items more gate tail rest file fit fits whole is = elim (cases_eq gate 1) [
    | inl one ↦ inr (ends (items ++ more) file (fit-append items more fit fits) (opened items more tail rest file fit fits whole (is ∙ ap (λ (g : ℕ). front parameters items ++ g ∷ (tail ++ rest)) one)))
    | inr shut ↦ inl (ends items file fit (gate, tail ++ rest, shut, is))
  ]
