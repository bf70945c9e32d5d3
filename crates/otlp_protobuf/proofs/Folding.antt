-- A message is a fold over its fields.
-- For merged_is_fold, and for requests in a row.
use Rattle.std.proofs.Common.{◌≡◌, ℕ, zero, suc, ◌<◌, ◌≤◌, List, [], ◌∷◌, length, Result, Ok, Err, refl, sym, ◌∙◌, subst, arith}
use Rattle.std.specs.Prelude.{IsErr}
use Rattle.protobuf_wire.specs.declared.fault.WireFault.{WireFault}
use Rattle.protobuf_wire.specs.Wire.{Field, Reading, next_field, fields_of}
use Rattle.protobuf_wire.specs.Wire as wire
use Rattle.protobuf_wire.proofs.Steps.{no_field, first_field, first_fault}
use Rattle.otlp_protobuf.specs.Kinds.{Read, ◌>>=◌, merged}
use Rattle.otlp_protobuf.specs.Laws.{fold_fields}
use Rattle.otlp_protobuf.proofs.Merging.{then_same, merged-none, merged-first, merged-fault}

-- what fields make of a message, or that there are none
abbrev Told : {S : Type 0} → (S → Field → Read S) → S → List ℕ → Result (List Field) WireFault → Type 0
Told step s bytes (Ok fs) = merged step s bytes ≡ fold_fields step s fs
Told step s bytes (Err e) = IsErr (merged step s bytes)

err_then : {S : Type 0} (r : Read S) (f : S → Read S) → ((t : S) → IsErr (f t)) → IsErr (r >>= f)
err_then (Ok t) f h = h t
err_then (Err e) f h = refl

told_first : {S : Type 0} (step : S → Field → Read S) (s : S) (bytes : List ℕ) (f : Field) (rest : List ℕ) (q : Result (List Field) WireFault)
    → merged step s bytes ≡ (step s f >>= λ t. merged step t rest) → ((t : S) → Told step t rest q) → Told step s bytes (wire.◌>>=◌ q (λ fs. Ok (f ∷ fs)))
unfolding fold_fields
told_first step s bytes f rest (Ok fs) e h = e ∙ then_same (step s f) (λ t. merged step t rest) (λ t. fold_fields step t fs) h
told_first step s bytes f rest (Err x) e h = let P : Read _ → Type 0 = λ r. IsErr r in subst P (sym e) (err_then (step s f) (λ t. merged step t rest) h)

told_by : {S : Type 0} (step : S → Field → Read S) (s : S) (bytes : List ℕ) (r : Reading Field) → 0 < length bytes → next_field bytes ≡ r
    → ((t : S) (rest : List ℕ) → length rest < length bytes → Told step t rest (fields_of rest)) → Told step s bytes (fields_of bytes)
told_by step s bytes (Ok x) h e more =
    let here = first_field bytes x.0 x.1 h e in
    let P : Result (List Field) WireFault → Type 0 = Told step s bytes in
    subst P (sym here.0) (told_first step s bytes x.0 x.1 (fields_of x.1) (merged-first step s bytes x.0 x.1 h e) (λ t. more t x.1 here.1))
told_by step s bytes (Err x) h e more =
    let P : Result (List Field) WireFault → Type 0 = Told step s bytes in
    let Q : Read _ → Type 0 = λ r. IsErr r in
    subst P (sym (first_fault bytes x h e)) (subst Q (sym (merged-fault step s bytes x h e)) refl)

told_in : {S : Type 0} (n : ℕ) (step : S → Field → Read S) (s : S) (bytes : List ℕ) → length bytes ≤ n → Told step s bytes (fields_of bytes)
unfolding fold_fields
told_in n step s [] h = let P : Result (List Field) WireFault → Type 0 = Told step s [] in subst P (sym (no_field [] refl)) (merged-none step s)
told_in zero step s (b ∷ bytes) h = absurd (omega arith)
told_in (suc n) step s (b ∷ bytes) h = told_by step s (b ∷ bytes) (next_field (b ∷ bytes)) (omega arith) refl (λ t rest l. told_in n step t rest (omega arith))

pub merged_is_fold : {S : Type 0} (step : S → Field → Read S) (s : S) (bytes : List ℕ) (fs : List Field) → fields_of bytes ≡ Ok fs → merged step s bytes ≡ fold_fields step s fs
merged_is_fold step s bytes fs e = let P : Result (List Field) WireFault → Type 0 = Told step s bytes in subst P e (told_in (length bytes) step s bytes (omega arith))

pub nothing_is_merged : {S : Type 0} (step : S → Field → Read S) (s : S) (bytes : List ℕ) (e : WireFault) → fields_of bytes ≡ Err e → IsErr (merged step s bytes)
nothing_is_merged step s bytes e h = let P : Result (List Field) WireFault → Type 0 = Told step s bytes in subst P h (told_in (length bytes) step s bytes (omega arith))
