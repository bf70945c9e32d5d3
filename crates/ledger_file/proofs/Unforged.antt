-- What is found in torn bytes is a front of what was written, if none of them pass a checksum by chance: for `found_if_written`.
use Rattle.std.proofs.Common.{◌≡◌, ℕ, zero, suc, ◌+◌, ◌≤◌, true, false, List, ◌∷◌, ◌++◌, length, take, drop, sym, ◌∙◌, ap, ⊎_elim, arith, length-append, take-append-drop, drop-drop}
use Rattle.std.proofs.lemmas.Bool.{cases_Bool}
use Rattle.std.proofs.lemmas.List.{take_at}
use Rattle.ledger_file.specs.Format.{Fits, frame_head, frame, claimed, payload, is_whole, records_in, header, seed_of, records_of}
use Rattle.ledger_file.specs.Reading.{IsUnforged, IsPrefixOf}
use Rattle.ledger_file.proofs.Found.{begins, in_whole, in_broken, in_frame}
use Rattle.ledger_file.proofs.Whole.{records-header}

shifted : (seed m : ℕ) (left written : List ℕ) → IsUnforged seed left written → IsUnforged seed (drop m left) (drop m written)
shifted seed m left written un at whole =
    let same : drop at (drop m left) ≡ drop (m + at) left = drop-drop at m left in
    let also : drop at (drop m written) ≡ drop (m + at) written = drop-drop at m written in
    let here = un (m + at) (ap (is_whole seed) (sym same) ∙ whole) in
    ap (λ (l : List ℕ). take (9 + claimed (drop at (drop m left))) l) also
    ∙ ap (λ (l : List ℕ). take (9 + claimed l) (drop (m + at) written)) same ∙ here
    ∙ sym (ap (λ (l : List ℕ). take (9 + claimed l) l) same)

none : (seed : ℕ) (left written : List ℕ) → is_whole seed left ≡ false → IsPrefixOf (records_in seed left) (records_in seed written)
none seed left written broken = (records_in seed written, ap (λ (l : List (List ℕ)). l ++ records_in seed written) (sym (in_broken seed left broken)))

size_of : (seed : ℕ) (left : List ℕ) → is_whole seed left ≡ true → length left ≡ 9 + length (payload left) + length (drop (9 + claimed left) left)
size_of seed left whole =
    ap length (begins seed left whole).split ∙ length-append (frame seed (payload left)) (drop (9 + claimed left) left)
    ∙ ap (λ (k : ℕ). k + length (drop (9 + claimed left) left)) (length-append (frame_head seed (payload left)) (payload left))

-- a whole record stands in both
both : (seed : ℕ) (left written : List ℕ) → is_whole seed left ≡ true → IsUnforged seed left written → records_in seed written ≡ payload left ∷ records_in seed (drop (9 + claimed left) written)
both seed left written whole un =
    let b = begins seed left whole in
    let m = 9 + claimed left in
    let long : m ≡ length (frame seed (payload left)) = omega (arith, b.claims, length-append (frame_head seed (payload left)) (payload left)) in
    let front : take m written ≡ frame seed (payload left) =
    un 0 whole ∙ ap (take m) b.split ∙ take_at (frame seed (payload left)) (drop m left) m (sym long) in
    ap (records_in seed) (sym (take-append-drop m written) ∙ ap (λ (l : List ℕ). l ++ drop m written) front) ∙ in_frame seed (payload left) (drop m written) b.fits

within : (n seed : ℕ) (left written : List ℕ) → length left ≤ n → IsUnforged seed left written → IsPrefixOf (records_in seed left) (records_in seed written)
within zero seed left written short un = ⊎_elim
    (λ (whole : is_whole seed left ≡ true). let size = size_of seed left whole in absurd (omega arith))
    (none seed left written) (cases_Bool (is_whole seed left))
within (suc n) seed left written short un = ⊎_elim
    (λ (whole : is_whole seed left ≡ true).
    let size = size_of seed left whole in
    let m = 9 + claimed left in
    let rest = within n seed (drop m left) (drop m written) (omega arith) (shifted seed m left written un) in
    (rest.0, both seed left written whole un ∙ ap (λ (l : List (List ℕ)). payload left ∷ l) rest.1 ∙ ap (λ (l : List (List ℕ)). l ++ rest.0) (sym (in_whole seed left whole))))
    (none seed left written) (cases_Bool (is_whole seed left))

pub prefix : (parameters left written : List ℕ) → Fits parameters → IsUnforged (seed_of parameters) left written → IsPrefixOf (records_of (header parameters ++ left)) (records_of (header parameters ++ written))
prefix parameters left written known un =
    let p = within (length left) (seed_of parameters) left written (omega arith) un in
    (p.0, records-header parameters written known ∙ p.1 ∙ ap (λ (l : List (List ℕ)). l ++ p.0) (sym (records-header parameters left known)))
