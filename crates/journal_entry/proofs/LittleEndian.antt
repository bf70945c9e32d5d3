-- Numbers at the front of bytes.
-- For numbers::number_at and numbers::short_number_at.
use Rattle.std.proofs.Common.{◌≡◌, ℕ, ◌-◌, ◌≤◌, ◌<◌, List, [], ◌∷◌, length, take, drop, get_or, Ok, Err, cond, true, false, refl, sym, ◌∙◌, ap, arith, length-drop}
use Rattle.std.proofs.lemmas.List.{take_all}
use Rattle.std.proofs.lemmas.Bool.Decides.{nat_tests}
use Rattle.std.specs.Prelude.{nat_lt}
use Rattle.std.specs.Int.{w16, w64, from_le_bytes}
use Rattle.journal_entry.specs.declared.error.EntryError.TheVariants as faults
use Rattle.journal_entry.specs.Reading.{Front, number_at, short_number_at}

two_bytes : (s : List ℕ) → 2 ≤ length s → take 2 s ≡ get_or s 0 0 ∷ get_or s 1 0 ∷ []
two_bytes (a ∷ b ∷ s) h = refl
two_bytes [] h = absurd (omega arith)
two_bytes (a ∷ []) h = absurd (omega arith)

eight_bytes : (s : List ℕ) → 8 ≤ length s
    → take 8 s ≡ get_or s 0 0 ∷ get_or s 1 0 ∷ get_or s 2 0 ∷ get_or s 3 0 ∷ get_or s 4 0 ∷ get_or s 5 0 ∷ get_or s 6 0 ∷ get_or s 7 0 ∷ []
eight_bytes (a ∷ b ∷ c ∷ d ∷ e ∷ f ∷ g ∷ k ∷ s) h = refl
eight_bytes [] h = absurd (omega arith)
eight_bytes (a ∷ []) h = absurd (omega arith)
eight_bytes (a ∷ b ∷ []) h = absurd (omega arith)
eight_bytes (a ∷ b ∷ c ∷ []) h = absurd (omega arith)
eight_bytes (a ∷ b ∷ c ∷ d ∷ []) h = absurd (omega arith)
eight_bytes (a ∷ b ∷ c ∷ d ∷ e ∷ []) h = absurd (omega arith)
eight_bytes (a ∷ b ∷ c ∷ d ∷ e ∷ f ∷ []) h = absurd (omega arith)
eight_bytes (a ∷ b ∷ c ∷ d ∷ e ∷ f ∷ g ∷ []) h = absurd (omega arith)

pub cut_short : (s : List ℕ) → length s < 2 → short_number_at s ≡ Err faults.Short
unfolding short_number_at
cut_short s h = ap (λ b. let r : Front ℕ = cond b (Err faults.Short) (Ok (from_le_bytes w16 (take 2 s), drop 2 s)) in r) (let e : nat_lt (length s) 2 ≡ true = grind (arith, nat_tests) in e)

pub cut_long : (s : List ℕ) → length s < 8 → number_at s ≡ Err faults.Short
unfolding number_at
cut_long s h = ap (λ b. let r : Front ℕ = cond b (Err faults.Short) (Ok (from_le_bytes w64 (take 8 s), drop 8 s)) in r) (let e : nat_lt (length s) 8 ≡ true = grind (arith, nat_tests) in e)

pub read_short : (s : List ℕ) (n : ℕ) → 2 ≤ length s → n ≡ from_le_bytes w16 (get_or s 0 0 ∷ get_or s 1 0 ∷ [])
    → short_number_at s ≡ Ok (n, take (length s - 2) (drop 2 s))
unfolding short_number_at
read_short s n h e =
    ap (λ b. let r : Front ℕ = cond b (Err faults.Short) (Ok (from_le_bytes w16 (take 2 s), drop 2 s)) in r) (let e : nat_lt (length s) 2 ≡ false = grind (arith, nat_tests) in e)
    ∙ ap (λ m. let r : Front ℕ = Ok (m, drop 2 s) in r) (ap (from_le_bytes w16) (two_bytes s h) ∙ sym e)
    ∙ ap (λ left. let r : Front ℕ = Ok (n, left) in r) (sym (take_all (length s - 2) (drop 2 s) (omega (arith, length-drop 2 s))))

pub read_long : (s : List ℕ) (n : ℕ) → 8 ≤ length s
    → n ≡ from_le_bytes w64 (get_or s 0 0 ∷ get_or s 1 0 ∷ get_or s 2 0 ∷ get_or s 3 0 ∷ get_or s 4 0 ∷ get_or s 5 0 ∷ get_or s 6 0 ∷ get_or s 7 0 ∷ [])
    → number_at s ≡ Ok (n, take (length s - 8) (drop 8 s))
unfolding number_at
read_long s n h e =
    ap (λ b. let r : Front ℕ = cond b (Err faults.Short) (Ok (from_le_bytes w64 (take 8 s), drop 8 s)) in r) (let e : nat_lt (length s) 8 ≡ false = grind (arith, nat_tests) in e)
    ∙ ap (λ m. let r : Front ℕ = Ok (m, drop 8 s) in r) (ap (from_le_bytes w64) (eight_bytes s h) ∙ sym e)
    ∙ ap (λ left. let r : Front ℕ = Ok (n, left) in r) (sym (take_all (length s - 8) (drop 8 s) (omega (arith, length-drop 8 s))))
