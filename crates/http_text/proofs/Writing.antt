-- A text that is written by several writes.
-- For the contracts of `write_text` in the crates above.
use Rattle.std.proofs.Common.{◌≤◌, ◌+◌, ◌-◌, ◌++◌, ◌∙◌, ℕ, List, Option, take, drop, length, arith, ap, sym, subst, length-drop}
use Rattle.std.proofs.Math.Seq.{take-add}
use Rattle.std.proofs.lemmas.List.{take_rest}
use Rattle.std.specs.Io.KnownBytes.{Appends}
use Rattle.std.proofs.KnownBytes.{Appends-trans}

-- so many bytes were written, and then some of the rest
pub written_on : (a b c : Option (List ℕ)) (text : List ℕ) (at n : ℕ)
    → at ≤ length text → n ≤ length (take (length text - at) (drop at text))
    → Appends a b (take at text) → Appends b c (take n (take (length text - at) (drop at text)))
    → (at + n ≤ length text) × Appends a c (take (at + n) text)
written_on a b c text at n within bound before more =
    let rest = take_rest text at in (
      omega (arith, bound, ap length rest, length-drop at text, within),
      subst (Appends a c) (ap (λ l. take at text ++ take n l) rest ∙ sym (take-add at n text))
          (Appends-trans a b c (take at text) _ before more),
    )
