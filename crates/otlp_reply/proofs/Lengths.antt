-- What a partial success says is short.
-- For the contract of `put_rejected`.
use Rattle.std.proofs.Common.{◌≡◌, ℕ, ◌+◌, ◌^◌, ◌<◌, ◌≤◌, List, ◌++◌, length, arith, append_assoc, codes}
use Rattle.std.specs.Prelude.{decimal}
use Rattle.std.proofs.lemmas.List.{length-append}
use Rattle.std.proofs.lemmas.Fmt.{length-decimal-le_wide}
use Rattle.otlp_reply.specs.Bodies.{partial_success}

-- texts put one behind the other
pub joined : (old a b c d e f g : List ℕ) → (((((((old ++ a) ++ b) ++ c) ++ d) ++ e) ++ f) ++ g) ≡ old ++ ((((((a ++ b) ++ c) ++ d) ++ e) ++ f) ++ g)
joined old a b c d e f g = simp append_assoc

length-joined : (a b c d e f : List ℕ) → length (a ++ b ++ c ++ d ++ e ++ f) ≡ length a + (length b + (length c + (length d + (length e + length f))))
length-joined a b c d e f = simp length-append (omega arith)

-- what a partial success says has at most 143 bytes, of which its three numbers have 20 each
pub partial_success-short : (invalid full : ℕ) → invalid < 2 ^ 64 → full < 2 ^ 64 → length (partial_success invalid full) ≤ 143
partial_success-short invalid full h k =
    let a = length-decimal-le_wide 20 invalid (omega arith) (omega (arith, h)) (omega (arith, h)) in
    let b = length-decimal-le_wide 20 full (omega arith) (omega (arith, k)) (omega (arith, k)) in
    let c = length-decimal-le_wide 20 (invalid + full) (omega arith) (omega (arith, h, k)) (omega (arith, h, k)) in
    let all = length-joined (decimal invalid) (codes ", queue full: ") (decimal full) (codes "\",\"rejectedSpans\":\"") (decimal (invalid + full)) (codes "\"}}") in
    omega (arith, a, b, c, all)
