-- Signed numbers and doubles that are written are read as themselves.
-- For the clauses `back` of what is written.
use Rattle.std.proofs.Common.{◌≡◌, suc, ◌-◌, ◌<◌, ◌%◌, ◌^◌, ℤ, pos, negsuc, Bool, true, false, refl, ◌∙◌, ap, arith, lit<}
use Rattle.std.specs.Prelude.{FitsSigned}
use Rattle.std.specs.Int.{w32, w64, cast_signed}
use Rattle.std.proofs.Math.Facts.{to_z-neg, to_z_pos, to_z-of_z}
use Rattle.otlp_protobuf.specs.Kinds.{int32, int64, truth}
use Rattle.otlp_protobuf_encode.specs.Writing.{int_bits, truth_bits}

pub int32-back : (z : ℤ) → FitsSigned w32 z → int32 (int_bits z) ≡ z
int32-back (pos n) h =
    let small : n < 2 ^ 31 = h.sfits in
    ap (cast_signed w32) (let e : n % 2 ^ 32 ≡ n = omega (arith, small) in e) ∙ to_z_pos w32 small
int32-back (negsuc n) h =
    let small : n < 2 ^ 31 = h.sfits in
    ap (cast_signed w32) (let e : (2 ^ 64 - suc n) % 2 ^ 32 ≡ 2 ^ 32 - suc n = omega (arith, small) in e) ∙ to_z-neg w32 n small

pub int64-back : (z : ℤ) → FitsSigned w64 z → int64 (int_bits z) ≡ z
int64-back z h = to_z-of_z h

pub bits64 : (z : ℤ) → FitsSigned w64 z → int_bits z < 2 ^ 64
bits64 (pos n) h = let small : n < 2 ^ 63 = h.sfits in omega (arith, small)
bits64 (negsuc n) h = let small : n < 2 ^ 63 = h.sfits in omega (arith, small)

pub bits32 : (z : ℤ) → FitsSigned w32 z → int_bits z < 2 ^ 64
bits32 (pos n) h = let small : n < 2 ^ 31 = h.sfits in omega (arith, small)
bits32 (negsuc n) h = let small : n < 2 ^ 31 = h.sfits in omega (arith, small)

pub truth-back : (b : Bool) → truth (truth_bits b) ≡ b
truth-back true = refl
truth-back false = refl

pub truth_small : (b : Bool) → truth_bits b < 2 ^ 64
truth_small true = lit< tt
truth_small false = lit< tt

-- only 0 is written as no bits
pub no_bits : (z : ℤ) → FitsSigned w32 z → int_bits z ≡ 0 → z ≡ pos 0
no_bits (pos n) h e = ap pos e
no_bits (negsuc n) h e = let small : n < 2 ^ 31 = h.sfits in absurd (omega (arith, small, e))
