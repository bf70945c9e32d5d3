use Rattle.std.proofs.Common.{zero, suc, add-one, pow-suc, ◌≡◌, ℕ, ◌+◌, ◌-◌, ◌*◌, ◌^◌, ◌<◌, List, [], ◌∷◌, length, get_or, take, true, false, Bool, arith, refl}
use Rattle.std.proofs.lemmas.Str.{digit_value_digit}
use Rattle.std.proofs.lemmas.Int.Digits.{digits_value_more}
use Rattle.std.specs.Char.{is_ascii_digit, digit_value}
use Rattle.std.specs.Int.{IsInRange}
use Rattle.std.specs.List.{list_all}
use Rattle.std.specs.Prelude.{◌&&◌}
use Rattle.std.specs.Str.Parse.{digits_value}
use Rattle.tsc_script.proofs.grammar.value_of.Goals as goal

both : (a b : Bool) → (a && b) ≡ true → (a ≡ true) × (b ≡ true)
both true b e = (refl, e)
both false b e = cc

in_range : (c : ℕ) → is_ascii_digit c ≡ true → IsInRange 48 57 c
in_range c e = grind arith

digit : (xs : List ℕ) (i : ℕ) → list_all is_ascii_digit xs ≡ true → i < length xs → IsInRange 48 57 (get_or xs i 0)
digit [] i e h = absurd (omega arith)
digit (x ∷ xs) zero e h = in_range x (both (is_ascii_digit x) _ e).0
digit (x ∷ xs) (suc i) e h = digit xs i (both (is_ascii_digit x) _ e).1 (omega arith)

pub overflow_sub-byte : goal.overflow_sub-byte
overflow_sub-byte c = (digit c.args.text.now c.loop-byte.byte-index c.requires.digits c.loop-byte-test.true).0

step : (xs : List ℕ) (i value d : ℕ) → i < length xs → IsInRange 48 57 (get_or xs i 0) → d ≡ get_or xs i 0 - 48 → value ≡ digits_value 10 (take i xs)
    → value * 10 + d ≡ digits_value 10 (take (i + 1) xs)
step xs i value d h r e v =
    let w : digit_value (get_or xs i 0) + 48 ≡ get_or xs i 0 = digit_value_digit _ r in
    let t : digits_value 10 (take (i + 1) xs) ≡ digits_value 10 (take i xs) * 10 + digit_value (get_or xs i 0) = digits_value_more 10 xs i h in
    omega (arith, w, t, e, v)

bound : (value d i : ℕ) → value < 10 ^ i → d < 10 → value * 10 + d < 10 ^ (i + 1)
bound value d i h k = rw (add-one, pow-suc) (omega arith)

pub loop-byte-preserved : goal.loop-byte-preserved
loop-byte-preserved c =
    let r : IsInRange 48 57 (get_or c.args.text.now c.loop-byte.byte-index 0) = digit c.args.text.now c.loop-byte.byte-index c.requires.digits c.loop-byte-test.true in (
      step c.args.text.now c.loop-byte.byte-index c.loop-byte.value c.from.result c.loop-byte-test.true r c.from.ensures c.loop-byte.invariant.0,
      bound c.loop-byte.value c.from.result c.loop-byte.byte-index c.loop-byte.invariant.1 (omega (arith, c.from.ensures, r.1)),
    )
