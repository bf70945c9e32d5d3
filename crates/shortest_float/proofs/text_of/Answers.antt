use Rattle.std.proofs.Common.{◌≡◌, ◌%◌, ◌^◌, ◌++◌, length, T, codes, to_bits, nat_le, sym, ap, ◌∙◌, subst, arith, IsAscii}
use Rattle.std.proofs.lemmas.Fmt.{decimal_nonempty, length-decimal-le}
use Rattle.std.specs.Float.{binary64}
use Rattle.std.specs.Fmt.{sign_text}
use Rattle.shortest_float.specs.Decimals.{size_bits}
use Rattle.shortest_float.specs.Layout.{layout}
use Rattle.shortest_float.proofs.Values.{finite_bits, zero_law, decimal_law, fewest_law, closest_law}
use Rattle.shortest_float.proofs.text_of.Goals as goal

pub returns-then-bits-eq0-clause-bytes : goal.returns-then-bits-eq0-clause-bytes
returns-then-bits-eq0-clause-bytes c =
    let raw = c.f64_to_bits_with_nan-raw.ensures in
    let none : size_bits c.args.x ≡ 0 = ap (λ r. r % 2 ^ 63) (sym raw) ∙ c.if-bits-eq0.true in
    let law = zero_law c.args.x (subst T (sym c.well_formed.0.1) tt) c.requires none in
    c.push_str.ensures.bytes ∙ ap (λ l. l ++ codes "0.0") (c.sign_text-text.ensures ∙ ap (λ r. sign_text (nat_le (2 ^ 63) r)) raw) ∙ law.0

pub returns-then-bits-eq0-clause-number : goal.returns-then-bits-eq0-clause-number
returns-then-bits-eq0-clause-number c =
    let raw = c.f64_to_bits_with_nan-raw.ensures in
    let none : size_bits c.args.x ≡ 0 = ap (λ r. r % 2 ^ 63) (sym raw) ∙ c.if-bits-eq0.true in
    (zero_law c.args.x (subst T (sym c.well_formed.0.1) tt) c.requires none).1

pub of_bits-requires : goal.of_bits-requires
of_bits-requires c =
    let raw = c.f64_to_bits_with_nan-raw.ensures in
    let finite = finite_bits c.args.x (subst T (sym c.well_formed.0.1) tt) c.requires in
    rw raw (omega (arith, rw raw at c.if-bits-eq0.false), finite)

pub push_layout-requires-clause-digits : goal.push_layout-requires-clause-digits
push_layout-requires-clause-digits c =
    let d = c.shortest_decimal-decimal.result.digits in
    let range = c.shortest_decimal-decimal.ensures.range in
    let text = ap length c.format.ensures.text in
    (omega (arith, text, decimal_nonempty d (omega arith)), omega (arith, text, length-decimal-le 18 d (omega arith) range.1 (omega arith)), c.format.ensures.ascii)

pub returns-clause-bytes : goal.returns-clause-bytes
returns-clause-bytes c =
    let raw = c.f64_to_bits_with_nan-raw.ensures in
    let s = c.of_bits in
    let d = c.shortest_decimal-decimal in
    let same : s.result.bits ≡ size_bits c.args.x = s.ensures.same ∙ ap (λ r. r % 2 ^ 63) raw in
    let range = d.ensures.range in
    let finite = subst (λ b. Rattle.shortest_float.specs.Sizes.IsFinite b s.result.significand s.result.exponent) (sym s.ensures.same) s.ensures.finite in
    let law = decimal_law c.args.x s.result.significand s.result.exponent s.result.bits d.result.digits d.result.power (subst T (sym c.well_formed.0.1) tt) c.requires same finite d.ensures.power d.ensures.digits range.0 range.1 range.2 in
    c.push_layout.ensures.bytes
    ∙ ap (λ l. l ++ layout c.format.result.now d.result.power) (c.sign_text-text.ensures ∙ ap (λ r. sign_text (nat_le (2 ^ 63) r)) raw)
    ∙ ap (λ l. sign_text (nat_le (2 ^ 63) (to_bits binary64 c.args.x)) ++ layout l d.result.power) c.format.ensures.text
    ∙ law.0

pub returns-clause-number : goal.returns-clause-number
returns-clause-number c =
    let raw = c.f64_to_bits_with_nan-raw.ensures in
    let s = c.of_bits in
    let d = c.shortest_decimal-decimal in
    let same : s.result.bits ≡ size_bits c.args.x = s.ensures.same ∙ ap (λ r. r % 2 ^ 63) raw in
    let range = d.ensures.range in
    let finite = subst (λ b. Rattle.shortest_float.specs.Sizes.IsFinite b s.result.significand s.result.exponent) (sym s.ensures.same) s.ensures.finite in
    (decimal_law c.args.x s.result.significand s.result.exponent s.result.bits d.result.digits d.result.power (subst T (sym c.well_formed.0.1) tt) c.requires same finite d.ensures.power d.ensures.digits range.0 range.1 range.2).1

pub returns-clause-ascii : goal.returns-clause-ascii
returns-clause-ascii c =
    let raw = c.f64_to_bits_with_nan-raw.ensures in
    let s = c.of_bits in
    let d = c.shortest_decimal-decimal in
    let same : s.result.bits ≡ size_bits c.args.x = s.ensures.same ∙ ap (λ r. r % 2 ^ 63) raw in
    let range = d.ensures.range in
    let finite = subst (λ b. Rattle.shortest_float.specs.Sizes.IsFinite b s.result.significand s.result.exponent) (sym s.ensures.same) s.ensures.finite in
    let law = decimal_law c.args.x s.result.significand s.result.exponent s.result.bits d.result.digits d.result.power (subst T (sym c.well_formed.0.1) tt) c.requires same finite d.ensures.power d.ensures.digits range.0 range.1 range.2 in
    let bytes =
    c.push_layout.ensures.bytes
    ∙ ap (λ l. l ++ layout c.format.result.now d.result.power) (c.sign_text-text.ensures ∙ ap (λ r. sign_text (nat_le (2 ^ 63) r)) raw)
    ∙ ap (λ l. sign_text (nat_le (2 ^ 63) (to_bits binary64 c.args.x)) ++ layout l d.result.power) c.format.ensures.text
    ∙ law.0 in
    subst IsAscii (sym bytes) law.2

pub returns-then-bits-eq0-clause-fewest : goal.returns-then-bits-eq0-clause-fewest
returns-then-bits-eq0-clause-fewest c some power digits count e few =
    let raw = c.f64_to_bits_with_nan-raw.ensures in
    let none : size_bits c.args.x ≡ 0 = ap (λ r. r % 2 ^ 63) (sym raw) ∙ c.if-bits-eq0.true in
    absurd (omega arith)

pub returns-clause-fewest : goal.returns-clause-fewest
returns-clause-fewest c =
    let raw = c.f64_to_bits_with_nan-raw.ensures in
    let s = c.of_bits in
    let same : s.result.bits ≡ size_bits c.args.x = s.ensures.same ∙ ap (λ r. r % 2 ^ 63) raw in
    let finite = subst (λ b. Rattle.shortest_float.specs.Sizes.IsFinite b s.result.significand s.result.exponent) (sym s.ensures.same) s.ensures.finite in
    fewest_law c.args.x s.result.significand s.result.exponent s.result.bits (subst T (sym c.well_formed.0.1) tt) c.requires same finite

pub returns-then-bits-eq0-clause-closest : goal.returns-then-bits-eq0-clause-closest
returns-then-bits-eq0-clause-closest c some digits e =
    let raw = c.f64_to_bits_with_nan-raw.ensures in
    let none : size_bits c.args.x ≡ 0 = ap (λ r. r % 2 ^ 63) (sym raw) ∙ c.if-bits-eq0.true in
    absurd (omega arith)

pub returns-clause-closest : goal.returns-clause-closest
returns-clause-closest c =
    let raw = c.f64_to_bits_with_nan-raw.ensures in
    let s = c.of_bits in
    let same : s.result.bits ≡ size_bits c.args.x = s.ensures.same ∙ ap (λ r. r % 2 ^ 63) raw in
    let finite = subst (λ b. Rattle.shortest_float.specs.Sizes.IsFinite b s.result.significand s.result.exponent) (sym s.ensures.same) s.ensures.finite in
    closest_law c.args.x s.result.significand s.result.exponent s.result.bits (subst T (sym c.well_formed.0.1) tt) c.requires same finite
