-- One token more that is counted.
-- For byte_sink.rt.
use Rattle.std.proofs.Common.{◌≡◌, ℕ, ◌+◌, ◌*◌, ◌/◌, ◌%◌, ◌<◌, ◌==◌, zero, suc, get_or, slice_index, replicate, Bool, true, false, ◌&&◌, cond, length, List, [], ◌∷◌, ◌++◌, refl, ap, ◌∙◌, length-append, arith, inl, inr}
use Rattle.std.proofs.lemmas.Bool.{and_parts, cases_lt, eqb-true}
use Rattle.std.proofs.lemmas.List.Concat.{flat_map-append}
use Rattle.base64.specs.Engines.{standard}
use Rattle.base64.specs.GeneralPurpose.{encode_of}
use Rattle.base64.specs.Rfc4648.{encode_symbols, encoded_size, padding_len}
use Rattle.json.specs.Token.{Token}
use Rattle.json.specs.Print.{token_text, begins, separator, print_from, escape, escape_byte}
use Rattle.span_size.specs.Counting.{capped, IsOf}
use Rattle.span_size.proofs.Escapes.{escaped}
use Rattle.block_json.specs.declared.byte_sink.ByteSink.{ByteSink}
use Rattle.block_json.specs.Counting.{Counts}

-- one token: its text, and the comma before it
printed-one : (b : Bool) (t : Token) → length (print_from b (t ∷ [])) ≡ cond (b && begins t) 1 0 + length (token_text t)
unfolding print_from
printed-one b t =
    let e = length-append (separator b t) (token_text t ++ []) in
    let k = length-append (token_text t) [] in
    let comma = length-separator (b && begins t) in
    omega (arith, e, k, comma)
  where
    length-separator : (c : Bool) → length {A = ℕ} (cond c (44 ∷ []) []) ≡ cond c 1 0
    length-separator true = refl
    length-separator false = refl

-- a token is counted with its comma
pub token-added : (a b : ByteSink) (t : Token) (bytes : ℕ) (begins_value ends_value : Bool) → IsOf t bytes begins_value ends_value
    → b.bytes ≡ capped (capped (a.bytes + cond (a.after_value && begins_value) 1 0) + bytes) → b.after_value ≡ ends_value → Counts a b (t ∷ [])
token-added a b t bytes begins_value ends_value is sum place =
    let one = printed-one a.after_value t in
    let comma = ap (λ (c : Bool). cond {A = ℕ} (a.after_value && c) 1 0) is.begin in
    record {
      bytes = λ n h. omega (arith, sum, one, comma, is.size, h);
      place = place ∙ is.end;
    }

-- ---- base64 texts

abbrev symbols : List ℕ
symbols = standard.encode_table

abbrev is_plain_symbol : ℕ → Bool
is_plain_symbol d = length (escape_byte (slice_index symbols d)) == 1

abbrev are_plain_symbols : ℕ → Bool
are_plain_symbols zero = true
are_plain_symbols (suc n) = is_plain_symbol n && are_plain_symbols n

plain-symbol : (n d : ℕ) → are_plain_symbols n ≡ true → d < n → length (escape_byte (slice_index symbols d)) ≡ 1
plain-symbol zero d h lt = absurd (omega arith)
plain-symbol (suc n) d h lt =
    let parts = and_parts (is_plain_symbol n) (are_plain_symbols n) h in
    elim (cases_lt d n) [
      | inl below ↦ plain-symbol n d parts.1 below
      | inr top ↦ let e : d ≡ n = omega arith in rw e (eqb-true (length (escape_byte (slice_index symbols n))) 1 parts.0)
    ]

all-plain : are_plain_symbols 64 ≡ true
unfolding escape_byte
all-plain = refl

escaped-cons : (x : ℕ) (s : List ℕ) → escaped (x ∷ s) ≡ length (escape_byte x) + escaped s
escaped-cons x s = length-append (escape_byte x) (escape s)

symbol : (d : ℕ) (s : List ℕ) → d < 64 → escaped (slice_index symbols d ∷ s) ≡ 1 + escaped s
symbol d s h = let e = plain-symbol 64 d all-plain h in let c = escaped-cons (slice_index symbols d) s in omega (arith, e, c)

-- the symbols of n bytes
abbrev symbols_len : ℕ → ℕ
symbols_len n = (4 * n + 2) / 3

escaped-symbols : (m : List ℕ) → ((i : ℕ) → get_or m i 0 < 256) → escaped (encode_symbols symbols m) ≡ symbols_len (length m)
unfolding encode_symbols
escaped-symbols [] h = refl
escaped-symbols (a ∷ []) h =
    let fa : a < 256 = h 0 in
    let one = symbol (a / 4) (slice_index symbols (a % 4 * 16) ∷ []) (omega (arith, fa)) in
    let two = symbol (a % 4 * 16) [] (omega (arith, fa)) in
    omega (arith, one, two)
escaped-symbols (a ∷ b ∷ []) h =
    let fa : a < 256 = h 0 in
    let fb : b < 256 = h 1 in
    let one = symbol (a / 4) (slice_index symbols (a % 4 * 16 + b / 16) ∷ slice_index symbols (b % 16 * 4) ∷ []) (omega (arith, fa)) in
    let two = symbol (a % 4 * 16 + b / 16) (slice_index symbols (b % 16 * 4) ∷ []) (omega (arith, fb)) in
    let three = symbol (b % 16 * 4) [] (omega (arith, fb)) in
    omega (arith, one, two, three)
escaped-symbols (a ∷ b ∷ c ∷ rest) h =
    let fa : a < 256 = h 0 in
    let fb : b < 256 = h 1 in
    let fc : c < 256 = h 2 in
    let more = escaped-symbols rest (λ i. h (suc (suc (suc i)))) in
    let left = encode_symbols symbols rest in
    let one = symbol (a / 4) (slice_index symbols (a % 4 * 16 + b / 16) ∷ slice_index symbols (b % 16 * 4 + c / 64) ∷ slice_index symbols (c % 64) ∷ left) (omega (arith, fa)) in
    let two = symbol (a % 4 * 16 + b / 16) (slice_index symbols (b % 16 * 4 + c / 64) ∷ slice_index symbols (c % 64) ∷ left) (omega (arith, fb)) in
    let three = symbol (b % 16 * 4 + c / 64) (slice_index symbols (c % 64) ∷ left) (omega (arith, fc)) in
    let four = symbol (c % 64) left (omega (arith, fc)) in
    omega (arith, one, two, three, four, more)

plain_pad : length (escape_byte 61) ≡ 1
unfolding escape_byte
plain_pad = refl

escaped-pads : (n : ℕ) → escaped (replicate n 61) ≡ n
escaped-pads zero = refl
escaped-pads (suc n) = let more = escaped-pads n in let c = escaped-cons 61 (replicate n 61) in let p = plain_pad in omega (arith, more, c, p)

-- no symbol has an escape
pub escaped-base64 : (m : List ℕ) → ((i : ℕ) → get_or m i 0 < 256) → escaped (encode_of standard m) ≡ encoded_size (length m) true
escaped-base64 m h =
    let s = escaped-symbols m h in
    let p = escaped-pads (padding_len (length m)) in
    let both : escaped (encode_of standard m) ≡ escaped (encode_symbols symbols m) + escaped (replicate (padding_len (length m)) 61)
    = ap length (flat_map-append escape_byte (encode_symbols symbols m) (replicate (padding_len (length m)) 61)) ∙ length-append (escape (encode_symbols symbols m)) (escape (replicate (padding_len (length m)) 61)) in
    omega (arith, s, p, both)
