-- Hex digits are text.
-- For paths::span_digits and paths::trace_digits.
use Rattle.std.proofs.Common.{◌≡◌, ℕ, ◌<◌, List, [], ◌∷◌, Bool, true, false, refl, arith}
use Rattle.std.specs.Prelude.{◌&&◌, nat_lt}
use Rattle.std.specs.List.{list_all}
use Rattle.std.proofs.lemmas.Bool.Decides.{nat_tests}
use Rattle.std.specs.Str.{IsAscii, IsUtf8}
use Rattle.std.proofs.lemmas.Str.{IsUtf8-from_ascii}
use Rattle.std.proofs.lemmas.Str.Ascii.{IsAscii-nil, IsAscii-cons}
use Rattle.hex.specs.Hex.{encode_lower, lower_digits}
use Rattle.hex.proofs.HexLemmas.{IsAscii-encode_with}

abbrev below : List ℕ → Bool
below bytes = list_all (λ b. nat_lt b 128) bytes

split : (a b : Bool) → (a && b) ≡ true → (a ≡ true) × (b ≡ true)
split true b e = (refl, e)
split false b e = cc

ascii-from : (bytes : List ℕ) → below bytes ≡ true → IsAscii bytes
ascii-from [] e = IsAscii-nil
ascii-from (b ∷ bytes) e =
    let parts = split (nat_lt b 128) (below bytes) e in
    let small : b < 128 = grind (arith, nat_tests, parts.0) in IsAscii-cons b bytes small (ascii-from bytes parts.1)

lower-ascii : IsAscii lower_digits
lower-ascii = ascii-from lower_digits refl

pub digits-utf8 : (bytes : List ℕ) → IsUtf8 (encode_lower bytes)
digits-utf8 bytes = IsUtf8-from_ascii _ (IsAscii-encode_with lower_digits bytes lower-ascii)
