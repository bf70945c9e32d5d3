-- The bytes that the text of an attribute of bytes stands for: base64, of which four letters are three bytes (OTLP 1.x, JSON
-- encoding; RFC 4648, 4). They end before the first byte of the text that is no letter, as `=`.
use Rattle.std.specs.Prelude.{ℕ, ◌+◌, ◌-◌, ◌*◌, ◌/◌, ◌%◌, ◌&&◌, ◌==◌, nat_le, List, [], ◌∷◌, Option, Some, None, if◌then◌else◌}
use Rattle.ottl_equality.specs.declared.encoded.Part.{Part}
use Rattle.ottl_equality.specs.declared.encoded.Part.TheVariants as parts
use Rattle.ottl_equality.specs.declared.encoded.Bytes.{Bytes}
use Rattle.ottl_equality.specs.declared.encoded.Bytes.TheVariants as declared_as

-- the six bits of a letter
abbrev pub sextet : ℕ → Option ℕ
sextet c =
    if nat_le 65 c && nat_le c 90 then Some (c - 65)
    else if nat_le 97 c && nat_le c 122 then Some (c - 71)
    else if nat_le 48 c && nat_le c 57 then Some (c + 4)
    else if c == 43 then Some 62
    else if c == 47 then Some 63
    else None

-- each of the three bytes lies in two letters that stand side by side
abbrev pub byte_of : Part → ℕ → ℕ → ℕ
byte_of parts.First a b = a * 4 + b / 16
byte_of parts.Second a b = a % 16 * 16 + b / 4
byte_of parts.Third a b = a % 4 * 64 + b

abbrev pub byte_in : Part → Option ℕ → Option ℕ → Option ℕ
byte_in p (Some a) (Some b) = Some (byte_of p a b)
byte_in p _ _ = None

abbrev pub before : Option ℕ → List ℕ → List ℕ
before None rest = []
before (Some b) rest = b ∷ rest

-- the bytes from this one of three on, which the letters begin with
abbrev pub bytes_from : Part → List ℕ → List ℕ
bytes_from p [] = []
bytes_from p (c ∷ []) = []
bytes_from parts.First (c ∷ d ∷ s) = before (byte_in parts.First (sextet c) (sextet d)) (bytes_from parts.Second (d ∷ s))
bytes_from parts.Second (c ∷ d ∷ s) = before (byte_in parts.Second (sextet c) (sextet d)) (bytes_from parts.Third (d ∷ s))
bytes_from parts.Third (c ∷ d ∷ s) = before (byte_in parts.Third (sextet c) (sextet d)) (bytes_from parts.First s)

-- the bytes of a text
abbrev pub decoded : List ℕ → List ℕ
decoded s = bytes_from parts.First s

-- bytes as the program holds them
abbrev pub bytes_of : Bytes → List ℕ
bytes_of (declared_as.Plain s) = s.now
bytes_of (declared_as.Encoded p s) = bytes_from p s.now

-- the first byte, and the others
abbrev pub parted : List ℕ → Option (ℕ × List ℕ)
parted [] = None
parted (b ∷ s) = Some (b, s)

abbrev pub parted_of : Option (ℕ × Bytes) → Option (ℕ × List ℕ)
parted_of None = None
parted_of (Some p) = Some (p.0, bytes_of p.1)
