-- Texts that stand for bytes.
-- For kinds.rt.
use Rattle.std.proofs.Common.{◌≡◌, ◌⊎◌, ℕ, List, [], unwrap_or, Option, Some, None, Err, refl, sym, ◌∙◌, ap, subst}
use Rattle.base64.specs.Engines.{standard}
use Rattle.base64.specs.GeneralPurpose.{decode_of}
use Rattle.base64.specs.declared.decode.DecodeError.{DecodeError}
use Rattle.hex.specs.Hex as hex
use Rattle.hex.specs.declared.error.FromHexError.{FromHexError}
use Rattle.hex.specs.declared.error.FromHexError.TheVariants.{OutOfMemory}
use Rattle.otlp_protobuf_encode.specs.declared.encode_error.EncodeError.TheVariants.{NotBase64, NotHex}
use Rattle.otlp_protobuf_encode.specs.Writing.{base64_of, hex_of}
use Rattle.otlp_protobuf_encode.specs.Faults.{unless_some, base64_fault}
use Rattle.otlp_protobuf_encode.specs.ReadsBack.{IsLower}
use Rattle.otlp_protobuf_encode.proofs.Decoded.{no_base64, no_hex}

pub base64_fits : (s v : List ℕ) → base64_of s ≡ Some v → base64_fault s ≡ None
base64_fits s v e = ap (unless_some NotBase64) e

pub base64_refused : (s t : List ℕ) (d : DecodeError) → t ≡ s → decode_of standard t ≡ Err d → base64_fault s ≡ None → ⊥
base64_refused s t d e h f = let g : base64_fault s ≡ Some NotBase64 = no_base64 s t d e h in cc

empty_hex : hex_of [] ≡ Some []
unfolding hex_of hex.decode_pairs
empty_hex = refl

by_bytes : (o : Option (List ℕ)) (s : List ℕ) → o ≡ hex_of s → unless_some NotHex o ≡ Some NotHex → hex.encode_lower (unwrap_or o []) ≡ s → ⊥
unfolding hex.encode_with
by_bytes (Some v) s e h l = cc
by_bytes None s e h l = let P : List ℕ → Type 0 = λ t. None ≡ hex_of t in let g : None ≡ hex_of [] = subst P (sym l) e in let k = empty_hex in cc

pub hex_refused : (s t : List ℕ) (d : FromHexError) → t ≡ s → (d ≡ OutOfMemory → ⊥) → (d ≡ OutOfMemory) ⊎ (hex.decode_of t ≡ Err d) → IsLower s → ⊥
hex_refused s t d e other h l = by_bytes (hex_of s) s refl (no_hex s t d e other h) l

pub lower_is : (s v : List ℕ) → hex_of s ≡ Some v → hex.encode_lower v ≡ s → IsLower s
lower_is s v e h = ap (λ o. hex.encode_lower (unwrap_or o [])) e ∙ h

pub not_lower : (s v : List ℕ) → hex_of s ≡ Some v → (hex.encode_lower v ≡ s → ⊥) → IsLower s → ⊥
not_lower s v e other l = other (sym (ap (λ o. hex.encode_lower (unwrap_or o [])) e) ∙ l)
