-- Texts that stand for bytes.
-- For base64_bytes and hex_bytes of kinds.rt.
use Rattle.std.proofs.Common.{◌≡◌, ◌⊎◌, inl, inr, ℕ, List, [], unwrap_or, Some, Ok, Err, sym, ◌∙◌, ap}
use Rattle.std.specs.Result.{result_ok}
use Rattle.base64.specs.Engines.{standard}
use Rattle.base64.specs.GeneralPurpose.{encode_of, decode_of, decoded_of}
use Rattle.base64.specs.declared.decode.DecodeError.{DecodeError}
use Rattle.hex.specs.Hex as hex
use Rattle.hex.specs.declared.error.FromHexError.{FromHexError}
use Rattle.hex.specs.declared.error.FromHexError.TheVariants.{OutOfMemory}
use Rattle.otlp_protobuf_encode.specs.declared.encode_error.EncodeError.TheVariants.{NotBase64, NotHex}
use Rattle.otlp_protobuf_encode.specs.Writing.{base64_of, hex_of}
use Rattle.otlp_protobuf_encode.specs.Faults.{unless_some, base64_fault, hex_fault}

pub base64_is : (s t v : List ℕ) → t ≡ s → decode_of standard t ≡ Ok v → base64_of s ≡ Some v
unfolding decoded_of
base64_is s t v e h = ap (λ x. result_ok (decode_of standard x)) (sym e) ∙ ap result_ok h

pub no_base64 : (s t : List ℕ) (d : DecodeError) → t ≡ s → decode_of standard t ≡ Err d → base64_fault s ≡ Some NotBase64
unfolding decoded_of
no_base64 s t d e h = ap (unless_some NotBase64) (ap (λ x. result_ok (decode_of standard x)) (sym e) ∙ ap result_ok h)

pub hex_is : (s t v : List ℕ) → t ≡ s → hex.decode_of t ≡ Ok v → hex_of s ≡ Some v
unfolding hex_of
hex_is s t v e h = ap (λ x. result_ok (hex.decode_of x)) (sym e) ∙ ap result_ok h

pub no_hex : (s t : List ℕ) (d : FromHexError) → t ≡ s → (d ≡ OutOfMemory → ⊥) → (d ≡ OutOfMemory) ⊎ (hex.decode_of t ≡ Err d) → hex_fault s ≡ Some NotHex
unfolding hex_of
no_hex s t d e other (inl h) = absurd (other h)
no_hex s t d e other (inr h) = ap (unless_some NotHex) (ap (λ x. result_ok (hex.decode_of x)) (sym e) ∙ ap result_ok h)

-- the bytes that a text has are written as it
pub base64_back : (s v : List ℕ) → base64_of s ≡ Some v → encode_of standard v ≡ s → encode_of standard (unwrap_or (base64_of s) []) ≡ s
base64_back s v e h = ap (λ o. encode_of standard (unwrap_or o [])) e ∙ h
