-- Text in UTF-8, by the test of it.
-- For kinds::text.
use Rattle.std.proofs.Common.{◌≡◌, List, ℕ, Bool, true, false, cond, Ok, Err, refl, sym, ◌∙◌, ap}
use Rattle.std.specs.Str.{IsUtf8, is_utf8}
use Rattle.std.proofs.lemmas.Str.{IsUtf8-from_is_utf8, is_utf8-from_IsUtf8}
use Rattle.otlp_protobuf.specs.declared.protobuf_fault.ProtobufFault.TheVariants.{Utf8}
use Rattle.otlp_protobuf.specs.Kinds.{Read, text}

pub text_is : (s t : List ℕ) → t ≡ s → IsUtf8 s → text s ≡ Ok t
text_is s t e h = ap (λ b. cond b (Ok s) (Err Utf8)) (is_utf8-from_IsUtf8 s h) ∙ ap Ok (sym e)

no_text : (b : Bool) (s : List ℕ) → (b ≡ true → ⊥) → cond {A = Read (List ℕ)} b (Ok s) (Err Utf8) ≡ Err Utf8
no_text true s h = absurd (h refl)
no_text false s h = refl

pub text_is_none : (s : List ℕ) → (IsUtf8 s → ⊥) → text s ≡ Err Utf8
text_is_none s h = no_text (is_utf8 s) s (λ e. h (IsUtf8-from_is_utf8 s e))
