-- Texts in UTF-8, by the test of it.
-- For the contract of `in_text`.
use Rattle.std.proofs.Common.{◌≡◌, ℕ, Bool, true, false, List, Option, Some, None, refl, sym, ap, cond}
use Rattle.std.specs.Str.{IsUtf8, is_utf8}
use Rattle.std.proofs.lemmas.Str.{IsUtf8-from_is_utf8, is_utf8-from_IsUtf8}
use Rattle.otlp_protobuf.specs.declared.protobuf_fault.ProtobufFault.TheVariants.{Utf8}
use Rattle.request_show.specs.FirstFault.{in_text}
use Rattle.request_show.specs.declared.walk.Met.{Met}

pub is_text : (at : ℕ) (s : List ℕ) → IsUtf8 s → None ≡ in_text at s
is_text at s h = sym (ap (λ (b : Bool). cond {A = Option Met} b None (Some (record { at = at; fault = Utf8 }))) (is_utf8-from_IsUtf8 s h))

none_for : (b : Bool) (at : ℕ) → (b ≡ true → ⊥) → Some (record { at = at; fault = Utf8 }) ≡ cond {A = Option Met} b None (Some (record { at = at; fault = Utf8 }))
none_for true at h = absurd (h refl)
none_for false at h = refl

pub is_no_text : (at : ℕ) (s : List ℕ) → (IsUtf8 s → ⊥) → Some (record { at = at; fault = Utf8 }) ≡ in_text at s
is_no_text at s h = none_for (is_utf8 s) at (λ e. h (IsUtf8-from_is_utf8 s e))
