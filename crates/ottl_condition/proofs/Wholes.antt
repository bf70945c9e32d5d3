-- Text in UTF-8, by the test of it.
-- For conversions::whole.
use Rattle.std.proofs.Common.{◌≡◌, List, ℕ, Bool, true, false, cond, Option, Some, None, refl, sym, ◌∙◌, ap}
use Rattle.std.specs.Str.{IsUtf8, is_utf8}
use Rattle.std.proofs.lemmas.Str.{IsUtf8-from_is_utf8, is_utf8-from_IsUtf8}
use Rattle.ottl_condition.specs.Conversions.{whole}

pub is_whole : (s t : List ℕ) → t ≡ s → IsUtf8 s → Some t ≡ whole s
is_whole s t e h = sym (ap (λ b. cond b (Some s) None) (is_utf8-from_IsUtf8 s h) ∙ ap Some (sym e))

no_text : (b : Bool) (s : List ℕ) → (b ≡ true → ⊥) → cond {A = Option (List ℕ)} b (Some s) None ≡ None
no_text true s h = absurd (h refl)
no_text false s h = refl

pub is_not_whole : (s : List ℕ) → (IsUtf8 s → ⊥) → None ≡ whole s
is_not_whole s h = sym (no_text (is_utf8 s) s (λ e. h (IsUtf8-from_is_utf8 s e)))
