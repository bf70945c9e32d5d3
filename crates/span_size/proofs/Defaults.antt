-- When a field is left out, and what stands for it else.
-- For the clauses of `text`, `whole`, `u32`, `u64`, `list` and `status_of`.
use Rattle.std.proofs.Common.{◌≡◌, ℕ, ◌==◌, Bool, true, false, ◌||◌, is_some, length, List, [], ◌∷◌, map, Some, None, ℤ, pos, negsuc, decimal, refl, ap, arith}
use Rattle.std.specs.Fmt.{signed_decimal}
use Rattle.std.proofs.lemmas.Bool.{ne_eqb, eqb-true}
use Rattle.json.specs.Token.{number as json_number}
use Rattle.serde_json.specs.Data.{Members, string, number, object}
use Rattle.serde_json.specs.Find.{of_integer}
use Rattle.otlp_json.specs.Tokens.{value_tokens}
use Rattle.otlp_types.specs.declared.span.Status.{Status}
use Rattle.otlp_json.specs.Writing.{text_field, u64_field, enum_field, message_field, list_field, status_fields, status_table}
use Rattle.otlp_json.proofs.Table.{has-some}

pub no-text : (s : List ℕ) → (length s == 0) ≡ true → text_field s ≡ None
no-text [] h = refl
no-text (x ∷ s) h = let none = eqb-true (length (x ∷ s)) 0 h in absurd (omega arith)

pub some-text : (s : List ℕ) → (length s == 0) ≡ false → text_field s ≡ Some (string s)
some-text [] h = absurd (cc h)
some-text (x ∷ s) h = refl

pub some-u64 : (n : ℕ) → (n ≡ 0 → ⊥) → u64_field n ≡ Some (string (decimal n))
some-u64 n h = rw (ne_eqb n 0 h)

pub some-enum : (n : ℤ) → (n ≡ pos 0 → ⊥) → enum_field n ≡ Some (number (of_integer n))
some-enum (pos n) h = rw (ne_eqb n 0 (λ e. h (ap pos e)))
some-enum (negsuc n) h = refl

pub integer-tokens : (n : ℤ) → value_tokens (number (of_integer n)) ≡ json_number (signed_decimal n) ∷ []
integer-tokens (pos n) = refl
integer-tokens (negsuc n) = refl

pub no-items : {A : Type 0} (f : A → Members) (xs : List A) → (length xs == 0) ≡ true → list_field (map f xs) ≡ None
no-items f [] h = refl
no-items f (x ∷ xs) h = let none = eqb-true (length (x ∷ xs)) 0 h in absurd (omega arith)

-- ---- a status

pub no-status : (s : Status) → s.code ≡ pos 0 → (length s.message == 0) ≡ true → message_field (status_fields s) ≡ None
no-status s code message = rw (code, no-text s.message message)

pub status-of-code : (s : Status) → (s.code ≡ pos 0 → ⊥) → message_field (status_fields s) ≡ Some (object (status_fields s))
status-of-code s code = has-some (status_table s) (rw (some-enum s.code code))

pub status-of-message : (s : Status) → (length s.message == 0) ≡ false → message_field (status_fields s) ≡ Some (object (status_fields s))
status-of-message s message = has-some (status_table s) (rw (some-text s.message message) (or-true (is_some (enum_field s.code))))
  where
    or-true : (b : Bool) → (b || true) ≡ true
    or-true true = refl
    or-true false = refl
