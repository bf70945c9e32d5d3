-- What a count of tokens' bytes holds. For private clauses.
use Rattle.std.specs.Prelude.{◌≡◌, ℕ, ◌+◌, ◌-◌, ◌^◌, min, Bool, Option, List, [], ◌∷◌, length}
use Rattle.json.specs.Token.{Token}
use Rattle.json.specs.Print.{token_text, begins, ends, print_from}
use Rattle.serde_json.specs.Data.{Data, object, Members}
use Rattle.otlp_json.specs.Tokens.{value_tokens, field_tokens}
use Rattle.span_size.specs.declared.counter.ByteCounter.{ByteCounter}

-- the greatest count is 2^64 - 1
abbrev pub capped : ℕ → ℕ
capped n = min n (2 ^ 64 - 1)

-- whether a value has just ended behind these tokens
abbrev pub ends_after : Bool → List Token → Bool
ends_after b [] = b
ends_after b (t ∷ ts) = ends_after (ends t) ts

-- these tokens were counted, and nothing else
pub record Adds (old new : ByteCounter) (ts : List Token) : Type 0 where
  pub bytes : (n : ℕ) → old.bytes ≡ capped n → new.bytes ≡ capped (n + length (print_from old.after_value ts))
  pub place : new.after_value ≡ ends_after old.after_value ts

-- this field was counted
abbrev pub AddsField : (old new : ByteCounter) → List ℕ → Option Data → Type 0
AddsField old new name field = Adds old new (field_tokens name field)

-- this object was counted
abbrev pub AddsObject : (old new : ByteCounter) → Members → Type 0
AddsObject old new ms = Adds old new (value_tokens (object ms))

-- a token of this kind, of so many bytes
pub record IsOf (t : Token) (bytes : ℕ) (begins_value ends_value : Bool) : Type 0 where
  pub size : bytes ≡ capped (length (token_text t))
  pub begin : begins_value ≡ begins t
  pub end : ends_value ≡ ends t
