-- Values, one level at a time.
-- For the contract of `value`.
use Rattle.std.proofs.Common.{◌≡◌, ℕ, Bool, zero, suc, ◌-◌, None, refl, sub-one}
use Rattle.serde_json.specs.Data.{Data}
use Rattle.otlp_reading.specs.Kinds.{message}
use Rattle.otlp_reading.specs.Reading.{value_to, value_in}

pub value_to-zero : (keeps_doubles : Bool) (d : Data) → value_to keeps_doubles 0 d ≡ None
unfolding value_to
value_to-zero keeps_doubles d = refl

pub value_to-step : (keeps_doubles : Bool) (n : ℕ) (d : Data) → (n ≡ 0 → ⊥)
    → value_to keeps_doubles n d ≡ message (value_in (value_to keeps_doubles (n - 1)) keeps_doubles) d
unfolding value_to
value_to-step keeps_doubles zero d h = absurd (h refl)
value_to-step keeps_doubles (suc n) d h = rw sub-one
