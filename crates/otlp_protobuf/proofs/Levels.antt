-- Values, one level at a time.
-- For value_to.
use Rattle.std.proofs.Common.{◌≡◌, ℕ, zero, suc, ◌-◌, List, Err, refl, sub-one}
use Rattle.otlp_types.specs.declared.value.AnyValue.{AnyValue}
use Rattle.otlp_protobuf.specs.declared.protobuf_fault.ProtobufFault.TheVariants.{TooDeep}
use Rattle.otlp_protobuf.specs.Kinds.{merged}
use Rattle.otlp_protobuf.specs.Values.{value_step, value_to}

pub value_to-zero : (v : AnyValue) (s : List ℕ) → value_to 0 v s ≡ Err TooDeep
unfolding value_to
value_to-zero v s = refl

pub value_to-step : (n : ℕ) (v : AnyValue) (s : List ℕ) → (n ≡ 0 → ⊥) → value_to n v s ≡ merged (value_step (value_to (n - 1))) v s
unfolding value_to
value_to-step zero v s h = absurd (h refl)
value_to-step (suc n) v s h = rw sub-one
