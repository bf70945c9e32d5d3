-- A message is made of its fields, one after another.
-- For value_fields, array, list and pair of value.rt, and merge of message.rt.
use Rattle.std.proofs.Common.{◌≡◌, ℕ, zero, suc, ◌<◌, ◌≤◌, List, [], ◌∷◌, length, Option, Some, None, Ok, Err, refl, ◌∙◌, ap, subst, arith}
use Rattle.protobuf_wire.specs.declared.fault.WireFault.{WireFault}
use Rattle.protobuf_wire.specs.Wire.{Field, Reading, next_field}
use Rattle.protobuf_wire.specs.Seen.{seen_field, TakesFirst}
use Rattle.protobuf_wire.specs.declared.field.WireField.{WireField}
use Rattle.protobuf_wire.proofs.Shorter.{Below, next_below}
use Rattle.otlp_protobuf.specs.declared.protobuf_fault.ProtobufFault.TheVariants.{Wire}
use Rattle.otlp_protobuf.specs.declared.decode_error.DecodeError.{DecodeError}
use Rattle.otlp_protobuf.specs.declared.decode_error.DecodeError.TheVariants.{Refused, NoMemory}
use Rattle.otlp_protobuf.specs.Gives.{Fails}
use Rattle.otlp_protobuf.specs.Kinds.{Read, ◌>>=◌, on_wire, merged_in, merged}

pub then_same : {A B : Type 0} (r : Read A) (f g : A → Read B) → ((x : A) → f x ≡ g x) → (r >>= f) ≡ (r >>= g)
then_same (Ok x) f g h = h x
then_same (Err e) f g h = refl

-- ---- turns

same_behind : {S : Type 0} (step : S → Field → Read S) (n m k : ℕ) (s : S) (r : Reading Field) → Below k r → ((t : S) (rest : List ℕ) → length rest < k → merged_in n step t rest ≡ merged_in m step t rest)
    → (on_wire r >>= λ f. step s f.0 >>= λ t. merged_in n step t f.1) ≡ (on_wire r >>= λ f. step s f.0 >>= λ t. merged_in m step t f.1)
same_behind step n m k s (Ok f) h e = then_same (step s f.0) (λ t. merged_in n step t f.1) (λ t. merged_in m step t f.1) (λ t. e t f.1 h)
same_behind step n m k s (Err x) h e = refl

-- as many turns as there are bytes are enough
pub turns_suffice : {S : Type 0} (step : S → Field → Read S) (n m : ℕ) (s : S) (bytes : List ℕ) → length bytes ≤ n → length bytes ≤ m → merged_in n step s bytes ≡ merged_in m step s bytes
unfolding merged_in
turns_suffice step zero zero s bytes h g = refl
turns_suffice step zero (suc m) s [] h g = refl
turns_suffice step zero (suc m) s (b ∷ bytes) h g = absurd (omega arith)
turns_suffice step (suc n) zero s [] h g = refl
turns_suffice step (suc n) zero s (b ∷ bytes) h g = absurd (omega arith)
turns_suffice step (suc n) (suc m) s [] h g = refl
turns_suffice step (suc n) (suc m) s (b ∷ bytes) h g =
    same_behind step n m (length (b ∷ bytes)) s (next_field (b ∷ bytes)) (next_below (b ∷ bytes)) (λ t rest l. turns_suffice step n m t rest (omega arith) (omega arith))

-- ---- a message is made of its first field, and those behind it

opened : {S : Type 0} (step : S → Field → Read S) (s : S) (b : ℕ) (bytes : List ℕ)
    → merged step s (b ∷ bytes) ≡ (on_wire (next_field (b ∷ bytes)) >>= λ f. step s f.0 >>= λ t. merged_in (length bytes) step t f.1)
unfolding merged_in
opened step s b bytes = ap (λ n. merged_in n step s (b ∷ bytes)) (let e : length (b ∷ bytes) ≡ suc (length bytes) = omega arith in e)

pub merged-none : {S : Type 0} (step : S → Field → Read S) (s : S) → merged step s [] ≡ Ok s
unfolding merged_in
merged-none step s = refl

pub merged-first : {S : Type 0} (step : S → Field → Read S) (s : S) (bytes : List ℕ) (f : Field) (rest : List ℕ) → 0 < length bytes → next_field bytes ≡ Ok (f, rest)
    → merged step s bytes ≡ (step s f >>= λ t. merged step t rest)
merged-first step s [] f rest h e = absurd (omega arith)
merged-first step s (b ∷ bytes) f rest h e =
    let P : Reading Field → Type 0 = Below (length (b ∷ bytes)) in
    let less : length rest < length (b ∷ bytes) = subst P e (next_below (b ∷ bytes)) in
    opened step s b bytes
    ∙ ap (λ r. on_wire r >>= λ f. step s f.0 >>= λ t. merged_in (length bytes) step t f.1) e
    ∙ then_same (step s f) (λ t. merged_in (length bytes) step t rest) (λ t. merged step t rest) (λ t. turns_suffice step (length bytes) (length rest) t rest (omega arith) (omega arith))

pub merged-fault : {S : Type 0} (step : S → Field → Read S) (s : S) (bytes : List ℕ) (x : WireFault) → 0 < length bytes → next_field bytes ≡ Err x → merged step s bytes ≡ Err (Wire x)
merged-fault step s [] x h e = absurd (omega arith)
merged-fault step s (b ∷ bytes) x h e = opened step s b bytes ∙ ap (λ r. on_wire r >>= λ f. step s f.0 >>= λ t. merged_in (length bytes) step t f.1) e

-- ---- by what `Fields::next` answers

-- Of the fields of all bytes some have made `now`, and those of `left` are left.
pub record Merges {S : Type 0} (step : S → Field → Read S) (start : S) (all : List ℕ) (now : S) (left : List ℕ) : Type 0 where
  pub so_far : merged step start all ≡ merged step now left

taken_as : (left rest : List ℕ) (o p : Option WireField) → o ≡ p → TakesFirst left rest (Ok o) → TakesFirst left rest (Ok p)
taken_as left rest o p e h = let P : Option WireField → Type 0 = λ x. TakesFirst left rest (Ok x) in subst P e h

one_more : {S : Type 0} (step : S → Field → Read S) (start : S) (all : List ℕ) (now : S) (left rest : List ℕ) (f : WireField)
    → Merges step start all now left → TakesFirst left rest (Ok (Some f)) → merged step start all ≡ (step now (seen_field f) >>= λ t. merged step t rest)
one_more step start all now left rest f m h = m.so_far ∙ merged-first step now left (seen_field f) rest h.1 h.0

pub Merges-next : {S : Type 0} (step : S → Field → Read S) (start : S) (all : List ℕ) (now : S) (left rest : List ℕ) (o : Option WireField) (f : WireField) (next : S)
    → Merges step start all now left → TakesFirst left rest (Ok o) → o ≡ Some f → step now (seen_field f) ≡ Ok next → Merges step start all next rest
Merges-next step start all now left rest o f next m h e s = record {
  so_far = one_more step start all now left rest f m (taken_as left rest o (Some f) e h) ∙ ap (λ r. r >>= λ t. merged step t rest) s;
}

pub Merges-refused : {S : Type 0} (step : S → Field → Read S) (start : S) (all : List ℕ) (now : S) (left rest : List ℕ) (o : Option WireField) (f : WireField) (e : DecodeError)
    → Merges step start all now left → TakesFirst left rest (Ok o) → o ≡ Some f → Fails e (step now (seen_field f)) → Fails e (merged step start all)
Merges-refused step start all now left rest o f (Refused x) m h is g =
    one_more step start all now left rest f m (taken_as left rest o (Some f) is h) ∙ ap (λ r. r >>= λ t. merged step t rest) g
Merges-refused step start all now left rest o f NoMemory m h is g = tt

pub Merges-fault : {S : Type 0} (step : S → Field → Read S) (start : S) (all : List ℕ) (now : S) (left rest : List ℕ) (x : WireFault)
    → Merges step start all now left → TakesFirst left rest (Err x) → merged step start all ≡ Err (Wire x)
Merges-fault step start all now left rest x m h = m.so_far ∙ merged-fault step now left x h.1 h.0

pub Merges-done : {S : Type 0} (step : S → Field → Read S) (start : S) (all : List ℕ) (now : S) (left rest : List ℕ) (o : Option WireField)
    → Merges step start all now left → TakesFirst left rest (Ok o) → o ≡ None → merged step start all ≡ Ok now
Merges-done step start all now left rest o m h e = m.so_far ∙ ap (merged step now) (taken_as left rest o None e h) ∙ merged-none step now
