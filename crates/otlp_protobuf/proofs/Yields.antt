-- What holds of whatever is read.
-- For decode, that no value nests too deep.
use Rattle.std.proofs.Common.{ℕ, zero, suc, List, [], ◌∷◌, length, Bool, true, false, cond, Ok, Err}
use Rattle.std.specs.List.{All}
use Rattle.std.proofs.lemmas.List.Elements.{All-append, All-cons, All-nil}
use Rattle.protobuf_wire.specs.Wire.{Field, Reading, next_field}
use Rattle.otlp_protobuf.specs.Kinds.{Read, ◌>>=◌, map_read, on_wire, merged_in, merged}
use Rattle.otlp_protobuf.specs.Reading.{message_of, with_last}

-- P holds of what is read, if anything is
abbrev pub Yields : {A : Type 0} → (A → Type 0) → Read A → Type 0
Yields P (Ok x) = P x
Yields P (Err e) = Unit {0}

pub yields_if : {A : Type 0} (P : A → Type 0) (b : Bool) (r q : Read A) → Yields P r → Yields P q → Yields P (cond b r q)
yields_if P true r q h g = h
yields_if P false r q h g = g

pub yields_map : {A B : Type 0} (P : B → Type 0) (f : A → B) (r : Read A) → Yields (λ x. P (f x)) r → Yields P (map_read f r)
yields_map P f (Ok x) h = h
yields_map P f (Err e) h = tt

-- whatever is read, P holds of what is made of it
pub yields_all : {A B : Type 0} (P : B → Type 0) (f : A → B) (r : Read A) → ((x : A) → P (f x)) → Yields P (map_read f r)
yields_all P f (Ok x) h = h x
yields_all P f (Err e) h = tt

then_yields : {A B : Type 0} (P : B → Type 0) (Q : A → Type 0) (r : Read A) (f : A → Read B) → Yields Q r → ((x : A) → Q x → Yields P (f x)) → Yields P (r >>= f)
then_yields P Q (Ok x) f h g = g x h
then_yields P Q (Err e) f h g = tt

-- what each field keeps
abbrev pub Keeps : {S : Type 0} → (S → Type 0) → (S → Field → Read S) → Type 0
Keeps {S = S} P step = (s : S) (f : Field) → P s → Yields P (step s f)

first_yields : {S : Type 0} (P : S → Type 0) (step : S → Field → Read S) (n : ℕ) (s : S) (r : Reading Field) → Keeps P step → P s → ((t : S) (rest : List ℕ) → P t → Yields P (merged_in n step t rest))
    → Yields P (on_wire r >>= λ f. step s f.0 >>= λ t. merged_in n step t f.1)
first_yields P step n s (Ok f) k p more = then_yields P P (step s f.0) (λ t. merged_in n step t f.1) (k s f.0 p) (λ t q. more t f.1 q)
first_yields P step n s (Err e) k p more = tt

yields_in : {S : Type 0} (P : S → Type 0) (step : S → Field → Read S) (n : ℕ) (s : S) (bytes : List ℕ) → Keeps P step → P s → Yields P (merged_in n step s bytes)
unfolding merged_in
yields_in P step zero s [] k p = p
yields_in P step zero s (b ∷ bytes) k p = p
yields_in P step (suc n) s [] k p = p
yields_in P step (suc n) s (b ∷ bytes) k p = first_yields P step n s (next_field (b ∷ bytes)) k p (λ t rest q. yields_in P step n t rest k q)

pub yields_merged : {S : Type 0} (P : S → Type 0) (step : S → Field → Read S) (s : S) (bytes : List ℕ) → Keeps P step → P s → Yields P (merged step s bytes)
yields_merged P step s bytes k p = yields_in P step (length bytes) s bytes k p

made : {S A : Type 0} (P : S → Type 0) (Q : A → Type 0) (whole : S → A) → ((s : S) → P s → Q (whole s)) → (r : Read S) → Yields P r → Yields (λ s. Q (whole s)) r
made P Q whole w (Ok s) h = w s h
made P Q whole w (Err e) h = tt

pub yields_message : {S A : Type 0} (P : S → Type 0) (Q : A → Type 0) (step : S → Field → Read S) (first : S) (whole : S → A) (bytes : List ℕ)
    → Keeps P step → P first → ((s : S) → P s → Q (whole s)) → Yields Q (message_of step first whole bytes)
yields_message P Q step first whole bytes k p w =
    yields_map Q whole (merged step first bytes) (made P Q whole w (merged step first bytes) (yields_merged P step first bytes k p))

pub yields_last : {A : Type 0} (P : A → Type 0) (xs : List A) (r : Read A) → All P xs → Yields P r → Yields (All P) (with_last xs r)
yields_last P xs (Ok x) h p = All-append P xs (x ∷ []) h (All-cons P x [] p (All-nil P))
yields_last P xs (Err e) h p = tt
