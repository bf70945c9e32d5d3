-- Messages that have no field, and are left out.
-- For write_status, write_resource and write_scope.
use Rattle.std.proofs.Common.{◌≡◌, ℕ, List, [], ◌∷◌, length, Bool, true, ℤ, pos, ◌<◌, ◌^◌, refl, sym, subst, lit<, arith}
use lib.Utf8.{encode}
use Rattle.std.specs.Prelude.{FitsSigned}
use Rattle.std.specs.Int.{w32}
use Rattle.std.specs.List.{AllByRecursion}
use Rattle.std.specs.Str.{IsUtf8, is_utf8, chars}
use Rattle.std.proofs.lemmas.Str.{IsUtf8-from_is_utf8}
use Rattle.std.specs.Prelude.{◌==◌}
use Rattle.std.proofs.lemmas.Bool.Decides.{nat_tests}
use Rattle.protobuf_writer.specs.Writing.{Adds}
use Rattle.protobuf_writer.specs.Defaults.{message_field}
use Rattle.protobuf_writer.proofs.Adding.{nothing}
use Rattle.otlp_types.specs.declared.value.KeyValue.{KeyValue}
use Rattle.otlp_types.specs.declared.span.Status.{Status}
use Rattle.otlp_types.specs.declared.request.Resource.{Resource}
use Rattle.otlp_types.specs.declared.request.Scope.{Scope}
use Rattle.otlp_protobuf_encode.specs.ReadsBack.{PairReadsBack, StatusReadsBack, ResourceReadsBack, ScopeReadsBack}
use Rattle.otlp_protobuf_encode.proofs.MessagesBack.{status-back}
use Rattle.otlp_protobuf_encode.proofs.RequestsBack.{resource-back, scope-back}
use Rattle.otlp_protobuf_encode.specs.Writing.{attributes, status_fields, resource_fields, scope_fields}

-- what has no length is empty
pub no_length : {A : Type 0} (b : Bool) (xs : List A) → b ≡ (length xs == 0) → b ≡ true → xs ≡ []
no_length b [] e h = refl
no_length b (x ∷ xs) e h = absurd (grind (arith, nat_tests))

pub no-status : (a : List ℕ) (s : Status) → s.code ≡ pos 0 → s.message ≡ [] → Adds a a (message_field 15 (status_fields s))
no-status a s code message = rw (code, message) (nothing a)

pub no-resource : (a : List ℕ) (r : Resource) → r.attributes ≡ [] → r.dropped_attributes_count ≡ 0 → Adds a a (message_field 1 (resource_fields r))
no-resource a r attributes count = rw (attributes, count) (nothing a)

pub no-scope : (a : List ℕ) (s : Scope) → s.name ≡ [] → s.version ≡ [] → s.attributes ≡ [] → s.dropped_attributes_count ≡ 0 → Adds a a (message_field 1 (scope_fields s))
no-scope a s name version attributes count = rw (name, version, attributes, count) (nothing a)

-- ---- what is left out is read as it is

empty_text : is_utf8 [] ≡ true
unfolding is_utf8 chars encode
empty_text = refl

utf8-nil : IsUtf8 []
utf8-nil = IsUtf8-from_is_utf8 [] empty_text

unset_text : (s : List ℕ) → s ≡ [] → IsUtf8 s
unset_text s e = subst IsUtf8 (sym e) utf8-nil

unset_list : (ps : List KeyValue) → ps ≡ [] → AllByRecursion PairReadsBack ps
unset_list ps e = subst (AllByRecursion PairReadsBack) (sym e) tt

unset_count : (n : ℕ) → n ≡ 0 → n < 2 ^ 32
unset_count n e = omega (arith, e)

unset_code : (z : ℤ) → z ≡ pos 0 → FitsSigned w32 z
unset_code z e = subst (FitsSigned w32) (sym e) (record { sfits = lit< tt })

pub no-status-back : (s : Status) → s.code ≡ pos 0 → s.message ≡ [] → StatusReadsBack s
no-status-back s code message = status-back s (unset_text s.message message) (unset_code s.code code)

pub no-resource-back : (r : Resource) → r.attributes ≡ [] → r.dropped_attributes_count ≡ 0 → ResourceReadsBack r
no-resource-back r attributes count = resource-back r (unset_list r.attributes attributes) (unset_count r.dropped_attributes_count count)

pub no-scope-back : (s : Scope) → s.name ≡ [] → s.version ≡ [] → s.attributes ≡ [] → s.dropped_attributes_count ≡ 0 → ScopeReadsBack s
no-scope-back s name version attributes count =
    scope-back s (unset_text s.name name) (unset_text s.version version) (unset_list s.attributes attributes) (unset_count s.dropped_attributes_count count)
