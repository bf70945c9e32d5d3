-- Rows of the attribute that names the policy: an attribute of another key stays, one of the same key is replaced where
-- it stands, and what has no name stays as it is.
use Rattle.std.proofs.Common.{◌≡◌, ℕ, true, List, [], ◌∷◌, Some, None, refl}
use Rattle.std.specs.Prelude.{codes}
use Rattle.otlp_types.specs.declared.arrival.Record.{Record}
use Rattle.otlp_types.specs.declared.value.AnyValue.TheVariants.{Str, Bool as Truth}
use Rattle.otlp_types.specs.declared.value.KeyValue.{KeyValue}
use Rattle.released_spans.specs.Noting.{with_policy, noted, noted_records}

abbrev of_team : KeyValue
of_team = record { key = codes "team"; value = Str (codes "payments") }

abbrev forged : KeyValue
forged = record { key = codes "tailsampling.policy"; value = Truth true }

abbrev told : List ℕ → KeyValue
told name = record { key = codes "tailsampling.policy"; value = Str name }

first_of_none : with_policy (codes "errors") [] ≡ told (codes "errors") ∷ []
first_of_none = refl

behind_others : with_policy (codes "errors") (of_team ∷ []) ≡ of_team ∷ told (codes "errors") ∷ []
behind_others = refl

in_its_place : with_policy (codes "errors") (of_team ∷ forged ∷ of_team ∷ forged ∷ []) ≡ of_team ∷ told (codes "errors") ∷ of_team ∷ forged ∷ []
in_its_place = refl

of_no_policy : (rec : Record) → noted (codes "errors" ∷ codes "slow" ∷ []) None rec ≡ rec
of_no_policy rec = refl

of_no_name : (rec : Record) → noted (codes "errors" ∷ codes "slow" ∷ []) (Some 2) rec ≡ rec
of_no_name rec = refl

of_the_second : (rec : Record) → noted_records (codes "errors" ∷ codes "slow" ∷ []) (Some 1 ∷ None ∷ []) (rec ∷ rec ∷ [])
    ≡ record rec { scope = record rec.scope { attributes = with_policy (codes "slow") rec.scope.attributes } } ∷ rec ∷ []
of_the_second rec = refl
