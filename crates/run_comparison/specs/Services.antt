-- The spans that were kept of each service.
use Rattle.std.specs.Prelude.{◌≡◌, ◌≤◌, ℕ, ◌+◌, List, [], ◌∷◌, ◌++◌, length, bytes_eq, if◌then◌else◌, nat_lt, Option, None, Some, codes, is_some, take, unwrap_or}
use Rattle.otlp_types.specs.declared.arrival.Arrival.{Arrival}
use Rattle.otlp_types.specs.declared.value.AnyValue.{AnyValue}
use Rattle.otlp_types.specs.declared.value.AnyValue.TheVariants.{Str}
use Rattle.otlp_types.specs.declared.value.KeyValue.{KeyValue}
use Rattle.run_comparison.specs.Amount.{capped}
use Rattle.run_comparison.specs.Names.{place_of}
use Rattle.run_comparison.specs.Numbers.{more_at, zeros}
use Rattle.run_comparison.specs.declared.services.TheConstants.{MOST_SERVICES}

-- ---- the service of a span

-- a value that is a text
abbrev pub text_in : AnyValue → Option (List ℕ)
text_in (Str text) = Some text
text_in _ = None

-- the service that an attribute names (OpenTelemetry semantic conventions, `service.name`)
abbrev pub service_in : KeyValue → Option (List ℕ)
service_in attribute = if bytes_eq attribute.key (codes "service.name") then text_in attribute.value else None

-- the first of these attributes that names a service names it; the name is empty where none does
abbrev pub first_service : List KeyValue → List ℕ
first_service [] = []
first_service (attribute ∷ rest) = unwrap_or (service_in attribute) (first_service rest)

-- the service of a span, by its resource
abbrev pub service_of : Arrival → List ℕ
service_of span = first_service span.rec.resource.attributes

-- ---- the spans of services

-- the services that have a place, in the order in which the first span of each was kept; their spans, by their places;
-- and the spans of services without one
pub record Services : Type 0 where
  pub names : List (List ℕ)
  pub spans : List ℕ
  pub beyond : ℕ

-- no span was kept
abbrev pub no_services : Services
no_services = record { names = []; spans = zeros MOST_SERVICES; beyond = 0 }

-- a service gets a place, if it has none and there is room for one more
abbrev pub with_place : Services → (name : List ℕ) → Services
with_place s name =
    if nat_lt (length s.names) MOST_SERVICES
    then (if is_some (place_of s.names name) then s else record { names = s.names ++ name ∷ []; spans = s.spans; beyond = s.beyond })
    else s

-- those that have a place keep it, and their spans
pub record KeepsFront (old new : Services) : Type 0 where
  pub front : take (length old.names) new.names ≡ old.names
  pub grows : length old.names ≤ length new.names
  pub spans : new.spans ≡ old.spans
  pub beyond : new.beyond ≡ old.beyond

-- the services of these spans get places, in their order
abbrev pub with_places : Services → (spans : List Arrival) → Services
with_places s [] = s
with_places s (span ∷ spans) = with_places (with_place s (service_of span)) spans

-- one span more at a place, or of those without one
abbrev pub with_span_at : Services → Option ℕ → Services
with_span_at s None = record { names = s.names; spans = s.spans; beyond = capped (s.beyond + 1) }
with_span_at s (Some place) = record { names = s.names; spans = more_at s.spans place 1; beyond = s.beyond }

-- one span more of a service
abbrev pub with_span : Services → (name : List ℕ) → Services
with_span s name = with_span_at s (place_of s.names name)

-- these spans more, each of its service
abbrev pub with_spans : Services → (spans : List Arrival) → Services
with_spans s [] = s
with_spans s (span ∷ spans) = with_spans (with_span s (service_of span)) spans

-- these spans were kept: their services get places, and each counts under its own
abbrev pub with_kept_spans : Services → (spans : List Arrival) → Services
with_kept_spans s spans = with_spans (with_places s spans) spans
