-- Worked rows of lists of conditions, by computation.
-- No contract rests on it: it shows the definitions on worked cases.
use Rattle.std.specs.Prelude.{◌≡◌, ℕ, Bool, true, false, List, [], ◌∷◌, map, codes, None, Ok, Err, refl}
use Rattle.otlp_types.specs.Empty.{no_resource, no_scope, plain_span}
use Rattle.otlp_types.specs.declared.span.Event.{Event}
use Rattle.otlp_types.specs.declared.arrival.Record.{Record}
use Rattle.ottl_text.specs.declared.expression.Context.TheVariants.{Span, SpanEvent}
use Rattle.ottl_text.specs.declared.expression.ErrorMode.TheVariants as modes
use Rattle.ottl_text.proofs.GrammarRows.{conditions_on_literals}
use Rattle.ottl_condition.specs.declared.eval_error.EvalError.TheVariants as errors
use Rattle.ottl_condition.specs.Subjects.{span}
use Rattle.ottl_condition.specs.Comparing.{compared}
use Rattle.ottl_condition.specs.Arithmetic.{calculated}
use Rattle.ottl_condition.specs.Meaning.{combined, meaning}
use Rattle.ottl_lists.specs.Texts.{is_condition, said_of, is_known}
use Rattle.ottl_lists.specs.Lists.{some_holds, some_event_holds, span_meets}

abbrev at : ℕ → Event
at n = record { time_unix_nano = n; name = []; attributes = []; dropped_attributes_count = 0 }

abbrev sent : Record
sent = record { resource = no_resource; resource_schema_url = []; scope = no_scope; scope_schema_url = []; span = plain_span None 0 1 2 }

abbrev fails : List ℕ
fails = codes "1 / 0 == 1"

abbrev lists : List (List (List ℕ))
lists = [] ∷ (codes "false" ∷ codes "true" ∷ []) ∷ (codes "false" ∷ []) ∷ (fails ∷ codes "true" ∷ []) ∷ (codes "true" ∷ fails ∷ []) ∷ (fails ∷ codes "false" ∷ []) ∷ []

-- the next condition is asked where one is false, and where it is an error, unless errors are told
pub going_on : map (λ ts. some_holds modes.Ignore Span ts (span sent)) lists ≡ Ok false ∷ Ok true ∷ Ok false ∷ Ok true ∷ Ok true ∷ Ok false ∷ []
unfolding conditions_on_literals said_of meaning combined compared calculated
going_on = refl

pub silent : map (λ ts. some_holds modes.Silent Span ts (span sent)) lists ≡ map (λ ts. some_holds modes.Ignore Span ts (span sent)) lists
unfolding conditions_on_literals said_of meaning combined compared calculated
silent = refl

pub ending : map (λ ts. some_holds modes.Propagate Span ts (span sent)) lists ≡ Ok false ∷ Ok true ∷ Ok false ∷ Err errors.DividedByZero ∷ Ok true ∷ Err errors.DividedByZero ∷ []
unfolding conditions_on_literals said_of meaning combined compared calculated
ending = refl

-- one event of several suffices
abbrev is_late : List ℕ
is_late = codes "time_unix_nano > 5"

pub events : some_event_holds modes.Ignore (is_late ∷ []) sent (at 3 ∷ at 7 ∷ []) ∷ some_event_holds modes.Ignore (is_late ∷ []) sent (at 3 ∷ at 5 ∷ []) ∷ some_event_holds modes.Ignore (codes "true" ∷ []) sent [] ∷ some_event_holds modes.Propagate (fails ∷ codes "true" ∷ []) sent (at 3 ∷ []) ∷ some_event_holds modes.Ignore (fails ∷ codes "true" ∷ []) sent (at 3 ∷ []) ∷ [] ≡
    Ok true ∷ Ok false ∷ Ok false ∷ Err errors.DividedByZero ∷ Ok true ∷ []
unfolding conditions_on_literals said_of meaning combined compared calculated
events = refl

-- a condition on spans or one on events
pub either : map (λ ts. span_meets modes.Propagate ts (codes "true" ∷ []) sent) lists ≡ Ok false ∷ Ok true ∷ Ok false ∷ Err errors.DividedByZero ∷ Ok true ∷ Err errors.DividedByZero ∷ []
unfolding conditions_on_literals said_of meaning combined compared calculated
either = refl

-- a text is a condition on spans, on events, or on neither
pub texts : map (is_condition Span) (codes "kind == 2" ∷ codes "span.kind == 2" ∷ codes "kind" ∷ []) ≡ true ∷ true ∷ false ∷ []
unfolding conditions_on_literals is_condition
texts = refl

pub texts_on_events : map (is_condition SpanEvent) (codes "kind == 2" ∷ codes "span.kind == 2" ∷ codes "kind" ∷ []) ≡ false ∷ true ∷ false ∷ []
unfolding conditions_on_literals is_condition
texts_on_events = refl

-- what it is asked of, and its text
pub known : is_known ((Span, codes "a") ∷ []) Span (codes "a") ∷ is_known ((Span, codes "a") ∷ []) SpanEvent (codes "a") ∷ is_known ((Span, codes "a") ∷ []) Span (codes "b") ∷ [] ≡ true ∷ false ∷ false ∷ []
known = refl
