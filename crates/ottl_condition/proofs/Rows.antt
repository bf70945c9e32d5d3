-- Worked rows of what conditions mean, by computation.
-- No contract rests on it: it shows the definitions on worked cases.
use Rattle.std.specs.Prelude.{◌≡◌, ℕ, ℤ, pos, negsuc, Bool, true, false, List, [], ◌∷◌, map as each_of, codes, Ok, Err, refl}
use Rattle.otlp_types.specs.Empty.{no_resource, no_scope, plain_span}
use Rattle.otlp_types.specs.declared.span.Event.{Event}
use Rattle.otlp_types.specs.declared.arrival.Record.{Record}
use Rattle.otlp_types.specs.declared.value.AnyValue.{AnyValue, Empty, Str, Int}
use Rattle.otlp_types.specs.declared.value.KeyValue.{KeyValue}
use Rattle.std.specs.Prelude.{None}
use Rattle.otlp_types.specs.declared.value.AnyValue as any
use denote.Hole.Carrier
use Rattle.ottl_text.specs.declared.expression.Root.{Root}
use Rattle.ottl_text.specs.declared.expression.Root.TheVariants as roots
use Rattle.ottl_text.specs.declared.expression.Key.{Key}
use Rattle.ottl_text.specs.declared.expression.Key.TheVariants as keys
use Rattle.ottl_text.specs.declared.expression.Literal.TheVariants as literals
use Rattle.ottl_text.specs.declared.expression.Case.TheVariants.{Lower, Upper}
use Rattle.ottl_text.specs.declared.expression.Unary.TheVariants as one
use Rattle.ottl_text.specs.declared.expression.Binary.{Binary}
use Rattle.ottl_text.specs.declared.expression.Binary.TheVariants as two
use Rattle.ottl_text.specs.Syntax.{Term, literal, path, is_root_span, unary, binary, cased, concat}
use Rattle.ottl_condition.specs.declared.eval_error.EvalError.TheVariants as errors
use Rattle.ottl_condition.specs.Values.{Value, nil, truth, int, float, text, bytes, map, list, time, duration, Answer}
use Rattle.ottl_condition.specs.Paths.{kind_text, walk}
use Rattle.ottl_condition.specs.Subjects.{span, event}
use Rattle.ottl_condition.specs.Comparing.{compared}
use Rattle.ottl_condition.specs.Arithmetic.{calculated}
use Rattle.std.specs.Float.{binary64}
use lib.Ieee.{of_int, round, nan, to_signed}
use Rattle.std.specs.Float.Parse.{read_float}
use Rattle.std.specs.Float.Numeral.{scan_numeral}
use Rattle.std.specs.Str.{is_utf8, chars}
use Rattle.std.specs.Fmt.{digits}
use lib.Utf8.{encode}
use Rattle.ottl_text.specs.Literals.{int_of, float_of}
use Rattle.ottl_lengths.specs.Lengths.{digits_len}
use Rattle.ottl_duration.specs.Durations.{unit_len, with_unit, fraction_at, part_at, parts_from, unsigned_of, duration_of}
use Rattle.ottl_condition.specs.Conversions.{as_int, as_float, as_text, as_like, as_duration, piece_of, part_of}
use Rattle.ottl_condition.specs.Functions.{made_of, tested, has_prefix, has_suffix, searched}
use Rattle.ottl_condition.specs.Made as made
use Rattle.ottl_condition.specs.Meaning.{value_on, combined, meaning, patterns_of, texts_made}
use Rattle.std.specs.Prelude.{replicate}
use Rattle.std.specs.Char.Unicode.Rows.{by_runs, by_strings}
use Rattle.std.specs.Char.Unicode.ToUppercase.{uppercase_runs, uppercase_strings, to_uppercase}
use Rattle.std.specs.Char.Unicode.ToLowercase.{lowercase_runs, lowercase_strings, to_lowercase}
use Rattle.ottl_made_texts.specs.Cases.{letter_in}
use Rattle.ottl_made_texts.specs.MadeTexts.{within, letters_in}

abbrev samples : List Value
samples = nil ∷ truth true ∷ int (pos 1) ∷ text (codes "1") ∷ bytes (49 ∷ []) ∷ map [] ∷ list [] ∷ []

-- of two types that have no order just `!=` holds; `nil` equals `nil`, a map a map, a list a list
abbrev row : Binary → Value → List Bool
row b v = each_of (λ w. compared b v w) samples

pub equal_by_types : each_of (row two.Equal) samples ≡
    (true ∷ false ∷ false ∷ false ∷ false ∷ false ∷ false ∷ []) ∷ (false ∷ true ∷ false ∷ false ∷ false ∷ false ∷ false ∷ []) ∷ (false ∷ false ∷ true ∷ false ∷ false ∷ false ∷ false ∷ []) ∷ (false ∷ false ∷ false ∷ true ∷ false ∷ false ∷ false ∷ []) ∷ (false ∷ false ∷ false ∷ false ∷ true ∷ false ∷ false ∷ []) ∷ (false ∷ false ∷ false ∷ false ∷ false ∷ true ∷ false ∷ []) ∷ (false ∷ false ∷ false ∷ false ∷ false ∷ false ∷ true ∷ []) ∷ []
unfolding compared
equal_by_types = refl

pub unequal_by_types : each_of (row two.NotEqual) samples ≡
    (false ∷ true ∷ true ∷ true ∷ true ∷ true ∷ true ∷ []) ∷ (true ∷ false ∷ true ∷ true ∷ true ∷ true ∷ true ∷ []) ∷ (true ∷ true ∷ false ∷ true ∷ true ∷ true ∷ true ∷ []) ∷ (true ∷ true ∷ true ∷ false ∷ true ∷ true ∷ true ∷ []) ∷ (true ∷ true ∷ true ∷ true ∷ false ∷ true ∷ true ∷ []) ∷ (true ∷ true ∷ true ∷ true ∷ true ∷ false ∷ true ∷ []) ∷ (true ∷ true ∷ true ∷ true ∷ true ∷ true ∷ false ∷ []) ∷ []
unfolding compared
unequal_by_types = refl

-- nothing is below, or above, what has no order with it
pub below_by_types : each_of (row two.Less) samples ≡ each_of (λ v. each_of (λ w. false) samples) samples
unfolding compared
below_by_types = refl

-- below, at most, above, at least: whole numbers with their signs, texts by their bytes, false before true, `nil` with `nil`,
-- bytes; two maps and two lists have no order
abbrev four : Value → Value → List Bool
four v w = compared two.Less v w ∷ compared two.AtMost v w ∷ compared two.Greater v w ∷ compared two.AtLeast v w ∷ []

pub orders : four (int (negsuc 0)) (int (pos 1)) ∷ four (text (codes "10")) (text (codes "9")) ∷ four (truth true) (truth false) ∷ four (int (pos 3)) (int (pos 3)) ∷ four (int (pos 3)) (text (codes "3")) ∷ four nil nil ∷ four (bytes (1 ∷ 2 ∷ [])) (bytes (1 ∷ [])) ∷ four (map []) (map []) ∷ four (list []) (list []) ∷ [] ≡
    (true ∷ true ∷ false ∷ false ∷ []) ∷ (true ∷ true ∷ false ∷ false ∷ []) ∷ (false ∷ false ∷ true ∷ true ∷ []) ∷ (false ∷ true ∷ false ∷ true ∷ []) ∷ (false ∷ false ∷ false ∷ false ∷ []) ∷ (false ∷ true ∷ false ∷ true ∷ []) ∷ (false ∷ false ∷ true ∷ true ∷ []) ∷ (false ∷ false ∷ false ∷ false ∷ []) ∷ (false ∷ false ∷ false ∷ false ∷ []) ∷ []
unfolding compared
orders = refl

abbrev yes : Answer Value
yes = Ok (truth true)

abbrev no : Answer Value
no = Ok (truth false)

-- quotients go toward 0; sums wrap at 2^63; a quotient by 0, a text
pub sums : calculated two.Add (int (pos 2)) (int (pos 3)) ∷ calculated two.Subtract (int (pos 2)) (int (pos 3)) ∷ calculated two.Multiply (int (negsuc 1)) (int (pos 3)) ∷ calculated two.Divide (int (negsuc 6)) (int (pos 2)) ∷ calculated two.Add (int (pos 9223372036854775807)) (int (pos 1)) ∷ calculated two.Divide (int (pos 1)) (int (pos 0)) ∷ calculated two.Add (int (pos 1)) (text (codes "1")) ∷ [] ≡
    Ok (int (pos 5)) ∷ Ok (int (negsuc 0)) ∷ Ok (int (negsuc 5)) ∷ Ok (int (negsuc 2)) ∷ Ok (int (negsuc 9223372036854775807)) ∷ Err errors.DividedByZero ∷ Err errors.NotANumber ∷ []
unfolding calculated
sums = refl

-- a root of kind 2 with one attribute, a text
abbrev pair : List ℕ → AnyValue → KeyValue
pair k v = record { key = k; value = v }

abbrev sent : Record
sent = record {
  resource = no_resource;
  resource_schema_url = [];
  scope = no_scope;
  scope_schema_url = [];
  span = record (plain_span None 2 1 9) {
    name = codes "GET /";
    kind = pos 2;
    attributes = pair (codes "t") (Str (codes "x")) ∷ [];
  };
}

abbrev at_keys : List Key → Term
at_keys ks = path (record { root = roots.Attributes; keys = ks })

abbrev key : List ℕ → Key
key k = keys.Text k

abbrev nothing : Term
nothing = literal literals.Nil

abbrev fails : Term
fails = binary two.Equal (at_keys (key (codes "t") ∷ key (codes "u") ∷ [])) nothing

abbrev yes_term : Term
yes_term = literal (literals.Bool true)

abbrev says : Term → Answer Bool
says t = meaning t (span sent)

-- places of a list: the first, the second, none, one below 0; a text as a key of a list, a number as a key of a map, a
-- key of a text
abbrev numbers : Value
numbers = list (Int (pos 7) ∷ Int (pos 8) ∷ [])

abbrev one_pair : Value
one_pair = map (pair (codes "k") Empty ∷ [])

pub places : walk numbers (keys.Index (pos 0) ∷ []) ∷ walk numbers (keys.Index (pos 1) ∷ []) ∷ walk numbers (keys.Index (pos 2) ∷ []) ∷ walk numbers (keys.Index (negsuc 0) ∷ []) ∷ walk numbers (key (codes "0") ∷ []) ∷ walk one_pair (keys.Index (pos 0) ∷ []) ∷ walk (text (codes "x")) (key (codes "k") ∷ []) ∷ [] ≡
    Ok (int (pos 7)) ∷ Ok (int (pos 8)) ∷ Err errors.OutOfBounds ∷ Err errors.OutOfBounds ∷ Err errors.KeyIsNoIndex ∷ Err errors.KeyIsNoText ∷ Err errors.NoKeysInside ∷ []
unfolding any.out-AnyValue denote.Hole.Carrier.out
places = refl

-- what a map has, and what it hasn't: that is `nil`, whatever keys follow
pub missing : walk one_pair (key (codes "k") ∷ []) ∷ walk one_pair (key (codes "n") ∷ []) ∷ walk one_pair (key (codes "n") ∷ keys.Index (pos 3) ∷ []) ∷ walk one_pair (key (codes "k") ∷ key (codes "k") ∷ []) ∷ [] ≡
    Ok nil ∷ Ok nil ∷ Ok nil ∷ Err errors.NoKeysInside ∷ []
unfolding any.out-AnyValue denote.Hole.Carrier.out
missing = refl

-- an error is one of the whole where it is met: `E or true`, `true or E`, `E and false`, `false and E`, `not E`
pub errors_of_parts : each_of says (binary two.Or fails yes_term ∷ binary two.Or yes_term fails ∷ binary two.And fails (unary one.Not yes_term) ∷ binary two.And (unary one.Not yes_term) fails ∷ unary one.Not fails ∷ []) ≡
    Err errors.NoKeysInside ∷ Ok true ∷ Err errors.NoKeysInside ∷ Ok false ∷ Err errors.NoKeysInside ∷ []
unfolding meaning combined compared made_of any.out-AnyValue denote.Hole.Carrier.out
errors_of_parts = refl

-- a length is no condition; a root span; kinds by name
pub others : each_of says (unary one.Len (path (record { root = roots.Name; keys = [] })) ∷ is_root_span ∷ binary two.Equal (path (record { root = roots.KindText; keys = [] })) (literal (literals.Text (codes "Server"))) ∷ binary two.HasPrefix (path (record { root = roots.Name; keys = [] })) (literal (literals.Text (codes "GET"))) ∷ binary two.HasSuffix (path (record { root = roots.Kind; keys = [] })) (literal (literals.Text (codes "T"))) ∷ []) ≡
    Err errors.NotABool ∷ Ok true ∷ Ok true ∷ Ok true ∷ Err errors.NotAText ∷ []
unfolding meaning combined compared made_of tested any.out-AnyValue denote.Hole.Carrier.out
others = refl

-- the length of a text; a text and its ends; what no regular expression is searched in
pub tests : made_of one.Len (text (codes "abc")) ∷ made_of one.Len (map []) ∷ made_of one.Len (int (pos 3)) ∷ made_of one.IsInt (int (pos 3)) ∷ made_of one.IsString nil ∷ tested has_prefix (text (codes "abc")) (text (codes "ab")) ∷ tested has_suffix (text (codes "abc")) (text (codes "ab")) ∷ tested has_suffix (text (codes "c")) (text (codes "bc")) ∷ searched (codes "^a") nil ∷ searched (codes "^a") (map []) ∷ [] ≡
    Ok (int (pos 3)) ∷ Ok (int (pos 0)) ∷ Err errors.NoLength ∷ yes ∷ no ∷ yes ∷ no ∷ no ∷ no ∷ Err errors.NotAText ∷ []
unfolding made_of tested searched
tests = refl

-- a whole number with a float, which is compared as a float; a NaN has no order
abbrev one_float : Value
one_float = float (of_int binary64 (pos 1))

pub floats : four (int (pos 1)) one_float ∷ four one_float (int (pos 2)) ∷ four (float nan) (float nan) ∷ four one_float (text (codes "1")) ∷ [] ≡
    (false ∷ true ∷ false ∷ true ∷ []) ∷ (true ∷ true ∷ false ∷ false ∷ []) ∷ (false ∷ false ∷ false ∷ false ∷ []) ∷ (false ∷ false ∷ false ∷ false ∷ []) ∷ []
unfolding compared of_int round lib.Ieee.lt lib.Ieee.eq
floats = refl

-- each path of an event, and of its span, on an event; of an event where none is asked
abbrev happened : Event
happened = record { time_unix_nano = 7; name = codes "retry"; attributes = pair (codes "n") (Int (pos 3)) ∷ []; dropped_attributes_count = 4 }

abbrev starts : Root → Term
starts root = path (record { root = root; keys = [] })

abbrev at_event : Term → Answer Value
at_event t = value_on (event sent happened) t

pub paths_of_events : each_of at_event (starts roots.EventName ∷ starts roots.EventTime ∷ path (record { root = roots.EventAttributes; keys = key (codes "n") ∷ [] }) ∷ starts roots.EventDroppedAttributes ∷ starts roots.Name ∷ at_keys (key (codes "t") ∷ []) ∷ starts roots.ScopeName ∷ starts roots.StartTime ∷ []) ≡
    Ok (text (codes "retry")) ∷ Ok (int (pos 7)) ∷ Ok (int (pos 3)) ∷ Ok (int (pos 4)) ∷ Ok (text (codes "GET /")) ∷ Ok (text (codes "x")) ∷ Ok (text []) ∷ Ok (int (pos 1)) ∷ []
unfolding any.out-AnyValue denote.Hole.Carrier.out
paths_of_events = refl

pub no_event : each_of (value_on (span sent)) (starts roots.EventName ∷ starts roots.EventAttributes ∷ []) ≡ Ok nil ∷ Ok nil ∷ []
no_event = refl

-- what converts to a whole number, and what to none
pub whole_numbers : each_of as_int (int (pos 3) ∷ truth true ∷ truth false ∷ text (codes "-12") ∷ text (codes "1.5") ∷ text (codes "9223372036854775808") ∷ text [] ∷ nil ∷ map [] ∷ list [] ∷ bytes [] ∷ duration (pos 3) ∷ []) ≡
    int (pos 3) ∷ int (pos 1) ∷ int (pos 0) ∷ int (negsuc 11) ∷ nil ∷ nil ∷ nil ∷ nil ∷ nil ∷ nil ∷ nil ∷ nil ∷ []
unfolding as_int int_of
whole_numbers = refl

-- texts of values
pub texts : each_of as_text (text (codes "a") ∷ int (negsuc 11) ∷ truth true ∷ truth false ∷ nil ∷ map [] ∷ list [] ∷ bytes [] ∷ duration (pos 3) ∷ time (pos 3) ∷ []) ≡
    Ok (text (codes "a")) ∷ Ok (text (codes "-12")) ∷ Ok (text (codes "true")) ∷ Ok (text (codes "false")) ∷ Ok nil ∷ Err errors.NoText ∷ Err errors.NoText ∷ Err errors.NoText ∷ Err errors.NoText ∷ Err errors.NoText ∷ []
unfolding as_text digits
texts = refl

-- durations of texts; differences of times, which stop at the ends; sums of durations; what they aren't added to
pub lengths_of_time : as_duration (text (codes "1m")) ∷ as_duration (text (codes "1")) ∷ as_duration (int (pos 1)) ∷ calculated two.Subtract (time (pos 9)) (time (pos 2)) ∷ calculated two.Subtract (time (pos 1)) (time (negsuc 9223372036854775807)) ∷ calculated two.Add (time (pos 9)) (time (pos 2)) ∷ calculated two.Add (duration (pos 9)) (duration (pos 2)) ∷ calculated two.Subtract (duration (pos 2)) (duration (pos 9)) ∷ calculated two.Multiply (duration (pos 2)) (duration (pos 9)) ∷ calculated two.Add (time (pos 2)) (duration (pos 9)) ∷ calculated two.Add (duration (pos 2)) (int (pos 9)) ∷ [] ≡
    Ok (duration (pos 60000000000)) ∷ Err errors.NotADuration ∷ Err errors.NotAText ∷ Ok (duration (pos 7)) ∷ Ok (duration (pos 9223372036854775807)) ∷ Err errors.NotANumber ∷ Ok (duration (pos 11)) ∷ Ok (duration (negsuc 6)) ∷ Err errors.NotANumber ∷ Err errors.NotANumber ∷ Err errors.NotANumber ∷ []
unfolding as_duration calculated digits_len unit_len with_unit fraction_at part_at parts_from unsigned_of duration_of
lengths_of_time = refl

-- times with times, durations with durations; of others just `!=` holds
pub orders_of_time : four (time (pos 1)) (time (pos 2)) ∷ four (duration (pos 2)) (duration (negsuc 1)) ∷ four (time (pos 1)) (duration (pos 1)) ∷ four (duration (pos 1)) (int (pos 1)) ∷ [] ≡
    (true ∷ true ∷ false ∷ false ∷ []) ∷ (false ∷ false ∷ true ∷ true ∷ []) ∷ (false ∷ false ∷ false ∷ false ∷ []) ∷ (false ∷ false ∷ false ∷ false ∷ []) ∷ []
unfolding compared
orders_of_time = refl

-- parts of a text: from the front, inside, to the end, behind it, of no byte, from below 0; of others
abbrev part : ℤ → ℤ → Answer Value
part start size = part_of (text (codes "abcd")) (int start) (int size)

pub parts : part (pos 0) (pos 2) ∷ part (pos 1) (pos 2) ∷ part (pos 2) (pos 2) ∷ part (pos 3) (pos 2) ∷ part (pos 1) (pos 0) ∷ part (negsuc 0) (pos 2) ∷ part (pos 1) (negsuc 0) ∷ part_of (text (195 ∷ 164 ∷ [])) (int (pos 0)) (int (pos 1)) ∷ part_of (text (195 ∷ 164 ∷ [])) (int (pos 0)) (int (pos 2)) ∷ part_of (text (codes "a")) nil (int (pos 1)) ∷ part_of nil (int (pos 0)) (int (pos 1)) ∷ [] ≡
    Ok (text (codes "ab")) ∷ Ok (text (codes "bc")) ∷ Ok (text (codes "cd")) ∷ Err errors.OutOfText ∷ Err errors.OutOfText ∷ Err errors.OutOfText ∷ Err errors.OutOfText ∷ Err errors.OutOfText ∷ Ok (text (195 ∷ 164 ∷ [])) ∷ Err errors.NotANumber ∷ Err errors.NotAText ∷ []
unfolding part_of piece_of is_utf8 chars encode
parts = refl

-- the times of a span and of an event
pub moments : each_of at_event (starts roots.StartMoment ∷ starts roots.EndMoment ∷ starts roots.EventMoment ∷ starts roots.EndTime ∷ []) ≡
    Ok (time (pos 1)) ∷ Ok (time (pos 9)) ∷ Ok (time (pos 7)) ∷ Ok (int (pos 9)) ∷ []
moments = refl

-- floats: of whole numbers and texts, and back; of one without its fraction
pub from_floats : as_float (int (pos 1)) ∷ as_float (truth true) ∷ as_float (text (codes "a")) ∷ as_float (list []) ∷ as_int one_float ∷ [] ≡
    one_float ∷ one_float ∷ nil ∷ nil ∷ int (pos 1) ∷ []
unfolding as_float as_int float_of of_int round to_signed read_float scan_numeral
from_floats = refl

-- floats, times and durations with each other type, both ways round
abbrev later : List Value
later = one_float ∷ time (pos 1) ∷ duration (pos 1) ∷ []

pub equal_by_more_types : each_of (λ v. each_of (λ w. compared two.Equal v w) later) later ∷ each_of (λ v. each_of (λ w. compared two.Equal v w) later) samples ∷ each_of (λ v. each_of (λ w. compared two.Equal v w) samples) later ∷ [] ≡
    ((true ∷ false ∷ false ∷ []) ∷ (false ∷ true ∷ false ∷ []) ∷ (false ∷ false ∷ true ∷ []) ∷ [])
    ∷ ((false ∷ false ∷ false ∷ []) ∷ (false ∷ false ∷ false ∷ []) ∷ (true ∷ false ∷ false ∷ []) ∷ (false ∷ false ∷ false ∷ []) ∷ (false ∷ false ∷ false ∷ []) ∷ (false ∷ false ∷ false ∷ []) ∷ (false ∷ false ∷ false ∷ []) ∷ [])
    ∷ ((false ∷ false ∷ true ∷ false ∷ false ∷ false ∷ false ∷ []) ∷ (false ∷ false ∷ false ∷ false ∷ false ∷ false ∷ false ∷ []) ∷ (false ∷ false ∷ false ∷ false ∷ false ∷ false ∷ false ∷ []) ∷ []) ∷ []
unfolding compared of_int round lib.Ieee.lt lib.Ieee.eq
equal_by_more_types = refl

-- each path of a span that has no ids
abbrev full : Record
full = record {
  resource = record { attributes = pair (codes "r") Empty ∷ []; dropped_attributes_count = 11 };
  resource_schema_url = [];
  scope = record { name = codes "lib"; version = codes "1.2"; attributes = pair (codes "s") Empty ∷ []; dropped_attributes_count = 12 };
  scope_schema_url = [];
  span = record (plain_span None 2 1 9) {
    trace_state = codes "a=b";
    name = codes "GET /";
    kind = pos 3;
    attributes = pair (codes "t") Empty ∷ [];
    dropped_attributes_count = 4;
    dropped_events_count = 5;
    dropped_links_count = 6;
    status = record { message = codes "no"; code = pos 2 };
  };
}

pub paths_of_spans : each_of (λ root. value_on (span full) (starts root)) (roots.Name ∷ roots.Kind ∷ roots.KindText ∷ roots.StatusCode ∷ roots.StatusMessage ∷ roots.TraceState ∷ roots.TraceIdText ∷ roots.SpanIdText ∷ roots.ParentSpanIdText ∷ roots.StartTime ∷ roots.EndTime ∷ roots.Attributes ∷ roots.DroppedAttributes ∷ roots.DroppedEvents ∷ roots.DroppedLinks ∷ roots.ResourceAttributes ∷ roots.ResourceDroppedAttributes ∷ roots.ScopeName ∷ roots.ScopeVersion ∷ roots.ScopeAttributes ∷ roots.ScopeDroppedAttributes ∷ []) ≡
    Ok (text (codes "GET /")) ∷ Ok (int (pos 3)) ∷ Ok (text (codes "Client")) ∷ Ok (int (pos 2)) ∷ Ok (text (codes "no")) ∷ Ok (text (codes "a=b"))
    ∷ Ok (text (codes "00000000000000000000000000000000")) ∷ Ok (text (codes "0000000000000000")) ∷ Ok (text (codes "0000000000000000")) ∷ Ok (int (pos 1)) ∷ Ok (int (pos 9))
    ∷ Ok (map (pair (codes "t") Empty ∷ [])) ∷ Ok (int (pos 4)) ∷ Ok (int (pos 5)) ∷ Ok (int (pos 6)) ∷ Ok (map (pair (codes "r") Empty ∷ [])) ∷ Ok (int (pos 11))
    ∷ Ok (text (codes "lib")) ∷ Ok (text (codes "1.2")) ∷ Ok (map (pair (codes "s") Empty ∷ [])) ∷ Ok (int (pos 12)) ∷ []
paths_of_spans = refl

-- each kind by name, and a number that has none
pub kinds : each_of kind_text (pos 0 ∷ pos 1 ∷ pos 2 ∷ pos 3 ∷ pos 4 ∷ pos 5 ∷ pos 6 ∷ negsuc 0 ∷ []) ≡
    codes "Unspecified" ∷ codes "Internal" ∷ codes "Server" ∷ codes "Client" ∷ codes "Producer" ∷ codes "Consumer" ∷ [] ∷ [] ∷ []
kinds = refl

-- the texts that values have in `Concat`; what has none
pub likes : each_of as_like (text (codes "a") ∷ nil ∷ int (negsuc 11) ∷ truth true ∷ truth false ∷ one_float ∷ map [] ∷ list [] ∷ bytes [] ∷ duration (pos 3) ∷ time (pos 3) ∷ []) ≡
    Ok (text (codes "a")) ∷ Ok (text (codes "<nil>")) ∷ Ok (text (codes "-12")) ∷ Ok (text (codes "true")) ∷ Ok (text (codes "false")) ∷ Err errors.NoText ∷ Err errors.NoText ∷ Err errors.NoText ∷ Err errors.NoText ∷ Err errors.NoText ∷ Err errors.NoText ∷ []
unfolding as_like as_text digits
likes = refl

-- texts in a case; what is no text; a text as long as may be, and one byte longer
pub in_cases : made.cased Upper (text (codes "aB1")) ∷ made.cased Lower (text (codes "aB1")) ∷ made.cased Upper nil ∷ made.cased Lower (int (pos 1)) ∷ [] ≡
    Ok (text (codes "AB1")) ∷ Ok (text (codes "ab1")) ∷ Err errors.NotAText ∷ Err errors.NotAText ∷ []
unfolding made.cased within letters_in letter_in by_runs by_strings uppercase_runs uppercase_strings to_uppercase lowercase_runs lowercase_strings to_lowercase chars encode
in_cases = refl

pub joins : made.joined (codes "-") (text (codes "a")) (text (codes "b")) ∷ made.joined [] (text []) (text (codes "b")) ∷ made.joined (codes "-") nil (text (codes "b")) ∷ made.joined (codes "-") (text (replicate 16382 97)) (text (codes "bc")) ∷ [] ≡
    Ok (text (codes "a-b")) ∷ Ok (text (codes "b")) ∷ Err errors.NotAText ∷ Err errors.TextTooLong ∷ []
unfolding made.joined within
joins = refl

-- `Concat` of three values, one within another and in a case; the error of the first value, and of another
abbrev like : Term → Term
like t = unary one.Like t

abbrev name_on : Term
name_on = path (record { root = roots.Name; keys = [] })

abbrev letter : ℕ → Term
letter c = literal (literals.Text (c ∷ []))

pub joined_values : each_of (value_on (span sent)) (concat (like name_on) (codes ", ") (concat (like nothing) (codes ", ") (like (literal (literals.Int (pos 7))))) ∷ cased Lower (concat (like name_on) [] (like (letter 65))) ∷ concat (like (concat (like (letter 97)) (codes "-") (like (letter 98)))) (codes "+") (like (letter 99)) ∷ concat (like (at_keys (key (codes "t") ∷ key (codes "u") ∷ []))) [] (like (cased Upper nothing)) ∷ concat (like name_on) [] (like (cased Upper nothing)) ∷ concat (like (literal (literals.Bytes []))) [] (like (cased Upper nothing)) ∷ []) ≡
    Ok (text (codes "GET /, <nil>, 7")) ∷ Ok (text (codes "get /a")) ∷ Ok (text (codes "a-b+c")) ∷ Err errors.NoKeysInside ∷ Err errors.NotAText ∷ Err errors.NoText ∷ []
unfolding made_of as_like as_text digits made.cased made.joined within letters_in letter_in by_runs by_strings uppercase_runs uppercase_strings to_uppercase lowercase_runs lowercase_strings to_lowercase chars encode any.out-AnyValue denote.Hole.Carrier.out
joined_values = refl

-- how many texts are made, and what is searched for
pub makers : each_of texts_made (name_on ∷ like name_on ∷ cased Lower (cased Upper name_on) ∷ concat (like name_on) [] (concat (like (cased Lower name_on)) [] (like name_on)) ∷ binary two.Or (cased Lower name_on) (concat (like name_on) [] (like name_on)) ∷ []) ≡ 0 ∷ 0 ∷ 2 ∷ 3 ∷ 2 ∷ []
makers = refl
