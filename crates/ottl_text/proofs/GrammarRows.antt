-- Worked rows of conditions by their texts, by computation.
-- No contract rests on it: it shows the definitions on worked cases.
use Rattle.std.specs.Prelude.{◌≡◌, ℕ, zero, suc, pos, negsuc, false, List, [], ◌∷◌, map, codes, Ok, Err, refl, ⊤}
use Rattle.std.specs.Str.{is_utf8, chars}
use lib.Utf8.{encode}
use Rattle.ottl_text.proofs.Rows.{pieces_on_literals}
use Rattle.ottl_text.specs.Literals.{int_of, float_of, bytes_of, text_of}
use Rattle.ottl_text.specs.Names.{enumeration_of, unary_of, binary_of, case_named, number_root_of, span_root_of, event_root_of, outer_root_of, root_of}
use Rattle.ottl_text.specs.Syntax.{Term, literal, path, is_root_span, unary, binary, is_match, substring, cased, concat}
use Rattle.ottl_text.specs.Gives.{Read}
use Rattle.ottl_text.specs.Grammar.{next_at, after_sign, joined, text_at, bytes_at, int_at, float_at, key_of, key_at, keyed, path_at, pattern_at, case_at, delimiter_at, no_values_at, concat_at, root_span_at, literal_at, argument_at, unary_at, binary_at, match_at, substring_at, cased_at, not_at, inner_at, named_at, word_at, operand, expression, operators, values, condition_of}
use Rattle.ottl_text.specs.declared.expression.Context.TheVariants as contexts
use Rattle.ottl_text.specs.declared.expression.Root.{Root}
use Rattle.ottl_text.specs.declared.expression.Root.TheVariants as roots
use Rattle.ottl_text.specs.declared.expression.Key.{Key}
use Rattle.ottl_text.specs.declared.expression.Key.TheVariants as keys
use Rattle.ottl_text.specs.declared.expression.Literal.TheVariants as literals
use Rattle.ottl_text.specs.declared.expression.Case.TheVariants as cases
use Rattle.ottl_text.specs.declared.expression.Unary.TheVariants as one
use Rattle.ottl_text.specs.declared.expression.Binary.TheVariants as two
use Rattle.ottl_text.specs.declared.fault.FaultKind.{FaultKind}
use Rattle.ottl_text.specs.declared.fault.FaultKind.TheVariants as faults

-- what a row unfolds to compute the condition that a text is, where it is written out
unfoldable pub conditions_on_literals : ⊤
unfolding pieces_on_literals is_utf8 chars encode int_of float_of bytes_of text_of enumeration_of unary_of binary_of case_named number_root_of span_root_of event_root_of outer_root_of root_of next_at after_sign joined text_at bytes_at int_at float_at key_of key_at keyed path_at pattern_at case_at delimiter_at no_values_at concat_at root_span_at literal_at argument_at unary_at binary_at match_at substring_at cased_at not_at inner_at named_at word_at operand expression operators values condition_of
conditions_on_literals = tt

abbrev at_root : Root → List Key → Term
at_root root ks = path (record { root = root; keys = ks })

abbrev name : Term
name = at_root roots.Name []

abbrev kind : Term
kind = at_root roots.Kind []

abbrev whole : ℕ → Term
whole n = literal (literals.Int (pos n))

abbrev said : List ℕ → Term
said s = literal (literals.Text s)

-- `and` binds tighter than `or`, comparisons tighter than both
pub precedences : condition_of contexts.Span (codes "name == \"a\" or kind == 2 and kind < 3") ≡
    Ok (binary two.Or (binary two.Equal name (said (codes "a"))) (binary two.And (binary two.Equal kind (whole 2)) (binary two.Less kind (whole 3))))
unfolding conditions_on_literals
precedences = refl

-- from left to right, and as parentheses say; `not` takes one comparison
pub groups : condition_of contexts.Span (codes "not kind - 1 - 2 * kind > 3 and (IsRootSpan() or false)") ≡
    Ok (binary two.And
    (unary one.Not (binary two.Greater (binary two.Subtract (binary two.Subtract kind (whole 1)) (binary two.Multiply (whole 2) kind)) (whole 3)))
    (binary two.Or is_root_span (literal (literals.Bool false))))
unfolding conditions_on_literals
groups = refl

-- keys, functions, enumerations, `span.` in front
pub parts : condition_of contexts.Span (codes "IsMatch(span.attributes[\"a\\n\"][-1], \"^b\") and kind == SPAN_KIND_SERVER and Len(name)>0") ≡
    Ok (binary two.And (binary two.And
    (is_match (at_root roots.Attributes (keys.Text (97 ∷ 10 ∷ []) ∷ keys.Index (negsuc 0) ∷ [])) (codes "^b"))
    (binary two.Equal kind (whole 2))) (binary two.Greater (unary one.Len name) (whole 0)))
unfolding conditions_on_literals
parts = refl

abbrev refused_as : FaultKind → ℕ → Read Term
refused_as k column = Err (record { kind = k; column = column })

-- texts that are no conditions, each with its fault and the column of that
pub first_faults : map (condition_of contexts.Span) (codes "name ==" ∷ codes "nam == 1" ∷ codes "kind = 1" ∷ codes "not name" ∷ codes "1 + \"a\" == 2" ∷ codes "(kind == 1" ∷ codes "name[\"a\"] == 1" ∷ codes " kind" ∷ codes "kind == 1 1" ∷ codes "1 == 2 == 3" ∷ []) ≡
    refused_as faults.NoValueHere 8 ∷ refused_as faults.UnknownName 1 ∷ refused_as faults.UnknownCharacter 6 ∷ refused_as faults.NotACondition 5 ∷ refused_as faults.NotANumber 3 ∷ refused_as faults.NoClosing 11 ∷ refused_as faults.TakesNoKeys 5 ∷ refused_as faults.NotACondition 2 ∷ refused_as faults.GoesOn 11 ∷ refused_as faults.NotAValue 8 ∷ []
unfolding conditions_on_literals
first_faults = refl

-- paths of an event, with `spanevent.` or without; those of its span stand behind `span.`, and are no others
pub of_events : condition_of contexts.SpanEvent (codes "name == \"a\" and spanevent.attributes[\"b\"] == span.name and time_unix_nano > span.start_time_unix_nano") ≡
    Ok (binary two.And (binary two.And
    (binary two.Equal (at_root roots.EventName []) (said (codes "a")))
    (binary two.Equal (at_root roots.EventAttributes (keys.Text (codes "b") ∷ [])) name))
    (binary two.Greater (at_root roots.EventTime []) (at_root roots.StartTime [])))
unfolding conditions_on_literals
of_events = refl

pub of_either : map (condition_of contexts.SpanEvent) (codes "kind == 1" ∷ codes "span.time_unix_nano == 1" ∷ codes "instrumentation_scope.name == \"\"" ∷ []) ≡
    refused_as faults.UnknownName 1 ∷ refused_as faults.UnknownName 1 ∷ Ok (binary two.Equal (at_root roots.ScopeName []) (said [])) ∷ []
unfolding conditions_on_literals
of_either = refl

pub of_spans : map (condition_of contexts.Span) (codes "spanevent.name == 1" ∷ codes "time_unix_nano == 1" ∷ codes "span.kind == 1" ∷ []) ≡
    refused_as faults.UnknownName 1 ∷ refused_as faults.UnknownName 1 ∷ Ok (binary two.Equal kind (whole 1)) ∷ []
unfolding conditions_on_literals
of_spans = refl

-- differences of times, and durations; parts of texts; conversions
pub of_times : condition_of contexts.Span (codes "end_time - start_time > Duration(\"1s\")") ≡
    Ok (binary two.Greater (binary two.Subtract (at_root roots.EndMoment []) (at_root roots.StartMoment [])) (unary one.Duration (said (codes "1s"))))
unfolding conditions_on_literals
of_times = refl

pub of_event_times : condition_of contexts.SpanEvent (codes "time - span.start_time > Duration(\"1s\")") ≡
    Ok (binary two.Greater (binary two.Subtract (at_root roots.EventMoment []) (at_root roots.StartMoment [])) (unary one.Duration (said (codes "1s"))))
unfolding conditions_on_literals
of_event_times = refl

pub of_parts : map (condition_of contexts.Span) (codes "Substring(name, 0, Len(name) - 1) == String(kind)" ∷ codes "Int(\"1\") == Double(1)" ∷ codes "Substring(name, 0) == \"\"" ∷ []) ≡
    Ok (binary two.Equal (substring name (whole 0) (binary two.Subtract (unary one.Len name) (whole 1))) (unary one.Text kind))
    ∷ Ok (binary two.Equal (unary one.Int (said (codes "1"))) (unary one.Double (whole 1)))
    ∷ refused_as faults.NoComma 18 ∷ []
unfolding conditions_on_literals
of_parts = refl

-- texts in a case, and joined: of three values, of one, of none
pub of_made_texts : map (condition_of contexts.Span) (codes "ConvertCase(name, \"lower\") == \"a\"" ∷ codes "Concat([name, ConvertCase(\"b\", \"upper\"), kind], \"-\") == \"\"" ∷ codes "Concat([], \",\") == Concat([name], \"\")" ∷ []) ≡
    Ok (binary two.Equal (cased cases.Lower name) (said (codes "a")))
    ∷ Ok (binary two.Equal (concat (unary one.Like name) (codes "-") (concat (unary one.Like (cased cases.Upper (said (codes "b")))) (codes "-") (unary one.Like kind))) (said []))
    ∷ Ok (binary two.Equal (said []) (unary one.Like name)) ∷ []
unfolding conditions_on_literals
of_made_texts = refl

-- another case; a case that isn't written out; no list, no comma in it, no value behind one; no delimiter
pub of_no_made_texts : map (condition_of contexts.Span) (codes "ConvertCase(name, \"snake\") == \"a\"" ∷ codes "ConvertCase(name, kind) == \"a\"" ∷ codes "Concat(name, \",\") == \"a\"" ∷ codes "Concat([name kind], \",\") == \"a\"" ∷ codes "Concat([name, ], \",\") == \"a\"" ∷ codes "Concat([name]) == \"a\"" ∷ codes "Concat([name], kind) == \"a\"" ∷ codes "Concat([name == 1], \"\") == \"a\"" ∷ []) ≡
    refused_as faults.NoCase 19 ∷ refused_as faults.NoCase 19 ∷ refused_as faults.NoOpeningBracket 8 ∷ refused_as faults.NoClosingBracket 14 ∷ refused_as faults.NoValueHere 15 ∷ refused_as faults.NoComma 14 ∷ refused_as faults.NoDelimiter 16 ∷ refused_as faults.NoClosingBracket 14 ∷ []
unfolding conditions_on_literals
of_no_made_texts = refl

-- a tree that is one level deeper than it has `not`s
abbrev nots : ℕ → Term
nots zero = is_root_span
nots (suc n) = unary one.Not (nots n)

-- a tree of an operator as deep as one may be, and one level deeper, on either side
pub of_deep : map (λ n. joined 10 two.And (nots n) is_root_span (codes " and true")) (398 ∷ 399 ∷ []) ≡ Ok (binary two.And (nots 398) is_root_span) ∷ refused_as faults.TooDeep 2 ∷ []
unfolding conditions_on_literals
of_deep = refl

pub of_deep_behind : map (λ n. joined 10 two.Or is_root_span (nots n) (codes " or false")) (398 ∷ 399 ∷ []) ≡ Ok (binary two.Or is_root_span (nots 398)) ∷ refused_as faults.TooDeep 2 ∷ []
unfolding conditions_on_literals
of_deep_behind = refl
