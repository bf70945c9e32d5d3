-- Worked rows of texts of trees, by computation.
-- No contract rests on it: it shows the definitions on worked cases.
use Rattle.std.specs.Prelude.{◌≡◌, ℕ, zero, suc, pos, negsuc, List, [], ◌∷◌, ◌++◌, map, codes, false, refl, ⊤}
use Rattle.std.specs.Float.{Float, binary64, float_is_finite}
use Rattle.std.specs.Fmt.{digits}
use Rattle.hex.specs.Hex.{encode_with}
use lib.Ieee.{to_bits, of_bits, round}
use Rattle.shortest_float.specs.Decimals.{reads, has_decimal, power_from, digits_over}
use Rattle.shortest_float.specs.Layout.{layout}
use Rattle.shortest_float.specs.Shortest.{size_text, shortest_text}
use Rattle.ottl_text.specs.declared.expression.Context.TheVariants as contexts
use Rattle.ottl_text.specs.declared.expression.Root.{Root}
use Rattle.ottl_text.specs.declared.expression.Root.TheVariants as roots
use Rattle.ottl_text.specs.declared.expression.Key.{Key}
use Rattle.ottl_text.specs.declared.expression.Key.TheVariants as keys
use Rattle.ottl_text.specs.declared.expression.Case.TheVariants as cases
use Rattle.ottl_text.specs.declared.expression.Literal.TheVariants as literals
use Rattle.ottl_text.specs.declared.expression.Unary.TheVariants as one
use Rattle.ottl_text.specs.declared.expression.Binary.TheVariants as two
use Rattle.ottl_text.specs.Syntax.{Term, literal, path, is_root_span, unary, binary, is_match, cased, concat}
use Rattle.ottl_print.specs.Texts.{float_text}
use Rattle.ottl_print.specs.Printing.{printed}

abbrev at_root : Root → List Key → Term
at_root root ks = path (record { root = root; keys = ks })

abbrev name : Term
name = at_root roots.Name []

abbrev kind : Term
kind = at_root roots.Kind []

abbrev said : List ℕ → Term
said s = literal (literals.Text s)

-- parentheses where precedence or the side needs them, and no others
pub parentheses : printed contexts.Span (binary two.And (unary one.Not (binary two.Or is_root_span (literal (literals.Bool false)))) (binary two.Equal (binary two.Subtract name (binary two.Subtract kind name)) (binary two.Multiply (binary two.Add name kind) name)))
    ≡ codes "not (IsRootSpan() or false) and name - (kind - name) == (name + kind) * name"
unfolding printed
parentheses = refl

pub no_parentheses : printed contexts.Span (binary two.Or (binary two.Or is_root_span (binary two.And (unary one.Not is_root_span) is_root_span)) (binary two.Less (binary two.Subtract (binary two.Subtract name kind) (binary two.Divide name kind)) name))
    ≡ codes "IsRootSpan() or not IsRootSpan() and IsRootSpan() or name - kind - name / kind < name"
unfolding printed
no_parentheses = refl

-- escapes, keys, functions
pub functions : printed contexts.Span (binary two.And (is_match (at_root roots.Attributes (keys.Text (97 ∷ 34 ∷ 10 ∷ []) ∷ keys.Text [] ∷ [])) (codes "^\\d")) (binary two.HasPrefix (cased cases.Lower name) (concat (unary one.Like name) (codes "-") (unary one.Like kind))))
    ≡ codes "IsMatch(attributes[\"a\\\"\\n\"][\"\"], \"^\\\\d\") and HasPrefix(ConvertCase(name, \"lower\"), Concat([name, kind], \"-\"))"
unfolding printed
functions = refl

-- in a condition on events the paths of the span stand behind `span.`
pub of_events : printed contexts.SpanEvent (binary two.NotEqual (at_root roots.EventName []) (unary one.Text (at_root roots.Name []))) ≡ codes "name != String(span.name)"
unfolding printed
of_events = refl

-- whole numbers, the least one too; bytes; floats, with a point before an exponent
unfoldable numbers_on_literals : ⊤
unfolding float_is_finite to_bits of_bits round digits reads has_decimal power_from digits_over layout size_text shortest_text float_text printed
numbers_on_literals = tt

abbrev number : Float → Term
number x = literal (literals.Float x)

pub wholes : printed contexts.Span (binary two.Less (literal (literals.Int (negsuc 9223372036854775807))) (literal (literals.Int (pos 10)))) ≡ codes "-9223372036854775808 < 10"
unfolding numbers_on_literals
wholes = refl

pub of_bytes : printed contexts.Span (binary two.Equal (literal (literals.Bytes (10 ∷ 255 ∷ []))) name) ≡ codes "0x0aff == name"
unfolding encode_with printed
of_bytes = refl

pub floats : printed contexts.Span (binary two.Less (number (of_bits binary64 0x4480F0CF064DD592)) (binary two.Add (number (of_bits binary64 0xBFF8000000000000)) (number (of_bits binary64 0x4092C00000000000)))) ≡ codes "1.0e22 < -1.5 + 1200.0"
unfolding numbers_on_literals
floats = refl

-- `not`s of `IsRootSpan()`, and their text
abbrev nots : ℕ → Term
nots zero = is_root_span
nots (suc n) = unary one.Not (nots n)

abbrev nots_text : ℕ → List ℕ
nots_text zero = codes "IsRootSpan()"
nots_text (suc n) = codes "not " ++ nots_text n

-- more parentheses just where the text with the fewest nests too deep to be read
pub sparing : map (λ n. printed contexts.Span (binary two.And (binary two.And is_root_span is_root_span) (nots n))) (195 ∷ 196 ∷ []) ≡
    (codes "IsRootSpan() and IsRootSpan() and " ++ nots_text 195) ∷ (codes "(IsRootSpan() and IsRootSpan()) and " ++ nots_text 196) ∷ []
unfolding printed
sparing = refl
