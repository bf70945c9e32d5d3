-- Names read back what they print.
-- For the law of laws::prints_as_itself.
use Rattle.std.proofs.Common.{◌≡◌, ℕ, Bool, true, false, ◌&&◌, List, [], ◌∷◌, ◌++◌, Ok, refl, sym, true≢false}
use Rattle.std.specs.List.{list_all}
use Rattle.ottl_lengths.specs.Lengths.{is_letter, is_of_word}
use Rattle.ottl_text.specs.declared.expression.Context.{Context}
use Rattle.ottl_text.specs.declared.expression.Context.TheVariants as contexts
use Rattle.ottl_text.specs.declared.expression.Root.{Root}
use Rattle.ottl_text.specs.declared.expression.Root.TheVariants as roots
use Rattle.ottl_text.specs.declared.expression.Unary.{Unary}
use Rattle.ottl_text.specs.declared.expression.Unary.TheVariants as one
use Rattle.ottl_text.specs.declared.expression.Binary.{Binary}
use Rattle.ottl_text.specs.declared.expression.Binary.TheVariants as two
use Rattle.ottl_text.specs.Names.{enumeration_of, unary_of, binary_of, number_root_of, span_root_of, event_root_of, outer_root_of, root_of}
use Rattle.ottl_text.specs.Syntax.{Term, is_not}
use Rattle.ottl_text.specs.Gives.{Read}
use Rattle.ottl_text.specs.Grammar.{path_at, unary_at, binary_at, named_at, word_at}
use Rattle.ottl_text.specs.Tokens.{word, next_piece}
use Rattle.ottl_print.specs.Names.{unary_name, binary_name, is_operator, root_name}
use Rattle.ottl_print.specs.Printing.{is_like}
use Rattle.ottl_print.proofs.Pieces.{Free, word_piece}
use Rattle.ottl_print.proofs.Literals.{split, passes_from}

abbrev pub is_name : List ℕ → Bool
is_name [] = false
is_name (c ∷ cs) = is_letter c && list_all is_of_word cs

pub name_piece : (w rest : List ℕ) → is_name w ≡ true → Free rest → next_piece (w ++ rest) ≡ Ok (word w, rest)
name_piece [] rest e free = absurd (true≢false (sym e))
name_piece (c ∷ cs) rest e free = let h = split (is_letter c) (list_all is_of_word cs) e in word_piece c cs rest h.0 (passes_from is_of_word cs h.1) free

-- which paths a context has
abbrev pub is_of_event : Root → Bool
is_of_event roots.EventName = true
is_of_event roots.EventTime = true
is_of_event roots.EventAttributes = true
is_of_event roots.EventDroppedAttributes = true
is_of_event roots.EventMoment = true
is_of_event _ = false

abbrev pub in_context : Context → Root → Bool
in_context contexts.Span root = Rattle.std.specs.Prelude.not (is_of_event root)
in_context contexts.SpanEvent root = true

pub root_is_name : (c : Context) (root : Root) → is_name (root_name c root) ≡ true
root_is_name contexts.Span roots.Name = refl
root_is_name contexts.Span roots.Kind = refl
root_is_name contexts.Span roots.KindText = refl
root_is_name contexts.Span roots.StatusCode = refl
root_is_name contexts.Span roots.StatusMessage = refl
root_is_name contexts.Span roots.TraceState = refl
root_is_name contexts.Span roots.TraceIdText = refl
root_is_name contexts.Span roots.SpanIdText = refl
root_is_name contexts.Span roots.ParentSpanIdText = refl
root_is_name contexts.Span roots.StartTime = refl
root_is_name contexts.Span roots.EndTime = refl
root_is_name contexts.Span roots.Attributes = refl
root_is_name contexts.Span roots.DroppedAttributes = refl
root_is_name contexts.Span roots.DroppedEvents = refl
root_is_name contexts.Span roots.DroppedLinks = refl
root_is_name contexts.Span roots.ResourceAttributes = refl
root_is_name contexts.Span roots.ResourceDroppedAttributes = refl
root_is_name contexts.Span roots.ScopeName = refl
root_is_name contexts.Span roots.ScopeVersion = refl
root_is_name contexts.Span roots.ScopeAttributes = refl
root_is_name contexts.Span roots.ScopeDroppedAttributes = refl
root_is_name contexts.Span roots.StartMoment = refl
root_is_name contexts.Span roots.EndMoment = refl
root_is_name contexts.Span roots.EventName = refl
root_is_name contexts.Span roots.EventTime = refl
root_is_name contexts.Span roots.EventAttributes = refl
root_is_name contexts.Span roots.EventDroppedAttributes = refl
root_is_name contexts.Span roots.EventMoment = refl
root_is_name contexts.SpanEvent roots.Name = refl
root_is_name contexts.SpanEvent roots.Kind = refl
root_is_name contexts.SpanEvent roots.KindText = refl
root_is_name contexts.SpanEvent roots.StatusCode = refl
root_is_name contexts.SpanEvent roots.StatusMessage = refl
root_is_name contexts.SpanEvent roots.TraceState = refl
root_is_name contexts.SpanEvent roots.TraceIdText = refl
root_is_name contexts.SpanEvent roots.SpanIdText = refl
root_is_name contexts.SpanEvent roots.ParentSpanIdText = refl
root_is_name contexts.SpanEvent roots.StartTime = refl
root_is_name contexts.SpanEvent roots.EndTime = refl
root_is_name contexts.SpanEvent roots.Attributes = refl
root_is_name contexts.SpanEvent roots.DroppedAttributes = refl
root_is_name contexts.SpanEvent roots.DroppedEvents = refl
root_is_name contexts.SpanEvent roots.DroppedLinks = refl
root_is_name contexts.SpanEvent roots.ResourceAttributes = refl
root_is_name contexts.SpanEvent roots.ResourceDroppedAttributes = refl
root_is_name contexts.SpanEvent roots.ScopeName = refl
root_is_name contexts.SpanEvent roots.ScopeVersion = refl
root_is_name contexts.SpanEvent roots.ScopeAttributes = refl
root_is_name contexts.SpanEvent roots.ScopeDroppedAttributes = refl
root_is_name contexts.SpanEvent roots.StartMoment = refl
root_is_name contexts.SpanEvent roots.EndMoment = refl
root_is_name contexts.SpanEvent roots.EventName = refl
root_is_name contexts.SpanEvent roots.EventTime = refl
root_is_name contexts.SpanEvent roots.EventAttributes = refl
root_is_name contexts.SpanEvent roots.EventDroppedAttributes = refl
root_is_name contexts.SpanEvent roots.EventMoment = refl

pub unary_is_name : (u : Unary) → is_name (unary_name u) ≡ true
unary_is_name one.Not = refl
unary_is_name one.IsString = refl
unary_is_name one.IsInt = refl
unary_is_name one.IsDouble = refl
unary_is_name one.IsBool = refl
unary_is_name one.IsMap = refl
unary_is_name one.IsList = refl
unary_is_name one.Len = refl
unary_is_name one.Int = refl
unary_is_name one.Double = refl
unary_is_name one.Text = refl
unary_is_name one.Duration = refl
unary_is_name one.Like = refl

module _ (behind : ℕ) (read : ℕ → List ℕ → Read (Term × List ℕ)) (levels : ℕ) (values : List ℕ → Read (Term × List ℕ × List ℕ)) where
  pub root_word : (c : Context) (root : Root) (s rest : List ℕ) → in_context c root ≡ true → word_at behind read levels c values (root_name c root) s rest ≡ path_at behind levels root rest
  unfolding word_at named_at unary_of binary_of enumeration_of number_root_of span_root_of event_root_of outer_root_of root_of
  root_word contexts.Span roots.Name s rest e = refl
  root_word contexts.Span roots.Kind s rest e = refl
  root_word contexts.Span roots.KindText s rest e = refl
  root_word contexts.Span roots.StatusCode s rest e = refl
  root_word contexts.Span roots.StatusMessage s rest e = refl
  root_word contexts.Span roots.TraceState s rest e = refl
  root_word contexts.Span roots.TraceIdText s rest e = refl
  root_word contexts.Span roots.SpanIdText s rest e = refl
  root_word contexts.Span roots.ParentSpanIdText s rest e = refl
  root_word contexts.Span roots.StartTime s rest e = refl
  root_word contexts.Span roots.EndTime s rest e = refl
  root_word contexts.Span roots.Attributes s rest e = refl
  root_word contexts.Span roots.DroppedAttributes s rest e = refl
  root_word contexts.Span roots.DroppedEvents s rest e = refl
  root_word contexts.Span roots.DroppedLinks s rest e = refl
  root_word contexts.Span roots.ResourceAttributes s rest e = refl
  root_word contexts.Span roots.ResourceDroppedAttributes s rest e = refl
  root_word contexts.Span roots.ScopeName s rest e = refl
  root_word contexts.Span roots.ScopeVersion s rest e = refl
  root_word contexts.Span roots.ScopeAttributes s rest e = refl
  root_word contexts.Span roots.ScopeDroppedAttributes s rest e = refl
  root_word contexts.Span roots.StartMoment s rest e = refl
  root_word contexts.Span roots.EndMoment s rest e = refl
  root_word contexts.Span roots.EventName s rest e = absurd (true≢false (sym e))
  root_word contexts.Span roots.EventTime s rest e = absurd (true≢false (sym e))
  root_word contexts.Span roots.EventAttributes s rest e = absurd (true≢false (sym e))
  root_word contexts.Span roots.EventDroppedAttributes s rest e = absurd (true≢false (sym e))
  root_word contexts.Span roots.EventMoment s rest e = absurd (true≢false (sym e))
  root_word contexts.SpanEvent roots.Name s rest e = refl
  root_word contexts.SpanEvent roots.Kind s rest e = refl
  root_word contexts.SpanEvent roots.KindText s rest e = refl
  root_word contexts.SpanEvent roots.StatusCode s rest e = refl
  root_word contexts.SpanEvent roots.StatusMessage s rest e = refl
  root_word contexts.SpanEvent roots.TraceState s rest e = refl
  root_word contexts.SpanEvent roots.TraceIdText s rest e = refl
  root_word contexts.SpanEvent roots.SpanIdText s rest e = refl
  root_word contexts.SpanEvent roots.ParentSpanIdText s rest e = refl
  root_word contexts.SpanEvent roots.StartTime s rest e = refl
  root_word contexts.SpanEvent roots.EndTime s rest e = refl
  root_word contexts.SpanEvent roots.Attributes s rest e = refl
  root_word contexts.SpanEvent roots.DroppedAttributes s rest e = refl
  root_word contexts.SpanEvent roots.DroppedEvents s rest e = refl
  root_word contexts.SpanEvent roots.DroppedLinks s rest e = refl
  root_word contexts.SpanEvent roots.ResourceAttributes s rest e = refl
  root_word contexts.SpanEvent roots.ResourceDroppedAttributes s rest e = refl
  root_word contexts.SpanEvent roots.ScopeName s rest e = refl
  root_word contexts.SpanEvent roots.ScopeVersion s rest e = refl
  root_word contexts.SpanEvent roots.ScopeAttributes s rest e = refl
  root_word contexts.SpanEvent roots.ScopeDroppedAttributes s rest e = refl
  root_word contexts.SpanEvent roots.StartMoment s rest e = refl
  root_word contexts.SpanEvent roots.EndMoment s rest e = refl
  root_word contexts.SpanEvent roots.EventName s rest e = refl
  root_word contexts.SpanEvent roots.EventTime s rest e = refl
  root_word contexts.SpanEvent roots.EventAttributes s rest e = refl
  root_word contexts.SpanEvent roots.EventDroppedAttributes s rest e = refl
  root_word contexts.SpanEvent roots.EventMoment s rest e = refl

  pub unary_word : (c : Context) (u : Unary) (s rest : List ℕ) → is_not u ≡ false → is_like u ≡ false → word_at behind read levels c values (unary_name u) s rest ≡ unary_at behind read u rest
  unfolding word_at named_at unary_of
  unary_word c one.Not s rest e l = absurd (true≢false e)
  unary_word c one.Like s rest e l = absurd (true≢false l)
  unary_word c one.IsString s rest e l = refl
  unary_word c one.IsInt s rest e l = refl
  unary_word c one.IsDouble s rest e l = refl
  unary_word c one.IsBool s rest e l = refl
  unary_word c one.IsMap s rest e l = refl
  unary_word c one.IsList s rest e l = refl
  unary_word c one.Len s rest e l = refl
  unary_word c one.Int s rest e l = refl
  unary_word c one.Double s rest e l = refl
  unary_word c one.Text s rest e l = refl
  unary_word c one.Duration s rest e l = refl

  pub binary_word : (c : Context) (b : Binary) (s rest : List ℕ) → is_operator b ≡ false → word_at behind read levels c values (binary_name b) s rest ≡ binary_at behind read b rest
  unfolding word_at named_at unary_of binary_of
  binary_word c two.Or s rest e = absurd (true≢false e)
  binary_word c two.And s rest e = absurd (true≢false e)
  binary_word c two.Equal s rest e = absurd (true≢false e)
  binary_word c two.NotEqual s rest e = absurd (true≢false e)
  binary_word c two.Less s rest e = absurd (true≢false e)
  binary_word c two.AtMost s rest e = absurd (true≢false e)
  binary_word c two.Greater s rest e = absurd (true≢false e)
  binary_word c two.AtLeast s rest e = absurd (true≢false e)
  binary_word c two.Add s rest e = absurd (true≢false e)
  binary_word c two.Subtract s rest e = absurd (true≢false e)
  binary_word c two.Multiply s rest e = absurd (true≢false e)
  binary_word c two.Divide s rest e = absurd (true≢false e)
  binary_word c two.HasPrefix s rest e = refl
  binary_word c two.HasSuffix s rest e = refl
