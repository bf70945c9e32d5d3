-- What a reader of the grammar has read.
-- For the law of laws::prints_as_itself.
use Rattle.std.proofs.Common.{◌≡◌, ℕ, zero, suc, ◌+◌, ◌<◌, ◌⊎◌, inl, inr, ℤ, pos, Bool, true, false, cond, ◌&&◌, List, [], ◌∷◌, ◌++◌, length, Ok, Err, Result, Option, Some, None, codes, refl, sym, ap, subst, arith, true≢false, eqb-true, length-append}
use Rattle.std.specs.Prelude.{◌==◌, bytes_eq, if◌then◌else◌}
use Rattle.std.specs.Str.{is_utf8}
use Rattle.std.specs.Float.{Float}
use Rattle.std.specs.Str.Parse.{without_leading_sign, signed_digits_value}
use Rattle.hex.specs.Hex.{IsBytes, decode_of}
use Rattle.hex.proofs.HexLemmas.{decode_of-ok}
use Rattle.ottl_text.specs.declared.expression.Context.{Context}
use Rattle.ottl_text.specs.declared.expression.Context.TheVariants as contexts
use Rattle.ottl_text.specs.declared.expression.Key.{Key}
use Rattle.ottl_text.specs.declared.expression.Key.TheVariants as keys
use Rattle.ottl_text.specs.declared.expression.Root.{Root}
use Rattle.ottl_text.specs.declared.expression.Root.TheVariants as roots
use Rattle.ottl_text.specs.declared.fault.FaultKind.{FaultKind}
use Rattle.ottl_text.specs.Gives.{Read, ◌>>=◌}
use Rattle.ottl_text.specs.Literals.{int_of, float_of, bytes_of, text_of, in_utf8, fits, are_digits, unescape, decoded}
use Rattle.ottl_text.specs.Names.{enumeration_of, number_root_of, span_root_of, outer_root_of, root_of, or_else, without}
use Rattle.ottl_text.specs.Tokens.{Piece, end, word, int, float, bytes, text, sign, operator, next_piece}
use Rattle.ottl_text.specs.Grammar.{at, next_at, after_sign, is_the_sign, text_at, bytes_at, int_at, float_at, key_of, key_at, keyed}
use Rattle.ottl_print.proofs.Literals.{split}
use Rattle.ottl_print.proofs.NamesBack.{is_of_event, in_context}
use Rattle.ottl_print.proofs.Steps.{Begins, FineKey, FineKeys}

passed : {A E : Type 0} → Result A E → Bool
passed (Ok a) = true
passed (Err e) = false

abbrev fails : (A E : Type 0) → E → Result A E
fails A E e = Err e

abbrev gives : (A E : Type 0) → A → Result A E
gives A E a = Ok a

pub no_ok : {A E : Type 0} {B : Type 0} (e : E) (a : A) → fails A E e ≡ Ok a → B
unfolding passed
no_ok e a same = absurd (true≢false (sym (ap passed same)))

-- both steps gave something
pub bind_ok : {A B E : Type 0} (r : Result A E) (f : A → Result B E) (b : B) → (r >>= f) ≡ Ok b → (a : A) × (r ≡ Ok a) × (f a ≡ Ok b)
bind_ok (Ok a) f b e = (a, refl, e)
bind_ok (Err x) f b e = no_ok x b e

-- the test passed
pub if_ok : {A E : Type 0} (test : Bool) (r : Result A E) (x : E) (a : A) → cond test r (Err x) ≡ Ok a → (test ≡ true) × (r ≡ Ok a)
if_ok true r x a e = (refl, e)
if_ok false r x a e = no_ok x a e

pub either_ok : {A : Type 0} (test : Bool) (r q o : A) → cond test r q ≡ o → ((test ≡ true) × (r ≡ o)) ⊎ ((test ≡ false) × (q ≡ o))
either_ok true r q o e = inl (refl, e)
either_ok false r q o e = inr (refl, e)

pub eq_of_test : (a b : ℕ) → (a == b) ≡ true → a ≡ b
eq_of_test a b e = eqb-true a b e

ok_of : {A E : Type 0} → A → Result A E → A
ok_of a (Ok b) = b
ok_of a (Err e) = a

pub same_ok : {A E : Type 0} (a b : A) → gives A E a ≡ Ok b → a ≡ b
unfolding ok_of
same_ok a b e = ap (ok_of a) e

some_of : {A : Type 0} → A → Option A → A
some_of a None = a
some_of a (Some b) = b

pub same_some : {A : Type 0} (a b : A) → Some a ≡ Some b → a ≡ b
unfolding some_of
same_some {A = A} a b e = ap (some_of {A = A} a) e

-- ---- literals
pub int_fits : (d : List ℕ) (z : ℤ) → int_of d ≡ Ok z → fits z ≡ true
unfolding int_of
int_fits d z e =
    let h = if_ok (are_digits (without_leading_sign d) && fits (signed_digits_value 10 d)) (Ok (signed_digits_value 10 d)) _ z e in
    let test = split (are_digits (without_leading_sign d)) (fits (signed_digits_value 10 d)) h.0 in
    subst (λ v. fits v ≡ true) (same_ok (signed_digits_value 10 d) z h.1) test.1

in_utf8_again : (s t : List ℕ) → in_utf8 s ≡ Ok t → in_utf8 t ≡ Ok t
in_utf8_again s t e = let h = if_ok (is_utf8 s) (Ok s) _ t e in let same = same_ok s t h.1 in subst (λ l. in_utf8 l ≡ Ok l) same (rw h.0 refl)

pub text_utf8 : (d t : List ℕ) → text_of d ≡ Ok t → in_utf8 t ≡ Ok t
unfolding text_of
text_utf8 d t e = let h = bind_ok (unescape (false, []) d) in_utf8 t e in in_utf8_again h.0 t h.2

decoded_ok : (d t : List ℕ) → decoded (decode_of d) ≡ Ok t → decode_of d ≡ Ok t
decoded_ok d t e = go (decode_of d) e
  where
    go : (r : Result (List ℕ) Rattle.hex.specs.declared.error.FromHexError.FromHexError) → decoded r ≡ Ok t → r ≡ Ok t
    go (Ok b) e = ap Ok (same_ok b t e)
    go (Err x) e = no_ok _ t e

pub bytes_fine : (d t : List ℕ) → bytes_of d ≡ Ok t → 0 < length d → IsBytes t × (0 < length t)
unfolding bytes_of
bytes_fine d t e some = let h = decode_of-ok d t (decoded_ok d t e) in (h.3, omega (arith, h.2, some))

-- ---- at a column
at_ok : {A : Type 0} (behind : ℕ) (s : List ℕ) (r : Result A FaultKind) (a : A) → at behind s r ≡ Ok a → r ≡ Ok a
at_ok behind s (Ok b) a e = ap Ok (same_ok b a e)
at_ok behind s (Err x) a e = no_ok _ a e

module _ (behind : ℕ) where
  pub next_began : (s rest : List ℕ) (p : Piece) → next_at behind s ≡ Ok (p, rest) → Begins s p rest
  unfolding next_at
  next_began s rest p e = at_ok behind s (next_piece s) (p, rest) e

  pub text_began : (d s t : List ℕ) → text_at behind d s ≡ Ok t → text_of d ≡ Ok t
  unfolding text_at
  text_began d s t e = at_ok behind s (text_of d) t e

  pub bytes_began : (d s t : List ℕ) → bytes_at behind d s ≡ Ok t → bytes_of d ≡ Ok t
  unfolding bytes_at
  bytes_began d s t e = at_ok behind s (bytes_of d) t e

  pub int_began : (d s : List ℕ) (z : ℤ) → int_at behind d s ≡ Ok z → int_of d ≡ Ok z
  unfolding int_at
  int_began d s z e = at_ok behind s (int_of d) z e

  pub float_began : (d s : List ℕ) (x : Float) → float_at behind d s ≡ Ok x → float_of d ≡ Ok x
  unfolding float_at
  float_began d s x e = at_ok behind s (float_of d) x e

  -- ---- keys
  key_fine : (p : Piece) (s : List ℕ) (k : Key) → key_of behind p s ≡ Ok k → FineKey k
  unfolding key_of
  key_fine (text d) s k e =
      let h = bind_ok (text_at behind d s) _ k e in subst FineKey (same_ok (keys.Text h.0) k h.2) (text_utf8 d h.0 (text_began d s h.0 h.1))
  key_fine (int d) s k e =
      let h = bind_ok (int_at behind d s) _ k e in subst FineKey (same_ok (keys.Index h.0) k h.2) (int_fits d h.0 (int_began d s h.0 h.1))
  key_fine end s k e = no_ok _ k e
  key_fine (bytes d) s k e = no_ok _ k e
  key_fine (float d) s k e = no_ok _ k e
  key_fine (word d) s k e = no_ok _ k e
  key_fine (operator b) s k e = no_ok _ k e
  key_fine (sign b) s k e = no_ok _ k e

  key_at_fine : (s : List ℕ) (r : Key × List ℕ) → key_at behind s ≡ Ok r → FineKey r.0
  unfolding key_at
  key_at_fine s r e =
      let h = bind_ok (next_at behind s) _ r e in
      let k = bind_ok (key_of behind h.0.0 s) _ r h.2 in
      subst (λ q. FineKey q.0) (same_ok (k.0, h.0.1) r k.2) (key_fine h.0.0 s k.0 k.1)

  fine_append : (ks : List Key) (k : Key) → FineKeys ks → FineKey k → FineKeys (ks ++ k ∷ [])
  fine_append [] k f g = (g, tt)
  fine_append (j ∷ ks) k f g = (f.0, fine_append ks k f.1 g)

  pub keyed_fine : (n : ℕ) (done : List Key) (s : List ℕ) (r : List Key × List ℕ) → FineKeys done → keyed behind n done s ≡ Ok r → FineKeys r.0 × (length r.0 < n + length done)
  unfolding keyed
  keyed_fine zero done s r f e = no_ok _ r e
  keyed_fine (suc n) done s r f e =
      let h = bind_ok (next_at behind s) _ r e in
      let more : Read (List Key × List ℕ) =
      key_at behind h.0.1 >>= λ k. after_sign behind 93 Rattle.ottl_text.specs.declared.fault.FaultKind.TheVariants.NoClosingBracket k.1 >>= λ rest. keyed behind n (done ++ k.0 ∷ []) rest in
      elim (either_ok (is_the_sign 91 h.0.0) more (Ok (done, s)) (Ok r) h.2) [
        | inl w ↦
            (let k = bind_ok (key_at behind h.0.1) _ r w.1 in
            let a = bind_ok (after_sign behind 93 Rattle.ottl_text.specs.declared.fault.FaultKind.TheVariants.NoClosingBracket k.0.1) _ r k.2 in
            let g = keyed_fine n (done ++ k.0.0 ∷ []) a.0 r (fine_append done k.0.0 f (key_at_fine h.0.1 k.0 k.1)) a.2 in
            (g.0, omega (arith, g.1, length-append done (k.0.0 ∷ []))))
        | inr w ↦ (let same = same_ok (done, s) r w.1 in subst (λ q. FineKeys q.0 × (length q.0 < suc n + length done)) same (f, omega arith))
      ]

-- ---- names
is_some_of : {A : Type 0} → Option A → Bool
is_some_of None = false
is_some_of (Some a) = true

pub no_some : {A B : Type 0} (a : A) → None ≡ Some a → B
unfolding is_some_of
no_some a same = absurd (true≢false (sym (ap is_some_of same)))

-- one case of a table: what it gives, and the others
pub case_some : {A : Type 0} (P : A → Type 0) (test : Bool) (a : A) (o : Option A) (value : A) → cond test (Some a) o ≡ Some value → P a → (o ≡ Some value → P value) → P value
case_some P true a o value e p q = subst P (same_some a value e) p
case_some P false a o value e p q = q e

abbrev Fits : ℤ → Type 0
Fits z = fits z ≡ true

pub enumeration_fits : (w : List ℕ) (value : ℤ) → enumeration_of w ≡ Some value → fits value ≡ true
unfolding enumeration_of
enumeration_fits w value = λ e.
    case_some Fits (bytes_eq w (codes "SPAN_KIND_UNSPECIFIED")) (pos 0) (if bytes_eq w (codes "SPAN_KIND_INTERNAL") then Some (pos 1) else (if bytes_eq w (codes "SPAN_KIND_SERVER") then Some (pos 2) else (if bytes_eq w (codes "SPAN_KIND_CLIENT") then Some (pos 3) else (if bytes_eq w (codes "SPAN_KIND_PRODUCER") then Some (pos 4) else (if bytes_eq w (codes "SPAN_KIND_CONSUMER") then Some (pos 5) else (if bytes_eq w (codes "STATUS_CODE_UNSET") then Some (pos 0) else (if bytes_eq w (codes "STATUS_CODE_OK") then Some (pos 1) else (if bytes_eq w (codes "STATUS_CODE_ERROR") then Some (pos 2) else None)))))))) value e refl
    (λ e. case_some Fits (bytes_eq w (codes "SPAN_KIND_INTERNAL")) (pos 1) (if bytes_eq w (codes "SPAN_KIND_SERVER") then Some (pos 2) else (if bytes_eq w (codes "SPAN_KIND_CLIENT") then Some (pos 3) else (if bytes_eq w (codes "SPAN_KIND_PRODUCER") then Some (pos 4) else (if bytes_eq w (codes "SPAN_KIND_CONSUMER") then Some (pos 5) else (if bytes_eq w (codes "STATUS_CODE_UNSET") then Some (pos 0) else (if bytes_eq w (codes "STATUS_CODE_OK") then Some (pos 1) else (if bytes_eq w (codes "STATUS_CODE_ERROR") then Some (pos 2) else None))))))) value e refl
    (λ e. case_some Fits (bytes_eq w (codes "SPAN_KIND_SERVER")) (pos 2) (if bytes_eq w (codes "SPAN_KIND_CLIENT") then Some (pos 3) else (if bytes_eq w (codes "SPAN_KIND_PRODUCER") then Some (pos 4) else (if bytes_eq w (codes "SPAN_KIND_CONSUMER") then Some (pos 5) else (if bytes_eq w (codes "STATUS_CODE_UNSET") then Some (pos 0) else (if bytes_eq w (codes "STATUS_CODE_OK") then Some (pos 1) else (if bytes_eq w (codes "STATUS_CODE_ERROR") then Some (pos 2) else None)))))) value e refl
    (λ e. case_some Fits (bytes_eq w (codes "SPAN_KIND_CLIENT")) (pos 3) (if bytes_eq w (codes "SPAN_KIND_PRODUCER") then Some (pos 4) else (if bytes_eq w (codes "SPAN_KIND_CONSUMER") then Some (pos 5) else (if bytes_eq w (codes "STATUS_CODE_UNSET") then Some (pos 0) else (if bytes_eq w (codes "STATUS_CODE_OK") then Some (pos 1) else (if bytes_eq w (codes "STATUS_CODE_ERROR") then Some (pos 2) else None))))) value e refl
    (λ e. case_some Fits (bytes_eq w (codes "SPAN_KIND_PRODUCER")) (pos 4) (if bytes_eq w (codes "SPAN_KIND_CONSUMER") then Some (pos 5) else (if bytes_eq w (codes "STATUS_CODE_UNSET") then Some (pos 0) else (if bytes_eq w (codes "STATUS_CODE_OK") then Some (pos 1) else (if bytes_eq w (codes "STATUS_CODE_ERROR") then Some (pos 2) else None)))) value e refl
    (λ e. case_some Fits (bytes_eq w (codes "SPAN_KIND_CONSUMER")) (pos 5) (if bytes_eq w (codes "STATUS_CODE_UNSET") then Some (pos 0) else (if bytes_eq w (codes "STATUS_CODE_OK") then Some (pos 1) else (if bytes_eq w (codes "STATUS_CODE_ERROR") then Some (pos 2) else None))) value e refl
    (λ e. case_some Fits (bytes_eq w (codes "STATUS_CODE_UNSET")) (pos 0) (if bytes_eq w (codes "STATUS_CODE_OK") then Some (pos 1) else (if bytes_eq w (codes "STATUS_CODE_ERROR") then Some (pos 2) else None)) value e refl
    (λ e. case_some Fits (bytes_eq w (codes "STATUS_CODE_OK")) (pos 1) (if bytes_eq w (codes "STATUS_CODE_ERROR") then Some (pos 2) else None) value e refl
    (λ e. case_some Fits (bytes_eq w (codes "STATUS_CODE_ERROR")) (pos 2) None value e refl
    (λ e. no_some value e)))))))))

abbrev OfSpan : Root → Type 0
OfSpan root = is_of_event root ≡ false

number_root : (w : List ℕ) (value : Root) → number_root_of w ≡ Some value → OfSpan value
unfolding number_root_of
number_root w value = λ e.
    case_some OfSpan (bytes_eq w (codes "trace_id.string")) roots.TraceIdText (if bytes_eq w (codes "span_id.string") then Some roots.SpanIdText else (if bytes_eq w (codes "parent_span_id.string") then Some roots.ParentSpanIdText else (if bytes_eq w (codes "start_time_unix_nano") then Some roots.StartTime else (if bytes_eq w (codes "end_time_unix_nano") then Some roots.EndTime else (if bytes_eq w (codes "start_time") then Some roots.StartMoment else (if bytes_eq w (codes "end_time") then Some roots.EndMoment else (if bytes_eq w (codes "dropped_attributes_count") then Some roots.DroppedAttributes else (if bytes_eq w (codes "dropped_events_count") then Some roots.DroppedEvents else (if bytes_eq w (codes "dropped_links_count") then Some roots.DroppedLinks else None))))))))) value e refl
    (λ e. case_some OfSpan (bytes_eq w (codes "span_id.string")) roots.SpanIdText (if bytes_eq w (codes "parent_span_id.string") then Some roots.ParentSpanIdText else (if bytes_eq w (codes "start_time_unix_nano") then Some roots.StartTime else (if bytes_eq w (codes "end_time_unix_nano") then Some roots.EndTime else (if bytes_eq w (codes "start_time") then Some roots.StartMoment else (if bytes_eq w (codes "end_time") then Some roots.EndMoment else (if bytes_eq w (codes "dropped_attributes_count") then Some roots.DroppedAttributes else (if bytes_eq w (codes "dropped_events_count") then Some roots.DroppedEvents else (if bytes_eq w (codes "dropped_links_count") then Some roots.DroppedLinks else None)))))))) value e refl
    (λ e. case_some OfSpan (bytes_eq w (codes "parent_span_id.string")) roots.ParentSpanIdText (if bytes_eq w (codes "start_time_unix_nano") then Some roots.StartTime else (if bytes_eq w (codes "end_time_unix_nano") then Some roots.EndTime else (if bytes_eq w (codes "start_time") then Some roots.StartMoment else (if bytes_eq w (codes "end_time") then Some roots.EndMoment else (if bytes_eq w (codes "dropped_attributes_count") then Some roots.DroppedAttributes else (if bytes_eq w (codes "dropped_events_count") then Some roots.DroppedEvents else (if bytes_eq w (codes "dropped_links_count") then Some roots.DroppedLinks else None))))))) value e refl
    (λ e. case_some OfSpan (bytes_eq w (codes "start_time_unix_nano")) roots.StartTime (if bytes_eq w (codes "end_time_unix_nano") then Some roots.EndTime else (if bytes_eq w (codes "start_time") then Some roots.StartMoment else (if bytes_eq w (codes "end_time") then Some roots.EndMoment else (if bytes_eq w (codes "dropped_attributes_count") then Some roots.DroppedAttributes else (if bytes_eq w (codes "dropped_events_count") then Some roots.DroppedEvents else (if bytes_eq w (codes "dropped_links_count") then Some roots.DroppedLinks else None)))))) value e refl
    (λ e. case_some OfSpan (bytes_eq w (codes "end_time_unix_nano")) roots.EndTime (if bytes_eq w (codes "start_time") then Some roots.StartMoment else (if bytes_eq w (codes "end_time") then Some roots.EndMoment else (if bytes_eq w (codes "dropped_attributes_count") then Some roots.DroppedAttributes else (if bytes_eq w (codes "dropped_events_count") then Some roots.DroppedEvents else (if bytes_eq w (codes "dropped_links_count") then Some roots.DroppedLinks else None))))) value e refl
    (λ e. case_some OfSpan (bytes_eq w (codes "start_time")) roots.StartMoment (if bytes_eq w (codes "end_time") then Some roots.EndMoment else (if bytes_eq w (codes "dropped_attributes_count") then Some roots.DroppedAttributes else (if bytes_eq w (codes "dropped_events_count") then Some roots.DroppedEvents else (if bytes_eq w (codes "dropped_links_count") then Some roots.DroppedLinks else None)))) value e refl
    (λ e. case_some OfSpan (bytes_eq w (codes "end_time")) roots.EndMoment (if bytes_eq w (codes "dropped_attributes_count") then Some roots.DroppedAttributes else (if bytes_eq w (codes "dropped_events_count") then Some roots.DroppedEvents else (if bytes_eq w (codes "dropped_links_count") then Some roots.DroppedLinks else None))) value e refl
    (λ e. case_some OfSpan (bytes_eq w (codes "dropped_attributes_count")) roots.DroppedAttributes (if bytes_eq w (codes "dropped_events_count") then Some roots.DroppedEvents else (if bytes_eq w (codes "dropped_links_count") then Some roots.DroppedLinks else None)) value e refl
    (λ e. case_some OfSpan (bytes_eq w (codes "dropped_events_count")) roots.DroppedEvents (if bytes_eq w (codes "dropped_links_count") then Some roots.DroppedLinks else None) value e refl
    (λ e. case_some OfSpan (bytes_eq w (codes "dropped_links_count")) roots.DroppedLinks None value e refl
    (λ e. no_some value e))))))))))

span_root : (w : List ℕ) (value : Root) → span_root_of w ≡ Some value → OfSpan value
unfolding span_root_of
span_root w value = λ e.
    case_some OfSpan (bytes_eq w (codes "attributes")) roots.Attributes (if bytes_eq w (codes "name") then Some roots.Name else (if bytes_eq w (codes "kind") then Some roots.Kind else (if bytes_eq w (codes "kind.string") then Some roots.KindText else (if bytes_eq w (codes "status.code") then Some roots.StatusCode else (if bytes_eq w (codes "status.message") then Some roots.StatusMessage else (if bytes_eq w (codes "trace_state") then Some roots.TraceState else (number_root_of w))))))) value e refl
    (λ e. case_some OfSpan (bytes_eq w (codes "name")) roots.Name (if bytes_eq w (codes "kind") then Some roots.Kind else (if bytes_eq w (codes "kind.string") then Some roots.KindText else (if bytes_eq w (codes "status.code") then Some roots.StatusCode else (if bytes_eq w (codes "status.message") then Some roots.StatusMessage else (if bytes_eq w (codes "trace_state") then Some roots.TraceState else (number_root_of w)))))) value e refl
    (λ e. case_some OfSpan (bytes_eq w (codes "kind")) roots.Kind (if bytes_eq w (codes "kind.string") then Some roots.KindText else (if bytes_eq w (codes "status.code") then Some roots.StatusCode else (if bytes_eq w (codes "status.message") then Some roots.StatusMessage else (if bytes_eq w (codes "trace_state") then Some roots.TraceState else (number_root_of w))))) value e refl
    (λ e. case_some OfSpan (bytes_eq w (codes "kind.string")) roots.KindText (if bytes_eq w (codes "status.code") then Some roots.StatusCode else (if bytes_eq w (codes "status.message") then Some roots.StatusMessage else (if bytes_eq w (codes "trace_state") then Some roots.TraceState else (number_root_of w)))) value e refl
    (λ e. case_some OfSpan (bytes_eq w (codes "status.code")) roots.StatusCode (if bytes_eq w (codes "status.message") then Some roots.StatusMessage else (if bytes_eq w (codes "trace_state") then Some roots.TraceState else (number_root_of w))) value e refl
    (λ e. case_some OfSpan (bytes_eq w (codes "status.message")) roots.StatusMessage (if bytes_eq w (codes "trace_state") then Some roots.TraceState else (number_root_of w)) value e refl
    (λ e. case_some OfSpan (bytes_eq w (codes "trace_state")) roots.TraceState (number_root_of w) value e refl
    (λ e. number_root w value e)))))))

outer_root : (w : List ℕ) (value : Root) → outer_root_of w ≡ Some value → OfSpan value
unfolding outer_root_of
outer_root w value = λ e.
    case_some OfSpan (bytes_eq w (codes "resource.attributes")) roots.ResourceAttributes (if bytes_eq w (codes "resource.dropped_attributes_count") then Some roots.ResourceDroppedAttributes else (if bytes_eq w (codes "instrumentation_scope.name") then Some roots.ScopeName else (if bytes_eq w (codes "instrumentation_scope.version") then Some roots.ScopeVersion else (if bytes_eq w (codes "instrumentation_scope.attributes") then Some roots.ScopeAttributes else (if bytes_eq w (codes "instrumentation_scope.dropped_attributes_count") then Some roots.ScopeDroppedAttributes else None))))) value e refl
    (λ e. case_some OfSpan (bytes_eq w (codes "resource.dropped_attributes_count")) roots.ResourceDroppedAttributes (if bytes_eq w (codes "instrumentation_scope.name") then Some roots.ScopeName else (if bytes_eq w (codes "instrumentation_scope.version") then Some roots.ScopeVersion else (if bytes_eq w (codes "instrumentation_scope.attributes") then Some roots.ScopeAttributes else (if bytes_eq w (codes "instrumentation_scope.dropped_attributes_count") then Some roots.ScopeDroppedAttributes else None)))) value e refl
    (λ e. case_some OfSpan (bytes_eq w (codes "instrumentation_scope.name")) roots.ScopeName (if bytes_eq w (codes "instrumentation_scope.version") then Some roots.ScopeVersion else (if bytes_eq w (codes "instrumentation_scope.attributes") then Some roots.ScopeAttributes else (if bytes_eq w (codes "instrumentation_scope.dropped_attributes_count") then Some roots.ScopeDroppedAttributes else None))) value e refl
    (λ e. case_some OfSpan (bytes_eq w (codes "instrumentation_scope.version")) roots.ScopeVersion (if bytes_eq w (codes "instrumentation_scope.attributes") then Some roots.ScopeAttributes else (if bytes_eq w (codes "instrumentation_scope.dropped_attributes_count") then Some roots.ScopeDroppedAttributes else None)) value e refl
    (λ e. case_some OfSpan (bytes_eq w (codes "instrumentation_scope.attributes")) roots.ScopeAttributes (if bytes_eq w (codes "instrumentation_scope.dropped_attributes_count") then Some roots.ScopeDroppedAttributes else None) value e refl
    (λ e. case_some OfSpan (bytes_eq w (codes "instrumentation_scope.dropped_attributes_count")) roots.ScopeDroppedAttributes None value e refl
    (λ e. no_some value e))))))

or_else_root : (o q : Option Root) (value : Root) → (o ≡ Some value → OfSpan value) → (q ≡ Some value → OfSpan value) → or_else o q ≡ Some value → OfSpan value
or_else_root None q value p r e = r e
or_else_root (Some a) q value p r e = p e

pub root_in_context : (c : Context) (w : List ℕ) (root : Root) → root_of c w ≡ Some root → in_context c root ≡ true
unfolding root_of
root_in_context contexts.Span w root e =
    let h = or_else_root (span_root_of (without (codes "span.") w)) (outer_root_of w) root (span_root (without (codes "span.") w) root) (outer_root w root) e in rw h refl
root_in_context contexts.SpanEvent w root e = refl
