-- What is asked of fields, by those that are left.
-- For Cursor's methods of cursor.rt, and for seek of front.rt.
use Rattle.std.proofs.Common.{◌≡◌, ℕ, ◌<◌, ◌≤◌, List, [], ◌∷◌, length, Bool, true, false, cond, Option, Some, None, option_map, Result, Ok, Err, refl, sym, ◌∙◌, ap, subst, arith}
use Rattle.std.specs.Prelude.{◌==◌, nat_lt}
use Rattle.std.specs.Borrow.{Bor}
use Rattle.std.proofs.lemmas.Bool.Decides.{nat_tests}
use Rattle.protobuf_wire.specs.declared.fault.WireFault.{WireFault}
use Rattle.protobuf_wire.specs.declared.field.WireValue.{WireValue}
use Rattle.protobuf_wire.specs.Wire.{Value, Field, bytes, ◌>>=◌, fields_of}
use Rattle.protobuf_wire.specs.Seen.{seen}
use Rattle.protobuf_wire.proofs.Steps.{first_field as first_and_rest}
use Rattle.message_cursor.specs.Walk.{first_field, after, messages, bytes_in, NextMessage, Asked}
use Rattle.message_cursor.specs.Front.{field, FirstIs, IsAbove}

-- ---- the first field

chosen : {A : Type 0} (n k : ℕ) (x y : A) (a : Bool) → a ≡ (k == n) → k ≡ n → cond a x y ≡ x
chosen n k x y true e h = refl
chosen n k x y false e h = absurd (grind (arith, nat_tests))

ended : {A : Type 0} (n k : ℕ) (x y z : A) (a b : Bool) → a ≡ (k == n) → b ≡ nat_lt n k → n < k → cond a x (cond b y z) ≡ y
ended n k x y z true b e f h = absurd (grind (arith, nat_tests))
ended n k x y z false true e f h = refl
ended n k x y z false false e f h = absurd (grind (arith, nat_tests))

passed : {A : Type 0} (n k : ℕ) (x y z : A) (a b : Bool) → a ≡ (k == n) → b ≡ nat_lt n k → k < n → cond a x (cond b y z) ≡ z
passed n k x y z true b e f h = absurd (grind (arith, nat_tests))
passed n k x y z false true e f h = absurd (grind (arith, nat_tests))
passed n k x y z false false e f h = refl

-- it has the number
here-first : (n : ℕ) (f : Field) (fs : List Field) → f.number ≡ n → first_field n (f ∷ fs) ≡ Some f.value
here-first n f fs h = chosen n f.number (Some f.value) (cond (nat_lt n f.number) None (first_field n fs)) (f.number == n) refl h

here-after : (n : ℕ) (f : Field) (fs : List Field) → f.number ≡ n → after n (f ∷ fs) ≡ fs
here-after n f fs h = chosen n f.number fs (cond (nat_lt n f.number) (f ∷ fs) (after n fs)) (f.number == n) refl h

-- it has a greater one
pub above-first : (n : ℕ) (f : Field) (fs : List Field) → n < f.number → first_field n (f ∷ fs) ≡ None
above-first n f fs h = ended n f.number (Some f.value) None (first_field n fs) (f.number == n) (nat_lt n f.number) refl refl h

pub above-after : (n : ℕ) (f : Field) (fs : List Field) → n < f.number → after n (f ∷ fs) ≡ f ∷ fs
above-after n f fs h = ended n f.number fs (f ∷ fs) (after n fs) (f.number == n) (nat_lt n f.number) refl refl h

-- it has a lesser one
pub below-first : (n : ℕ) (f : Field) (fs : List Field) → f.number < n → first_field n (f ∷ fs) ≡ first_field n fs
below-first n f fs h = passed n f.number (Some f.value) None (first_field n fs) (f.number == n) (nat_lt n f.number) refl refl h

pub below-after : (n : ℕ) (f : Field) (fs : List Field) → f.number < n → after n (f ∷ fs) ≡ after n fs
below-after n f fs h = passed n f.number fs (f ∷ fs) (after n fs) (f.number == n) (nat_lt n f.number) refl refl h

-- ---- the fields of bytes of which the first is known

by_rest : (f : Field) (fs : List Field) (r : Result (List Field) WireFault) → (r >>= λ gs. Ok (f ∷ gs)) ≡ Ok fs → (gs : List Field) × (r ≡ Ok gs) × (fs ≡ f ∷ gs)
by_rest f fs (Ok gs) e = (gs, refl, cc e)
by_rest f fs (Err x) e = absurd (cc e)

pub front_fields : (sent : List ℕ) (f : Field) (rest : List ℕ) (fs : List Field) → FirstIs sent f rest → fields_of sent ≡ Ok fs → (gs : List Field) × (fields_of rest ≡ Ok gs) × (fs ≡ f ∷ gs)
front_fields sent f rest fs h e = by_rest f fs (fields_of rest) (sym (first_and_rest sent f rest h.some h.first).0 ∙ e)

-- ---- what is asked for

-- it stands at the front
pub took : {A : Type 0} (read : Option Value → A) (n : ℕ) (v : Value) (sent rest : List ℕ) → FirstIs sent (field n v) rest → (fs : List Field) → fields_of sent ≡ Ok fs → Asked read n fs (read (Some v)) rest
took read n v sent rest h fs e =
    let p = front_fields sent (field n v) rest fs h e in
    record {
      found = ap read (sym (ap (first_field n) p.2 ∙ here-first n (field n v) p.0 refl));
      left = p.1 ∙ ap Ok (sym (ap (after n) p.2 ∙ here-after n (field n v) p.0 refl));
    }

-- it doesn't come
pub none : {A : Type 0} (read : Option Value → A) (n : ℕ) (sent : List ℕ) → IsAbove n sent → (fs : List Field) → fields_of sent ≡ Ok fs → Asked read n fs (read None) sent
none read n sent h fs e =
    let p = h.above fs e in
    record { found = ap read (sym p.0); left = e ∙ ap Ok (sym p.1) }

-- it was sought
pub sought : {A : Type 0} (read : Option Value → A) (n : ℕ) (old new : List ℕ) (found : Option WireValue) (r : A)
    → ((fs : List Field) → fields_of old ≡ Ok fs → Asked (λ v. v) n fs (option_map seen found) new) → r ≡ read (option_map seen found)
    → (fs : List Field) → fields_of old ≡ Ok fs → Asked read n fs r new
sought read n old new found r asked is fs e =
    let a = asked fs e in
    record { found = is ∙ ap read a.found; left = a.left }

-- ---- a search

-- of these bytes the fields are left, and what is sought isn't in front of them
pub record IsLeft (n : ℕ) (sent rest : List ℕ) : Type 0 where
  pub left : (fs : List Field) → fields_of sent ≡ Ok fs → (gs : List Field) × (fields_of rest ≡ Ok gs) × (first_field n gs ≡ first_field n fs) × (after n gs ≡ after n fs)
  pub within : length rest ≤ length sent

pub all_left : (n : ℕ) (sent : List ℕ) → IsLeft n sent sent
all_left n sent = record { left = λ fs e. (fs, e, refl, refl); within = omega arith }

-- a field of a lesser number was passed
pub one_less : (n : ℕ) (sent rest new : List ℕ) (f : Field) → IsLeft n sent rest → FirstIs rest f new → f.number < n → IsLeft n sent new
one_less n sent rest new f h first low = record {
  left = λ fs e.
      let p = h.left fs e in
      let q = front_fields rest f new p.0 first p.1 in
      (q.0, q.1, sym (below-first n f q.0 low) ∙ sym (ap (first_field n) q.2) ∙ p.2, sym (below-after n f q.0 low) ∙ sym (ap (after n) q.2) ∙ p.3);
  within = let s = first.shorter in let w = h.within in omega (arith, s, w);
}

-- the field was found
pub found_here : (n : ℕ) (sent rest new : List ℕ) (f : Field) → IsLeft n sent rest → FirstIs rest f new → f.number ≡ n → (fs : List Field) → fields_of sent ≡ Ok fs → Asked (λ v. v) n fs (Some f.value) new
found_here n sent rest new f h first same fs e =
    let p = h.left fs e in
    let q = front_fields rest f new p.0 first p.1 in
    record {
      found = sym (sym p.2 ∙ ap (first_field n) q.2 ∙ here-first n f q.0 same);
      left = q.1 ∙ ap Ok (sym (sym p.3 ∙ ap (after n) q.2 ∙ here-after n f q.0 same));
    }

-- no field is found
pub not_found : (n : ℕ) (sent rest : List ℕ) → IsLeft n sent rest → IsAbove n rest → (fs : List Field) → fields_of sent ≡ Ok fs → Asked (λ v. v) n fs None rest
not_found n sent rest h none fs e =
    let p = h.left fs e in
    let q = none.above p.0 p.1 in
    record { found = sym (sym p.2 ∙ q.0); left = p.1 ∙ ap Ok (sym q.1 ∙ p.3) }

-- ---- messages

first_by : (n : ℕ) (f : Field) (fs gs : List Field) (v w : Value) (r : Option Value) (ms : List (List ℕ)) (a b : Bool)
    → (r ≡ Some w → ms ≡ bytes_in (Some w) ∷ messages n gs) → cond a (Some v) (cond b None r) ≡ Some w
    → cond a (bytes_in (Some v) ∷ messages n fs) (cond b [] ms) ≡ bytes_in (Some w) ∷ messages n (cond a fs (cond b (f ∷ fs) gs))
first_by n f fs gs v w r ms true b h e = ap (λ o. bytes_in o ∷ messages n fs) e
first_by n f fs gs v w r ms false true h e = absurd (cc e)
first_by n f fs gs v w r ms false false h e = h e

first_message : (n : ℕ) (fs : List Field) (w : Value) → first_field n fs ≡ Some w → messages n fs ≡ bytes_in (Some w) ∷ messages n (after n fs)
first_message n [] w e = absurd (cc e)
first_message n (f ∷ fs) w e = first_by n f fs (after n fs) f.value w (first_field n fs) (messages n fs) (f.number == n) (nat_lt n f.number) (first_message n fs w) e

no_by : (v : Value) (r : Option Value) (ks ms : List (List ℕ)) (a b : Bool) → (r ≡ None → ms ≡ []) → cond a (Some v) (cond b None r) ≡ None → cond a ks (cond b [] ms) ≡ []
no_by v r ks ms true b h e = absurd (cc e)
no_by v r ks ms false true h e = refl
no_by v r ks ms false false h e = h e

no_message : (n : ℕ) (fs : List Field) → first_field n fs ≡ None → messages n fs ≡ []
no_message n [] e = refl
no_message n (f ∷ fs) e = no_by f.value (first_field n fs) (bytes_in (Some f.value) ∷ messages n fs) (messages n fs) (f.number == n) (nat_lt n f.number) (no_message n fs) e

-- one is found
pub next_some : (n : ℕ) (old new : List ℕ) (v : Value) (m : Bor (List ℕ)) → m.now ≡ bytes_in (Some v) → ((fs : List Field) → fields_of old ≡ Ok fs → Asked (λ w. w) n fs (Some v) new)
    → (fs : List Field) → fields_of old ≡ Ok fs → NextMessage n fs (Some m) new
next_some n old new v m is asked fs e =
    let a = asked fs e in
    (after n fs, a.left, first_message n fs v (sym a.found) ∙ ap (λ s. s ∷ messages n (after n fs)) (sym is))

-- none is
pub next_none : (n : ℕ) (old new now : List ℕ) → now ≡ [] → ((fs : List Field) → fields_of old ≡ Ok fs → Asked (λ w. w) n fs None new)
    → (fs : List Field) → fields_of old ≡ Ok fs → NextMessage n fs None now
next_none n old new now is asked fs e = (no_message n fs (sym (asked fs e).found), is)

-- one stands at the front
pub front_message : (n : ℕ) (sent rest : List ℕ) (m : Bor (List ℕ)) → FirstIs sent (field n (bytes m.now)) rest → (fs : List Field) → fields_of sent ≡ Ok fs → NextMessage n fs (Some m) rest
front_message n sent rest m h = next_some n sent rest (bytes m.now) m refl (took (λ v. v) n (bytes m.now) sent rest h)

-- none comes
pub no_front : (n : ℕ) (sent now : List ℕ) → now ≡ [] → IsAbove n sent → (fs : List Field) → fields_of sent ≡ Ok fs → NextMessage n fs None now
no_front n sent now is h = next_none n sent sent now is (none (λ v. v) n sent h)

-- what was sought is one, or none
pub later_some : (n : ℕ) (old new : List ℕ) (found : Option WireValue) (v : WireValue) (m : Bor (List ℕ)) → found ≡ Some v → m.now ≡ bytes_in (Some (seen v))
    → ((fs : List Field) → fields_of old ≡ Ok fs → Asked (λ w. w) n fs (option_map seen found) new) → (fs : List Field) → fields_of old ≡ Ok fs → NextMessage n fs (Some m) new
later_some n old new found v m e is asked =
    let P : Option WireValue → Type 0 = λ o. (fs : List Field) → fields_of old ≡ Ok fs → Asked (λ w. w) n fs (option_map seen o) new in
    next_some n old new (seen v) m is (subst P e asked)

pub later_none : (n : ℕ) (old new now : List ℕ) (found : Option WireValue) → found ≡ None → now ≡ []
    → ((fs : List Field) → fields_of old ≡ Ok fs → Asked (λ w. w) n fs (option_map seen found) new) → (fs : List Field) → fields_of old ≡ Ok fs → NextMessage n fs None now
later_none n old new now found e is asked =
    let P : Option WireValue → Type 0 = λ o. (fs : List Field) → fields_of old ≡ Ok fs → Asked (λ w. w) n fs (option_map seen o) new in
    next_none n old new now is (subst P e asked)
