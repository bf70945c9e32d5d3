-- A message that was gone through as far as a number: of greater numbers all is left.
-- For those that ask a cursor for one field after another.
use Rattle.std.proofs.Common.{◌≡◌, ℕ, ◌<◌, List, [], ◌∷◌, Bool, true, false, cond, Option, Some, Ok, refl, sym, ◌∙◌, ap, arith}
use Rattle.std.specs.Prelude.{◌==◌, nat_lt}
use Rattle.std.proofs.lemmas.Bool.Decides.{nat_tests}
use Rattle.protobuf_wire.specs.Wire.{Value, Field, fields_of}
use Rattle.message_cursor.specs.Walk.{first_field, after, messages, bytes_in, Asked}
use Rattle.message_cursor.proofs.Walks.{below-first}

-- of these bytes fields are left, and those of numbers above n are found in them as in fs
pub record Left (n : ℕ) (fs : List Field) (rest : List ℕ) : Type 0 where
  pub remaining : List Field
  pub read : fields_of rest ≡ Ok remaining
  pub first : (m : ℕ) → n < m → first_field m remaining ≡ first_field m fs
  pub several : (m : ℕ) → n < m → messages m remaining ≡ messages m fs

pub all_left : (fs : List Field) (message : List ℕ) → fields_of message ≡ Ok fs → Left 0 fs message
all_left fs message e = record { remaining = fs; read = e; first = λ m h. refl; several = λ m h. refl }

-- ---- what is asked for passes no field of a greater number

passed-messages_by : (n : ℕ) (f : Field) (ms ks : List (List ℕ)) (a b : Bool) → a ≡ (f.number == n) → b ≡ nat_lt n f.number → f.number < n → cond a ks (cond b [] ms) ≡ ms
passed-messages_by n f ms ks true b e g h = absurd (grind (arith, nat_tests))
passed-messages_by n f ms ks false true e g h = absurd (grind (arith, nat_tests))
passed-messages_by n f ms ks false false e g h = refl

below-messages : (m : ℕ) (f : Field) (fs : List Field) → f.number < m → messages m (f ∷ fs) ≡ messages m fs
below-messages m f fs h =
    passed-messages_by m f (messages m fs) (bytes_in (Some f.value) ∷ messages m fs) (f.number == m) (nat_lt m f.number) refl refl h

first_by : (n m : ℕ) (f : Field) (fs : List Field) (a b : Bool) → a ≡ (f.number == n) → b ≡ nat_lt n f.number → n < m → first_field m (after n fs) ≡ first_field m fs
    → first_field m (cond a fs (cond b (f ∷ fs) (after n fs))) ≡ first_field m (f ∷ fs)
first_by n m f fs true b e g h more = sym (below-first m f fs (let same : f.number ≡ n = grind (arith, nat_tests) in omega (arith, same, h)))
first_by n m f fs false true e g h more = refl
first_by n m f fs false false e g h more = more ∙ sym (below-first m f fs (let less : f.number < n = grind (arith, nat_tests) in omega (arith, less, h)))

pub first_after : (n m : ℕ) (fs : List Field) → n < m → first_field m (after n fs) ≡ first_field m fs
first_after n m [] h = refl
first_after n m (f ∷ fs) h = first_by n m f fs (f.number == n) (nat_lt n f.number) refl refl h (first_after n m fs h)

messages_by : (n m : ℕ) (f : Field) (fs : List Field) (a b : Bool) → a ≡ (f.number == n) → b ≡ nat_lt n f.number → n < m → messages m (after n fs) ≡ messages m fs
    → messages m (cond a fs (cond b (f ∷ fs) (after n fs))) ≡ messages m (f ∷ fs)
messages_by n m f fs true b e g h more = sym (below-messages m f fs (let same : f.number ≡ n = grind (arith, nat_tests) in omega (arith, same, h)))
messages_by n m f fs false true e g h more = refl
messages_by n m f fs false false e g h more = more ∙ sym (below-messages m f fs (let less : f.number < n = grind (arith, nat_tests) in omega (arith, less, h)))

pub messages_after : (n m : ℕ) (fs : List Field) → n < m → messages m (after n fs) ≡ messages m fs
messages_after n m [] h = refl
messages_after n m (f ∷ fs) h = messages_by n m f fs (f.number == n) (nat_lt n f.number) refl refl h (messages_after n m fs h)

-- what is found, and what is left then
pub next : {A : Type 0} (read : Option Value → A) (n m : ℕ) (fs : List Field) (old new : List ℕ) (answer : A) → Left n fs old → n < m
    → ((gs : List Field) → fields_of old ≡ Ok gs → Asked read m gs answer new) → (answer ≡ read (first_field m fs)) × Left m fs new
next read n m fs old new answer l h asked =
    let a = asked l.remaining l.read in
    let up : (k : ℕ) → m < k → n < k = λ k g. omega (arith, g, h) in (
      a.found ∙ ap read (l.first m h),
      record {
        remaining = after m l.remaining;
        read = a.left;
        first = λ k g. first_after m k l.remaining g ∙ l.first k (up k g);
        several = λ k g. messages_after m k l.remaining g ∙ l.several k (up k g);
      },
    )
