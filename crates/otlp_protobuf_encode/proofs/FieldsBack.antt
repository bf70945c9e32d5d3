-- Fields that are written one after the other are read, one after the other, as what they were written for.
-- For the clauses `back` of what is written.
use Rattle.std.proofs.Common.{◌≡◌, ℕ, ◌+◌, ◌<◌, ◌%◌, ◌^◌, ℤ, pos, List, [], ◌∷◌, ◌++◌, length, map, Bool, true, false, cond, Ok, Err, refl, sym, ◌∙◌, ap, subst, arith, lit<, append_assoc, append-nil, length-append}
use Rattle.std.specs.Prelude.{◌==◌, FitsSigned}
use Rattle.std.specs.Int.{w32}
use Rattle.std.specs.List.{AllByRecursion}
use Rattle.std.specs.Str.{IsUtf8}
use Rattle.std.proofs.lemmas.Bool.Decides.{nat_tests}
use Rattle.protobuf_wire.specs.Wire.{Field, Value, varint, fixed64, bytes, fixed32}
use Rattle.protobuf_writer.specs.Writing.{number_bytes, tag_bytes, message_bytes}
use Rattle.protobuf_writer.specs.Defaults.{field, text_field, number_field, fixed64_field, fixed32_field, message_in, message_field, repeated}
use Rattle.protobuf_writer.specs.Laws.{ValueFits, FieldsFit}
use Rattle.protobuf_writer.proofs.Adding.{append-fields, one-field}
use Rattle.protobuf_writer.proofs.Reading.{fields_are_read}
use Rattle.otlp_protobuf.specs.Kinds.{Read, ◌>>=◌, map_read, text, int32, uint32, merged}
use Rattle.otlp_protobuf.specs.Laws.{fold_fields}
use Rattle.otlp_protobuf.proofs.Folding.{merged_is_fold}
use Rattle.otlp_protobuf.proofs.Texts.{text_is}
use Rattle.otlp_protobuf_encode.specs.Writing.{int_bits, enum_field}
use Rattle.otlp_protobuf_encode.specs.ReadsBack.{HasRoom}
use Rattle.otlp_protobuf_encode.proofs.NumbersBack.{int32-back, bits32, no_bits}

-- ---- fields that make of a state another

-- as far as they have room
pub record Reads {S : Type 0} (step : S → Field → Read S) (p q : S) (fs : List Field) : Type 0 where
  pub fits : HasRoom fs → FieldsFit fs
  pub folds : HasRoom fs → fold_fields step p fs ≡ Ok q

by_first : {S : Type 0} (step : S → Field → Read S) (fs gs : List Field) (r : Read S) → ((q : S) → fold_fields step q (fs ++ gs) ≡ (fold_fields step q fs >>= λ t. fold_fields step t gs))
    → (r >>= λ q. fold_fields step q (fs ++ gs)) ≡ ((r >>= λ q. fold_fields step q fs) >>= λ t. fold_fields step t gs)
by_first step fs gs (Ok q) h = h q
by_first step fs gs (Err e) h = refl

fold-append : {S : Type 0} (step : S → Field → Read S) (p : S) (fs gs : List Field) → fold_fields step p (fs ++ gs) ≡ (fold_fields step p fs >>= λ q. fold_fields step q gs)
unfolding fold_fields
fold-append step p [] gs = refl
fold-append step p (f ∷ fs) gs = by_first step fs gs (step p f) (λ q. fold-append step q fs gs)

fit-append : (fs gs : List Field) → FieldsFit fs → FieldsFit gs → FieldsFit (fs ++ gs)
fit-append [] gs h g = g
fit-append (f ∷ fs) gs h g = (h.0, fit-append fs gs h.1 g)

room-both : (fs gs : List Field) → length (message_bytes (fs ++ gs)) ≡ length (message_bytes fs) + length (message_bytes gs)
room-both fs gs = ap length (append-fields fs gs) ∙ length-append (message_bytes fs) (message_bytes gs)

room-first : (fs gs : List Field) → HasRoom (fs ++ gs) → HasRoom fs
room-first fs gs h = omega (arith, h, room-both fs gs)

room-second : (fs gs : List Field) → HasRoom (fs ++ gs) → HasRoom gs
room-second fs gs h = omega (arith, h, room-both fs gs)

-- these, and then those
pub after : {S : Type 0} (step : S → Field → Read S) (p q r : S) (fs gs : List Field) → Reads step p q fs → Reads step q r gs → Reads step p r (fs ++ gs)
after step p q r fs gs h g = record {
  fits = λ room. fit-append fs gs (h.fits (room-first fs gs room)) (g.fits (room-second fs gs room));
  folds = λ room.
      fold-append step p fs gs ∙ ap (λ x. x >>= λ q. fold_fields step q gs) (h.folds (room-first fs gs room))
      ∙ g.folds (room-second fs gs room);
}

-- a message of such fields
pub merged-again : {S : Type 0} (step : S → Field → Read S) (p q : S) (fs : List Field) → Reads step p q fs → HasRoom fs → merged step p (message_bytes fs) ≡ Ok q
merged-again step p q fs h room = merged_is_fold step p (message_bytes fs) fs (fields_are_read fs (h.fits room)) ∙ h.folds room

pub none : {S : Type 0} (step : S → Field → Read S) (p : S) → Reads step p p []
unfolding fold_fields
none step p = record { fits = λ room. tt; folds = λ room. refl }

-- ---- one field

-- the number of a field
abbrev pub IsNumber : ℕ → Type 0
IsNumber n = (0 < n) × (n < 2 ^ 29)

pub single : {S : Type 0} (step : S → Field → Read S) (p q : S) (n : ℕ) (v : Value) → IsNumber n → (HasRoom (field n v ∷ []) → ValueFits v) → (HasRoom (field n v ∷ []) → step p (field n v) ≡ Ok q)
    → Reads step p q (field n v ∷ [])
unfolding fold_fields
single step p q n v number fits is = record {
  fits = λ room. ((number.0, number.1, fits room), tt);
  folds = λ room. ap (λ x. x >>= λ t. fold_fields step t []) (is room);
}

-- what is counted in a field has room where the field has
pub counted-room : (n : ℕ) (s : List ℕ) → HasRoom (field n (bytes s) ∷ []) → length s < 2 ^ 64
counted-room n s room =
    let whole : length (message_bytes (field n (bytes s) ∷ [])) ≡ length (tag_bytes n 2) + (length (number_bytes (length s)) + length s)
    = ap length (one-field (field n (bytes s))) ∙ length-append (tag_bytes n 2) (number_bytes (length s) ++ s) ∙ ap (λ k. length (tag_bytes n 2) + k) (length-append (number_bytes (length s)) s) in
    omega (arith, room, whole)

pub single-bytes : {S : Type 0} (step : S → Field → Read S) (p q : S) (n : ℕ) (s : List ℕ) → IsNumber n → (length s < 2 ^ 64 → step p (field n (bytes s)) ≡ Ok q) → Reads step p q (field n (bytes s) ∷ [])
single-bytes step p q n s number is = single step p q n (bytes s) number (counted-room n s) (λ room. is (counted-room n s room))

-- ---- fields by their kinds: F is the state by what the field says

pub text-again : (s : List ℕ) → IsUtf8 s → text s ≡ Ok s
text-again s h = text_is s s refl h

pub text-back : {S : Type 0} (step : S → Field → Read S) (F : List ℕ → S) (n : ℕ) (s : List ℕ) → IsNumber n → IsUtf8 s → ((t : List ℕ) → step (F []) (field n (bytes t)) ≡ map_read F (text t))
    → Reads step (F []) (F s) (text_field n s)
text-back step F n [] number utf8 is = none step (F [])
text-back step F n (c ∷ s) number utf8 is =
    single-bytes step (F []) (F (c ∷ s)) n (c ∷ s) number (λ room. is (c ∷ s) ∙ ap (map_read F) (text-again (c ∷ s) utf8))

-- a field of bytes that says what is made of them
pub bytes-back : {S : Type 0} (step : S → Field → Read S) (F : List ℕ → S) (n : ℕ) (s : List ℕ) → IsNumber n → ((t : List ℕ) → step (F []) (field n (bytes t)) ≡ Ok (F t)) → Reads step (F []) (F s) (text_field n s)
bytes-back step F n [] number is = none step (F [])
bytes-back step F n (c ∷ s) number is = single-bytes step (F []) (F (c ∷ s)) n (c ∷ s) number (λ room. is (c ∷ s))

number-by : {S : Type 0} (step : S → Field → Read S) (p q : S) (n k : ℕ) (v : Value) (b : Bool) → b ≡ (k == 0) → (k ≡ 0 → p ≡ q) → Reads step p q (field n v ∷ []) → Reads step p q (cond b [] (field n v ∷ []))
number-by step p q n k v true e same h = let P : _ → Type 0 = λ r. Reads step p r [] in subst P (same (grind (arith, nat_tests))) (none step p)
number-by step p q n k v false e same h = h

pub count-back : {S : Type 0} (step : S → Field → Read S) (F : ℕ → S) (n k : ℕ) → IsNumber n → k < 2 ^ 32 → ((m : ℕ) → step (F 0) (field n (varint m)) ≡ Ok (F (uint32 m))) → Reads step (F 0) (F k) (number_field n k)
count-back step F n k number small is =
    number-by step (F 0) (F k) n k (varint k) (k == 0) refl (λ e. ap F (sym e))
    (single step (F 0) (F k) n (varint k) number (λ room. omega (arith, small)) (λ room. is k ∙ ap (λ m. Ok (F m)) (let e : k % 2 ^ 32 ≡ k = omega (arith, small) in e)))

pub fixed64-back : {S : Type 0} (step : S → Field → Read S) (F : ℕ → S) (n k : ℕ) → IsNumber n → k < 2 ^ 64 → ((m : ℕ) → step (F 0) (field n (fixed64 m)) ≡ Ok (F m)) → Reads step (F 0) (F k) (fixed64_field n k)
fixed64-back step F n k number small is =
    number-by step (F 0) (F k) n k (fixed64 k) (k == 0) refl (λ e. ap F (sym e)) (single step (F 0) (F k) n (fixed64 k) number (λ room. small) (λ room. is k))

pub fixed32-back : {S : Type 0} (step : S → Field → Read S) (F : ℕ → S) (n k : ℕ) → IsNumber n → k < 2 ^ 32 → ((m : ℕ) → step (F 0) (field n (fixed32 m)) ≡ Ok (F m)) → Reads step (F 0) (F k) (fixed32_field n k)
fixed32-back step F n k number small is =
    number-by step (F 0) (F k) n k (fixed32 k) (k == 0) refl (λ e. ap F (sym e)) (single step (F 0) (F k) n (fixed32 k) number (λ room. small) (λ room. is k))

-- ---- messages

-- each element of these is read, as far as it has room
abbrev pub EachRead : {A : Type 0} → (A → List Field) → (List ℕ → Read A) → List A → Type 0
EachRead fields meaning = AllByRecursion (λ x. HasRoom (fields x) → meaning (message_bytes (fields x)) ≡ Ok x)

-- a list of messages; F is the state by those that were read
pub list-back : {A S : Type 0} (step : S → Field → Read S) (F : List A → S) (n : ℕ) (fields : A → List Field) (meaning : List ℕ → Read A) (front xs : List A) → IsNumber n → EachRead fields meaning xs
    → ((ys : List A) (s : List ℕ) (x : A) → meaning s ≡ Ok x → step (F ys) (field n (bytes s)) ≡ Ok (F (ys ++ x ∷ []))) → Reads step (F front) (F (front ++ xs)) (repeated n (map fields xs))
list-back {A = A} step F n fields meaning front [] number all is =
    let P : List A → Type 0 = λ ys. Reads step (F front) (F ys) [] in subst P (sym (append-nil front)) (none step (F front))
list-back {A = A} step F n fields meaning front (x ∷ xs) number all is =
    let P : List A → Type 0 = λ ys. Reads step (F front) (F ys) (repeated n (map fields (x ∷ xs))) in
    subst P (append_assoc front (x ∷ []) xs)
    (after step (F front) (F (front ++ x ∷ [])) (F ((front ++ x ∷ []) ++ xs)) (message_in n (fields x) ∷ []) (repeated n (map fields xs))
    (single-bytes step (F front) (F (front ++ x ∷ [])) n (message_bytes (fields x)) number (λ room. is front (message_bytes (fields x)) x (all.0 room)))
    (list-back step F n fields meaning (front ++ x ∷ []) xs number all.1 is))

-- what is read, or y
read_or : {A : Type 0} → A → Read A → A
read_or y (Ok x) = x
read_or y (Err e) = y

same_read : {A : Type 0} (r : Read A) (x y : A) → r ≡ Ok x → r ≡ Ok y → x ≡ y
unfolding read_or
same_read r x y e h = ap (read_or y) (sym e ∙ h)

-- a message inside, which is left out where it has no field; F is the state by what was read
pub message-back : {A S : Type 0} (step : S → Field → Read S) (F : A → S) (n : ℕ) (fs : List Field) (meaning : List ℕ → Read A) (first x : A) → IsNumber n → meaning [] ≡ Ok first
    → (HasRoom fs → meaning (message_bytes fs) ≡ Ok x) → ((s : List ℕ) (y : A) → meaning s ≡ Ok y → step (F first) (field n (bytes s)) ≡ Ok (F y)) → Reads step (F first) (F x) (message_field n fs)
unfolding message_bytes
message-back {A = A} step F n [] meaning first x number start again is =
    let P : A → Type 0 = λ y. Reads step (F first) (F y) [] in
    subst P (same_read (meaning []) first x start (again (lit< tt))) (none step (F first))
message-back step F n (f ∷ fs) meaning first x number start again is =
    single-bytes step (F first) (F x) n (message_bytes (f ∷ fs)) number (λ room. is (message_bytes (f ∷ fs)) x (again room))

pub enum-back : {S : Type 0} (step : S → Field → Read S) (F : ℤ → S) (n : ℕ) (z : ℤ) → IsNumber n → FitsSigned w32 z → ((m : ℕ) → step (F (pos 0)) (field n (varint m)) ≡ Ok (F (int32 m)))
    → Reads step (F (pos 0)) (F z) (enum_field n z)
enum-back step F n z number fits is =
    number-by step (F (pos 0)) (F z) n (int_bits z) (varint (int_bits z)) (int_bits z == 0) refl (λ e. ap F (sym (no_bits z fits e)))
    (single step (F (pos 0)) (F z) n (varint (int_bits z)) number (λ room. bits32 z fits) (λ room. is (int_bits z) ∙ ap (λ m. Ok (F m)) (int32-back z fits)))
