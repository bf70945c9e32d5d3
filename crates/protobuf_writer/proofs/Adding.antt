-- Fields that are written one after the other, and messages inside.
-- For the functions of fields.rt, and for end_message.
use Rattle.std.proofs.Common.{◌≡◌, ℕ, ◌+◌, Bool, true, ◌==◌, List, [], ◌∷◌, ◌++◌, length, take, drop, refl, sym, ◌∙◌, ap, append_assoc, append-nil, length-append, arith}
use Rattle.std.proofs.lemmas.Bool.Decides.{nat_tests}
use Rattle.std.proofs.Math.Seq.{take-append_seam, drop-append_seam}
use Rattle.protobuf_wire.specs.Wire.{Field, Value, bytes}
use Rattle.protobuf_writer.specs.Writing.{number_bytes, wire_type, value_bytes, field_bytes, tag_bytes, counted_bytes, message_bytes, Adds, IsBegun}
use Rattle.protobuf_writer.specs.Defaults.{field, text_field, number_field, fixed64_field, fixed32_field, message_in}

pub append-fields : (fs gs : List Field) → message_bytes (fs ++ gs) ≡ message_bytes fs ++ message_bytes gs
unfolding message_bytes
append-fields [] gs = refl
append-fields (f ∷ fs) gs = ap (λ s. field_bytes f ++ s) (append-fields fs gs) ∙ sym (append_assoc (field_bytes f) (message_bytes fs) (message_bytes gs))

pub one-field : (f : Field) → message_bytes (f ∷ []) ≡ field_bytes f
unfolding message_bytes
one-field f = append-nil (field_bytes f)

-- nothing was written
pub nothing : (a : List ℕ) → Adds a a []
unfolding message_bytes
nothing a = sym (append-nil a)

-- these, and then those
pub then : (a b c : List ℕ) (fs gs : List Field) → Adds a b fs → Adds b c gs → Adds a c (fs ++ gs)
then a b c fs gs p q = q ∙ ap (λ s. s ++ message_bytes gs) p ∙ append_assoc a (message_bytes fs) (message_bytes gs) ∙ ap (λ s. a ++ s) (sym (append-fields fs gs))

-- a tag, and then a value
pub one : (a b c : List ℕ) (n : ℕ) (v : Value) → b ≡ a ++ tag_bytes n (wire_type v) → c ≡ b ++ value_bytes v → Adds a c (field n v ∷ [])
one a b c n v p q =
    q ∙ ap (λ s. s ++ value_bytes v) p ∙ append_assoc a (tag_bytes n (wire_type v)) (value_bytes v) ∙ ap (λ s. a ++ s) (sym (one-field (field n v)))

-- a tag, a count, and what is counted
pub one-counted : (a b c d : List ℕ) (n : ℕ) (s : List ℕ) → b ≡ a ++ tag_bytes n 2 → c ≡ b ++ number_bytes (length s) → d ≡ c ++ s → Adds a d (field n (bytes s) ∷ [])
one-counted a b c d n s p q r = one a b d n (bytes s) p (r ∙ ap (λ t. t ++ s) q ∙ append_assoc b (number_bytes (length s)) s)

-- a default is left out
pub no-text : (b : Bool) (a : List ℕ) (n : ℕ) (s : List ℕ) → b ≡ (length s == 0) → b ≡ true → Adds a a (text_field n s)
no-text b a n [] e h = nothing a
no-text b a n (c ∷ s) e h = absurd (grind (arith, nat_tests))

pub no-number : (a : List ℕ) (n k : ℕ) → k ≡ 0 → Adds a a (number_field n k)
no-number a n k e = rw e (nothing a)

pub no-fixed64 : (a : List ℕ) (n k : ℕ) → k ≡ 0 → Adds a a (fixed64_field n k)
no-fixed64 a n k e = rw e (nothing a)

pub no-fixed32 : (a : List ℕ) (n k : ℕ) → k ≡ 0 → Adds a a (fixed32_field n k)
no-fixed32 a n k e = rw e (nothing a)

-- a message that was begun, written and ended
pub ended : (start begun now new : List ℕ) (number at : ℕ) (fs : List Field) → IsBegun start begun number at → Adds begun now fs
    → new ≡ take at now ++ counted_bytes (drop (at + 1) now) → Adds start new (message_in number fs ∷ [])
ended start begun now new number at fs begins adds h =
    let front : List ℕ = start ++ tag_bytes number 2 in
    let rest : List ℕ = message_bytes fs in
    let is : now ≡ front ++ 0 ∷ rest = adds ∙ ap (λ s. s ++ rest) begins.0 ∙ append_assoc front (0 ∷ []) rest in
    let place : at ≡ length front = begins.1 in
    let taken : take at now ≡ front = ap (λ s. take at s) is ∙ ap (λ n. take n (front ++ 0 ∷ rest)) place ∙ take-append_seam front (0 ∷ rest) in
    let more : at + 1 ≡ length (front ++ 0 ∷ []) = ap (λ n. n + 1) place ∙ sym (length-append front (0 ∷ [])) in
    let dropped : drop (at + 1) now ≡ rest
    = ap (λ s. drop (at + 1) s) (is ∙ sym (append_assoc front (0 ∷ []) rest)) ∙ ap (λ n. drop n ((front ++ 0 ∷ []) ++ rest)) more ∙ drop-append_seam (front ++ 0 ∷ []) rest in
    h ∙ ap (λ s. s ++ counted_bytes (drop (at + 1) now)) taken ∙ ap (λ s. front ++ counted_bytes s) dropped
    ∙ append_assoc start (tag_bytes number 2) (counted_bytes rest)
    ∙ ap (λ s. start ++ s) (sym (one-field (message_in number fs)))
