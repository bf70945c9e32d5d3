-- Lists of messages that are written, and the first fault.
-- For list of writing.rt.
use Rattle.std.proofs.Common.{◌≡◌, ℕ, zero, suc, ◌+◌, ◌<◌, ◌≤◌, List, [], ◌∷◌, ◌++◌, length, take, drop, get_or, map, Some, None, refl, sym, ◌∙◌, ap, subst, add-one, arith}
use Rattle.std.specs.List.{AllByRecursion}
use Rattle.std.proofs.Math.Seq.{drop-cons}
use Rattle.std.proofs.lemmas.List.{take_all, take_more, map-append, take-append-drop}
use Rattle.protobuf_wire.specs.Wire.{Field}
use Rattle.protobuf_writer.specs.Writing.{Adds}
use Rattle.protobuf_writer.specs.Defaults.{message_in, repeated}
use Rattle.protobuf_writer.proofs.Adding.{then}
use Rattle.otlp_protobuf_encode.specs.declared.encode_error.EncodeError.{EncodeError}
use Rattle.otlp_protobuf_encode.specs.declared.encode_error.EncodeError.TheVariants.{NotBase64, NotHex, NoMemory}
use Rattle.otlp_protobuf_encode.specs.Faults.{Fault, or_then, first, Tells}

-- ---- bytes

one-last : {A : Type 0} (f : A → List Field) (n i : ℕ) (xs : List A) (x : A) → i < length xs → x ≡ get_or xs i x
    → repeated n (map f (take i xs)) ++ message_in n (f x) ∷ [] ≡ repeated n (map f (take (i + 1) xs))
one-last f n i xs x within is =
    ap (λ y. repeated n (map f (take i xs)) ++ message_in n (f y) ∷ []) is
    ∙ sym (map-append (message_in n) (map f (take i xs)) (f (get_or xs i x) ∷ []))
    ∙ ap (repeated n) (sym (map-append f (take i xs) (get_or xs i x ∷ [])))
    ∙ ap (λ ys. repeated n (map f ys)) (sym (take_more xs i x within))

pub one-more : {A : Type 0} (f : A → List Field) (n : ℕ) (xs : List A) (i : ℕ) (x : A) (a b c : List ℕ) → Adds a b (repeated n (map f (take i xs))) → i < length xs → x ≡ get_or xs i x
    → Adds b c (message_in n (f x) ∷ []) → Adds a c (repeated n (map f (take (i + 1) xs)))
one-more f n xs i x a b c so_far within is written =
    subst (λ (fs : List Field). Adds a c fs) (one-last f n i xs x within is) (then a b c (repeated n (map f (take i xs))) (message_in n (f x) ∷ []) so_far written)

-- ---- faults

skip_one : (e : Fault) (es fs : List Fault) → or_then e (first es) ≡ None → (first es ≡ None → first (es ++ fs) ≡ first fs) → or_then e (first (es ++ fs)) ≡ first fs
skip_one None es fs h more = more h
skip_one (Some e) es fs h more = absurd (cc)

-- behind those of which none is a fault
skip : (es fs : List Fault) → first es ≡ None → first (es ++ fs) ≡ first fs
skip [] fs h = refl
skip (e ∷ es) fs h = skip_one e es fs h (skip es fs)

pub none-more : {A : Type 0} (g : A → Fault) (xs : List A) (i : ℕ) (x : A) → first (map g (take i xs)) ≡ None → i < length xs → x ≡ get_or xs i x → g x ≡ None
    → first (map g (take (i + 1) xs)) ≡ None
none-more g xs i x h within is none =
    ap (λ ys. first (map g ys)) (take_more xs i x within) ∙ ap first (map-append g (take i xs) (get_or xs i x ∷ [])) ∙ skip (map g (take i xs)) (g (get_or xs i x) ∷ []) h
    ∙ ap (λ e. or_then e None) (ap g (sym is) ∙ none)

-- what is told of the first of two is told of both
pub tells-first : (e : EncodeError) (f g : Fault) → Tells f e → Tells (or_then f g) e
tells-first NotBase64 f g h = ap (λ x. or_then x g) h
tells-first NotHex f g h = ap (λ x. or_then x g) h
tells-first NoMemory f g h = tt

pub tells-here : {A : Type 0} (g : A → Fault) (xs : List A) (i : ℕ) (x : A) (e : EncodeError) → first (map g (take i xs)) ≡ None → i < length xs → x ≡ get_or xs i x → Tells (g x) e
    → Tells (first (map g xs)) e
tells-here g xs i x e h within is told =
    let rest : drop i xs ≡ x ∷ drop (suc i) xs = drop-cons xs i x within ∙ ap (λ y. y ∷ drop (suc i) xs) (sym is) in
    let whole : first (map g xs) ≡ or_then (g x) (first (map g (drop (suc i) xs)))
    = ap (λ ys. first (map g ys)) (sym (take-append-drop i xs)) ∙ ap first (map-append g (take i xs) (drop i xs)) ∙ skip (map g (take i xs)) (map g (drop i xs)) h
    ∙ ap (λ ys. first (map g ys)) rest in
    subst (λ (f : Fault). Tells f e) (sym whole) (tells-first e (g x) (first (map g (drop (suc i) xs))) told)

-- ---- what holds of each

-- one more element of which P holds
pub all-more : {A : Type 0} (P : A → Type 0) (xs : List A) (i : ℕ) (x : A) → AllByRecursion P (take i xs) → i < length xs → x ≡ get_or xs i x → P x → AllByRecursion P (take (i + 1) xs)
all-more P [] i x h within is p = absurd (omega arith)
all-more P (y ∷ xs) zero x h within is p = (subst P is p, tt)
all-more P (y ∷ xs) (suc i) x h within is p = rw add-one (h.0, rw add-one at (all-more P xs i x h.1 (omega arith) is p))

pub all-done : {A : Type 0} (P : A → Type 0) (xs : List A) (i : ℕ) → length xs ≤ i → AllByRecursion P (take i xs) → AllByRecursion P xs
all-done P xs i h all = rw (take_all i xs h) at all
