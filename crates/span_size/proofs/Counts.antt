-- Tokens that are counted one after the other.
-- For the clauses of `ByteCounter` and of what is counted.
use Rattle.std.proofs.Common.{◌≡◌, ℕ, ◌+◌, Bool, true, false, ◌&&◌, cond, length, List, [], ◌∷◌, ◌++◌, refl, sym, ap, ◌∙◌, length-append, append_assoc, subst, arith}
use Rattle.json.specs.Token.{Token}
use Rattle.json.specs.Print.{token_text, begins, ends, separator, print_from}
use Rattle.span_size.specs.declared.counter.ByteCounter.{ByteCounter}
use Rattle.span_size.specs.Counting.{capped, ends_after, Adds, IsOf}

-- the bytes of these tokens
abbrev pub printed : Bool → List Token → ℕ
printed b ts = length (print_from b ts)

printed-nil : (b : Bool) → printed b [] ≡ 0
unfolding print_from
printed-nil b = refl

printed-cons : (b : Bool) (t : Token) (ts : List Token) → printed b (t ∷ ts) ≡ length (separator b t) + (length (token_text t) + printed (ends t) ts)
unfolding print_from
printed-cons b t ts = length-append (separator b t) (token_text t ++ print_from (ends t) ts) ∙ ap (λ n. length (separator b t) + n) (length-append (token_text t) (print_from (ends t) ts))

printed-append : (b : Bool) (xs ys : List Token) → printed b (xs ++ ys) ≡ printed b xs + printed (ends_after b xs) ys
printed-append b [] ys = omega (arith, printed-nil b)
printed-append b (x ∷ xs) ys = let more = printed-append (ends x) xs ys in omega (arith, printed-cons b x (xs ++ ys), printed-cons b x xs, more)

ends-append : (b : Bool) (xs ys : List Token) → ends_after b (xs ++ ys) ≡ ends_after (ends_after b xs) ys
ends-append b [] ys = refl
ends-append b (x ∷ xs) ys = ends-append (ends x) xs ys

-- nothing was counted
pub nothing : (a : ByteCounter) → Adds a a []
nothing a = record { bytes = λ n h. h ∙ ap capped (omega (arith, printed-nil a.after_value)); place = refl }

-- these, and then those
pub then : {a b c : ByteCounter} {xs ys : List Token} → Adds a b xs → Adds b c ys → Adds a c (xs ++ ys)
then {a} {b} {c} {xs} {ys} p q =
    let split = printed-append a.after_value xs ys in
    let place = ap (λ (b : Bool). printed b ys) p.place in
    record {
      bytes = λ n h. q.bytes (n + printed a.after_value xs) (p.bytes n h) ∙ ap capped (omega (arith, split, place));
      place = q.place ∙ ap (λ (b : Bool). ends_after b ys) p.place ∙ sym (ends-append a.after_value xs ys);
    }

-- these in two parts, and then those
pub then-both : {a b c : ByteCounter} (xs ys zs : List Token) → Adds a b (xs ++ ys) → Adds b c zs → Adds a c (xs ++ (ys ++ zs))
then-both {a} {b} {c} xs ys zs p q = subst (λ (ts : List Token). Adds a c ts) (append_assoc xs ys zs) (then p q)

-- one token: its text, and the comma before it
printed-one : (b : Bool) (t : Token) → printed b (t ∷ []) ≡ cond (b && begins t) 1 0 + length (token_text t)
printed-one b t = let e = printed-cons b t [] in let none = printed-nil (ends t) in let comma = length-separator (b && begins t) in omega (arith, e, none, comma)
  where
    length-separator : (c : Bool) → length {A = ℕ} (cond c (44 ∷ []) []) ≡ cond c 1 0
    length-separator true = refl
    length-separator false = refl

-- a token is counted with its comma
pub token-added : (a b : ByteCounter) (t : Token) (bytes : ℕ) (begins_value ends_value : Bool) → IsOf t bytes begins_value ends_value
    → b.bytes ≡ capped (capped (a.bytes + cond (a.after_value && begins_value) 1 0) + bytes) → b.after_value ≡ ends_value → Adds a b (t ∷ [])
token-added a b t bytes begins_value ends_value is sum place =
    let one = printed-one a.after_value t in
    let comma = ap (λ (c : Bool). cond {A = ℕ} (a.after_value && c) 1 0) is.begin in
    record {
      bytes = λ n h. omega (arith, sum, one, comma, is.size, h);
      place = place ∙ is.end;
    }
