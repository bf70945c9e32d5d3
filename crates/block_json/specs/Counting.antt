-- What is counted where tokens are.
use Rattle.std.specs.Prelude.{◌≡◌, ℕ, ◌+◌, Bool, List, [], ◌∷◌, ◌++◌, length, refl}
use Rattle.std.proofs.Common.{sym, ap, ◌∙◌, length-append, arith}
use Rattle.json.specs.Token.{Token}
use Rattle.json.specs.Print.{token_text, ends, separator, print_from}
use Rattle.span_size.specs.Counting.{capped, ends_after}
use Rattle.block_json.specs.declared.byte_sink.ByteSink.{ByteSink}
use Rattle.block_json.specs.Sinks.{Composes}

-- these tokens were counted, up to 2^64 - 1, and nothing else
pub record Counts (old new : ByteSink) (ts : List Token) : Type 0 where
  pub bytes : (n : ℕ) → old.bytes ≡ capped n → new.bytes ≡ capped (n + length (print_from old.after_value ts))
  pub place : new.after_value ≡ ends_after old.after_value ts

-- ---- what is counted adds up

abbrev printed : Bool → List Token → ℕ
printed b ts = length (print_from b ts)

printed-nil : (b : Bool) → printed b [] ≡ 0
unfolding print_from
printed-nil b = refl

printed-cons : (b : Bool) (t : Token) (ts : List Token) → printed b (t ∷ ts) ≡ length (separator b t) + (length (token_text t) + printed (ends t) ts)
unfolding print_from
printed-cons b t ts = length-append (separator b t) (token_text t ++ print_from (ends t) ts) ∙ ap (λ n. length (separator b t) + n) (length-append (token_text t) (print_from (ends t) ts))

printed-append : (b : Bool) (xs ys : List Token) → printed b (xs ++ ys) ≡ printed b xs + printed (ends_after b xs) ys
printed-append b [] ys = omega (arith, printed-nil b)
printed-append b (x ∷ xs) ys = let more = printed-append (ends x) xs ys in omega (arith, printed-cons b x (xs ++ ys), printed-cons b x xs, more)

ends-append : (b : Bool) (xs ys : List Token) → ends_after b (xs ++ ys) ≡ ends_after (ends_after b xs) ys
ends-append b [] ys = refl
ends-append b (x ∷ xs) ys = ends-append (ends x) xs ys

pub counts_compose : Composes Counts
counts_compose = record {
  nothing = λ a. record { bytes = λ n h. h ∙ ap capped (omega (arith, printed-nil a.after_value)); place = refl };
  then = λ a b c xs ys p q.
      let split = printed-append a.after_value xs ys in
      let place = ap (λ (d : Bool). printed d ys) p.place in
      record {
        bytes = λ n h. q.bytes (n + printed a.after_value xs) (p.bytes n h) ∙ ap capped (omega (arith, split, place));
        place = q.place ∙ ap (λ (d : Bool). ends_after d ys) p.place ∙ sym (ends-append a.after_value xs ys);
      };
}
