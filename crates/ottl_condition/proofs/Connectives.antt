-- Conditions by what their parts say.
-- For the laws, and for evaluating::truth_on.
use Rattle.std.proofs.Common.{◌≡◌, Bool, true, false, Ok, Err, refl, sym, ◌∙◌, ap}
use Rattle.ottl_text.specs.declared.expression.Unary.TheVariants.{Not}
use Rattle.ottl_text.specs.declared.expression.Binary.TheVariants.{And, Or}
use Rattle.ottl_text.specs.Syntax.{unary, binary}
use Rattle.ottl_condition.specs.Values.{Value, truth, Answer, ◌>>=◌, as_truth}
use Rattle.ottl_condition.specs.Functions.{made_of}
use Rattle.ottl_condition.specs.Meaning.{as_condition, together, value_on, meaning}
use Rattle.ottl_condition.specs.Laws.{and_of, or_of, not_of, AndIsOfBoth, OrIsOfBoth, NotIsOfOne, NotTwiceIsNothing, NotAndIsOrOfNots, NotOrIsAndOfNots}

asked : (a : Answer Value) → ((a >>= as_condition) >>= as_truth) ≡ (a >>= as_truth)
asked (Err e) = refl
asked (Ok (truth b)) = refl
asked (Ok v) = refl

pub by_and : (a b : Answer Value) → (together And a b >>= as_truth) ≡ and_of (a >>= as_truth) (b >>= as_truth)
by_and (Err e) b = refl
by_and (Ok (truth true)) b = asked b
by_and (Ok (truth false)) b = refl
by_and (Ok v) b = refl

pub by_or : (a b : Answer Value) → (together Or a b >>= as_truth) ≡ or_of (a >>= as_truth) (b >>= as_truth)
by_or (Err e) b = refl
by_or (Ok (truth true)) b = refl
by_or (Ok (truth false)) b = asked b
by_or (Ok v) b = refl

pub by_not : (a : Answer Value) → ((a >>= made_of Not) >>= as_truth) ≡ not_of (a >>= as_truth)
unfolding made_of
by_not (Err e) = refl
by_not (Ok (truth b)) = refl
by_not (Ok v) = refl

pub and-of : AndIsOfBoth
unfolding meaning
and-of x y r = by_and (value_on r x) (value_on r y)

pub or-of : OrIsOfBoth
unfolding meaning
or-of x y r = by_or (value_on r x) (value_on r y)

pub not-of : NotIsOfOne
unfolding meaning
not-of t r = by_not (value_on r t)

not_twice : (a : Answer Bool) → not_of (not_of a) ≡ a
not_twice (Err e) = refl
not_twice (Ok true) = refl
not_twice (Ok false) = refl

not_and : (a b : Answer Bool) → not_of (and_of a b) ≡ or_of (not_of a) (not_of b)
not_and (Err e) b = refl
not_and (Ok true) b = refl
not_and (Ok false) b = refl

not_or : (a b : Answer Bool) → not_of (or_of a b) ≡ and_of (not_of a) (not_of b)
not_or (Err e) b = refl
not_or (Ok true) b = refl
not_or (Ok false) b = refl

pub twice : NotTwiceIsNothing
twice t r = not-of (unary Not t) r ∙ ap not_of (not-of t r) ∙ not_twice (meaning t r)

pub not-and : NotAndIsOrOfNots
not-and x y r =
    not-of (binary And x y) r ∙ ap not_of (and-of x y r) ∙ not_and (meaning x r) (meaning y r)
    ∙ sym (or-of (unary Not x) (unary Not y) r ∙ ap (λ a. or_of a (meaning (unary Not y) r)) (not-of x r) ∙ ap (or_of (not_of (meaning x r))) (not-of y r))

pub not-or : NotOrIsAndOfNots
not-or x y r =
    not-of (binary Or x y) r ∙ ap not_of (or-of x y r) ∙ not_or (meaning x r) (meaning y r)
    ∙ sym (and-of (unary Not x) (unary Not y) r ∙ ap (λ a. and_of a (meaning (unary Not y) r)) (not-of x r) ∙ ap (and_of (not_of (meaning x r))) (not-of y r))
