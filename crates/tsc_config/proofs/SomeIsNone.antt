-- An expression among some is none just where the test of them says so.
-- For the contracts of `answers_least_fault` here and of `lists_each_fault` in `config_findings`.
use Rattle.std.proofs.Common.{◌≡◌, zero, suc, Bool, true, false, ◌⊎◌, inl, inr, refl, not, ◌||◌, arith, List, [], ◌∷◌}
use Rattle.policy_tree.specs.declared.expressions.PolicyExpression.{PolicyExpression}
use Rattle.tsc_config.specs.FaultSets.{SomeIsNone}
use Rattle.tsc_config.specs.Reading.{is_one, some_is_none}

-- among none there is none
pub none_of_none : SomeIsNone [] → ⊥
none_of_none (text, (k, h, e), n) = absurd (omega (arith, h))

-- the first, or one of the rest
pub first_or_later : (text : PolicyExpression) (rest : List PolicyExpression) → SomeIsNone (text ∷ rest) → (is_one text ≡ false) ⊎ SomeIsNone rest
first_or_later text rest (found, (zero, h, e), n) = inl (rw e n)
first_or_later text rest (found, (suc k, h, e), n) = inr (found, (k, omega (arith, h), e), n)

pub at_first : (text : PolicyExpression) (rest : List PolicyExpression) → is_one text ≡ false → SomeIsNone (text ∷ rest)
at_first text rest n = (text, (0, omega arith, refl), n)

pub later : (text : PolicyExpression) (rest : List PolicyExpression) → SomeIsNone rest → SomeIsNone (text ∷ rest)
later text rest (found, (k, h, e), n) = (found, (suc k, omega (arith, h), e), n)

pub some_is : (texts : List PolicyExpression) → some_is_none texts ≡ true → SomeIsNone texts
some_is [] e = cc
some_is (text ∷ rest) e = of (is_one text) refl e (some_is rest)
  where
    of : (r : Bool) → is_one text ≡ r → (not r || some_is_none rest) ≡ true → (some_is_none rest ≡ true → SomeIsNone rest) → SomeIsNone (text ∷ rest)
    of true n f deeper = later text rest (deeper f)
    of false n f deeper = at_first text rest n

pub is_some : (texts : List PolicyExpression) → SomeIsNone texts → some_is_none texts ≡ true
is_some [] h = absurd (none_of_none h)
is_some (text ∷ rest) h = of (is_one text) refl (first_or_later text rest h) (is_some rest)
  where
    of : (r : Bool) → is_one text ≡ r → (is_one text ≡ false) ⊎ SomeIsNone rest → (SomeIsNone rest → some_is_none rest ≡ true) → (not r || some_is_none rest) ≡ true
    of true n (inl m) deeper = cc
    of true n (inr l) deeper = deeper l
    of false n l deeper = refl
