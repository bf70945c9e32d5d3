-- A list that keeps the order of another: some elements removed, and some moved past such as they may pass.
-- For the laws of the headline, `headline` and each of its parts.
use Rattle.std.proofs.Common.{◌≡◌, List, [], ◌++◌, subst}
use Rattle.journal_theory.proofs.ListFacts.{Each, Each-append, Each-left, Each-right, Each-weaker, Pairs, Across, Pairs-append, Pairs-left, Pairs-right, Pairs-across}

pub record Keeps {X : Type 0} (R : X → X → Type 0) (xs ys : List X) : Type 1 where
  pub pairs : Pairs R xs → Pairs R ys
  pub each : (P : X → Type 0) → Each P xs → Each P ys

pub keeps_same : {X : Type 0} (R : X → X → Type 0) (xs ys : List X) → xs ≡ ys → Keeps R xs ys
keeps_same R xs ys e = record { pairs = λ h. subst (λ z. Pairs R z) e h; each = λ P h. subst (λ z. Each P z) e h }

pub keeps_then : {X : Type 0} (R : X → X → Type 0) (xs ys zs : List X) → Keeps R xs ys → Keeps R ys zs → Keeps R xs zs
keeps_then R xs ys zs h k = record { pairs = λ p. k.pairs (h.pairs p); each = λ P p. k.each P (h.each P p) }

pub keeps_none : {X : Type 0} (R : X → X → Type 0) (xs : List X) → Keeps R xs []
keeps_none R xs = record { pairs = λ p. tt; each = λ P p. tt }

-- the later ones may pass the earlier ones
pub keeps_swap : {X : Type 0} (R : X → X → Type 0) (xs ys : List X) → Across R ys xs → Keeps R (xs ++ ys) (ys ++ xs)
keeps_swap R xs ys a = record {
  pairs = λ p. Pairs-append R ys xs (Pairs-right R xs ys p) (Pairs-left R xs ys p) a;
  each = λ P p. Each-append P ys xs (Each-right P xs ys p) (Each-left P xs ys p);
}

pub keeps_after : {X : Type 0} (R : X → X → Type 0) (front xs ys : List X) → Keeps R xs ys → Keeps R (front ++ xs) (front ++ ys)
keeps_after R front xs ys k = record {
  pairs = λ p. Pairs-append R front ys (Pairs-left R front xs p) (k.pairs (Pairs-right R front xs p)) (Each-weaker (λ x. Each (R x) xs) (λ x. Each (R x) ys) front (λ x h. k.each (R x) h) (Pairs-across R front xs p));
  each = λ P p. Each-append P front ys (Each-left P front xs p) (k.each P (Each-right P front xs p));
}

pub keeps_before : {X : Type 0} (R : X → X → Type 0) (xs ys back : List X) → Keeps R xs ys → Keeps R (xs ++ back) (ys ++ back)
keeps_before R xs ys back k = record {
  pairs = λ p. Pairs-append R ys back (k.pairs (Pairs-left R xs back p)) (Pairs-right R xs back p) (k.each (λ x. Each (R x) back) (Pairs-across R xs back p));
  each = λ P p. Each-append P ys back (k.each P (Each-left P xs back p)) (Each-right P xs back p);
}

pub keeps_back : {X : Type 0} (R : X → X → Type 0) (xs ys : List X) → Keeps R (xs ++ ys) ys
keeps_back R xs ys = keeps_before R xs [] ys (keeps_none R xs)

pub Across-both : {X : Type 0} (R : X → X → Type 0) (P Q : X → Type 0) (xs ys : List X) → ((x y : X) → P x → Q y → R x y) → Each P xs → Each Q ys → Across R xs ys
Across-both R P Q xs ys f h k = Each-weaker P (λ x. Each (R x) ys) xs (λ x p. Each-weaker Q (R x) ys (λ y q. f x y p q) k) h
