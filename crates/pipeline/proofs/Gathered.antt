-- One more of what is gathered.
-- For the contracts of gathering::gather_lanes and gathering::gather_shards.
use Rattle.std.proofs.Common.{◌≡◌, ◌||◌, Bool, true, false, List, [], ◌∷◌, ◌++◌, map, refl, sym, ap, ◌∙◌, append_assoc}
use Rattle.std.specs.List.{list_any}
use Rattle.std.proofs.lemmas.List.{map-append}

pub one_more : {X Y : Type 0} (v : X → Y) (old new before : List Y) (yielded : List X) (x : X) → new ≡ old ++ v x ∷ [] → old ≡ before ++ map v yielded → new ≡ before ++ map v (yielded ++ x ∷ [])
one_more v old new before yielded x pushed e = pushed ∙ (ap (λ (z : List _). z ++ v x ∷ []) e ∙ (append_assoc before (map v yielded) (v x ∷ []) ∙ ap (λ (z : List _). before ++ z) (sym (map-append v yielded (x ∷ [])))))

pub any_more : {X : Type 0} (test : X → Bool) (old new first : Bool) (yielded : List X) (x : X) → new ≡ (old || test x) → old ≡ (first || list_any test yielded) → new ≡ (first || list_any test (yielded ++ x ∷ []))
any_more test old new first yielded x added before = added ∙ (ap (λ (b : Bool). b || test x) before ∙ (assoc first (list_any test yielded) (test x) ∙ ap (λ (b : Bool). first || b) (sym (any_last yielded))))
  where
    assoc : (a b c : Bool) → ((a || b) || c) ≡ (a || (b || c))
    assoc true b c = refl
    assoc false b c = refl

    or_false : (b : Bool) → (b || false) ≡ b
    or_false true = refl
    or_false false = refl

    any_last : (xs : List _) → list_any test (xs ++ x ∷ []) ≡ (list_any test xs || test x)
    any_last [] = or_false (test x)
    any_last (y ∷ xs) = ap (λ (b : Bool). test y || b) (any_last xs) ∙ sym (assoc (test y) (list_any test xs) (test x))

-- nothing was gathered yet
pub any_none : {X : Type 0} (test : X → Bool) (first : Bool) → first ≡ (first || list_any test [])
any_none test true = refl
any_none test false = refl
