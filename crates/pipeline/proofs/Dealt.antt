-- Jobs that are made from the last one to the first, and then turned round.
-- For the contracts of lanes::lane_jobs and shards::shard_jobs.
use Rattle.std.proofs.Common.{◌≡◌, ℕ, ◌+◌, List, [], ◌∷◌, ◌++◌, map, reverse, All, refl, sym, ap, subst, ◌∙◌, length, arith, append_assoc}
use Rattle.std.proofs.lemmas.List.{reverse-append}
use Rattle.std.proofs.lemmas.List.Elements.{All-nil, All-head, All-tail, All-push}
use Rattle.pipeline.specs.Made.{NumberedFrom}

one_more : {X : Type 0} (made : List X) (x : X) → reverse (made ++ x ∷ []) ≡ x ∷ reverse made
one_more made x = reverse-append made (x ∷ [])

-- all is what is left, and then what was made of the rest
pub dealt : {X Y : Type 0} (v : X → Y) (all before after : List Y) (made new : List X) (y : Y) (x : X) → before ≡ after ++ y ∷ [] → new ≡ made ++ x ∷ [] → v x ≡ y
    → all ≡ before ++ map v (reverse made) → all ≡ after ++ map v (reverse new)
dealt v all before after made new y x taken pushed is e =
    e ∙ (ap (λ (z : List _). z ++ map v (reverse made)) taken ∙ (append_assoc after (y ∷ []) (map v (reverse made))
    ∙ (ap (λ (z : _). after ++ z ∷ map v (reverse made)) (sym is) ∙ ap (λ (z : List _). after ++ map v z) (sym (ap reverse pushed ∙ one_more made x)))))

pub numbered : {X : Type 0} (number : X → ℕ) (before after : ℕ) (made new : List X) (x : X) → before ≡ after + 1 → number x ≡ after → new ≡ made ++ x ∷ [] → NumberedFrom before (map number (reverse made)) → NumberedFrom after (map number (reverse new))
numbered number before after made new x count is pushed h =
    subst (λ (z : List _). NumberedFrom after (map number z)) (sym (ap reverse pushed ∙ one_more made x)) (is, subst (λ n. NumberedFrom n (map number (reverse made))) count h)

pub all_reverse : {X : Type 0} (P : X → Type 0) (xs : List X) → All P xs → All P (reverse xs)
all_reverse P [] h = All-nil P
all_reverse P (x ∷ xs) h = subst (All P) (sym (reverse-append (x ∷ []) xs)) (All-push P (reverse xs) x (all_reverse P xs (All-tail P x xs h)) (All-head P x xs h))

nothing : {X : Type 0} (xs : List X) → length xs ≡ 0 → xs ≡ []
nothing [] e = refl
nothing (x ∷ xs) e = absurd (omega (arith, e))

-- where nothing is left all was made
pub all_dealt : {X Y : Type 0} (v : X → Y) (all left : List Y) (made new : List X) → new ≡ reverse made → length left ≡ 0 → all ≡ left ++ map v (reverse made) → map v new ≡ all
all_dealt v all left made new turned none e = ap (map v) turned ∙ sym (e ∙ ap (λ (z : List _). z ++ map v (reverse made)) (nothing left none))
