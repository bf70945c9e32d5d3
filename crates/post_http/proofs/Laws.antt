-- Two traces over the same bytes see the same last response.
-- For the contract of `answers_agree`.
use Rattle.std.proofs.Common.{◌≡◌, List, [], ◌∷◌, ◌++◌, sym, ◌∙◌}
use Rattle.http1.specs.ClientTrace.{SeenResponse}
use Rattle.http1.proofs.ClientTraceLemmas.{traces_agree}
use Rattle.post_http.specs.Answers.{limits, AnswersAgree}

-- the last of a list that has one
last_of : (xs ys : List SeenResponse) (x y : SeenResponse) → xs ++ x ∷ [] ≡ ys ++ y ∷ [] → x ≡ y
last_of [] [] x y e = cc e
last_of [] (z ∷ []) x y e = cc e
last_of [] (z ∷ w ∷ ys) x y e = cc e
last_of (z ∷ []) [] x y e = cc e
last_of (z ∷ w ∷ xs) [] x y e = cc e
last_of (z ∷ xs) (w ∷ ys) x y e = last_of xs ys x y (cc e)

pub answers_agree : AnswersAgree
answers_agree bytes x y a b methods =
    last_of a.before b.before x y (sym a.are ∙ (traces_agree limits bytes a.seen b.seen a.rest b.rest a.trace b.trace methods).0 ∙ b.are)
