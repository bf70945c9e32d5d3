-- What became of each trace, one after the other. For the contract of `put_all`.
use Rattle.std.proofs.Common.{◌≡◌, ◌<◌, ◌≤◌, ◌+◌, ◌++◌, ◌∷◌, ◌∙◌, ℕ, suc, List, ap, arith, subst, sym, append_assoc, drop, drop-cons, get_or, length}
use Rattle.std.proofs.lemmas.List.{drop_all}
use Rattle.std.specs.Prelude.{Err, Ok, Result}
use Rattle.json.specs.Token.{Token, end_array}
use Rattle.json.specs.Tree.{items_tokens, json_tokens}
use Rattle.json.specs.Written.{Written, Writes}
use Rattle.decision_json.specs.declared.news.TraceNews.{TraceNews}
use Rattle.decision_json.specs.Putting.{AreCounted, IsCounted, PutsAll}
use Rattle.decision_json.specs.Value.{news_items, news_value}

-- from a place on
abbrev pub news_from : (names : List (List ℕ)) (news : List TraceNews) (place : ℕ) → List Token
news_from names news place = items_tokens (news_items names (drop place news))

-- one more is there, and one less is left
pub news-next : (names : List (List ℕ)) (news : List TraceNews) (place : ℕ) (one : TraceNews) (text new whole : List Token) → place < length news → one ≡ get_or news place one
    → text ++ news_from names news place ≡ whole → new ≡ text ++ json_tokens (news_value names one)
    → new ++ news_from names news (place + 1) ≡ whole
news-next names news place one text new whole some is so e =
    let next : place + 1 ≡ suc place = omega arith in
    let here : drop place news ≡ one ∷ drop (suc place) news = drop-cons news place one some ∙ ap (λ (n : TraceNews). n ∷ drop (suc place) news) (sym is) in
    ap (λ (n : ℕ). new ++ news_from names news n) next ∙ ap (λ (x : List Token). x ++ news_from names news (suc place)) e
    ∙ append_assoc text (json_tokens (news_value names one)) (news_from names news (suc place))
    ∙ ap (λ (ns : List TraceNews). text ++ items_tokens (news_items names ns)) (sym here) ∙ so

-- all are there, and the end of their array
pub news-end : {E : Type 0} (result : Result (Unit {0}) E) (names : List (List ℕ)) (news : List TraceNews) (place : ℕ) (old text new : Written) → length news ≤ place
    → text.tokens ++ news_from names news place ≡ old.tokens ++ news_from names news 0 → text.before ≡ old.before → Writes result text new end_array
    → PutsAll result old new (news_from names news 0)
news-end (Ok done) names news place old text new past so b h =
    record { all = (h.ok ∙ ap (λ (ns : List TraceNews). text.tokens ++ items_tokens (news_items names ns)) (sym (drop_all place news past)) ∙ so, h.room.0 ∙ b) }
news-end (Err fault) names news place old text new past so b h = record { all = tt }

-- one more can be written
pub counted-next : (news : List TraceNews) (place : ℕ) (one : TraceNews) → place < length news → one ≡ get_or news place one → IsCounted one
    → (AreCounted (drop place news) → AreCounted news) → AreCounted (drop (place + 1) news) → AreCounted news
counted-next news place one some is counted before rest =
    let next : place + 1 ≡ suc place = omega arith in
    let here : drop place news ≡ one ∷ drop (suc place) news = drop-cons news place one some ∙ ap (λ (n : TraceNews). n ∷ drop (suc place) news) (sym is) in
    before (subst AreCounted (sym here) (counted, subst (λ (n : ℕ). AreCounted (drop n news)) next rest))

-- all can
pub counted-end : (news : List TraceNews) (place : ℕ) → length news ≤ place → (AreCounted (drop place news) → AreCounted news) → AreCounted news
counted-end news place past before = before (subst AreCounted (sym (drop_all place news past)) tt)
