-- The texts of the values read as these values again. For the contracts of `decisions_text` and `trace_text`.
use Rattle.std.proofs.Common.{◌≤◌, ◌<◌, ◌-◌, ◌^◌, ◌++◌, ℕ, List, [], ◌∷◌, arith, take}
use Rattle.std.specs.Prelude.{codes, Result, Ok, Err, OnOk, Option, Some, None, IfSome, option_and_then, slice_get}
use Rattle.json.specs.Json.{Json}
use Rattle.json.specs.Tree.{HasNumbers, ItemsHaveNumbers, MembersHaveNumbers, depth, items_depth, members_depth}
use Rattle.json.proofs.Printed.Decimals.{IsNumber-decimal}
use Rattle.json.proofs.Printed.Trees.{document-print}
use Rattle.decision_line.specs.declared.decision.Said.{Said}
use Rattle.decision_line.specs.declared.held.TraceHeld.{TraceHeld}
use Rattle.decision_line.specs.declared.held.TraceHeld.TheVariants.{Waiting, Decided as HeldDecided, Remembered, Unknown}
use Rattle.decision_line.specs.Line.{ReadsBack, members_of, name_or_null}
use Rattle.decision_json.specs.declared.news.TraceNews.{TraceNews}
use Rattle.decision_json.specs.declared.news.TraceNews.TheVariants.{Decided, Evicted}
use Rattle.decision_json.specs.Putting.{AreCounted, IsCounted, IsHeldCounted}
use Rattle.decision_json.specs.Value.{answer_items, decisions_value, found_members, held_value, news_items, news_value, told_value}

name-numbers : (name : Option (List ℕ)) → HasNumbers (name_or_null name)
name-numbers None = tt
name-numbers (Some name) = tt

name-depth : (name : Option (List ℕ)) → depth (name_or_null name) ≤ 0
name-depth None = omega arith
name-depth (Some name) = omega arith

answers-numbers : (names : List (List ℕ)) (said : List Said) → ItemsHaveNumbers (answer_items names said)
answers-numbers [] said = tt
answers-numbers (name ∷ names) [] = ((tt, (tt, tt)), answers-numbers names [])
answers-numbers (name ∷ names) (first ∷ said) = ((tt, (tt, tt)), answers-numbers names said)

answers-depth : (names : List (List ℕ)) (said : List Said) → items_depth (answer_items names said) ≤ 1
answers-depth [] said = omega arith
answers-depth (name ∷ names) [] = omega (arith, answers-depth names [])
answers-depth (name ∷ names) (first ∷ said) = omega (arith, answers-depth names said)

news-numbers : (names : List (List ℕ)) (one : TraceNews) → IsCounted one → HasNumbers (news_value names one)
news-numbers names (Decided trace said asked) h =
    let decider : Option (List ℕ) = option_and_then (λ place. slice_get names place) trace.decider in
    let wait = IsNumber-decimal (trace.moment - trace.opened) (omega (arith, h.0)) in
    (tt, (tt, (IsNumber-decimal trace.moment h.0, (tt, (tt, (name-numbers decider, (IsNumber-decimal trace.spans h.1, (wait, (tt, (answers-numbers names (take asked said), tt))))))))))
news-numbers names (Evicted trace) h = (tt, (tt, (IsNumber-decimal trace.moment h.0, (IsNumber-decimal trace.spans h.1, tt))))

news-depth : (names : List (List ℕ)) (one : TraceNews) → depth (news_value names one) ≤ 3
news-depth names (Decided trace said asked) =
    let decider : Option (List ℕ) = option_and_then (λ place. slice_get names place) trace.decider in
    omega (arith, name-depth decider, answers-depth names (take asked said))
news-depth names (Evicted trace) = omega arith

items-numbers : (names : List (List ℕ)) (news : List TraceNews) → AreCounted news → ItemsHaveNumbers (news_items names news)
items-numbers names [] h = tt
items-numbers names (one ∷ news) h = (news-numbers names one h.0, items-numbers names news h.1)

items-depths : (names : List (List ℕ)) (news : List TraceNews) → items_depth (news_items names news) ≤ 3
items-depths names [] = omega arith
items-depths names (one ∷ news) = omega (arith, news-depth names one, items-depths names news)

pub decisions-read-back : (now remembers : ℕ) (names : List (List ℕ)) (news : List TraceNews) → now < 2 ^ 64 → remembers < 2 ^ 64 → AreCounted news
    → ReadsBack (decisions_value now remembers names news)
decisions-read-back now remembers names news n r h =
    document-print (decisions_value now remembers names news) (IsNumber-decimal now n, (IsNumber-decimal remembers r, (items-numbers names news h, tt)))
    (omega (arith, items-depths names news))

found-numbers : (names : List (List ℕ)) (id : List ℕ) (found : Option TraceNews) → IfSome found IsCounted → MembersHaveNumbers (members_of (found_members names id found))
found-numbers names id (Some one) h = news-numbers names one h
found-numbers names id None h = (tt, (tt, tt))

found-depth : (names : List (List ℕ)) (id : List ℕ) (found : Option TraceNews) → members_depth (members_of (found_members names id found)) ≤ 2
found-depth names id (Some one) = let d = news-depth names one in omega (arith, d)
found-depth names id None = omega arith

held-numbers : (held : Option TraceHeld) → IsHeldCounted held → HasNumbers (held_value held)
held-numbers None h = tt
held-numbers (Some (Waiting since spans)) h = (tt, (IsNumber-decimal since h.0, (IsNumber-decimal spans h.1, tt)))
held-numbers (Some (HeldDecided verdict)) h = (tt, (tt, tt))
held-numbers (Some (Remembered verdict)) h = (tt, (tt, tt))
held-numbers (Some Unknown) h = (tt, tt)

held-depth : (held : Option TraceHeld) → depth (held_value held) ≤ 1
held-depth None = omega arith
held-depth (Some (Waiting since spans)) = omega arith
held-depth (Some (HeldDecided verdict)) = omega arith
held-depth (Some (Remembered verdict)) = omega arith
held-depth (Some Unknown) = omega arith

-- a member more
more-numbers : (ms : List (List ℕ × Json)) (name : List ℕ) (value : Json) → MembersHaveNumbers (members_of ms) → HasNumbers value → MembersHaveNumbers (members_of (ms ++ (name, value) ∷ []))
more-numbers [] name value h v = (v, tt)
more-numbers (m ∷ ms) name value h v = (h.0, more-numbers ms name value h.1 v)

more-depth : (ms : List (List ℕ × Json)) (name : List ℕ) (value : Json) → members_depth (members_of ms) ≤ 2 → depth value ≤ 1 → members_depth (members_of (ms ++ (name, value) ∷ [])) ≤ 2
more-depth [] name value d v = omega (arith, v)
more-depth (m ∷ ms) name value d v =
    let rest : members_depth (members_of ms) ≤ 2 = omega (arith, d) in
    let more = more-depth ms name value rest v in
    omega (arith, d, more)

pub told-reads-back : (names : List (List ℕ)) (id : List ℕ) (found : Option TraceNews) (held : Option TraceHeld) → IfSome found IsCounted → IsHeldCounted held → ReadsBack (told_value names id found held)
told-reads-back names id found held f h =
    let depths = more-depth (found_members names id found) (codes "held") (held_value held) (found-depth names id found) (held-depth held) in
    document-print (told_value names id found held) (more-numbers (found_members names id found) (codes "held") (held_value held) (found-numbers names id found f) (held-numbers held h)) (omega (arith, depths))

-- what holds anyway, holds at an `Ok`
pub on-ok : {V E : Type 0} (result : Result V E) {P : Type 0} → P → OnOk result P
on-ok (Ok value) h = h
on-ok (Err fault) h = tt
