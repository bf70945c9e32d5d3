use Rattle.std.proofs.Common.{◌≡◌, ℕ, suc, ◌-◌, Bool, List, ◌∷◌, ◌++◌, [], length, take, ap, ◌∙◌, arith}
use Rattle.journal_theory.specs.Journal.{Entry}
use Rattle.world_theory.proofs.Routing.{read_is}
use Rattle.span_world.proofs.Giving.{answers_last, answers_back}
use Rattle.span_world.proofs.shard.give.Goals as goal

pub returns-in-Ok-clause-journal : goal.returns-in-Ok-clause-journal
returns-in-Ok-clause-journal c =
    let J = c.args.journal.now.items in
    let e = c.index_mut.result.now in
    let inside = c.behind-journal.inside in
    let i = c.len-last.result - 1 in
    let whole : length J ≡ suc i = (let l = c.len-last.ensures in let r = c.requires in omega (arith, l, r)) in
    let put = λ (given : List (List Bool)). (let x : Entry = record { item = inside.item; refused = inside.refused; lost = inside.lost; answers = given } in x) in
    answers_last J i e _ c.args.answers (read_is J i e (omega (arith, whole)) c.index_mut.ensures.value) whole
    (ap put c.in_ok-push.ensures.items ∙ ap (λ (x : Entry). record x { answers = x.answers ++ c.args.answers ∷ [] }) c.behind-journal.view_is)

pub returns-in-Err-clause-err : goal.returns-in-Err-clause-err
returns-in-Err-clause-err c =
    let J = c.args.journal.now.items in
    let e = c.index_mut.result.now in
    let again = c.index_mut-in-Err.result.now in
    let inside = c.behind-journal.inside in
    let behind = c.behind-journal-in-Err.inside in
    let i = c.len-last.result - 1 in
    let whole : length J ≡ suc i = (let l = c.len-last.ensures in let r = c.requires in omega (arith, l, r)) in
    let put = λ (given : List (List Bool)). (let x : Entry = record { item = inside.item; refused = inside.refused; lost = inside.lost; answers = given } in x) in
    let put_again = λ (given : List (List Bool)). (let x : Entry = record { item = behind.item; refused = behind.refused; lost = behind.lost; answers = given } in x) in
    answers_back J i e (put c.push.new.self.items) again (put_again c.pop.new.self.items) c.args.answers (read_is J i e (omega (arith, whole)) c.index_mut.ensures.value) whole
    (ap put c.in_ok-push.ensures.items ∙ ap (λ (x : Entry). record x { answers = x.answers ++ c.args.answers ∷ [] }) c.behind-journal.view_is) c.index_mut-in-Err.ensures.value
    (ap put_again (c.pop.ensures.rest ∙ ap (λ (k : ℕ). take (k - 1) behind.answers.items) behind.answers.ok.0) ∙ ap (λ (x : Entry). record x { answers = take (length x.answers - 1) x.answers }) c.behind-journal-in-Err.view_is)
