use Rattle.std.proofs.Common.{◌∙◌, sym, ap, subst, arith, drop, length-drop}
use Rattle.std.proofs.lemmas.List.{take_rest}
use Rattle.http_text.specs.declared.search.SearchStep.TheVariants.{Found, On, Pause}
use Rattle.http_text.specs.Search.{IsStep, step}
use Rattle.http_text.proofs.SearchLemmas.{step_is, searched_on, searched_found, searched_open}
use Rattle.http_text.proofs.search.find.Goals as goal

pub returns-in-Found-clause-ends : goal.returns-in-Found-clause-ends
returns-in-Found-clause-ends c = λ len_of s.
    let bytes = c.args.bytes.now in
    let at = c.steps.at in
    let is : IsStep c.steps.place (drop at bytes) (Found c.in-Found.n) = subst (IsStep c.steps.place (drop at bytes)) (sym (c.in-Found.ensures ∙ ap (step c.steps.place) (take_rest bytes at))) (step_is c.steps.place (drop at bytes)) in
    let found = searched_found len_of at c.in-Found.n c.steps.place bytes (c.steps.invariant.1 len_of s) is in
    (found.0, omega (arith, is.0), found.1)

pub returns-in-Found-clause-inside : goal.returns-in-Found-clause-inside
returns-in-Found-clause-inside c =
    let bytes = c.args.bytes.now in
    let at = c.steps.at in
    let is : IsStep c.steps.place (drop at bytes) (Found c.in-Found.n) = subst (IsStep c.steps.place (drop at bytes)) (sym (c.in-Found.ensures ∙ ap (step c.steps.place) (take_rest bytes at))) (step_is c.steps.place (drop at bytes)) in
    (omega (arith, is.0), omega (arith, is.1, length-drop at bytes, c.steps.invariant.0))

pub steps-preserved : goal.steps-preserved
steps-preserved c =
    let bytes = c.args.bytes.now in
    let at = c.steps.at in
    let is : IsStep c.steps.place (drop at bytes) (On c.in-On.n c.in-On.next) = subst (IsStep c.steps.place (drop at bytes)) (sym (c.in-On.ensures ∙ ap (step c.steps.place) (take_rest bytes at))) (step_is c.steps.place (drop at bytes)) in
    (omega (arith, is.1, length-drop at bytes, c.steps.invariant.0), λ len_of s. searched_on len_of at c.in-On.n c.steps.place c.in-On.next bytes (c.steps.invariant.1 len_of s) is)

pub returns-in-Pause-clause-ends : goal.returns-in-Pause-clause-ends
returns-in-Pause-clause-ends c = λ len_of s.
    let bytes = c.args.bytes.now in
    let at = c.steps.at in
    let is : IsStep c.steps.place (drop at bytes) Pause = subst (IsStep c.steps.place (drop at bytes)) (sym (c.in-Pause.ensures ∙ ap (step c.steps.place) (take_rest bytes at))) (step_is c.steps.place (drop at bytes)) in
    let known = c.steps.invariant.1 len_of s in
    (searched_open len_of at c.steps.place bytes known is, known)
