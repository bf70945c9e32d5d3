use Rattle.std.proofs.Common.{◌+◌, ◌∙◌, ◌++◌, ap, sym, subst, refl, arith, length, take, drop, [], length-drop, append_assoc}
use Rattle.std.proofs.lemmas.List.{take_rest}
use Rattle.http_text.specs.Fields.{elements}
use Rattle.http_text.specs.Named.{Seen}
use Rattle.http_text.proofs.WordLemmas.{one_of, one_trimmed, elements_more, elements_last}
use Rattle.http_text.proofs.fields.find_elements.Goals as goal

pub elements-init : goal.elements-init
elements-init c = ([], refl, refl, omega arith)

pub elements-preserved : goal.elements-preserved
elements-preserved c =
    let rest = c.elements.rest.now in
    let at = c.in-Some.at in
    let seen = c.elements.invariant.0 in
    let one = one_of (take at rest) in
    let told = c.with_element-found.ensures seen c.elements.invariant.1 in (
      seen ++ one,
      subst (λ w. Seen c.with_element-found.result (seen ++ one_trimmed w)) c.trim_ows.ensures told,
      c.elements.invariant.2 ∙ ap (λ l. seen ++ l) (elements_more rest at (sym c.in-Some.ensures.value))
          ∙ sym (append_assoc seen one (elements (drop (at + 1) rest)))
          ∙ ap (λ l. (seen ++ one) ++ elements l) (sym (take_rest rest (at + 1))),
      omega (arith, ap length (take_rest rest (at + 1)), length-drop (at + 1) rest, c.elements.invariant.3),
    )

pub returns-in-None : goal.returns-in-None
returns-in-None c =
    let rest = c.elements.rest.now in
    let seen = c.elements.invariant.0 in
    let told = c.with_element.ensures seen c.elements.invariant.1 in
    let trimmed = subst (λ w. Seen c.with_element.result (seen ++ one_trimmed w)) c.trim_ows-in-None.ensures told in
    subst (Seen c.with_element.result) (ap (λ l. seen ++ l) (sym (elements_last rest (sym c.in-None.ensures.value))) ∙ sym c.elements.invariant.2) trimmed
