use Rattle.std.proofs.Common.{◌+◌, ◌∙◌, ap, sym, arith, length, drop, length-drop}
use Rattle.std.specs.Prelude.{◌||◌}
use Rattle.std.proofs.lemmas.List.{take_rest}
use Rattle.http_text.specs.Fields.{has_word}
use Rattle.http_text.proofs.WordLemmas.{is_word_of, word_more, word_last}
use Rattle.http_text.proofs.fields.has_word.Goals as goal

pub words-preserved : goal.words-preserved
words-preserved c =
    let word = c.args.word.now in
    let rest = c.words.rest.now in
    let at = c.in-Some.at in
    let found = c.words.found in
    let test = c.eq_ignore_case-found.ensures ∙ ap (λ w. is_word_of word w) c.trim_ows.ensures in (
      c.words.invariant.0 ∙ word_more word rest at found (sym c.in-Some.ensures.value)
          ∙ ap (λ t. (found || t) || has_word word (drop (at + 1) rest)) (sym test)
          ∙ ap (λ l. (found || c.eq_ignore_case-found.result) || has_word word l) (sym (take_rest rest (at + 1))),
      omega (arith, ap length (take_rest rest (at + 1)), length-drop (at + 1) rest, c.words.invariant.1),
    )

pub returns-in-None : goal.returns-in-None
returns-in-None c =
    let word = c.args.word.now in
    let found = c.words.found in
    let test = c.eq_ignore_case-found-in-None.ensures ∙ ap (λ w. is_word_of word w) c.trim_ows-in-None.ensures in
    ap (λ t. found || t) test ∙ sym (word_last word c.words.rest.now found (sym c.in-None.ensures.value)) ∙ sym c.words.invariant.0
