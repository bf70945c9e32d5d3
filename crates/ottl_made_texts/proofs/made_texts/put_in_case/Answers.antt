use Rattle.std.proofs.Common.{◌≡◌, ◌≤◌, ◌<◌, ◌+◌, ◌++◌, length, append_assoc, append-nil, sym, ◌∙◌, refl, encode_utf8, arith, rules}
use Rattle.std.proofs.lemmas.Str.{IsUtf8-past_char}
use Rattle.std.proofs.lemmas.List.{length-append}
use Rattle.ottl_made_texts.specs.MadeTexts.{most_bytes, letters_in}
use Rattle.ottl_made_texts.proofs.Letters.{letters_in-empty, letters_in-step, longer}
use Rattle.ottl_made_texts.proofs.made_texts.put_in_case.Goals as goal

pub loop-letter-preserved : goal.loop-letter-preserved
loop-letter-preserved c =
    let held = c.loop-letter.invariant in
    let parts = c.in-Some.ensures.steps.0 in
    let step = letters_in-step c.args.case _ _ c.in-Some.letter held.0 parts in
    let fits : length c.loop-letter.room.bytes + length (encode_utf8 c.letter_in.result) ≤ most_bytes = search rules in (
      IsUtf8-past_char _ _ c.in-Some.letter held.0 parts,
      rw (c.in-Ok.ensures.ok, c.letter_in.ensures, append_assoc) (rw step at held.1),
      rw (c.in-Ok.ensures.ok, length-append) fits,
    )

pub returns-in-Err-clause-fits : goal.returns-in-Err-clause-fits
returns-in-Err-clause-fits c =
    let held = c.loop-letter.invariant in
    let parts = c.in-Some.ensures.steps.0 in
    let step = letters_in-step c.args.case _ _ c.in-Some.letter held.0 parts in
    let full : most_bytes < length c.loop-letter.room.bytes + length (encode_utf8 c.letter_in.result) = search rules in
    let long = longer _ _ _ _ (rw step at held.1) (rw c.letter_in.ensures at full) in
    ((λ e. cc), (λ fits. absurd (omega (arith, long, fits))))

pub returns-clause-fits : goal.returns-clause-fits
returns-clause-fits c =
    let held = c.loop-letter.invariant in
    let whole = sym (append-nil _) ∙ rw (letters_in-empty c.args.case _ c.in-None.ensures.steps.0.0) at held.1 in
    ((λ e. rw (← whole) held.2), (λ fits. refl))

pub returns-clause-made : goal.returns-clause-made
returns-clause-made c e = sym (append-nil _) ∙ rw (letters_in-empty c.args.case _ c.in-None.ensures.steps.0.0) at c.loop-letter.invariant.1
