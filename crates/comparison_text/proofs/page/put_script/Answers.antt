use Rattle.std.proofs.Common.{◌≤◌, ◌++◌, ◌∙◌, List, ℕ, ap, append-nil, arith, length, sym}
use Rattle.std.proofs.lemmas.List.{drop_all}
use Rattle.comparison_text.specs.Page.{in_script}
use Rattle.comparison_text.proofs.Script.{script-next}
use Rattle.comparison_text.proofs.page.put_script.Goals as goal

pub loop-byte-preserved : goal.loop-byte-preserved
loop-byte-preserved c = script-next c.args.text.now c.loop-byte.byte-index _ _ _ c.loop-byte-test.true c.loop-byte.invariant c.in_ok-put_byte.ensures

pub returns : goal.returns
returns c =
    let past : length c.args.text.now ≤ c.loop-byte.byte-index = omega (arith, c.loop-byte-test.false) in
    sym (append-nil _) ∙ ap (λ (bs : List ℕ). c.loop-byte.page.items ++ in_script bs) (sym (drop_all c.loop-byte.byte-index c.args.text.now past)) ∙ c.loop-byte.invariant
