use Rattle.std.proofs.Common.{◌≡◌, ◌+◌, ◌<◌, ◌≤◌, sym, ap, ◌∙◌, arith, drop, length, length-drop}
use Rattle.std.proofs.lemmas.List.{take_rest}
use Rattle.http_text.specs.Lines.{empty_line_len}
use Rattle.http_text.proofs.LineLemmas.{blank_end, blank_more}
use Rattle.http_text.proofs.lines.blank_len.Goals as goal

pub returns-then-len-eq0-clause-value : goal.returns-then-len-eq0-clause-value
returns-then-len-eq0-clause-value c =
    let bytes = c.args.bytes.now in
    let none = blank_end (drop c.loop-at.at bytes) (ap empty_line_len (sym (take_rest bytes c.loop-at.at)) ∙ sym c.empty_line_len-len.ensures.value ∙ c.if-len-eq0.true) in
    omega (arith, none, c.loop-at.invariant.1)

pub loop-at-preserved : goal.loop-at-preserved
loop-at-preserved c =
    let bytes = c.args.bytes.now in
    let at = c.loop-at.at in
    let len = c.empty_line_len-len.result in
    let is : len ≡ empty_line_len (drop at bytes) = c.empty_line_len-len.ensures.value ∙ ap empty_line_len (take_rest bytes at) in
    let some : 0 < len = omega arith in
    let more = blank_more at bytes len is some in
    let fits : at + len ≤ length bytes = omega (arith, c.empty_line_len-len.ensures.within, ap length (take_rest bytes at), length-drop at bytes, c.loop-at.invariant.0) in
    (fits, omega (arith, more, c.loop-at.invariant.1))
