use Rattle.std.proofs.Common.{◌≡◌, ◌++◌, drop}
use Rattle.comparison_text.specs.Page.{in_script}
use Rattle.comparison_text.proofs.page.put_script.Given as goal

-- what is there, with what is left, is the whole
abbrev pub invariant-loop-byte : goal.invariant-loop-byte
invariant-loop-byte l = l.page.items ++ in_script (drop l.byte-index l.text) ≡ l.fn.page.items ++ in_script l.text
