use Rattle.std.proofs.Common.{◌≡◌, length}
use Rattle.http_text.specs.Host.{is_name}
use Rattle.http_text.proofs.host.is_name.Given as goal

abbrev pub invariant-loop-text : goal.invariant-loop-text
invariant-loop-text l = is_name l.text ≡ is_name l.fn.text

abbrev pub decreases-loop-text : goal.decreases-loop-text
decreases-loop-text l = length l.text
