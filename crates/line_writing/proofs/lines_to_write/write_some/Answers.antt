use Rattle.std.proofs.Common.{arith, ◌≡◌, ℕ, ◌++◌, ◌-◌, List, length, take, drop, append_assoc, length-drop}
use Rattle.std.proofs.KnownBytes.{Appends-trans}
use Rattle.std.proofs.lemmas.Grind.{common_steps}
use Rattle.std.proofs.lemmas.List.{take-append-drop}
use Rattle.line_writing.proofs.lines_to_write.write_some.Goals as goal

split_more : (text done rest : List ℕ) (n : ℕ) → text ≡ done ++ rest → text ≡ (done ++ take n rest) ++ take (length rest - n) (drop n rest)
split_more text done rest n h = rw append_assoc (grind (arith, common_steps, take-append-drop n rest, length-drop n rest))

pub loop-preserved : goal.loop-preserved
loop-preserved g c = (
  c.loop.invariant.0 ++ take c.in-Some.count c.loop.rest.now,
  split_more _ c.loop.invariant.0 c.loop.rest.now c.in-Some.count c.loop.invariant.1,
  Appends-trans _ _ _ _ _ c.loop.invariant.2 c.in-Some.ensures.taken,
)
