-- A connection that is gone got no answer, and others keep theirs.
-- For the clause of `TurnDriver::turned`.
use Rattle.std.proofs.Common.{◌≡◌, ℕ, List, Option, Some, None, sym, ◌∙◌}
use Rattle.http_lane.specs.declared.answer.ServeEnd.{ServeEnd}
use Rattle.lane_driver.specs.Heard.{Sockets, unsent, SendTheSame, MayEnd, PutsText}

pub gone_puts : (place : ℕ) (text : List ℕ) (end : Option ServeEnd) (old mid new : Sockets) → SendTheSame old mid → MayEnd place mid new → unsent new place ≡ None → PutsText place text end old new
gone_puts place text end old mid new same ends gone = record {
  others = λ other ne. ends.others other ne ∙ same other;
  here = λ before after was is. absurd (let none = sym gone ∙ is in cc);
}
