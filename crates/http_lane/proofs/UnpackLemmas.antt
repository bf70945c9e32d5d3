-- What is done with a packed body that gives no text.
-- They serve the clause of `unpack`.
use Rattle.std.proofs.Common.{◌≡◌, ℕ, List, Bool, true, false, Option, Some, [], refl, subst}
use Rattle.otlp_encoding.specs.declared.encoding.Encoding.{Encoding}
use Rattle.inflate.specs.declared.fault.GzipFault.{GzipFault}
use Rattle.inflate.specs.declared.fault.GzipFault.TheVariants.{Broken, TooLong, NoMemory}
use Rattle.inflate.specs.Answers.{Refuses}
use Rattle.http_text.specs.declared.request.RequestRefusal.TheVariants.{NotGzip, BodyTooLarge}
use Rattle.http_answer.specs.declared.response.Response.{Response}
use Rattle.http_lane.specs.declared.answer.EventFate.{EventFate}
use Rattle.http_lane.specs.Connection.{Submission, refusal, starved}
use Rattle.http_lane.specs.Engine.{IsFateOfText, Puts, Responds, answer_to}
use Rattle.http_answer.specs.Answer.{text_of_answer}
use Rattle.http_lane.proofs.EventLemmas.{can_text}

module _ {L : Type 0} (submits : L → Submission → L → Type 0) (tells : List Submission → Type 0) (none : tells []) (old_text new_text : Option (List ℕ)) (lane : L) (encoding : Encoding) (limit : ℕ) (body : List ℕ) (closing : Bool) where
  by_fault : (fault : GzipFault) (fate : EventFate) → Refuses limit body fault → IsFateOfText fate → Puts old_text new_text fate (text_of_answer encoding (answer_to fault))
      → Responds submits tells old_text new_text lane lane encoding limit true (Some body) closing (true, fate)
  by_fault Broken fate why is puts =
      (refusal NotGzip false, (body, refl, why, refl), record { can = can_text fate (refusal NotGzip false) is refl; closes = refl; puts = puts; lane = refl; told = none })
  by_fault TooLong fate why is puts =
      (refusal BodyTooLarge false, (body, refl, why, refl), record { can = can_text fate (refusal BodyTooLarge false) is refl; closes = refl; puts = puts; lane = refl; told = none })
  by_fault NoMemory fate why is puts = (starved, tt, record { can = can_text fate starved is refl; closes = refl; puts = puts; lane = refl; told = none })

  -- it is answered so
  pub unfit_did : (fault : GzipFault) (told : Response) (fate : EventFate) → told ≡ answer_to fault → Refuses limit body fault → IsFateOfText fate
      → Puts old_text new_text fate (text_of_answer encoding told) → Responds submits tells old_text new_text lane lane encoding limit true (Some body) closing (true, fate)
  unfit_did fault told fate e why is puts = by_fault fault fate why is (subst (λ a. Puts old_text new_text fate (text_of_answer encoding a)) e puts)
