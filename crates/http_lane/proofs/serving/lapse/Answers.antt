use Rattle.std.proofs.Common.{◌≤◌, ◌+◌, ◌∙◌, refl, sym, [], ◌∷◌, inl}
use Rattle.std.proofs.lemmas.Bool.{leb-true}
use Rattle.http_lane.specs.Connection.{timed_out}
use Rattle.http_lane.proofs.EventLemmas.{one, can_text, writes_one}
use Rattle.http_lane.proofs.serving.lapse.Goals as goal

pub returns-then-is_over : goal.returns-then-is_over
returns-then-is_over g c = λ r told.
    let e = one c.args.encoding timed_out c.answer-told.result in
    let puts = c.answer-told.ensures.puts in
    let over : c.args.since + c.args.limit ≤ c.args.now = leb-true (c.args.since + c.args.limit) c.args.now (sym c.is_over.ensures ∙ c.if-is_over.true) in (
      e ∷ [],
      inl (over, e, refl, refl, (can_text c.answer-told.result timed_out c.answer-told.ensures.fate refl, told), c.end_with.ensures),
      puts.0,
      puts.1,
      writes_one e puts.0 puts.2,
      refl,
    )
