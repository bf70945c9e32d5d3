use Rattle.std.proofs.Common.{refl, sym, subst}
use Rattle.http_lane.specs.Connection.{in_head, Settles}
use Rattle.http_lane.specs.Turns.{came_at}
use Rattle.http_lane.specs.TurnAgreement.{bytes_that_came, events_then}
use Rattle.http_lane.proofs.TurnPieces.{turns_in_one_piece}
use Rattle.http_lane.proofs.ReplyLemmas.{replies_as_far}
use Rattle.http_lane.proofs.AnswerLemmas.{settles_same}
use Rattle.http_lane.proofs.laws.turns_do_not_matter.Goals as goal

pub returns : goal.returns
returns g c = λ allowed m n a b s t pieces_a pieces_b ends_a ends_b run_a run_b x u by_a y v by_b alike bytes agree.
    let one = turns_in_one_piece (came_at allowed m) s a pieces_a ends_a run_a refl refl in
    let other = subst (λ xs. Settles (in_head allowed xs) (events_then b) t.end t.reading) (sym bytes) (turns_in_one_piece (came_at allowed n) t b pieces_b ends_b run_b refl refl) in
    settles_same (in_head allowed (bytes_that_came a)) (events_then a) (events_then b) s.end t.end s.reading t.reading one other agree
    (replies_as_far _ _ _ _ (events_then a) (events_then b) x u y v alike by_a by_b)
