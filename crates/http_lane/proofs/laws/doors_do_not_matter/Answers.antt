use Rattle.std.proofs.Common.{refl, sym, subst}
use Rattle.http_lane.specs.Connection.{at_first, in_head, Settles, events_of}
use Rattle.http_lane.specs.Turns.{came_at}
use Rattle.http_lane.specs.TurnAgreement.{bytes_that_came, events_then}
use Rattle.http_lane.proofs.PieceLemmas.{in_one_piece}
use Rattle.http_lane.proofs.TurnPieces.{turns_in_one_piece}
use Rattle.http_lane.proofs.ReplyLemmas.{replies_as_far}
use Rattle.http_lane.proofs.AnswerLemmas.{settles_same}
use Rattle.http_lane.proofs.laws.doors_do_not_matter.Goals as goal

pub returns : goal.returns
returns g c = λ allowed m a b s t pieces busy ends run_a run_b x u by_a y v by_b alike bytes agree.
    let one = turns_in_one_piece (came_at allowed m) s a pieces ends run_a refl refl in
    let other = subst (λ xs. Settles (in_head allowed xs) (events_of b) t.end t.reading) (sym bytes) (in_one_piece (at_first allowed) t b busy run_b refl refl) in
    settles_same (in_head allowed (bytes_that_came a)) (events_then a) (events_of b) s.end t.end s.reading t.reading one other agree
    (replies_as_far _ _ _ _ (events_then a) (events_of b) x u y v alike by_a by_b)
