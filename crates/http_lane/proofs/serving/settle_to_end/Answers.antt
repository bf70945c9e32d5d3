use Rattle.http_lane.proofs.serving.settle_to_end.Goals as goal

pub returns : goal.returns
returns g c = λ r stands. let s = c.settle-end.ensures r stands in (s.0, s.1, s.2, s.3, s.4, s.6)
