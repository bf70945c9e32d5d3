use Rattle.ottl_duration.proofs.durations.+parts_from.Given as goal

abbrev pub decreases-parts_from : goal.decreases-parts_from
decreases-parts_from l = l.parts
