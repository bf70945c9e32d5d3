use Rattle.ottl_text.proofs.path_reading.+keyed.Given as goal

abbrev pub decreases-keyed : goal.decreases-keyed
decreases-keyed l = l.levels
