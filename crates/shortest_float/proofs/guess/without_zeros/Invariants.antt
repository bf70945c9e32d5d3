use Rattle.shortest_float.proofs.guess.without_zeros.Given as goal

abbrev pub decreases-loop-digits : goal.decreases-loop-digits
decreases-loop-digits l = l.digits
