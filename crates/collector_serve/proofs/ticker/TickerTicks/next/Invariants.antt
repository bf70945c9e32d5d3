use Rattle.collector_serve.proofs.ticker.TickerTicks.next.Given as goal

abbrev pub decreases-loop-left : goal.decreases-loop-left
decreases-loop-left g l = l.left
