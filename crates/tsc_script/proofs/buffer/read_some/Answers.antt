use Rattle.std.proofs.Common.{◌≤◌, ◌++◌, ◌∷◌, [], length, refl, arith}
use Rattle.tsc_script.specs.Reads.{interrupted, turn_of}
use Rattle.tsc_script.proofs.Turns.{Gives-then, GoOn-append, Counts-more, turn-short, given-behind}
use Rattle.tsc_script.proofs.buffer.read_some.Goals as goal

pub loop-reads-preserved : goal.loop-reads-preserved
loop-reads-preserved g c =
    let so_far = c.loop-reads.invariant in (
      so_far.0 ++ interrupted ∷ [],
      Gives-then _ _ _ so_far.0 (interrupted ∷ []) so_far.1 c.in-Interrupted.ensures.tells,
      Counts-more _ _ so_far.0 interrupted so_far.2 (omega (arith, c.loop-reads-test.true)) (omega arith),
      GoOn-append so_far.0 (interrupted ∷ []) so_far.3 tt,
      given-behind so_far.0 interrupted so_far.4,
      omega (arith, c.loop-reads-test.true),
    )

pub returns-in_default : goal.returns-in_default
returns-in_default g c =
    let so_far = c.loop-reads.invariant in
    let turn = turn_of c.turn.result c.turn.new.chunk in
    let room : length c.turn.new.chunk ≤ 65536 = omega (arith, c.requires.short, c.turn.auto.chunk, c.loop-reads.auto.chunk) in record {
      turns = (
        so_far.0 ++ turn ∷ [],
        Gives-then _ _ _ so_far.0 (turn ∷ []) so_far.1 c.turn.ensures.tells,
        Counts-more _ _ so_far.0 turn so_far.2 (omega (arith, c.loop-reads-test.true)) (turn-short c.turn.result c.turn.new.chunk room),
        (so_far.0, so_far.3, so_far.4, refl),
      );
      fits = c.turn.ensures.fits;
      end = c.turn.ensures.end;
      tried_again = λ is. c.in_default.not-Interrupted is;
      reads = omega (arith, c.loop-reads-test.true);
      more = let made = so_far.2.made in omega (arith, made);
    }
