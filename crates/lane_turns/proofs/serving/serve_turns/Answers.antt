use Rattle.std.proofs.Common.{◌≡◌, ◌∙◌, ℕ, [], ◌∷◌, ◌++◌, List, None, refl, sym, ap, subst, false, true}
use Rattle.std.specs.Prelude.{slice_index_or}
use Rattle.slab.specs.Slab.{get}
use Rattle.http_lane.specs.Intake.{Submits}
use Rattle.lane_turns.specs.declared.serving.Next.{Next}
use Rattle.lane_turns.specs.Acts.{lane_now, TellsActs}
use Rattle.lane_turns.specs.Driven.{Table, DriverRound, IsRound, RunsFrom}
use Rattle.lane_turns.proofs.Runs.{fits_first}
use Rattle.lane_turns.proofs.Taken.{tells_nothing, tells_acts}
use Rattle.lane_turns.proofs.Told.{more_rounds, last_round}
use Rattle.lane_turns.proofs.Uncounted.{acts_more}
use Rattle.lane_turns.proofs.serving.serve_turns.Goals as goal

pub loop-init : goal.loop-init
loop-init g c =
    let submits = Submits g.ShardPort.Port.takes g.ShardPort.Port.refuses in
    let first = lane_now c.args.lane.now (g.Ledger.Counter.counted c.args.counts.now) in
    let empty : (key : ℕ) → get c.new-table.result key ≡ None = λ key. ap (λ slots. slice_index_or slots key None) c.new-table.ensures.empty in (
      tt,
      tt,
      tt,
      [],
      fits_first submits c.args.allowed c.args.lane.now (g.Ledger.Counter.counted c.args.counts.now) (get c.new-table.result) empty,
      refl,
      λ rounds last after is_full run. (
        rounds,
        subst (λ (o : Table). RunsFrom g.Poller.Driver.asks g.Poller.Driver.hears submits c.args.allowed first c.args.driver.now o [] first rounds last after is_full) (λ i key. empty key i) run,
      ),
      subst (λ (n : ℕ). TellsActs (g.Time.Clock.heard c.args.lent.now.clock.now) 0 n c.args.lane.now.number []) (sym c.new-told.ensures) (tells_nothing (g.Time.Clock.heard c.args.lent.now.clock.now) 0 c.args.lane.now.number [] (λ n. refl)),
    )

pub returns-then-is_over-clause-driven : goal.returns-then-is_over-clause-driven
returns-then-is_over-clause-driven g c =
    let now = lane_now c.loop.lane (g.Ledger.Counter.counted c.loop.counts) in
    let over = c.is_over.ensures.over c.if-is_over.true in
    c.loop.invariant.6 [] c.next-next.new.self now false (
      c.next-next.result.1,
      c.next-next.new.piece,
      subst (λ (said : Next). g.Poller.Driver.asks c.loop.driver said c.next-next.result.1 c.next-next.new.piece c.next-next.new.self) over.0 c.next-next.ensures.said,
      over.1,
      refl,
      refl,
    )

pub returns-then-is_over-clause-told : goal.returns-then-is_over-clause-told
returns-then-is_over-clause-told g c = (
  record {
    acts = c.loop.invariant.3;
    open_at = get c.loop.table;
    fits = c.loop.invariant.4;
    full = c.loop.invariant.5;
    all_over = λ e. (c.is_over.ensures.over c.if-is_over.true).1;
  },
  c.loop.invariant.7.told,
)

pub returns-then-is_full-clause-told : goal.returns-then-is_full-clause-told
returns-then-is_full-clause-told g c =
    let acts = c.loop.invariant.3 in
    let went = c.turn-done.ensures.fits c.args.lane.now.number (lane_now c.args.lane.now (g.Ledger.Counter.counted c.args.counts.now)) acts c.loop.invariant.4 in
    let told = tells_acts (g.Time.Clock.heard c.args.lent.now.clock.now) 0 c.loop.told c.turn-done.new.told c.args.lane.now.number acts went.0 c.loop.invariant.7
    (subst (λ (n : ℕ). TellsActs (g.Time.Clock.heard c.args.lent.now.clock.now) c.loop.told c.turn-done.new.told n went.0) c.loop.invariant.4.number_is went.3.1) in (
      record {
        acts = acts ++ went.0;
        open_at = get c.turn-done.new.table;
        fits = went.1;
        full = acts_more acts went.0 c.loop.invariant.5 ∙ (went.2 ∙ (sym c.is_full.ensures ∙ c.if-is_full.true));
        all_over = λ e. absurd cc;
      },
      told.told,
    )

pub turn-done-requires-clause-at : goal.turn-done-requires-clause-at
turn-done-requires-clause-at g c = λ key x e. let f = c.loop.invariant.4.each key x e in (f.waiting, f.awaits)

pub returns-then-is_full-clause-driven : goal.returns-then-is_full-clause-driven
returns-then-is_full-clause-driven g c =
    let submits = Submits g.ShardPort.Port.takes g.ShardPort.Port.refuses in
    let first = lane_now c.args.lane.now (g.Ledger.Counter.counted c.args.counts.now) in
    let now = lane_now c.loop.lane (g.Ledger.Counter.counted c.loop.counts) in
    let then = lane_now c.turn-done.new.lane (g.Ledger.Counter.counted c.turn-done.new.counts) in
    let acts = c.loop.invariant.3 in
    let went = c.turn-done.ensures.fits c.args.lane.now.number first acts c.loop.invariant.4 in
    let round : DriverRound g.row.Poller.Denot g.row.ShardPort.Denot = record {
      next = c.next-next.result.0;
      moment = c.next-next.result.1;
      piece = c.next-next.new.piece;
      asked = c.next-next.new.self;
      acts = went.0;
      open_at = get c.turn-done.new.table;
      now = then;
      done = c.turn-done.result;
      text = c.turn-done.new.text.items;
      told = c.done.new.self;
    } in
    let is_round : IsRound g.Poller.Driver.asks g.Poller.Driver.hears submits c.args.allowed first c.loop.driver (get c.loop.table) acts round = record {
      said = c.next-next.ensures.said;
      still_open = c.is_over.ensures.goes_on c.if-is_over.false;
      as_told = went.3.0;
      fits = went.1;
      heard = subst (λ (text : List ℕ). g.Poller.Driver.hears c.next-next.new.self c.turn-done.result text c.done.new.self) c.deref.ensures.value c.done.ensures;
    } in
    c.loop.invariant.6 (round ∷ []) c.done.new.self then true
    (last_round g.Poller.Driver.asks g.Poller.Driver.hears submits c.args.allowed first c.loop.driver (get c.loop.table) acts now round is_round (sym c.is_full.ensures ∙ c.if-is_full.true))

pub loop-preserved : goal.loop-preserved
loop-preserved g c =
    let submits = Submits g.ShardPort.Port.takes g.ShardPort.Port.refuses in
    let first = lane_now c.args.lane.now (g.Ledger.Counter.counted c.args.counts.now) in
    let now = lane_now c.loop.lane (g.Ledger.Counter.counted c.loop.counts) in
    let then = lane_now c.turn-done.new.lane (g.Ledger.Counter.counted c.turn-done.new.counts) in
    let acts = c.loop.invariant.3 in
    let went = c.turn-done.ensures.fits c.args.lane.now.number first acts c.loop.invariant.4 in
    let round : DriverRound g.row.Poller.Denot g.row.ShardPort.Denot = record {
      next = c.next-next.result.0;
      moment = c.next-next.result.1;
      piece = c.next-next.new.piece;
      asked = c.next-next.new.self;
      acts = went.0;
      open_at = get c.turn-done.new.table;
      now = then;
      done = c.turn-done.result;
      text = c.turn-done.new.text.items;
      told = c.done.new.self;
    } in
    let is_round : IsRound g.Poller.Driver.asks g.Poller.Driver.hears submits c.args.allowed first c.loop.driver (get c.loop.table) acts round = record {
      said = c.next-next.ensures.said;
      still_open = c.is_over.ensures.goes_on c.if-is_over.false;
      as_told = went.3.0;
      fits = went.1;
      heard = subst (λ (text : List ℕ). g.Poller.Driver.hears c.next-next.new.self c.turn-done.result text c.done.new.self) c.deref.ensures.value c.done.ensures;
    } in
    let goes_on = sym c.is_full.ensures ∙ c.if-is_full.false in (
      tt,
      tt,
      c.turn-done.ensures.spare,
      acts ++ went.0,
      went.1,
      acts_more acts went.0 c.loop.invariant.5 ∙ (went.2 ∙ goes_on),
      λ rounds last after is_full run. c.loop.invariant.6 (round ∷ rounds) last after is_full
          (more_rounds g.Poller.Driver.asks g.Poller.Driver.hears submits c.args.allowed first c.loop.driver (get c.loop.table) acts now round rounds last after is_full is_round goes_on run),
      tells_acts (g.Time.Clock.heard c.args.lent.now.clock.now) 0 c.loop.told c.turn-done.new.told c.args.lane.now.number acts went.0 c.loop.invariant.7
          (subst (λ (n : ℕ). TellsActs (g.Time.Clock.heard c.args.lent.now.clock.now) c.loop.told c.turn-done.new.told n went.0) c.loop.invariant.4.number_is went.3.1),
    )
