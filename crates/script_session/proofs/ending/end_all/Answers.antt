use Rattle.std.proofs.Common.{◌≡◌, ◌<◌, ◌+◌, ◌-◌, ℕ, suc, List, Bool, true, false, length, replicate, refl, sym, ap, subst, ◌∙◌, arith}
use Rattle.std.specs.List.{list_all, slice_set}
use Rattle.otlp_types.specs.declared.arrival.Item.{Item}
use Rattle.otlp_types.specs.declared.arrival.Item.TheVariants.{End}
use Rattle.journal_theory.specs.Journal.{Settings}
use Rattle.shard_core.specs.Held.{Held}
use Rattle.script_run.specs.World.{ends_from, to_each}
use Rattle.script_session.specs.Pulling.{Export, Counts, AreQuiet, HaveSettings, AreOpen, RoundsTaken, EachTakes}
use Rattle.script_session.proofs.Several.{RoundsTaken-none, RoundsTaken-push, ends_from-next, to_each-same, ended, ended-next, ended-open, ended-all}
use Rattle.script_session.proofs.Pulls.{goes-on-then}
use Rattle.script_session.specs.Staying.{goes-on}
use Rattle.script_session.proofs.ending.end_all.Goals as goal

opened : (shards : List Held) (n m k : ℕ) → k ≡ suc m → AreQuiet (ended n k) shards → AreOpen shards
opened shards n m k e q =
    let P = λ (j : ℕ). list_all (λ b. b) (ended n j) ≡ false in
    (ended n k, q, subst P (sym e) (ended-open n m))

-- one sender more has ended
ends-more : (news : List Held) (n m k j : ℕ) → k ≡ suc m → j ≡ m → AreQuiet (slice_set (ended n k) n true) news → AreQuiet (ended (n + 1) j) news
ends-more news n m k j e f q =
    let P = λ (bs : List Bool). AreQuiet bs news in
    let next : slice_set (ended n k) n true ≡ ended (n + 1) j = ap (λ (i : ℕ). slice_set (ended n i) n true) e ∙ ended-next n m ∙ (let a : suc n ≡ n + 1 = omega arith in ap (λ (i : ℕ). ended i m) a) ∙ ap (ended (n + 1)) (sym f) in
    subst P next q

-- one round more, of the same Ends for as many shards
round-more : (first mid new : List Held) (start lent last : Counts) (n : ℕ) (before between after : Export) → length mid ≡ length first
    → ((s : Settings) → HaveSettings s first → HaveSettings s mid)
    → RoundsTaken first start before (ends_from 0 n first) mid lent between → EachTakes mid lent between (to_each (End n) mid) new last after → RoundsTaken first start before (ends_from 0 (n + 1) first) new last after
round-more first mid new start lent last n before between after e keeps r t =
    let P = λ (items : List (List Item)). EachTakes mid lent between items new last after in
    let Q = λ (rounds : List (List (List Item))). RoundsTaken first start before rounds new last after in
    subst Q (sym (ends_from-next n first)) (RoundsTaken-push first mid new start lent last (ends_from 0 n first) (to_each (End n) first) before between after keeps r (subst P (to_each-same (End n) mid first e) t))

pub loop-lane-init : goal.loop-lane-init
loop-lane-init g c = record {
  nodes = c.requires.nodes;
  took = RoundsTaken-none c.args.shards.now c.args.limiter.now c.args.output.now;
  quiet = let P = λ (n : ℕ). AreQuiet (replicate n false) c.args.shards.now in subst P (let e : c.args.lanes + 1 ≡ c.args.lanes - 0 + 1 = omega arith in e) c.requires.quiet;
  keeps = λ s alike. alike;
  within = omega arith;
  length_same = refl;
  goes_on = goes-on c.args.output.now;
}

pub tell_each-requires-clause-open : goal.tell_each-requires-clause-open
tell_each-requires-clause-open g c =
    let inv = c.loop-lane.invariant in
    opened c.loop-lane.shards c.loop-lane.lane (c.args.lanes - c.loop-lane.lane) (c.args.lanes - c.loop-lane.lane + 1) (omega arith) inv.quiet

pub loop-lane-preserved : goal.loop-lane-preserved
loop-lane-preserved g c =
    let inv = c.loop-lane.invariant in
    let lane = c.loop-lane.lane in
    let less : lane < c.args.lanes = c.loop-lane-test.true in
    record {
      nodes = c.tell_each.ensures.nodes;
      took = round-more c.args.shards.now c.loop-lane.shards c.tell_each.new.shards c.args.limiter.now c.loop-lane.limiter c.tell_each.new.limiter lane c.args.output.now c.loop-lane.output c.tell_each.new.output inv.length_same inv.keeps inv.took c.tell_each.ensures.takes;
      quiet = ends-more c.tell_each.new.shards lane (c.args.lanes - lane) (c.args.lanes - lane + 1) (c.args.lanes - (lane + 1) + 1) (omega arith) (omega (arith, less)) (c.tell_each.ensures.quiet _ inv.quiet);
      keeps = λ s alike. c.tell_each.ensures.settings s (inv.keeps s alike);
      within = omega (arith, less);
      length_same = c.tell_each.ensures.length ∙ inv.length_same;
      goes_on = goes-on-then c.args.output.now c.loop-lane.output c.tell_each.new.output inv.goes_on c.tell_each.ensures.goes_on;
    }

pub tell_each-requires-2-clause-open : goal.tell_each-requires-2-clause-open
tell_each-requires-2-clause-open g c =
    let inv = c.loop-lane.invariant in
    opened c.loop-lane.shards c.loop-lane.lane (c.args.lanes - c.loop-lane.lane) (c.args.lanes - c.loop-lane.lane + 1) (omega arith) inv.quiet

pub returns-clause-takes : goal.returns-clause-takes
returns-clause-takes g c =
    let inv = c.loop-lane.invariant in
    let last : c.loop-lane.lane ≡ c.args.lanes = omega (arith, inv.within, c.loop-lane-test.false) in
    let P = λ (n : ℕ). RoundsTaken c.args.shards.now c.args.limiter.now c.args.output.now (ends_from 0 n c.args.shards.now) c.loop-lane.shards c.loop-lane.limiter c.loop-lane.output in
    round-more c.args.shards.now c.loop-lane.shards c.tell_each-2.new.shards c.args.limiter.now c.loop-lane.limiter c.tell_each-2.new.limiter c.args.lanes c.args.output.now c.loop-lane.output c.tell_each-2.new.output inv.length_same inv.keeps (subst P last inv.took) c.tell_each-2.ensures.takes

pub returns-clause-quiet : goal.returns-clause-quiet
returns-clause-quiet g c =
    let inv = c.loop-lane.invariant in
    let last : c.loop-lane.lane ≡ c.args.lanes = omega (arith, inv.within, c.loop-lane-test.false) in
    let R = λ (n : ℕ). AreQuiet (ended n 1) c.loop-lane.shards in
    let N = λ (n : ℕ). AreQuiet (ended c.loop-lane.lane n) c.loop-lane.shards in
    let one : R c.args.lanes = subst R last (subst N (let e : c.args.lanes - c.loop-lane.lane + 1 ≡ 1 = omega (arith, last) in e) inv.quiet) in
    let done = ends-more c.tell_each-2.new.shards c.args.lanes 0 1 0 refl refl (c.tell_each-2.ensures.quiet _ one) in
    let P = λ (bs : List Bool). AreQuiet bs c.tell_each-2.new.shards in
    subst P (ended-all (c.args.lanes + 1)) done

pub returns-clause-settings : goal.returns-clause-settings
returns-clause-settings g c = λ s alike. c.tell_each-2.ensures.settings s (c.loop-lane.invariant.keeps s alike)
