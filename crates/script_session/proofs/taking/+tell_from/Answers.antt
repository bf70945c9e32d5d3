use Rattle.std.proofs.Common.{◌≡◌, ℕ, ◌+◌, ◌≤◌, List, [], ◌∷◌, Bool, true, length, drop, set, get_or, rules, ap, sym, subst, ◌∙◌, arith}
use Rattle.std.proofs.lemmas.List.{drop_more, length-map, length-set}
use Rattle.otlp_types.specs.declared.arrival.Item.{Item}
use Rattle.shard_core.specs.Held.{Held}
use Rattle.shard_core.specs.Taking.{ends_after}
use Rattle.script_run.specs.World.{to_each}
use Rattle.script_session.specs.Signals.{item_of}
use Rattle.script_session.specs.Pulling.{Export, EachTakes, TakesItems, AreOpen, AreQuiet, HaveSettings, has_all_nodes}
use Rattle.script_session.proofs.From.{at-place, others-stay, drop-changed, none-left}
use Rattle.script_session.proofs.Nodes.{others_have_nodes, all_have_nodes}
use Rattle.script_session.proofs.Several.{EachTakes-empty, EachTakes-cons, AreQuiet-cons}
use Rattle.script_session.proofs.taking.+tell_from.Goals as goal

pub tell_from-requires : goal.tell_from-requires
tell_from-requires g t c =
    let S : List Held = c.args.shards.now in
    let i : ℕ = c.args.place in
    let x : Held = c.take_item.new.shard in
    let h : Held = c.index-shards-place.result in
    let here = at-place S i h c.if-place-shards.true c.index-shards-place.is in
    let P = λ (hs : List Held). AreQuiet c.requires.runs.0 hs in
    let others = sym (others-stay S i x) in
    let within : i + 1 ≤ length (set S i x) = omega (arith, length-set S i x, c.if-place-shards.true) in
    let runs : AreOpen (drop (i + 1) (set S i x)) = (c.requires.runs.0, subst P others (subst P here c.requires.runs.1).1, c.requires.runs.2) in
    let nodes : has_all_nodes c.take_item.new.limiter (drop (i + 1) (set S i x)) ≡ true = subst (λ (hs : List Held). has_all_nodes c.take_item.new.limiter hs ≡ true) others
    (others_have_nodes c.args.limiter.now c.take_item.new.limiter h (drop (i + 1) S) (drop i S) here c.take_item.ensures.nodes c.requires.nodes) in
    search rules

pub returns-then-place-shards-clause-takes : goal.returns-then-place-shards-clause-takes
returns-then-place-shards-clause-takes g t c =
    let S = c.args.shards.now in
    let i = c.args.place in
    let h = get_or S i c.index-shards-place.result in
    let x = c.take_item.new.shard in
    let rest = drop (i + 1) S in
    let news = drop (i + 1) c.tell_from.new.shards in
    let here = drop_more S i c.index-shards-place.result c.if-place-shards.true in
    let left = drop-changed S c.tell_from.new.shards i x c.if-place-shards.true (c.tell_from.ensures.length ∙ length-set S i x) c.tell_from.ensures.before in
    let item = item_of c.args.signal in
    let before : Export = c.args.output.now in
    let after : Export = c.tell_from.new.output in
    let Q = λ (one : Item). TakesItems h c.args.limiter.now before (one ∷ []) x c.take_item.new.limiter c.take_item.new.output in
    let R = λ (hs : List Held). EachTakes hs c.take_item.new.limiter c.take_item.new.output (to_each item hs) news c.tell_from.new.limiter after in
    let P = λ (old : List Held). EachTakes old c.args.limiter.now before (to_each item old) (x ∷ news) c.tell_from.new.limiter after in
    let N = λ (new : List Held). EachTakes (drop i S) c.args.limiter.now before (to_each item (drop i S)) new c.tell_from.new.limiter after in
    subst N (sym left) (subst P (sym here) (EachTakes-cons h x rest news c.args.limiter.now c.take_item.new.limiter c.tell_from.new.limiter (item ∷ []) (to_each item rest)
    before c.take_item.new.output after c.take_item.ensures.settings (subst Q c.item.ensures.item c.take_item.ensures.takes) (subst R (others-stay S i x) c.tell_from.ensures.takes)))

pub returns-then-place-shards-clause-nodes : goal.returns-then-place-shards-clause-nodes
returns-then-place-shards-clause-nodes g t c =
    let S : List Held = c.args.shards.now in
    let i : ℕ = c.args.place in
    let h = get_or S i c.index-shards-place.result in
    let x = c.take_item.new.shard in
    let here = drop_more S i c.index-shards-place.result c.if-place-shards.true in
    let left = drop-changed S c.tell_from.new.shards i x c.if-place-shards.true (c.tell_from.ensures.length ∙ length-set S i x) c.tell_from.ensures.before in
    let others = others-stay S i x in
    let P = λ (new : List Held). has_all_nodes c.tell_from.new.limiter new ≡ true in
    subst P (sym left) (all_have_nodes c.args.limiter.now c.take_item.new.limiter c.tell_from.new.limiter h x (drop (i + 1) S) (drop (i + 1) c.tell_from.new.shards) (drop i S) here c.requires.nodes
    c.take_item.ensures.nodes c.tell_from.ensures.same_nodes c.take_item.ensures.settings c.tell_from.ensures.nodes)

pub returns-then-place-shards-clause-quiet : goal.returns-then-place-shards-clause-quiet
returns-then-place-shards-clause-quiet g t c = λ ends quiet.
    let S : List Held = c.args.shards.now in
    let i : ℕ = c.args.place in
    let h = get_or S i c.index-shards-place.result in
    let x = c.take_item.new.shard in
    let here = drop_more S i c.index-shards-place.result c.if-place-shards.true in
    let left = drop-changed S c.tell_from.new.shards i x c.if-place-shards.true (c.tell_from.ensures.length ∙ length-set S i x) c.tell_from.ensures.before in
    let others = others-stay S i x in
    let item = item_of c.args.signal in
    let P = λ (old : List Held). AreQuiet ends old in
    let N = λ (new : List Held). AreQuiet (ends_after item ends) new in
    let news = drop (i + 1) c.tell_from.new.shards in
    let ended = c.take_item.ensures.ends ∙ ap (λ (one : Item). ends_after one h.standing.ends) c.item.ensures.item in
    let rest : (ends : List Bool) → AreQuiet ends (drop (i + 1) S) → AreQuiet (ends_after item ends) news = λ ends before. c.tell_from.ensures.quiet ends (subst (λ (hs : List Held). AreQuiet ends hs) (sym others) before) in
    subst N (sym left) (AreQuiet-cons item h x (drop (i + 1) S) news ended c.take_item.ensures.nothing_due rest ends (subst P here quiet))

pub returns-then-place-shards-clause-settings : goal.returns-then-place-shards-clause-settings
returns-then-place-shards-clause-settings g t c = λ s alike.
    let S : List Held = c.args.shards.now in
    let i : ℕ = c.args.place in
    let h = get_or S i c.index-shards-place.result in
    let x = c.take_item.new.shard in
    let here = drop_more S i c.index-shards-place.result c.if-place-shards.true in
    let left = drop-changed S c.tell_from.new.shards i x c.if-place-shards.true (c.tell_from.ensures.length ∙ length-set S i x) c.tell_from.ensures.before in
    let others = others-stay S i x in
    let P = λ (hs : List Held). HaveSettings s hs in
    let q = subst P here alike in
    subst P (sym left) (c.take_item.ensures.settings ∙ q.0, c.tell_from.ensures.settings s (subst P (sym others) q.1))

pub returns-else-place-shards-clause-takes : goal.returns-else-place-shards-clause-takes
returns-else-place-shards-clause-takes g t c =
    let rest = drop c.args.place c.args.shards.now in
    let item = item_of c.args.signal in
    EachTakes-empty rest (to_each item rest) c.args.limiter.now c.args.output.now (none-left c.args.shards.now c.args.place c.if-place-shards.false) (length-map rest _)
