use Rattle.std.proofs.Common.{◌≡◌, ℕ, ◌+◌, ◌<◌, ◌≤◌, List, ◌∷◌, true, length, drop, set, get_or, rules, ap, sym, subst, ◌∙◌, arith}
use Rattle.std.proofs.lemmas.List.{drop_more, length-map, length-set}
use Rattle.otlp_types.specs.declared.arrival.Item.{Item}
use Rattle.lane_queue.specs.Queues.{QueueState}
use Rattle.shard_core.specs.Held.{Held}
use Rattle.script_session.specs.Pulling.{Export, EachTakes, AreOpen, AreQuiet, HaveSettings, has_all_nodes, items_in}
use Rattle.script_session.proofs.From.{others-stay, drop-changed, none-left}
use Rattle.script_session.proofs.Nodes.{others_have_nodes, all_have_nodes}
use Rattle.script_session.proofs.Several.{EachTakes-empty, EachTakes-cons}
use Rattle.script_session.proofs.taking.+take_from.Goals as goal

pub returns-in_default-clause-takes : goal.returns-in_default-clause-takes
returns-in_default-clause-takes g t c =
    let queues = c.args.queues.now in
    let rest = drop c.args.place c.args.shards.now in
    let past : length c.args.shards.now ≤ c.args.place = omega (arith, c.in_default.ensures.cases, c.requires.same) in
    let none = none-left c.args.shards.now c.args.place past in
    EachTakes-empty rest (items_in queues) c.args.limiter.now c.args.output.now none (length-map queues _ ∙ c.in_default.ensures.cases ∙ sym none)

pub take_from-requires : goal.take_from-requires
take_from-requires g t c =
    let S : List Held = c.args.shards.now in
    let i : ℕ = c.args.place in
    let x : Held = c.drain.new.shard in
    let h : Held = get_or S i c.index-shards-place.result in
    let queues = c.in-Some.ensures.cases.0 in
    let within : i < length S = omega (arith, ap length queues, c.requires.same) in
    let here = drop_more S i c.index-shards-place.result within in
    let P = λ (hs : List Held). AreQuiet c.requires.runs.0 hs in
    let others = sym (others-stay S i x) in
    let same : i + 1 + length c.in-Some.rest.now ≡ length (set S i x) = omega (arith, length-set S i x, ap length queues, c.requires.same) in
    let runs : AreOpen (drop (i + 1) (set S i x)) = (c.requires.runs.0, subst P others (subst P here c.requires.runs.1).1, c.requires.runs.2) in
    let nodes : has_all_nodes c.drain.new.limiter (drop (i + 1) (set S i x)) ≡ true = subst (λ (hs : List Held). has_all_nodes c.drain.new.limiter hs ≡ true) others
    (others_have_nodes c.args.limiter.now c.drain.new.limiter h (drop (i + 1) S) (drop i S) here c.drain.ensures.nodes c.requires.nodes) in
    search rules

pub returns-clause-takes : goal.returns-clause-takes
returns-clause-takes g t c =
    let S : List Held = c.args.shards.now in
    let i : ℕ = c.args.place in
    let h = get_or S i c.index-shards-place.result in
    let x = c.drain.new.shard in
    let queues = c.in-Some.ensures.cases.0 in
    let within : i < length S = omega (arith, ap length queues, c.requires.same) in
    let here = drop_more S i c.index-shards-place.result within in
    let left = drop-changed S c.take_from.new.shards i x within (c.take_from.ensures.length ∙ length-set S i x) c.take_from.ensures.before in
    let others = others-stay S i x in
    let rest = drop (i + 1) S in
    let news = drop (i + 1) c.take_from.new.shards in
    let before : Export = c.args.output.now in
    let after : Export = c.take_from.new.output in
    let R = λ (hs : List Held). EachTakes hs c.drain.new.limiter c.drain.new.output (items_in c.in-Some.rest.now) news c.take_from.new.limiter after in
    let Q = λ (items : List (QueueState Item)). EachTakes (h ∷ rest) c.args.limiter.now before (items_in items) (x ∷ news) c.take_from.new.limiter after in
    let P = λ (old : List Held). EachTakes old c.args.limiter.now before (items_in c.args.queues.now) (x ∷ news) c.take_from.new.limiter after in
    let N = λ (new : List Held). EachTakes (drop i S) c.args.limiter.now before (items_in c.args.queues.now) new c.take_from.new.limiter after in
    subst N (sym left) (subst P (sym here) (subst Q (sym queues) (EachTakes-cons h x rest news c.args.limiter.now c.drain.new.limiter c.take_from.new.limiter c.in-Some.queue.now.items (items_in c.in-Some.rest.now)
    before c.drain.new.output after c.drain.ensures.settings c.drain.ensures.takes (subst R others c.take_from.ensures.takes))))

pub returns-clause-nodes : goal.returns-clause-nodes
returns-clause-nodes g t c =
    let S : List Held = c.args.shards.now in
    let i : ℕ = c.args.place in
    let h = get_or S i c.index-shards-place.result in
    let x = c.drain.new.shard in
    let queues = c.in-Some.ensures.cases.0 in
    let within : i < length S = omega (arith, ap length queues, c.requires.same) in
    let here = drop_more S i c.index-shards-place.result within in
    let left = drop-changed S c.take_from.new.shards i x within (c.take_from.ensures.length ∙ length-set S i x) c.take_from.ensures.before in
    let others = others-stay S i x in
    let P = λ (new : List Held). has_all_nodes c.take_from.new.limiter new ≡ true in
    subst P (sym left) (all_have_nodes c.args.limiter.now c.drain.new.limiter c.take_from.new.limiter h x (drop (i + 1) S) (drop (i + 1) c.take_from.new.shards) (drop i S) here c.requires.nodes
    c.drain.ensures.nodes c.take_from.ensures.same_nodes c.drain.ensures.settings c.take_from.ensures.nodes)

pub returns-clause-quiet : goal.returns-clause-quiet
returns-clause-quiet g t c = λ ends quiet.
    let S : List Held = c.args.shards.now in
    let i : ℕ = c.args.place in
    let h = get_or S i c.index-shards-place.result in
    let x = c.drain.new.shard in
    let queues = c.in-Some.ensures.cases.0 in
    let within : i < length S = omega (arith, ap length queues, c.requires.same) in
    let here = drop_more S i c.index-shards-place.result within in
    let left = drop-changed S c.take_from.new.shards i x within (c.take_from.ensures.length ∙ length-set S i x) c.take_from.ensures.before in
    let others = others-stay S i x in
    let P = λ (hs : List Held). AreQuiet ends hs in
    let q = subst P here quiet in
    subst P (sym left) ((c.drain.ensures.ends ∙ q.0.0, c.drain.ensures.nothing_due), c.take_from.ensures.quiet ends (subst P (sym others) q.1))

pub returns-clause-settings : goal.returns-clause-settings
returns-clause-settings g t c = λ s alike.
    let S : List Held = c.args.shards.now in
    let i : ℕ = c.args.place in
    let h = get_or S i c.index-shards-place.result in
    let x = c.drain.new.shard in
    let queues = c.in-Some.ensures.cases.0 in
    let within : i < length S = omega (arith, ap length queues, c.requires.same) in
    let here = drop_more S i c.index-shards-place.result within in
    let left = drop-changed S c.take_from.new.shards i x within (c.take_from.ensures.length ∙ length-set S i x) c.take_from.ensures.before in
    let others = others-stay S i x in
    let P = λ (hs : List Held). HaveSettings s hs in
    let q = subst P here alike in
    subst P (sym left) (c.drain.ensures.settings ∙ q.0, c.take_from.ensures.settings s (subst P (sym others) q.1))
