-- The core's lanes and shards, read and written as the script's world has them; steps one after the other.
-- For the contract of `scripts_are_runs_of_the_core`.
use Rattle.std.proofs.Common.{◌≡◌, ℕ, zero, suc, ◌+◌, ◌<◌, ◌≤◌, Bool, true, false, cond, ◌&&◌, ◌==◌, List, [], ◌∷◌, ◌++◌, length, map, filter, slice_get, slice_set, Option, Some, None, option_and_then, refl, ap, sym, subst, ◌∙◌, arith, eq-eqb, eqb-true}
use Rattle.otlp_types.specs.declared.arrival.Arrival.{Arrival}
use Rattle.otlp_types.specs.declared.arrival.Record.{Record}
use Rattle.span_ids.specs.declared.keys.ConnKey.{ConnKey}
use Rattle.journal_theory.specs.Journal.{Settings, Journal}
use Rattle.journal_theory.proofs.ListFacts.{tally}
use Rattle.lane_seq.specs.Numbers.{arrival_of, arrivals_from}
use Rattle.world_theory.specs.World.{CoreConfig, CoreLane, CoreShard, World as Core}
use Rattle.world_theory.specs.Step.{Step, step, run_from, arrivals, is_of_conn}
use Rattle.script_run.specs.World.{ScriptWorld, Sizes}
use Rattle.script_run.specs.CoreRun.{core_config, is_of_lane}
use Rattle.script_run.proofs.Stands.{quiet_shard, shards_with, routed_lane, lanes_from, Reaches}

-- ---- steps

-- a step, and then others
pub runs_on : (c : CoreConfig) (k mid after : Core) (first : Step) (rest : List Step) → step c k first ≡ Some mid → run_from c mid rest ≡ Some after → run_from c k (first ∷ rest) ≡ Some after
runs_on c k mid after first rest e f = ap (option_and_then (λ (next : Core). run_from c next rest)) e ∙ f

-- steps, and then others
pub runs_then : (c : CoreConfig) (k : Core) (xs ys : List Step) (mid after : Core) → run_from c k xs ≡ Some mid → run_from c mid ys ≡ Some after → run_from c k (xs ++ ys) ≡ Some after
runs_then c k [] ys mid after e f = let same : k ≡ mid = cc in subst (λ (z : Core). run_from c z ys ≡ Some after) (sym same) f
runs_then c k (x ∷ xs) ys mid after e f = go (step c k x) e (λ n g. runs_then c n xs ys mid after g f)
  where
    go : (o : Option Core) → option_and_then (λ (next : Core). run_from c next xs) o ≡ Some mid → ((n : Core) → run_from c n xs ≡ Some mid → run_from c n (xs ++ ys) ≡ Some after)
        → option_and_then (λ (next : Core). run_from c next (xs ++ ys)) o ≡ Some after
    go None g h = absurd (cc g)
    go (Some n) g h = h n g

-- what is reached from where steps led is reached
pub reaches_then : (s : Settings) (sizes : Sizes) (k mid : Core) (steps : List Step) (new : ScriptWorld) (queues : List (List Arrival)) → run_from (core_config s sizes) k steps ≡ Some mid
    → Reaches s sizes mid new queues → Reaches s sizes k new queues
reaches_then s sizes k mid steps new queues e r = (steps ++ r.0, r.1, runs_then (core_config s sizes) k steps r.0 mid r.1 e r.2, r.3)

-- ---- spans of a request

-- the arrivals of a step are those of a request
pub same_arrivals : (conn : ConnKey) (next moment : ℕ) (records : List Record) → arrivals conn next moment records ≡ arrivals_from conn next moment records
same_arrivals conn next moment [] = refl
same_arrivals conn next moment (r ∷ rest) = ap (λ (z : List Arrival). arrival_of conn next moment r ∷ z) (same_arrivals conn (next + 1) moment rest)

-- tests that agree keep the same
pub filter_same : {X : Type 0} (p q : X → Bool) → ((x : X) → p x ≡ q x) → (xs : List X) → filter p xs ≡ filter q xs
filter_same p q e [] = refl
filter_same {X} p q e (x ∷ xs) = ap (λ (b : Bool). cond {A = List X} b (x ∷ filter p xs) (filter p xs)) (e x) ∙ ap (λ (z : List X). cond {A = List X} (q x) (x ∷ z) z) (filter_same p q e xs)

-- a lane's part of what came on it is all of that
pub filter_own : (conn : ConnKey) (next moment : ℕ) (records : List Record) → filter (is_of_lane conn.lane) (arrivals_from conn next moment records) ≡ arrivals_from conn next moment records
filter_own conn next moment [] = refl
filter_own conn next moment (r ∷ rest) =
    let kept = filter (is_of_lane conn.lane) (arrivals_from conn (next + 1) moment rest) in
    ap (λ (b : Bool). cond {A = List Arrival} b (arrival_of conn next moment r ∷ kept) kept) (eq-eqb conn.lane conn.lane refl)
    ∙ ap (λ (z : List Arrival). arrival_of conn next moment r ∷ z) (filter_own conn (next + 1) moment rest)

-- and another lane's part is none of it
pub filter_other : (lane : ℕ) (conn : ConnKey) → (lane ≡ conn.lane → ⊥) → (next moment : ℕ) (records : List Record) → filter (is_of_lane lane) (arrivals_from conn next moment records) ≡ []
filter_other lane conn n next moment [] = refl
filter_other lane conn n next moment (r ∷ rest) = go (conn.lane == lane) refl (filter_other lane conn n (next + 1) moment rest)
  where
    kept : List Arrival
    kept = filter (is_of_lane lane) (arrivals_from conn (next + 1) moment rest)

    go : (b : Bool) → (conn.lane == lane) ≡ b → kept ≡ [] → cond {A = List Arrival} b (arrival_of conn next moment r ∷ kept) kept ≡ []
    go true e h = absurd (n (sym (eqb-true conn.lane lane e)))
    go false e h = h

-- all spans of a connection came on its lane
pub tally_on_lane : (conn : ConnKey) (spans : List Arrival) → tally (is_of_conn conn) (filter (is_of_lane conn.lane) spans) ≡ tally (is_of_conn conn) spans
tally_on_lane conn [] = refl
tally_on_lane conn (a ∷ rest) = go (a.key.conn.lane == conn.lane) refl (tally_on_lane conn rest)
  where
    go : (b : Bool) → (a.key.conn.lane == conn.lane) ≡ b → tally (is_of_conn conn) (filter (is_of_lane conn.lane) rest) ≡ tally (is_of_conn conn) rest
        → tally (is_of_conn conn) (cond {A = List Arrival} b (a ∷ filter (is_of_lane conn.lane) rest) (filter (is_of_lane conn.lane) rest)) ≡ cond {A = ℕ} (is_of_conn conn a) 1 0 + tally (is_of_conn conn) rest
    go true e h = omega (arith, h)
    go false e h =
        let none : cond {A = ℕ} (is_of_conn conn a) 1 0 ≡ 0 = ap (λ (b : Bool). cond {A = ℕ} (b && (a.key.conn.ordinal == conn.ordinal)) 1 0) e in
        omega (arith, h, none)

-- ---- lanes

-- the lane at a place
pub lane_at : (w : ScriptWorld) (first many i lane : ℕ) → i < many → lane ≡ first + i → slice_get (lanes_from w first many) i ≡ Some (routed_lane w lane)
lane_at w first zero i lane h e = absurd (omega arith)
lane_at w first (suc many) zero lane h e = let same : first ≡ lane = omega (arith, e) in ap (λ (n : ℕ). Some (routed_lane w n)) same
lane_at w first (suc many) (suc i) lane h e = lane_at w (first + 1) many i lane (omega (arith, h)) (omega (arith, e))

-- worlds whose lanes from one on are the same
pub lanes_same : (w v : ScriptWorld) (first many : ℕ) → ((lane : ℕ) → first ≤ lane → routed_lane w lane ≡ routed_lane v lane) → lanes_from w first many ≡ lanes_from v first many
lanes_same w v first zero f = refl
lanes_same w v first (suc many) f =
    ap (λ (z : CoreLane). z ∷ lanes_from w (first + 1) many) (f first (omega arith))
    ∙ ap (λ (z : List CoreLane). routed_lane v first ∷ z) (lanes_same w v (first + 1) many (λ lane h. f lane (omega (arith, h))))

-- worlds whose lanes differ in one
pub lanes_set : (w v : ScriptWorld) (first many i lane : ℕ) → lane ≡ first + i → ((other : ℕ) → (other ≡ lane → ⊥) → routed_lane w other ≡ routed_lane v other)
    → slice_set (lanes_from w first many) i (routed_lane v lane) ≡ lanes_from v first many
lanes_set w v first zero i lane e f = refl
lanes_set w v first (suc many) zero lane e f =
    let same : lane ≡ first = omega (arith, e) in
    ap (λ (n : ℕ). routed_lane v n ∷ lanes_from w (first + 1) many) same
    ∙ ap (λ (z : List CoreLane). routed_lane v first ∷ z) (lanes_same w v (first + 1) many (λ other h. f other (λ q. absurd (omega (arith, q, h, e)))))
lanes_set w v first (suc many) (suc i) lane e f =
    ap (λ (z : CoreLane). z ∷ slice_set (lanes_from w (first + 1) many) i (routed_lane v lane)) (f first (λ q. absurd (omega (arith, q, e))))
    ∙ ap (λ (z : List CoreLane). routed_lane v first ∷ z) (lanes_set w v (first + 1) many i lane (omega (arith, e)) f)

-- ---- shards

-- the shard of a queue, and what stands there with another queue
pub record ShardAt (s : Settings) (queues : List (List Arrival)) (pasts : List Journal) (i : ℕ) (queue : List Arrival) : Type 0 where
  pub past : Journal
  pub reads : slice_get (shards_with s queues pasts) i ≡ Some (quiet_shard s queue past)
  pub puts : (other : List Arrival) → slice_set (shards_with s queues pasts) i (quiet_shard s other past) ≡ shards_with s (slice_set queues i other) pasts

-- the shard of a queue that is there
pub shard_at : (s : Settings) (queues : List (List Arrival)) (pasts : List Journal) (i : ℕ) (queue : List Arrival) → length queues ≡ length pasts → slice_get queues i ≡ Some queue → ShardAt s queues pasts i queue
shard_at s [] pasts i queue e g = absurd (cc g)
shard_at s (x ∷ queues) [] i queue e g = absurd (omega (arith, e))
shard_at s (x ∷ queues) (past ∷ pasts) zero queue e g =
    let same : x ≡ queue = cc in
    record { past = past; reads = ap (λ (z : List Arrival). Some (quiet_shard s z past)) same; puts = λ other. refl }
shard_at s (x ∷ queues) (past ∷ pasts) (suc i) queue e g =
    let r = shard_at s queues pasts i queue (omega (arith, e)) g in
    record { past = r.past; reads = r.reads; puts = λ other. ap (λ (z : List CoreShard). quiet_shard s x past ∷ z) (r.puts other) }

-- there is a shard for each journal
pub many_shards : (s : Settings) (queues : List (List Arrival)) (pasts : List Journal) → length queues ≡ length pasts → length (shards_with s queues pasts) ≡ length pasts
many_shards s [] [] e = refl
many_shards s [] (past ∷ pasts) e = absurd (omega (arith, e))
many_shards s (queue ∷ queues) [] e = absurd (omega (arith, e))
many_shards s (queue ∷ queues) (past ∷ pasts) e = omega (arith, many_shards s queues pasts (omega (arith, e)))

-- an element of a mapped list
pub mapped_from : {X Y : Type 0} (f : X → Y) (xs : List X) (i : ℕ) (y : Y) → slice_get (map f xs) i ≡ Some y → (x : X) × (slice_get xs i ≡ Some x) × (f x ≡ y)
mapped_from f [] i y e = absurd (cc e)
mapped_from f (x ∷ xs) zero y e = (x, refl, cc e)
mapped_from f (x ∷ xs) (suc i) y e = mapped_from f xs i y e

-- an element once its list is mapped
pub mapped_at : {X Y : Type 0} (f : X → Y) (xs : List X) (i : ℕ) (x : X) → slice_get xs i ≡ Some x → slice_get (map f xs) i ≡ Some (f x)
mapped_at f [] i x e = absurd (cc e)
mapped_at f (y ∷ xs) zero x e = let same : y ≡ x = cc in ap (λ z. Some (f z)) same
mapped_at f (y ∷ xs) (suc i) x e = mapped_at f xs i x e

-- ---- counts

-- none in either case
pub if_none : (b : Bool) → cond {A = ℕ} b 0 0 ≡ 0
if_none true = refl
if_none false = refl

-- a sum in one case, and none in the other
pub if_both : (b : Bool) (m n r : ℕ) → r ≡ m + n → cond {A = ℕ} b m 0 + cond {A = ℕ} b n 0 ≡ cond {A = ℕ} b r 0
if_both true m n r e = sym e
if_both false m n r e = refl
