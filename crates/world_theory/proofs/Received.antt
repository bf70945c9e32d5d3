-- A received key is received once.
-- For the laws of the headline, `headline` and each of its parts.
use Rattle.std.proofs.Common.{◌≡◌, ℕ, zero, suc, ◌+◌, ◌<◌, ◌≤◌, Bool, true, false, cond, ◌&&◌, ◌||◌, ◌==◌, nat_lt, List, [], ◌∷◌, ◌++◌, length, slice_get, slice_set, count_by, replicate, Some, refl, ap, sym, subst, ◌∙◌, arith, ltb-true, ltb-false, le-ltb, eq-eqb, ne_eqb, eqb-true}
use Rattle.std.specs.List.{list_any}
use Rattle.std.proofs.lemmas.Bool.{and_parts, eqb-false}
use Rattle.std.proofs.lemmas.List.Recursion.{is_count_by}
use Rattle.otlp_types.specs.declared.arrival.Record.{Record}
use Rattle.span_ids.specs.declared.keys.ArrivalKey.{ArrivalKey}
use Rattle.span_ids.specs.declared.keys.ConnKey.{ConnKey}
use Rattle.otlp_types.specs.declared.arrival.Arrival.{Arrival}
use Rattle.world_theory.specs.World.{CoreConfig, CoreLane, World, new_lane, same_key}
use Rattle.world_theory.specs.Step.{is_of_conn, arrivals}
use Rattle.journal_theory.proofs.ListFacts.{tally, tally-append, tally-any, tally-some, total}
use Rattle.world_theory.proofs.Balance.{occ}
use Rattle.world_theory.proofs.Steps.{Stepped, received_by, routed, refused_by, took_span, took_tick, closed_by, took_end, answered_by, decided_one, shipped, pulled, handed_over, failed, batch_dropped, or_both}

-- how many were received on a connection
abbrev pub on_conn : ConnKey → List Arrival → ℕ
on_conn conn spans = tally (is_of_conn conn) spans

pub count_is : (conn : ConnKey) (spans : List Arrival) → on_conn conn spans ≡ count_by (is_of_conn conn) spans
count_is conn spans = is_count_by (on_conn conn) (is_of_conn conn) refl (λ a rest. step (is_of_conn conn a) (on_conn conn rest)) spans
  where
    step : (b : Bool) (n : ℕ) → cond b 1 0 + n ≡ cond b (1 + n) n
    step true n = refl
    step false n = omega arith

-- a lane has each key of its own once, up to the number of what it received on that connection
abbrev pub Numbered : ℕ → List Arrival → Type 0
Numbered lane spans = (k : ArrivalKey) → occ k spans ≡ cond ((k.conn.lane == lane) && nat_lt k.number (on_conn k.conn spans)) 1 0

below_next : (number next : ℕ) → cond (next == number) 1 0 + cond (nat_lt number next) 1 0 ≡ cond (nat_lt number (next + 1)) 1 0
below_next number next = go (next == number) refl (nat_lt number next) refl (nat_lt number (next + 1)) refl
  where
    go : (a : Bool) → (next == number) ≡ a → (b : Bool) → nat_lt number next ≡ b → (c : Bool) → nat_lt number (next + 1) ≡ c → cond a 1 0 + cond b 1 0 ≡ cond c 1 0
    go true e true f c g = absurd (omega (arith, eqb-true next number e, ltb-true number next f))
    go true e false f true g = refl
    go true e false f false g = absurd (omega (arith, eqb-true next number e, ltb-false number (next + 1) g))
    go false e true f true g = refl
    go false e true f false g = absurd (omega (arith, ltb-true number next f, ltb-false number (next + 1) g))
    go false e false f true g = absurd (eqb-false next number e (omega (arith, ltb-false number next f, ltb-true number (next + 1) g)))
    go false e false f false g = refl

plus_none : (a b : ℕ) → a ≡ b → 0 + a ≡ b
plus_none a b e = omega arith

module _ (k : ArrivalKey) (conn : ConnKey) (moment : ℕ) where
  abbrev matches : Bool
  matches = (conn.lane == k.conn.lane) && (conn.ordinal == k.conn.ordinal)

  occ_new : matches ≡ true → (next : ℕ) (rs : List Record) → occ k (arrivals conn next moment rs) + cond (nat_lt k.number next) 1 0 ≡ cond (nat_lt k.number (next + length rs)) 1 0
  occ_new m next [] = let e : next ≡ next + 0 = omega arith in plus_none (cond (nat_lt k.number next) 1 0) (cond (nat_lt k.number (next + 0)) 1 0) (ap (λ (n : ℕ). cond {A = ℕ} (nat_lt k.number n) 1 0) e)
  occ_new m next (r ∷ rs) =
      let q : cond {A = ℕ} (matches && (next == k.number)) 1 0 ≡ cond {A = ℕ} (next == k.number) 1 0 = ap (λ (b : Bool). cond {A = ℕ} (b && (next == k.number)) 1 0) m in
      let ih = occ_new m (next + 1) rs in
      let l : cond {A = ℕ} (nat_lt k.number (next + 1 + length rs)) 1 0 ≡ cond {A = ℕ} (nat_lt k.number (next + length (r ∷ rs))) 1 0 = ap (λ (n : ℕ). cond {A = ℕ} (nat_lt k.number n) 1 0) (omega arith) in
      omega (arith, q, ih, l, below_next k.number next)

  occ_other : matches ≡ false → (next : ℕ) (rs : List Record) → occ k (arrivals conn next moment rs) ≡ 0
  occ_other m next [] = refl
  occ_other m next (r ∷ rs) =
      let q : cond (matches && (next == k.number)) 1 0 ≡ 0 = ap (λ (b : Bool). cond {A = ℕ} (b && (next == k.number)) 1 0) m in
      omega (arith, q, occ_other m (next + 1) rs)

  conn_new : matches ≡ true → (next : ℕ) (rs : List Record) → on_conn k.conn (arrivals conn next moment rs) ≡ length rs
  conn_new m next [] = refl
  conn_new m next (r ∷ rs) =
      let q : cond matches 1 0 ≡ 1 = ap (λ (b : Bool). cond {A = ℕ} b 1 0) m in
      omega (arith, q, conn_new m (next + 1) rs)

  conn_other : matches ≡ false → (next : ℕ) (rs : List Record) → on_conn k.conn (arrivals conn next moment rs) ≡ 0
  conn_other m next [] = refl
  conn_other m next (r ∷ rs) =
      let q : cond matches 1 0 ≡ 0 = ap (λ (b : Bool). cond {A = ℕ} b 1 0) m in
      omega (arith, q, conn_other m (next + 1) rs)

  same_conn : matches ≡ true → conn ≡ k.conn
  same_conn m =
      let p = and_parts (conn.lane == k.conn.lane) (conn.ordinal == k.conn.ordinal) m in
      let x = eqb-true conn.lane k.conn.lane p.0 in
      let y = eqb-true conn.ordinal k.conn.ordinal p.1 in
      λ i. record { lane = x i; ordinal = y i }

numbered_none : (lane : ℕ) → Numbered lane []
numbered_none lane k = go (k.conn.lane == lane)
  where
    go : (b : Bool) → ◌≡◌ {A = ℕ} 0 (cond (b && nat_lt k.number 0) 1 0)
    go true = ap (λ (b : Bool). cond {A = ℕ} b 1 0) (sym (le-ltb k.number 0 (omega arith)))
    go false = refl

-- a lane receives further spans on a connection
pub numbered_more : (lane ordinal moment : ℕ) (rs : List Record) (spans : List Arrival) → Numbered lane spans
    → Numbered lane (spans ++ arrivals (record { lane = lane; ordinal = ordinal }) (count_by (is_of_conn (record { lane = lane; ordinal = ordinal })) spans) moment rs)
numbered_more lane ordinal moment rs spans h k = go (matches k conn moment) refl
  where
    conn : ConnKey
    conn = record { lane = lane; ordinal = ordinal }

    next : ℕ
    next = count_by (is_of_conn conn) spans

    new : List Arrival
    new = arrivals conn next moment rs

    occs : occ k (spans ++ new) ≡ occ k spans + occ k new
    occs = tally-append (λ (a : Arrival). same_key a.key k) spans new

    conns : on_conn k.conn (spans ++ new) ≡ on_conn k.conn spans + on_conn k.conn new
    conns = tally-append (is_of_conn k.conn) spans new

    go : (b : Bool) → matches k conn moment ≡ b → occ k (spans ++ new) ≡ cond ((k.conn.lane == lane) && nat_lt k.number (on_conn k.conn (spans ++ new))) 1 0
    go false m =
        let e : on_conn k.conn (spans ++ new) ≡ on_conn k.conn spans = omega (arith, conns, conn_other k conn moment m next rs) in
        let q : cond ((k.conn.lane == lane) && nat_lt k.number (on_conn k.conn (spans ++ new))) 1 0 ≡ cond ((k.conn.lane == lane) && nat_lt k.number (on_conn k.conn spans)) 1 0 = ap (λ (n : ℕ). cond {A = ℕ} ((k.conn.lane == lane) && nat_lt k.number n) 1 0) e in
        omega (arith, occs, occ_other k conn moment m next rs, h k, q)
    go true m =
        let c = same_conn k conn moment m in
        let z : (k.conn.lane == lane) ≡ true = eq-eqb k.conn.lane lane (ap (λ (x : ConnKey). x.lane) (sym c)) in
        let n : on_conn k.conn spans ≡ next = ap (λ (x : ConnKey). on_conn x spans) (sym c) ∙ count_is conn spans in
        let e : on_conn k.conn (spans ++ new) ≡ next + length rs = omega (arith, conns, conn_new k conn moment m next rs, n) in
        let q : cond ((k.conn.lane == lane) && nat_lt k.number (on_conn k.conn (spans ++ new))) 1 0 ≡ cond (nat_lt k.number (next + length rs)) 1 0 = ap (λ (b : Bool). cond {A = ℕ} (b && nat_lt k.number (on_conn k.conn (spans ++ new))) 1 0) z ∙ ap (λ (n : ℕ). cond {A = ℕ} (nat_lt k.number n) 1 0) e in
        let r : cond ((k.conn.lane == lane) && nat_lt k.number (on_conn k.conn spans)) 1 0 ≡ cond (nat_lt k.number next) 1 0 = ap (λ (b : Bool). cond {A = ℕ} (b && nat_lt k.number (on_conn k.conn spans)) 1 0) z ∙ ap (λ (n : ℕ). cond {A = ℕ} (nat_lt k.number n) 1 0) n in
        omega (arith, occs, occ_new k conn moment m next rs, h k, q, r)

-- ---- all lanes

-- this holds of what each lane received, with the lane's number
abbrev pub EachLane : (ℕ → List Arrival → Type 0) → ℕ → List CoreLane → Type 0
EachLane P n [] = Unit {0}
EachLane P n (l ∷ rest) = P n l.received × EachLane P (suc n) rest

abbrev pub AllNumbered : ℕ → List CoreLane → Type 0
AllNumbered n lanes = EachLane Numbered n lanes

module _ (P : ℕ → List Arrival → Type 0) where
  pub lane_at : (n : ℕ) (lanes : List CoreLane) (i : ℕ) (l : CoreLane) → slice_get lanes i ≡ Some l → EachLane P n lanes → (m : ℕ) → m ≡ n + i → P m l.received
  lane_at n [] i l e h m q = absurd (cc e)
  lane_at n (x ∷ rest) zero l e h m q = let k : x ≡ l = cc e in let j : n ≡ m = omega arith in subst (λ (l : CoreLane). P m l.received) k (subst (λ (i : ℕ). P i x.received) j h.0)
  lane_at n (x ∷ rest) (suc i) l e h m q = lane_at (suc n) rest i l e h.1 m (omega arith)

  lane_set : (n : ℕ) (lanes : List CoreLane) (i : ℕ) (l : CoreLane) (m : ℕ) → m ≡ n + i → P m l.received → EachLane P n lanes → EachLane P n (slice_set lanes i l)
  lane_set n [] i l m q k h = h
  lane_set n (x ∷ rest) zero l m q k h = let j : m ≡ n = omega arith in (subst (λ (i : ℕ). P i l.received) j k, h.1)
  lane_set n (x ∷ rest) (suc i) l m q k h = (h.0, lane_set (suc n) rest i l m (omega arith) k h.1)

  pub lanes_new : ((n : ℕ) → P n []) → (n m : ℕ) → EachLane P n (replicate m new_lane)
  lanes_new none n zero = tt
  lanes_new none n (suc m) = (none n, lanes_new none (suc n) m)

  -- each step keeps it, where a request's arrivals do
  pub lanes_step : ((lane ordinal moment : ℕ) (records : List Record) (spans : List Arrival) → P lane spans
      → P lane (spans ++ arrivals (record { lane = lane; ordinal = ordinal }) (count_by (is_of_conn (record { lane = lane; ordinal = ordinal })) spans) moment records))
      → (c : CoreConfig) (w next : World) → Stepped c w next → EachLane P 0 w.lanes → EachLane P 0 next.lanes
  lanes_step more c w next (received_by lane ordinal moment records l g n e) h =
      rw (← e) (lane_set 0 w.lanes lane _ lane (omega arith) (more lane ordinal moment records l.received (lane_at 0 w.lanes lane l g h lane (omega arith))) h)
  lanes_step more c w next (routed lane shard l sh a rest g m t e) h = rw (← e) (lane_set 0 w.lanes lane _ lane (omega arith) (lane_at 0 w.lanes lane l g h lane (omega arith)) h)
  lanes_step more c w next (refused_by lane shard l a rest g t e) h = rw (← e) (lane_set 0 w.lanes lane _ lane (omega arith) (lane_at 0 w.lanes lane l g h lane (omega arith)) h)
  lanes_step more c w next (took_span shard refused lost sh a rest g q n m e) h = rw (← e) h
  lanes_step more c w next (took_tick shard moment sh g n m e) h = rw (← e) h
  lanes_step more c w next (closed_by lane l g n e) h = rw (← e) (lane_set 0 w.lanes lane _ lane (omega arith) (lane_at 0 w.lanes lane l g h lane (omega arith)) h)
  lanes_step more c w next (took_end shard sender sh g n m d e) h = rw (← e) h
  lanes_step more c w next (answered_by shard sh answers o g d i e) h = rw (← e) h
  lanes_step more c w next (decided_one shard sh d g i e) h = rw (← e) h
  lanes_step more c w next (shipped shard sh a rest g u e) h = rw (← e) h
  lanes_step more c w next (pulled a rest u e) h = rw (← e) h
  lanes_step more c w next (handed_over b d e) h = rw (← e) h
  lanes_step more c w next (failed d e) h = rw (← e) h
  lanes_step more c w next (batch_dropped r b a e) h = rw (← e) h

pub own_lane : (lane : ℕ) (spans : List Arrival) (k : ArrivalKey) → Numbered lane spans → (k.conn.lane ≡ lane → ⊥) → occ k spans ≡ 0
own_lane lane spans k h n = h k ∙ ap (λ (b : Bool). cond {A = ℕ} (b && nat_lt k.number (on_conn k.conn spans)) 1 0) (ne_eqb k.conn.lane lane n)

at_most_once : (lane : ℕ) (spans : List Arrival) (k : ArrivalKey) → Numbered lane spans → occ k spans ≤ 1
at_most_once lane spans k h = go ((k.conn.lane == lane) && nat_lt k.number (on_conn k.conn spans)) (h k)
  where
    go : (b : Bool) → occ k spans ≡ cond b 1 0 → occ k spans ≤ 1
    go true e = omega arith
    go false e = omega arith

pub none_below : (k : ArrivalKey) (n : ℕ) (lanes : List CoreLane) → AllNumbered n lanes → k.conn.lane < n → total (λ (l : CoreLane). occ k l.received) lanes ≡ 0
none_below k n [] h l = refl
none_below k n (x ∷ rest) h l = omega (arith, own_lane n x.received k h.0 (λ q. omega arith), none_below k (suc n) rest h.1 (omega arith))

pub got_at_most_once : (k : ArrivalKey) (n : ℕ) (lanes : List CoreLane) → AllNumbered n lanes → total (λ (l : CoreLane). occ k l.received) lanes ≤ 1
got_at_most_once k n [] h = omega arith
got_at_most_once k n (x ∷ rest) h = go (k.conn.lane == n) refl (got_at_most_once k (suc n) rest h.1)
  where
    go : (b : Bool) → (k.conn.lane == n) ≡ b → total (λ (l : CoreLane). occ k l.received) rest ≤ 1 → occ k x.received + total (λ (l : CoreLane). occ k l.received) rest ≤ 1
    go true e r = let q = eqb-true k.conn.lane n e in omega (arith, at_most_once n x.received k h.0, none_below k (suc n) rest h.1 (omega arith))
    go false e r = omega (arith, own_lane n x.received k h.0 (eqb-false k.conn.lane n e))

pub numbered_new : (n m : ℕ) → AllNumbered n (replicate m new_lane)
numbered_new = lanes_new Numbered numbered_none

-- ---- whether a key was received

pub not_got : (k : ArrivalKey) (lanes : List CoreLane) → list_any (λ (l : CoreLane). list_any (λ a. same_key a.key k) l.received) lanes ≡ false → total (λ (l : CoreLane). occ k l.received) lanes ≡ 0
not_got k [] e = refl
not_got k (l ∷ rest) e =
    let b = or_both (list_any (λ a. same_key a.key k) l.received) (list_any (λ (l : CoreLane). list_any (λ a. same_key a.key k) l.received) rest) e in
    omega (arith, tally-any (λ (a : Arrival). same_key a.key k) l.received b.0, not_got k rest b.1)

pub some_got : (k : ArrivalKey) (lanes : List CoreLane) → list_any (λ (l : CoreLane). list_any (λ a. same_key a.key k) l.received) lanes ≡ true → 0 < total (λ (l : CoreLane). occ k l.received) lanes
some_got k [] e = absurd (cc e)
some_got k (l ∷ rest) e = go (list_any (λ a. same_key a.key k) l.received) refl e (some_got k rest)
  where
    go : (b : Bool) → list_any (λ (a : Arrival). same_key a.key k) l.received ≡ b → (b || list_any (λ (l : CoreLane). list_any (λ a. same_key a.key k) l.received) rest) ≡ true
        → (list_any (λ (l : CoreLane). list_any (λ a. same_key a.key k) l.received) rest ≡ true → 0 < total (λ (l : CoreLane). occ k l.received) rest) → 0 < occ k l.received + total (λ (l : CoreLane). occ k l.received) rest
    go true q e f = omega (arith, tally-some (λ (a : Arrival). same_key a.key k) l.received q)
    go false q e f = omega (arith, f e)

-- each step keeps the lanes numbered
pub numbered_step : (c : CoreConfig) (w next : World) → Stepped c w next → AllNumbered 0 w.lanes → AllNumbered 0 next.lanes
numbered_step = lanes_step Numbered numbered_more
