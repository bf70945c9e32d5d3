-- Of a world of which each received span has one place, as many are held as were received.
-- For the law `counts_add_up`, and for reports in the crates above.
use Rattle.std.proofs.Common.{◌≡◌, ℕ, suc, ◌+◌, Bool, true, false, List, [], ◌∷◌, ◌++◌, length, slice_get, count_by, Some, refl, sym, ap, subst, ◌∙◌, arith, append_assoc}
use Rattle.std.proofs.lemmas.List.{append-nil}
use Rattle.otlp_types.specs.declared.arrival.Arrival.{Arrival}
use Rattle.span_ids.specs.declared.keys.ArrivalKey.{ArrivalKey}
use Rattle.span_ids.specs.declared.keys.ConnKey.{ConnKey}
use Rattle.world_theory.specs.World.{CoreConfig, CoreLane, World}
use Rattle.world_theory.specs.Step.{is_of_conn}
use Rattle.world_theory.specs.Places.{Place, places}
use Rattle.world_theory.specs.Headline.{IsNumbered, InOnePlace, is_received}
use Rattle.world_theory.proofs.Received.{Numbered, AllNumbered, numbered_new, numbered_more, got_at_most_once, some_got, not_got}
use Rattle.world_theory.proofs.Balance.{got}

-- ---- what is numbered is there once

-- each span of these names the lane, and is numbered by those before it
abbrev AreNumberedBehind : (lane : ℕ) → (before later : List Arrival) → Type 0
AreNumberedBehind lane before later = (front back : List Arrival) (a : Arrival) → later ≡ front ++ a ∷ back
    → (a.key.conn.lane ≡ lane) × (a.key.number ≡ count_by (is_of_conn a.key.conn) (before ++ front))

-- a span with this key is one that a lane received so
numbered_by_one : (lane : ℕ) (before : List Arrival) (a : Arrival) → a.key.conn.lane ≡ lane → a.key.number ≡ count_by (is_of_conn a.key.conn) before → Numbered lane before → Numbered lane (before ++ a ∷ [])
numbered_by_one lane before a own number h =
    let conn : ConnKey = record { lane = lane; ordinal = a.key.conn.ordinal } in
    let same : a.key.conn ≡ record { lane = lane; ordinal = a.key.conn.ordinal } = (λ i. record { lane = own i; ordinal = a.key.conn.ordinal }) in
    let next : count_by (is_of_conn (record { lane = lane; ordinal = a.key.conn.ordinal })) before ≡ a.key.number = ap (λ (c : ConnKey). count_by (is_of_conn c) before) (sym same) ∙ sym number in
    let is : record { key = record { conn = record { lane = lane; ordinal = a.key.conn.ordinal }; number = count_by (is_of_conn (record { lane = lane; ordinal = a.key.conn.ordinal })) before }; moment = a.moment; rec = a.rec } ≡ a
    = (λ i. record { key = record { conn = sym same i; number = next i }; moment = a.moment; rec = a.rec }) in
    subst (λ (x : Arrival). Numbered lane (before ++ x ∷ [])) is (numbered_more lane a.key.conn.ordinal a.moment (a.rec ∷ []) before h)

numbered_on : (lane : ℕ) (before later : List Arrival) → Numbered lane before → AreNumberedBehind lane before later → Numbered lane (before ++ later)
numbered_on lane before [] h f = subst (Numbered lane) (sym (append-nil before)) h
numbered_on lane before (a ∷ later) h f =
    let own = f [] later a refl in
    let number : a.key.number ≡ count_by (is_of_conn a.key.conn) before = own.1 ∙ ap (count_by (is_of_conn a.key.conn)) (append-nil before) in
    let one = numbered_by_one lane before a own.0 number h in
    subst (Numbered lane) (append_assoc before (a ∷ []) later) (numbered_on lane (before ++ a ∷ []) later one (λ front back b e.
    let g = f (a ∷ front) back b (ap (λ (xs : List Arrival). a ∷ xs) e) in
    (g.0, g.1 ∙ ap (count_by (is_of_conn b.key.conn)) (sym (append_assoc before (a ∷ []) front)))))

lane_numbered : (w : World) → IsNumbered w → (lane : ℕ) (l : CoreLane) → slice_get w.lanes lane ≡ Some l → Numbered lane l.received
lane_numbered w h lane l g = numbered_on lane [] l.received (numbered_new lane 1).0 (λ front back a e. h lane l front back a g e)

all_lanes : (n : ℕ) (lanes : List CoreLane) → ((lane : ℕ) (l : CoreLane) → slice_get lanes lane ≡ Some l → Numbered (n + lane) l.received) → AllNumbered n lanes
all_lanes n [] f = tt
all_lanes n (l ∷ lanes) f =
    let here : n + 0 ≡ n = omega arith in (
      subst (λ (m : ℕ). Numbered m l.received) here (f 0 l refl),
      all_lanes (suc n) lanes (λ lane x g.
          let next : n + suc lane ≡ suc n + lane = omega arith in subst (λ (m : ℕ). Numbered m x.received) next (f (suc lane) x g)),
    )

pub numbered : (w : World) → IsNumbered w → AllNumbered 0 w.lanes
numbered w h = all_lanes 0 w.lanes (λ lane l g. let e : lane ≡ 0 + lane = omega arith in subst (λ (m : ℕ). Numbered m l.received) e (lane_numbered w h lane l g))

-- ---- as often held as received

pub held_as_got : (c : CoreConfig) (w : World) → InOnePlace c w → (k : ArrivalKey) → length (places c w k) ≡ got k w
held_as_got c w h k = go (is_received w k) refl
  where
    go : (b : Bool) → is_received w k ≡ b → length (places c w k) ≡ got k w
    go true e = let one = h.received k e in omega (arith, one, some_got k w.lanes e, got_at_most_once k 0 w.lanes (numbered w h.numbered))
    go false e = ap (λ (ps : List Place). length ps) (h.others k e) ∙ sym (not_got k w.lanes e)
