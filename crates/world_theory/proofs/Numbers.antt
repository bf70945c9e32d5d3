-- A received span's number is how many spans its connection received before it.
-- For the laws of the headline, `headline` and each of its parts.
use Rattle.std.proofs.Common.{◌≡◌, ℕ, ◌+◌, Bool, cond, ◌==◌, ◌&&◌, List, [], ◌∷◌, ◌++◌, count_by, replicate, refl, ap, sym, subst, ◌∙◌, arith, append_assoc, eq-eqb}
use Rattle.std.proofs.lemmas.List.{append-nil}
use Rattle.otlp_types.specs.declared.arrival.Arrival.{Arrival}
use Rattle.otlp_types.specs.declared.arrival.Record.{Record}
use Rattle.span_ids.specs.declared.keys.ConnKey.{ConnKey}
use Rattle.world_theory.specs.World.{CoreConfig, CoreLane, World, new_lane}
use Rattle.world_theory.specs.Step.{is_of_conn, arrivals}
use Rattle.world_theory.specs.Headline.{IsNumbered}
use Rattle.journal_theory.proofs.ListFacts.{tally-append}
use Rattle.world_theory.proofs.Received.{on_conn, count_is, EachLane, lane_at, lanes_new, lanes_step}
use Rattle.world_theory.proofs.Steps.{Stepped}

-- the spans that a lane received after these are numbered in turn
abbrev pub Follows : (lane : ℕ) → (before spans : List Arrival) → Type 0
Follows lane before [] = Unit {0}
Follows lane before (a ∷ rest) = (a.key.conn.lane ≡ lane) × (a.key.number ≡ on_conn a.key.conn before) × Follows lane (before ++ a ∷ []) rest

pub Follows-append : (lane : ℕ) (before xs ys : List Arrival) → Follows lane before xs → Follows lane (before ++ xs) ys → Follows lane before (xs ++ ys)
Follows-append lane before [] ys h k = subst (λ (z : List Arrival). Follows lane z ys) (append-nil before) k
Follows-append lane before (x ∷ xs) ys h k = (h.0, h.1, Follows-append lane (before ++ x ∷ []) xs ys h.2 (subst (λ (z : List Arrival). Follows lane z ys) (sym (append_assoc before (x ∷ []) xs)) k))

pub Follows-right : (lane : ℕ) (before xs ys : List Arrival) → Follows lane before (xs ++ ys) → Follows lane (before ++ xs) ys
Follows-right lane before [] ys h = subst (λ (z : List Arrival). Follows lane z ys) (sym (append-nil before)) h
Follows-right lane before (x ∷ xs) ys h = subst (λ (z : List Arrival). Follows lane z ys) (append_assoc before (x ∷ []) xs) (Follows-right lane (before ++ x ∷ []) xs ys h.2)

-- the arrivals of a request go on where the connection's numbers ended
pub new_follow : (conn : ConnKey) (moment : ℕ) (rs : List Record) (before : List Arrival) (next : ℕ) → next ≡ on_conn conn before → Follows conn.lane before (arrivals conn next moment rs)
new_follow conn moment [] before next e = tt
new_follow conn moment (r ∷ rs) before next e = (refl, e, new_follow conn moment rs (before ++ a ∷ []) (next + 1) (omega (arith, e, tally-append (is_of_conn conn) before (a ∷ []), own)))
  where
    a : Arrival
    a = record { key = record { conn = conn; number = next }; moment = moment; rec = r }

    own : on_conn conn (a ∷ []) ≡ 1
    own = ap (λ (b : Bool). cond {A = ℕ} (b && (conn.ordinal == conn.ordinal)) 1 0 + 0) (eq-eqb conn.lane conn.lane refl) ∙ ap (λ (b : Bool). cond {A = ℕ} b 1 0 + 0) (eq-eqb conn.ordinal conn.ordinal refl)

-- ---- all lanes

abbrev pub AllFollow : ℕ → List CoreLane → Type 0
AllFollow n lanes = EachLane (λ lane spans. Follows lane [] spans) n lanes

pub follow_new : (n m : ℕ) → AllFollow n (replicate m new_lane)
follow_new = lanes_new (λ lane spans. Follows lane [] spans) (λ n. tt)

follow_more : (lane ordinal moment : ℕ) (records : List Record) (spans : List Arrival) → Follows lane [] spans
    → Follows lane [] (spans ++ arrivals (record { lane = lane; ordinal = ordinal }) (count_by (is_of_conn (record { lane = lane; ordinal = ordinal })) spans) moment records)
follow_more lane ordinal moment records spans h =
    let conn : ConnKey = record { lane = lane; ordinal = ordinal } in
    Follows-append lane [] spans _ h (new_follow conn moment records spans (count_by (is_of_conn conn) spans) (sym (count_is conn spans)))

pub follow_step : (c : CoreConfig) (w next : World) → Stepped c w next → AllFollow 0 w.lanes → AllFollow 0 next.lanes
follow_step = lanes_step (λ lane spans. Follows lane [] spans) follow_more

pub are_numbered : (w : World) → AllFollow 0 w.lanes → IsNumbered w
are_numbered w h lane l before later a g e =
    let all : Follows lane [] (before ++ a ∷ later) = subst (λ (z : List Arrival). Follows lane [] z) e (lane_at (λ lane spans. Follows lane [] spans) 0 w.lanes lane l g h lane (omega arith)) in
    let own = Follows-right lane [] before (a ∷ later) all in
    (own.0, own.1 ∙ count_is a.key.conn before)
