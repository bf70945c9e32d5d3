-- Which places wait: what is counted or handed over does not, and a key of which nothing waits is in none that does.
-- For the laws of scripts and of threads in the crates above.
use Rattle.std.proofs.Common.{◌≡◌, Bool, true, false, cond, List, [], ◌∷◌, ◌++◌, map, filter, refl, subst}
use Rattle.std.specs.List.{flat_map}
use Rattle.std.specs.Prelude.{IsTrue}
use Rattle.otlp_types.specs.declared.arrival.Arrival.{Arrival}
use Rattle.span_ids.specs.declared.keys.ArrivalKey.{ArrivalKey}
use Rattle.journal_theory.specs.Fate.{DroppedSpan, waits}
use Rattle.world_theory.specs.World.{same_key}
use Rattle.world_theory.specs.Places.{Place, HeldKey, unrouted, queued, buffered, unshipped, exported, in_batch, handed, counted_under, is_waiting, held_at}
use Rattle.world_theory.specs.Headline.{is_where}

-- nothing that is counted waits
pub none_waits_counted : (counted : List DroppedSpan) → filter (λ (h : HeldKey). is_waiting h.place) (map (λ (n : DroppedSpan). record { place = counted_under n.reason; key = n.key }) counted) ≡ []
none_waits_counted [] = refl
none_waits_counted (n ∷ counted) = none_waits_counted counted

-- nothing that was handed over waits
pub none_waits_handed : (batches : List (List Arrival)) (rest : List HeldKey) → filter (λ (h : HeldKey). is_waiting h.place) (flat_map (held_at handed) batches ++ rest) ≡ filter (λ (h : HeldKey). is_waiting h.place) rest
none_waits_handed [] rest = refl
none_waits_handed ([] ∷ batches) rest = none_waits_handed batches rest
none_waits_handed ((a ∷ batch) ∷ batches) rest = none_waits_handed (batch ∷ batches) rest

-- a key of which nothing waits is in no place that waits
pub not_waiting : (k : ArrivalKey) (place : Place) (keys : List HeldKey) → filter (λ (h : HeldKey). is_waiting h.place) keys ≡ [] → map (λ (h : HeldKey). h.place) (filter (λ (h : HeldKey). same_key h.key k) keys) ≡ place ∷ [] → is_waiting place ≡ false
not_waiting k place [] none e = absurd (cc e)
not_waiting k place (h ∷ keys) none e = go (is_waiting h.place) (same_key h.key k) refl none e (not_waiting k place keys)
  where
    go : (w s : Bool) → is_waiting h.place ≡ w → cond w (h ∷ filter (λ (h : HeldKey). is_waiting h.place) keys) (filter (λ (h : HeldKey). is_waiting h.place) keys) ≡ []
        → map (λ (h : HeldKey). h.place) (cond s (h ∷ filter (λ (h : HeldKey). same_key h.key k) keys) (filter (λ (h : HeldKey). same_key h.key k) keys)) ≡ place ∷ []
        → (filter (λ (h : HeldKey). is_waiting h.place) keys ≡ [] → map (λ (h : HeldKey). h.place) (filter (λ (h : HeldKey). same_key h.key k) keys) ≡ place ∷ [] → is_waiting place ≡ false)
        → is_waiting place ≡ false
    go true s is none e more = absurd (cc none)
    go false true is none e more = let same : h.place ≡ place = cc e in subst (λ (p : Place). is_waiting p ≡ false) same is
    go false false is none e more = more none e

-- a span that waits is in no place that doesn't
pub buffered_waits : (place : Place) (due : Bool) → IsTrue (is_where 0 due waits place) → is_waiting place ≡ false → ⊥
buffered_waits (unrouted n) due e f = cc f
buffered_waits (queued n) due e f = cc f
buffered_waits (buffered n) due e f = cc f
buffered_waits (unshipped n) due e f = cc f
buffered_waits exported due e f = cc f
buffered_waits in_batch due e f = cc f
buffered_waits handed due e f = cc e
buffered_waits (counted_under r) due e f = cc e
