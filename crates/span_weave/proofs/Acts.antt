-- Calls on an exporter are acts of the weave, by induction over the calls.
-- For the contract of `calls_are_acts`.
use Rattle.std.proofs.Common.{◌≡◌, ◌⊎◌, inl, inr, ℕ, ◌<◌, Bool, true, false, not, ◌||◌, cond, nat_lt, List, [], ◌∷◌, ◌++◌, length, Option, Some, None, option_and_then, refl, ap, sym, subst, ◌∙◌, arith, append_assoc, append-nil, lt-ltb}
use Rattle.std.specs.List.{AllByRecursion}
use Rattle.otlp_types.specs.declared.arrival.Arrival.{Arrival}
use Rattle.released_spans.specs.declared.shipment.Shipment.TheVariants.{Span, End}
use Rattle.span_ids.specs.declared.outcome.Reason.{Reason}
use Rattle.span_ids.specs.declared.outcome.Reason.TheVariants.{InvalidId, QueueFull, NoMemory, Evicted, NotSampled, LateNotSampled, ExporterDown}
use Rattle.journal_theory.specs.Fate.{DroppedSpan, counts}
use Rattle.span_sink.specs.Manners.{Manner, takes_all, may_refuse, prints_refused, refuses}
use Rattle.span_sink.specs.LineSinks.{LineSinkState, Refuses}
use Rattle.span_exporter.specs.Exports.{ExporterState, with_shipment, records_to_send, DropsLineOf, SendsLineOf, RefusesLineOf, SendsLineTo}
use Rattle.span_exporter.proofs.Keeping.{sent_or_refused}
use Rattle.span_exporter.specs.Calls.{ExporterCall, pulled, flushed, noted, CallsLead}
use Rattle.span_exporter.specs.declared.answer.Flushed.{Flushed}
use Rattle.span_exporter.specs.declared.answer.Flushed.TheVariants.{Handed, BatchDropped, Empty}
use Rattle.world_theory.specs.World.{CoreConfig}
use Rattle.world_theory.specs.Step.{is_empty}
use Rattle.span_weave.specs.Threads.{ExporterAct, pulled as pulled_of, handed_over, failed, batch_dropped, pulls, ExporterMade, after_act, after_acts}
use Rattle.span_weave.specs.Popped.{spans_popped}
use Rattle.span_exporter.specs.Work.{NotesNothing, calls_of, shipments_in}
use Rattle.span_weave.specs.Calls.{handed_by, counted_by, handed_in, counted_in, CallsAreActs}

-- what an exporter holds, where these were handed over and counted
abbrev with_past : ExporterState → List (List Arrival) → List DroppedSpan → ExporterMade
with_past e H K = record { batch = e.batch; handed = H; counted = K; down = e.sink.is_down }

-- what holds something is not empty
not_empty : (spans : List Arrival) → 0 < length spans → is_empty spans ≡ false
not_empty [] h = absurd (omega (arith, h))
not_empty (a ∷ spans) h = refl

-- where neither test holds
unless_either : {X : Type 0} (a b : Bool) (x : X) → a ≡ false → b ≡ false → cond (a || b) None (Some x) ≡ Some x
unless_either true b x e f = absurd (cc e)
unless_either false true x e f = absurd (cc f)
unless_either false false x e f = refl

or_true : (b : Bool) → b || true ≡ true
or_true true = refl
or_true false = refl

-- what refuses a line may do so, and is up
refused_while_up : (m : Manner) (old : LineSinkState) (line : List ℕ) (new : LineSinkState) → Refuses m old line new → (refuses m ≡ true) × (old.is_down ≡ false) × (new.is_down ≡ false)
refused_while_up takes_all old line new h = absurd h
refused_while_up may_refuse old line new h = (refl, h.was_up, h.stays_up)
refused_while_up prints_refused old line new h = (refl, h.was_up, h.stays_up)

module _ (c : CoreConfig) where
  -- acts after other acts
  acts_then : (first : List ExporterAct) (rest : List ExporterAct) (x mid end : ExporterMade) → after_acts c x first ≡ Some mid → after_acts c mid rest ≡ Some end → after_acts c x (first ++ rest) ≡ Some end
  acts_then [] rest x mid end e f = let same : x ≡ mid = cc e in subst (λ (z : ExporterMade). after_acts c z rest ≡ Some end) (sym same) f
  acts_then (act ∷ first) rest x mid end e f = go (after_act c x act) e (λ y h. acts_then first rest y mid end h f)
    where
      go : (o : Option ExporterMade) → option_and_then (λ next. after_acts c next first) o ≡ Some mid → ((y : ExporterMade) → after_acts c y first ≡ Some mid → after_acts c y (first ++ rest) ≡ Some end)
          → option_and_then (λ next. after_acts c next (first ++ rest)) o ≡ Some end
      go None h k = absurd (cc h)
      go (Some y) h k = k y h

  pulls_then : (first rest : List ExporterAct) → pulls first ≡ [] → pulls (first ++ rest) ≡ pulls rest
  pulls_then [] rest e = refl
  pulls_then (pulled_of k a ∷ first) rest e = absurd (cc e)
  pulls_then (handed_over ∷ first) rest e = pulls_then first rest e
  pulls_then (failed ∷ first) rest e = pulls_then first rest e
  pulls_then (batch_dropped why ∷ first) rest e = pulls_then first rest e

  -- the acts of a flush
  record FlushActs (old : ExporterState) (answer : Flushed) (sink : LineSinkState) (H : List (List Arrival)) (K : List DroppedSpan) : Type 0 where
    pub acts : List ExporterAct
    pub none : pulls acts ≡ []
    pub leads : after_acts c (with_past old H K) acts ≡ Some (with_past (record old { batch = []; policies = []; sink = sink }) (H ++ handed_by answer old.batch) (K ++ counted_by answer old.batch))

  one_act : (x y : ExporterMade) (act : ExporterAct) → after_act c x act ≡ Some y → after_acts c x (act ∷ []) ≡ Some y
  one_act x y act e = ap (option_and_then (λ (z : ExporterMade). Some z)) e

  flush_batch_dropped : (old : ExporterState) (n : ℕ) (why : Reason) (sink : LineSinkState) (H : List (List Arrival)) (K : List DroppedSpan) → 0 < n → n ≡ length old.batch → DropsLineOf (records_to_send old) why old.sink sink → FlushActs old (BatchDropped n why) sink H K
  flush_batch_dropped old n NoMemory sink H K some e h = record {
    acts = batch_dropped NoMemory ∷ [];
    none = refl;
    leads = one_act (with_past old H K) _ (batch_dropped NoMemory) (unless_either (is_empty old.batch) false (record { batch = []; handed = H; counted = K ++ counts NoMemory old.batch; down = old.sink.is_down }) (not_empty old.batch (omega (arith, some, e))) refl)
        ∙ ap (λ (z : ExporterMade). Some z) (ends NoMemory (ap (λ (z : LineSinkState). z.is_down) (sym h.1)));
  }
    where
      ends : (why : Reason) → old.sink.is_down ≡ sink.is_down → (let x : ExporterMade = record { batch = []; handed = H; counted = K ++ counts why old.batch; down = old.sink.is_down } in x) ≡ record { batch = []; handed = H ++ []; counted = K ++ counts why old.batch; down = sink.is_down }
      ends why d = ap (λ b. let x : ExporterMade = record { batch = []; handed = H; counted = K ++ counts why old.batch; down = b } in x) d ∙ ap (λ (z : List (List Arrival)). let x : ExporterMade = record { batch = []; handed = z; counted = K ++ counts why old.batch; down = sink.is_down } in x) (sym (append-nil H))
  flush_batch_dropped old n ExporterDown sink H K some e (inl h) = record {
    acts = failed ∷ batch_dropped ExporterDown ∷ [];
    none = refl;
    leads = ap (λ b. option_and_then (λ (z : ExporterMade). after_acts c z (batch_dropped ExporterDown ∷ [])) (cond b None (Some (record (with_past old H K) { down = true })))) h.2.was_up
        ∙ one_act (record (with_past old H K) { down = true }) _ (batch_dropped ExporterDown) (unless_either (is_empty old.batch) (not (refuses c.manner || true)) (record { batch = []; handed = H; counted = K ++ counts ExporterDown old.batch; down = true }) (not_empty old.batch (omega (arith, some, e))) (ap (λ b. not b) (or_true (refuses c.manner))))
        ∙ ap (λ b. Some (let x : ExporterMade = record { batch = []; handed = H; counted = K ++ counts ExporterDown old.batch; down = b } in x)) (sym h.2.goes_down)
        ∙ ap (λ (z : List (List Arrival)). Some (let x : ExporterMade = record { batch = []; handed = z; counted = K ++ counts ExporterDown old.batch; down = sink.is_down } in x)) (sym (append-nil H));
  }
  flush_batch_dropped old n ExporterDown sink H K some e (inr h) = record {
    acts = batch_dropped ExporterDown ∷ [];
    none = refl;
    leads = one_act (with_past old H K) _ (batch_dropped ExporterDown) (unless_either (is_empty old.batch) (not (refuses c.manner || old.sink.is_down)) (record { batch = []; handed = H; counted = K ++ counts ExporterDown old.batch; down = old.sink.is_down }) (not_empty old.batch (omega (arith, some, e))) (ap (λ b. not (refuses c.manner || b)) h.0 ∙ ap (λ b. not b) (or_true (refuses c.manner))))
        ∙ ap (λ (s : LineSinkState). Some (let x : ExporterMade = record { batch = []; handed = H; counted = K ++ counts ExporterDown old.batch; down = s.is_down } in x)) (sym h.1)
        ∙ ap (λ (z : List (List Arrival)). Some (let x : ExporterMade = record { batch = []; handed = z; counted = K ++ counts ExporterDown old.batch; down = sink.is_down } in x)) (sym (append-nil H));
  }
  flush_batch_dropped old n InvalidId sink H K some e h = absurd h
  flush_batch_dropped old n QueueFull sink H K some e h = absurd h
  flush_batch_dropped old n Evicted sink H K some e h = absurd h
  flush_batch_dropped old n NotSampled sink H K some e h = absurd h
  flush_batch_dropped old n LateNotSampled sink H K some e h = absurd h

  flush_acts : (old : ExporterState) (answer : Flushed) (sink : LineSinkState) (H : List (List Arrival)) (K : List DroppedSpan) → SendsLineOf (records_to_send old) old.sink old.batch answer sink → FlushActs old answer sink H K
  flush_acts old Empty sink H K h = record {
    acts = [];
    none = refl;
    leads = ap (λ (z : List Arrival). Some (let x : ExporterMade = record { batch = z; handed = H; counted = K; down = old.sink.is_down } in x)) h.0
        ∙ ap (λ (s : LineSinkState). Some (let x : ExporterMade = record { batch = []; handed = H; counted = K; down = s.is_down } in x)) (sym h.1)
        ∙ ap (λ (z : List (List Arrival)). Some (let x : ExporterMade = record { batch = []; handed = z; counted = K; down = sink.is_down } in x)) (sym (append-nil H))
        ∙ ap (λ (z : List DroppedSpan). Some (let x : ExporterMade = record { batch = []; handed = H ++ []; counted = z; down = sink.is_down } in x)) (sym (append-nil K));
  }
  flush_acts old (Handed n) sink H K h = record {
    acts = handed_over ∷ [];
    none = refl;
    leads = one_act (with_past old H K) _ handed_over (unless_either (is_empty old.batch) old.sink.is_down (record { batch = []; handed = H ++ old.batch ∷ []; counted = K; down = old.sink.is_down }) (not_empty old.batch (omega (arith, h.0, h.1))) h.2.2.was_up)
        ∙ ap (λ b. Some (let x : ExporterMade = record { batch = []; handed = H ++ old.batch ∷ []; counted = K; down = b } in x)) (h.2.2.was_up ∙ sym h.2.2.stays_up)
        ∙ ap (λ (z : List DroppedSpan). Some (let x : ExporterMade = record { batch = []; handed = H ++ old.batch ∷ []; counted = z; down = sink.is_down } in x)) (sym (append-nil K));
  }
  flush_acts old (BatchDropped n why) sink H K h = flush_batch_dropped old n why sink H K h.0 h.1 h.2

  flush_refused : (old : ExporterState) (answer : Flushed) (sink : LineSinkState) (H : List (List Arrival)) (K : List DroppedSpan) → old.manner ≡ c.manner → RefusesLineOf (records_to_send old) old.manner old.sink old.batch answer sink → FlushActs old answer sink H K
  flush_refused old answer sink H K same h = subst (λ (f : Flushed). FlushActs old f sink H K) (sym h.1) (record {
    acts = batch_dropped ExporterDown ∷ [];
    none = refl;
    leads = one_act (with_past old H K) _ (batch_dropped ExporterDown) (unless_either (is_empty old.batch) (not (refuses c.manner || old.sink.is_down)) (record { batch = []; handed = H; counted = K ++ counts ExporterDown old.batch; down = old.sink.is_down }) (not_empty old.batch h.0)
        (ap (λ b. not (b || old.sink.is_down)) (sym (ap refuses same) ∙ up.0)))
        ∙ ap (λ b. Some (let x : ExporterMade = record { batch = []; handed = H; counted = K ++ counts ExporterDown old.batch; down = b } in x)) (up.1 ∙ sym up.2)
        ∙ ap (λ (z : List (List Arrival)). Some (let x : ExporterMade = record { batch = []; handed = z; counted = K ++ counts ExporterDown old.batch; down = sink.is_down } in x)) (sym (append-nil H));
  })
    where
      up : (refuses old.manner ≡ true) × (old.sink.is_down ≡ false) × (sink.is_down ≡ false)
      up = refused_while_up old.manner old.sink h.2.0 sink h.2.2

  flush_acts_to : (old : ExporterState) (answer : Flushed) (sink : LineSinkState) (H : List (List Arrival)) (K : List DroppedSpan) → old.manner ≡ c.manner → SendsLineTo (records_to_send old) old.manner old.sink old.batch answer sink → FlushActs old answer sink H K
  flush_acts_to old answer sink H K same h = go (sent_or_refused (records_to_send old) old.manner old.sink sink old.batch answer h)
    where
      go : SendsLineOf (records_to_send old) old.sink old.batch answer sink ⊎ RefusesLineOf (records_to_send old) old.manner old.sink old.batch answer sink → FlushActs old answer sink H K
      go (inl sent) = flush_acts old answer sink H K sent
      go (inr refused) = flush_refused old answer sink H K same refused

  -- acts that did what the calls did, after others
  record ActsAfter (old : ExporterState) (calls : List (ℕ × ExporterCall)) (new : ExporterState) (H : List (List Arrival)) (K : List DroppedSpan) : Type 0 where
    pub acts : List ExporterAct
    pub leads : after_acts c (with_past old H K) acts ≡ Some (with_past new (H ++ handed_in old.batch calls) (K ++ counted_in old.batch calls))
    pub pulls_are : pulls acts ≡ spans_popped (shipments_in calls)

  acts_of : (calls : List (ℕ × ExporterCall)) (old new : ExporterState) (H : List (List Arrival)) (K : List DroppedSpan) → old.size ≡ c.batch_size → old.manner ≡ c.manner → AllByRecursion (λ (x : ℕ × ExporterCall). NotesNothing x.1) calls
      → CallsLead old (calls_of calls) new → ActsAfter old calls new H K
  acts_of [] old new H K size same quiet h = record {
    acts = [];
    leads = ap (λ (e : ExporterState). Some (with_past e H K)) (sym h)
        ∙ ap (λ (z : List (List Arrival)). Some (with_past new z K)) (sym (append-nil H))
        ∙ ap (λ (z : List DroppedSpan). Some (with_past new (H ++ []) z)) (sym (append-nil K));
    pulls_are = refl;
  }
  acts_of ((k, pulled (Span a policy) answer) ∷ calls) old new H K size same quiet h =
      let r = acts_of calls (with_shipment (Span a policy) old) new H K size same quiet.1 (subst (λ (e : ExporterState). CallsLead e (calls_of calls) new) h.1.1 h.2) in
      let room : nat_lt (length old.batch) c.batch_size ≡ true = lt-ltb (length old.batch) c.batch_size (omega (arith, h.1.0, size)) in
      record {
        acts = pulled_of k a ∷ r.acts;
        leads = ap (λ b. option_and_then (λ (z : ExporterMade). after_acts c z r.acts) (cond b (Some (with_past (with_shipment (Span a policy) old) H K)) None)) room ∙ r.leads;
        pulls_are = ap (λ (z : List (ℕ × Arrival)). (k, a) ∷ z) r.pulls_are;
      }
  acts_of ((k, pulled (End s) answer) ∷ calls) old new H K size same quiet h =
      let r = acts_of calls (with_shipment (End s) old) new H K size same quiet.1 (subst (λ (e : ExporterState). CallsLead e (calls_of calls) new) h.1.1 h.2) in
      record { acts = r.acts; leads = r.leads; pulls_are = r.pulls_are }
  acts_of ((k, flushed answer) ∷ calls) old new H K size same quiet h =
      let mid : ExporterState = record old { batch = []; policies = []; sink = h.0.sink } in
      let f = flush_acts_to old answer h.0.sink H K same h.1.0 in
      let r = acts_of calls mid new (H ++ handed_by answer old.batch) (K ++ counted_by answer old.batch) size same quiet.1 (subst (λ (e : ExporterState). CallsLead e (calls_of calls) new) h.1.1 h.2) in
      record {
        acts = f.acts ++ r.acts;
        leads = acts_then f.acts r.acts (with_past old H K) _ _ f.leads (r.leads
            ∙ ap (λ (z : List (List Arrival)). Some (with_past new z ((K ++ counted_by answer old.batch) ++ counted_in [] calls))) (append_assoc H (handed_by answer old.batch) (handed_in [] calls))
            ∙ ap (λ (z : List DroppedSpan). Some (with_past new (H ++ (handed_by answer old.batch ++ handed_in [] calls)) z)) (append_assoc K (counted_by answer old.batch) (counted_in [] calls)));
        pulls_are = pulls_then f.acts r.acts f.none ∙ r.pulls_are;
      }
  acts_of ((k, noted line answer) ∷ calls) old new H K size same quiet h = absurd quiet.0

pub calls_are_acts : CallsAreActs
calls_are_acts c old new calls size same quiet h =
    let r = acts_of c calls old new [] [] size same quiet h in
    record {
      acts = r.acts;
      end = with_past new (handed_in old.batch calls) (counted_in old.batch calls);
      leads = r.leads;
      pulls_are = r.pulls_are;
      batch = refl;
      down = refl;
      handed = refl;
      counted = refl;
    }
