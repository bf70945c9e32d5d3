-- The turns of the exporter's thread, one more each time.
-- For the clause `works` of `work_from`.
use Rattle.std.proofs.Common.{◌≡◌, ℕ, List, [], ◌∷◌, ◌++◌, refl, sym, ap, subst}
use Rattle.std.specs.Prelude.{Option, Some, None}
use Rattle.std.specs.List.{AllByRecursion}
use Rattle.released_spans.specs.declared.shipment.Shipment.{Shipment}
use Rattle.drop_ledger.specs.Places.{TallyState}
use Rattle.span_exporter.specs.declared.answer.Pulled.{Pulled}
use Rattle.span_exporter.specs.declared.answer.Flushed.{Flushed}
use Rattle.span_exporter.specs.Exports.{ExporterState, with_shipment}
use Rattle.span_exporter.specs.Calls.{pulled, flushed}
use Rattle.span_exporter.specs.Work.{shipments_in}
use Rattle.span_exporter.specs.Turns.{ExporterTurn, idle, took, calls_in, given_in, FlushesWhenDue, PopsLead}
use Rattle.span_exporter.specs.Sending.{Sent}
use Rattle.span_exporter.proofs.OneMore.{sent_nothing}
use Rattle.span_exporter.proofs.Popping.{EndsTold, told_flush, told_taking}

-- how far the loop is
pub record Turned {I : Type 0} (gives : I → Option (ℕ × Shipment) → I → Type 0) (start : ExporterState) (before : TallyState) (first : I) (now : ExporterState) (tally : TallyState) (inbox : I) : Type 0 where
  pub turns : List ExporterTurn
  pub sent : Sent start before now tally (calls_in turns)
  pub told : EndsTold now.ends (shipments_in (calls_in turns))
  pub due : AllByRecursion FlushesWhenDue turns
  pub pops : PopsLead gives first turns inbox

calls_in-append : (turns more : List ExporterTurn) → calls_in (turns ++ more) ≡ calls_in turns ++ calls_in more
calls_in-append [] more = refl
calls_in-append (idle answer ∷ turns) more = ap (λ l. (0, flushed answer) ∷ l) (calls_in-append turns more)
calls_in-append (took shard shipment answer None ∷ turns) more = ap (λ l. (shard, pulled shipment answer) ∷ l) (calls_in-append turns more)
calls_in-append (took shard shipment answer (Some flush) ∷ turns) more = ap (λ l. (shard, pulled shipment answer) ∷ (0, flushed flush) ∷ l) (calls_in-append turns more)

due_more : (turns : List ExporterTurn) (turn : ExporterTurn) → AllByRecursion FlushesWhenDue turns → FlushesWhenDue turn → AllByRecursion FlushesWhenDue (turns ++ turn ∷ [])
due_more [] turn all here = (here, tt)
due_more (x ∷ turns) turn all here = (all.0, due_more turns turn all.1 here)

pops_more : {I : Type 0} (gives : I → Option (ℕ × Shipment) → I → Type 0) (old mid new : I) (turns : List ExporterTurn) (turn : ExporterTurn) → PopsLead gives old turns mid → gives mid (given_in turn) new → PopsLead gives old (turns ++ turn ∷ []) new
pops_more gives old mid new [] turn all one = (new, subst (λ s. gives s (given_in turn) new) all one, refl)
pops_more gives old mid new (x ∷ turns) turn all one = (all.0, all.1, pops_more gives all.0 mid new turns turn all.2 one)

took_ships : (shard : ℕ) (shipment : Shipment) (answer : Pulled) (flush : Option Flushed) → shipments_in (calls_in (took shard shipment answer flush ∷ [])) ≡ (shard, shipment) ∷ []
took_ships shard shipment answer None = refl
took_ships shard shipment answer (Some flush) = refl

module _ {I : Type 0} (gives : I → Option (ℕ × Shipment) → I → Type 0) (start : ExporterState) (before : TallyState) (first : I) where
  -- before the first turn
  pub turned_none : EndsTold start.ends [] → Turned gives start before first start before first
  turned_none told = record { turns = []; sent = sent_nothing start before; told = told; due = tt; pops = refl }

  module _ (now now' : ExporterState) (tally tally' : TallyState) (inbox inbox' : I) where
    -- a pop gave nothing, and the batch was flushed
    pub turned_idle : (t : Turned gives start before first now tally inbox) (answer : Flushed) → Sent start before now' tally' (calls_in t.turns ++ (0, flushed answer) ∷ [])
        → now'.ends ≡ now.ends → gives inbox None inbox' → Turned gives start before first now' tally' inbox'
    turned_idle t answer sent same_ends pop =
        let is = sym (calls_in-append t.turns (idle answer ∷ [])) in
        record {
          turns = t.turns ++ idle answer ∷ [];
          sent = subst (λ l. Sent start before now' tally' l) is sent;
          told = subst (λ l. EndsTold now'.ends (shipments_in l)) is (told_flush now.ends now'.ends (calls_in t.turns) answer same_ends t.told);
          due = due_more t.turns (idle answer) t.due tt;
          pops = pops_more gives first inbox inbox' t.turns (idle answer) t.pops pop;
        }

    -- a shipment was popped, pulled, and the batch flushed where that was due
    pub turned_took : (t : Turned gives start before first now tally inbox) (place : ℕ) (shipment : Shipment) (answer : Pulled) (flush : Option Flushed) → FlushesWhenDue (took place shipment answer flush)
        → Sent start before now' tally' (calls_in t.turns ++ calls_in (took place shipment answer flush ∷ [])) → gives inbox (Some (place, shipment)) inbox' → now'.ends ≡ (with_shipment shipment now).ends
        → Turned gives start before first now' tally' inbox'
    turned_took t place shipment answer flush due sent pop ends =
        let is = sym (calls_in-append t.turns (took place shipment answer flush ∷ [])) in
        record {
          turns = t.turns ++ took place shipment answer flush ∷ [];
          sent = subst (λ l. Sent start before now' tally' l) is sent;
          told = subst (λ l. EndsTold now'.ends (shipments_in l)) is
              (told_taking place shipment now now'.ends (calls_in t.turns) (calls_in (took place shipment answer flush ∷ [])) (took_ships place shipment answer flush) ends t.told);
          due = due_more t.turns (took place shipment answer flush) t.due due;
          pops = pops_more gives first inbox inbox' t.turns (took place shipment answer flush) t.pops pop;
        }
