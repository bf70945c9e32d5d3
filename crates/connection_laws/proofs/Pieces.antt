-- What was done for the bytes of a connection is what one read of them all brings.
-- For the clause `one_piece` of `connections_in_any_pieces`.
use Rattle.std.specs.Prelude.{MatchBool, if◌then◌else◌}
use Rattle.std.proofs.Common.{◌≡◌, ℕ, Bool, true, false, List, [], ◌∷◌, ◌++◌, Option, Some, None, refl, ap, sym, ◌∙◌, subst, append_assoc, append-nil, inl, inr}
use Rattle.http_lane.specs.declared.answer.EventFate.{EventFate}
use Rattle.http_lane.specs.declared.answer.EventFate.TheVariants.{Written, Uncounted, Unmade, Unwritten}
use Rattle.http_lane.specs.declared.answer.ServeEnd.{ServeEnd}
use Rattle.http_lane.specs.declared.answer.ServeEnd.TheVariants.{Closed, Cut, Quiet, ReadFault, WriteFault, NoMemory}
use Rattle.http_lane.specs.Connection.{RequestReading, ConnectionEvent, timed_out, closes, end_of, end_with, grown, is_between, Rests, Settles}
use Rattle.http_lane.specs.Turns.{Coming, came, unkept, nothing, over, read_failed, write_failed, dismissed, Waiting, Turned, Turns, IsTurnBy, IsLate, idle_end, came_at}
use Rattle.http_lane.specs.TurnAgreement.{piece_of, bytes_that_came, events_then}
use Rattle.http_lane.proofs.PieceLemmas.{settles_join, settles_rest, grown_none, grown_twice}
use Rattle.connection_laws.specs.Connections.{brought_bytes, done_for_bytes, end_by_bytes, IsTimedOut, EndsIt, last_coming, end_for, TurnsAreOnePiece}

-- the same from any reading on
record From (w : Waiting) (turns : List Turned) (last : Waiting) : Type 0 where
  pub reading : RequestReading
  pub settles : Settles (grown w.reading (bytes_that_came turns)) (done_for_bytes turns) (end_by_bytes turns last) reading
  pub reads_on : last.end ≡ None → last.reading ≡ reading
  pub late : List ConnectionEvent
  pub all : events_then turns ≡ done_for_bytes turns ++ late
  pub is_late : IsTimedOut late
  pub ended : (coming : Coming) → EndsIt coming → last_coming turns ≡ Some coming → last.end ≡ end_for coming reading

from_none : (w last : Waiting) → last ≡ w → Rests w.reading → From w [] last
from_none w last same rests = record {
  reading = w.reading;
  settles = subst (λ r. Settles r [] None w.reading) (sym (grown_none w.reading)) (rests, refl, refl);
  reads_on = λ goes_on. ap (λ (n : Waiting). n.reading) same;
  late = [];
  all = refl;
  is_late = inl refl;
  ended = λ coming ends is. absurd (cc is);
}

-- a turn that brought no bytes, the last one
from_last : (w last : Waiting) (t : Turned) → Rests w.reading → brought_bytes t.coming ≡ false → piece_of t.coming ≡ [] → (last.end ≡ None → last.reading ≡ w.reading) → IsTimedOut t.events
    → ((coming : Coming) → EndsIt coming → t.coming ≡ coming → last.end ≡ end_for coming w.reading) → From w (t ∷ []) last
from_last w last t rests no_bytes no_piece reads_on late ended = record {
  reading = w.reading;
  settles = subst (λ b. Settles (grown w.reading (piece_of t.coming ++ [])) ((if b then t.events else []) ++ []) (if b then last.end else None) w.reading) (sym no_bytes)
      (subst (λ xs. Settles (grown w.reading (xs ++ [])) [] None w.reading) (sym no_piece)
      (subst (λ r. Settles r [] None w.reading) (sym (grown_none w.reading)) (rests, refl, refl)));
  reads_on = reads_on;
  late = t.events;
  all = subst (λ b. t.events ++ [] ≡ ((if b then t.events else []) ++ []) ++ t.events) (sym no_bytes) (append-nil t.events);
  is_late = late;
  ended = λ coming ends is. ended coming ends (cc is);
}

-- a turn that did nothing and left the reading, with others behind it
from_idle : (w next last : Waiting) (t u : Turned) (turns : List Turned) → brought_bytes t.coming ≡ false → piece_of t.coming ≡ [] → t.events ≡ [] → next.reading ≡ w.reading → From next (u ∷ turns) last → From w (t ∷ u ∷ turns) last
from_idle w next last t u turns no_bytes no_piece no_events same from = record {
  reading = from.reading;
  settles = subst (λ b. Settles (grown w.reading (piece_of t.coming ++ bytes_that_came (u ∷ turns))) ((if b then t.events else []) ++ done_for_bytes (u ∷ turns)) (end_by_bytes (u ∷ turns) last) from.reading) (sym no_bytes)
      (subst (λ xs. Settles (grown w.reading (xs ++ bytes_that_came (u ∷ turns))) (done_for_bytes (u ∷ turns)) (end_by_bytes (u ∷ turns) last) from.reading) (sym no_piece)
      (subst (λ r. Settles (grown r (bytes_that_came (u ∷ turns))) (done_for_bytes (u ∷ turns)) (end_by_bytes (u ∷ turns) last) from.reading) same from.settles));
  reads_on = from.reads_on;
  late = from.late;
  all = subst (λ b. t.events ++ events_then (u ∷ turns) ≡ ((if b then t.events else []) ++ done_for_bytes (u ∷ turns)) ++ from.late) (sym no_bytes)
      (ap (λ es. es ++ events_then (u ∷ turns)) no_events ∙ from.all);
  is_late = from.is_late;
  ended = from.ended;
}

-- a turn that brought bytes, by how they ended the connection
from_bytes : (w next last : Waiting) (t : Turned) (turns : List Turned) (bytes : List ℕ) (o : Option ServeEnd) → next.end ≡ o → t.coming ≡ came bytes
    → Settles (grown w.reading bytes) t.events next.end next.reading → (Rests next.reading → next.end ≡ None → From next turns last) → Turns next turns last → From w (t ∷ turns) last
from_bytes w next last t turns bytes None e is h ih run =
    let h' = subst (λ o. Settles (grown w.reading bytes) t.events o next.reading) e h in
    let from = ih (settles_rest _ t.events next.reading h') e in
    let end_is : end_by_bytes (t ∷ turns) last ≡ end_by_bytes turns last = same_end turns run in
    let joined = settles_join (grown w.reading bytes) (bytes_that_came turns) t.events (done_for_bytes turns) next.reading from.reading (end_by_bytes turns last) h' from.settles in record {
      reading = from.reading;
      settles = subst (λ (o : Option ServeEnd). Settles (grown w.reading (bytes_that_came (t ∷ turns))) (done_for_bytes (t ∷ turns)) o from.reading) (sym end_is)
          (subst (λ c. Settles (grown w.reading (piece_of c ++ bytes_that_came turns)) ((if brought_bytes c then t.events else []) ++ done_for_bytes turns) (end_by_bytes turns last) from.reading) (sym is)
          (subst (λ r. Settles r (t.events ++ done_for_bytes turns) (end_by_bytes turns last) from.reading) (grown_twice w.reading bytes (bytes_that_came turns)) joined));
      reads_on = from.reads_on;
      late = from.late;
      all = subst (λ c. t.events ++ events_then turns ≡ ((if brought_bytes c then t.events else []) ++ done_for_bytes turns) ++ from.late) (sym is)
          (ap (λ es. t.events ++ es) from.all ∙ sym (append_assoc t.events (done_for_bytes turns) from.late));
      is_late = from.is_late;
      ended = behind turns from;
    }
  where
    same_end : (turns : List Turned) → Turns next turns last → end_by_bytes (t ∷ turns) last ≡ end_by_bytes turns last
    same_end [] run = subst (λ c. (if brought_bytes c then last.end else None) ≡ None) (sym is) (ap (λ (n : Waiting). n.end) run ∙ e)
    same_end (u ∷ turns) run = refl

    behind : (turns : List Turned) (from : From next turns last) (coming : Coming) → EndsIt coming → last_coming (t ∷ turns) ≡ Some coming → last.end ≡ end_for coming from.reading
    behind [] from coming ends at = let own : came bytes ≡ coming = sym is ∙ cc at in absurd (subst EndsIt (sym own) ends)
    behind (u ∷ turns) from coming ends at = from.ended coming ends at
from_bytes w next last t [] bytes (Some why) e is h ih run = record {
  reading = next.reading;
  settles = subst (λ c. Settles (grown w.reading (piece_of c ++ [])) ((if brought_bytes c then t.events else []) ++ []) (if brought_bytes c then last.end else None) next.reading) (sym is)
      (subst (λ (l : Waiting). Settles (grown w.reading (bytes ++ [])) (t.events ++ []) l.end next.reading) (sym run)
      (subst (λ xs. Settles (grown w.reading xs) (t.events ++ []) next.end next.reading) (sym (append-nil bytes))
      (subst (λ es. Settles (grown w.reading bytes) es next.end next.reading) (sym (append-nil t.events)) h)));
  reads_on = λ goes_on. ap (λ (n : Waiting). n.reading) run;
  late = [];
  all = subst (λ c. t.events ++ [] ≡ ((if brought_bytes c then t.events else []) ++ []) ++ []) (sym is) (sym (append-nil (t.events ++ [])));
  is_late = inl refl;
  ended = λ coming ends at. let own : came bytes ≡ coming = sym is ∙ cc at in absurd (subst EndsIt (sym own) ends);
}
from_bytes w next last t (other ∷ turns) bytes (Some why) e is h ih run = absurd (let d = run.0 in cc)

-- ---- turns that brought no bytes

closes_ends : (fate : EventFate) → end_with fate true ≡ None → ⊥
closes_ends Written e = cc e
closes_ends Uncounted e = cc e
closes_ends Unmade e = cc e
closes_ends Unwritten e = cc e

-- an answer to a request that took too long ends the connection
late_ends : (e : ConnectionEvent) → e.cause ≡ timed_out → end_of e ≡ None → ⊥
late_ends e is goes_on = closes_ends e.fate (ap (end_with e.fate) (sym (ap closes is)) ∙ goes_on)

module _ (w next : Waiting) (t : Turned) where
  abbrev Quietly : Bool → Type 0
  Quietly between = MatchBool between ((t.events ≡ []) × (next.end ≡ idle_end w.since t.moment t.is_stopped)) (IsLate w.reading w.since t.moment t.events next.end)

  at_most_late : (between : Bool) → Quietly between → IsTimedOut t.events
  at_most_late true h = inl h.0
  at_most_late false h = elim h [
    | inl late ↦ inr (late.1, late.2, late.3)
    | inr early ↦ inl early.1
  ]

  does_nothing : (between : Bool) → Quietly between → next.end ≡ None → t.events ≡ []
  does_nothing true h goes_on = h.0
  does_nothing false h goes_on = elim h [
    | inl late ↦ absurd (late_ends late.1 late.3 (sym late.5 ∙ goes_on))
    | inr early ↦ early.1
  ]

-- of two turns the first leaves the connection open
goes_on : (next last : Waiting) (u : Turned) (turns : List Turned) (why : ServeEnd) → Turns next (u ∷ turns) last → next.end ≡ Some why → ⊥
goes_on next last u turns why run e = let d = run.0 in cc (d, e)

-- what ends the connection whatever its bytes were
ending : (w next last : Waiting) (t : Turned) (c : Coming) (why : ServeEnd) → Rests w.reading → t.coming ≡ c → brought_bytes c ≡ false → piece_of c ≡ [] → t.events ≡ [] → last ≡ next
    → next.end ≡ Some why → end_for c w.reading ≡ Some why → From w (t ∷ []) last
ending w next last t c why rests is no_bytes no_piece no_events run end ends_so =
    let last_end : last.end ≡ Some why = ap (λ (n : Waiting). n.end) run ∙ end in
    from_last w last t rests (ap brought_bytes is ∙ no_bytes) (ap piece_of is ∙ no_piece) (λ e. absurd (let d = sym last_end ∙ e in cc)) (inl no_events)
    (λ coming ends at. last_end ∙ (sym ends_so ∙ ap (λ k. end_for k w.reading) (sym is ∙ at)))

from_by : (w next last : Waiting) (t : Turned) (turns : List Turned) (c : Coming) → t.coming ≡ c → IsTurnBy c w t.moment t.is_stopped t.events next → Turns next turns last
    → Rests w.reading → (Rests next.reading → next.end ≡ None → From next turns last) → From w (t ∷ turns) last
from_by w next last t turns (came bytes) is turn run rests ih = from_bytes w next last t turns bytes next.end refl is turn.1 ih run
from_by w next last t [] nothing is turn run rests ih =
    from_last w last t rests (ap brought_bytes is) (ap piece_of is) (λ e. ap (λ (n : Waiting). n.reading) run ∙ turn.0) (at_most_late w next t (is_between w.reading) turn.2)
    (λ coming ends at. let own : nothing ≡ coming = sym is ∙ at in absurd (subst EndsIt (sym own) ends))
from_by w next last t (u ∷ turns) nothing is turn run rests ih =
    from_idle w next last t u turns (ap brought_bytes is) (ap piece_of is) (does_nothing w next t (is_between w.reading) turn.2 run.0) turn.0 (ih (subst Rests (sym turn.0) rests) run.0)
from_by w next last t [] (unkept bytes) is turn run rests ih = ending w next last t (unkept bytes) NoMemory rests is refl refl turn.1 run turn.2 refl
from_by w next last t [] over is turn run rests ih = ending w next last t over (if is_between w.reading then Closed else Cut) rests is refl refl turn.0 run turn.1 refl
from_by w next last t [] read_failed is turn run rests ih = ending w next last t read_failed ReadFault rests is refl refl turn.0 run turn.1 refl
from_by w next last t [] write_failed is turn run rests ih = ending w next last t write_failed WriteFault rests is refl refl turn.0 run turn.1 refl
from_by w next last t [] dismissed is turn run rests ih = ending w next last t dismissed Quiet rests is refl refl turn.1 run turn.2 refl
from_by w next last t (u ∷ turns) (unkept bytes) is turn run rests ih = absurd (goes_on next last u turns _ run turn.2)
from_by w next last t (u ∷ turns) over is turn run rests ih = absurd (goes_on next last u turns _ run turn.1)
from_by w next last t (u ∷ turns) read_failed is turn run rests ih = absurd (goes_on next last u turns _ run turn.1)
from_by w next last t (u ∷ turns) write_failed is turn run rests ih = absurd (goes_on next last u turns _ run turn.1)
from_by w next last t (u ∷ turns) dismissed is turn run rests ih = absurd (goes_on next last u turns _ run turn.2)

from : (w last : Waiting) (turns : List Turned) → Turns w turns last → Rests w.reading → From w turns last
from w last [] run rests = from_none w last run rests
from w last (t ∷ turns) run rests = from_by w run.1 last t turns t.coming refl run.2 run.3 rests (λ r e. from run.1 last turns run.3 r)

pub turns_are_one_piece : TurnsAreOnePiece
turns_are_one_piece allowed turns s =
    let f = from (came_at allowed s.moment) s.last turns s.run refl in
    record { reading = f.reading; settles = f.settles; reads_on = f.reads_on; late = f.late; all = f.all; is_late = f.is_late; ended = f.ended }
