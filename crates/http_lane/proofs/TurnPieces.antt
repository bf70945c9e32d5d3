-- It doesn't matter in which turns the bytes come. For the laws of turns.
use Rattle.std.specs.Prelude.{MatchBool}
use Rattle.std.proofs.Common.{◌≡◌, ℕ, Bool, true, false, List, [], ◌∷◌, ◌++◌, Option, Some, None, refl, ap, sym, ◌∙◌, subst, append-nil, inl, inr, ◌⊎◌}
use Rattle.http_lane.specs.declared.answer.ServeEnd.{ServeEnd}
use Rattle.http_lane.specs.Connection.{ConnectionEvent, timed_out, grown, is_between, Rests, Settles}
use Rattle.http_lane.specs.Turns.{Waiting, Turned, Turns, IsTurnBy, IsLate, came, nothing, idle_end}
use Rattle.http_lane.specs.TurnAgreement.{BringPieces, LastCame, EndsByBytes, piece_of, bytes_that_came, events_then}
use Rattle.http_lane.proofs.PieceLemmas.{settles_join, settles_rest, grown_none, grown_twice}
use Rattle.http_lane.proofs.TurnLemmas.{closing}

-- a turn that brought nothing, and after which the connection is open, did nothing
idle_by : (w next : Waiting) (t : Turned) (between : Bool) → is_between w.reading ≡ between
    → MatchBool between ((t.events ≡ []) × (next.end ≡ idle_end w.since t.moment t.is_stopped)) (IsLate w.reading w.since t.moment t.events next.end)
    → next.end ≡ None → t.events ≡ []
idle_by w next t true b h is_open = h.0
idle_by w next t false b h is_open = elim h [
  | inl late ↦ absurd (closing late.1 timed_out late.3 refl (sym late.5 ∙ is_open))
  | inr early ↦ early.1
]

idle : (w next : Waiting) (t : Turned) → IsTurnBy nothing w t.moment t.is_stopped t.events next → next.end ≡ None → t.events ≡ []
idle w next t h is_open = idle_by w next t (is_between w.reading) refl h.2 is_open

-- a turn that brought nothing leaves the connection open, where bytes ended it or nothing did
went_on : (next last : Waiting) (t : Turned) (turns : List Turned) (o : Option ServeEnd) → next.end ≡ o → t.coming ≡ nothing → EndsByBytes (t ∷ turns) last → Turns next turns last → next.end ≡ None
went_on next last t turns None e only ends run = e
went_on next last t [] (Some why) e only (inl is_open) run = ap (λ (w : Waiting). w.end) (sym run) ∙ is_open
went_on next last t [] (Some why) e only (inr bytes) run = absurd (let d = sym only ∙ bytes.1 in cc)
went_on next last t (other ∷ turns) (Some why) e only ends run = run.0

-- so it is of the turns behind it
ends_on : (next last : Waiting) (t : Turned) (turns : List Turned) → EndsByBytes (t ∷ turns) last → Turns next turns last → next.end ≡ None → EndsByBytes turns last
ends_on next last t turns (inl is_open) run goes_on = inl is_open
ends_on next last t [] (inr bytes) run goes_on = inl (ap (λ (w : Waiting). w.end) run ∙ goes_on)
ends_on next last t (other ∷ turns) (inr bytes) run goes_on = inr bytes

one_turn : (w next last : Waiting) (t : Turned) (turns : List Turned) (bytes : List ℕ) (o : Option ServeEnd) → next.end ≡ o
    → Settles (grown w.reading bytes) t.events next.end next.reading
    → ((rests : Rests next.reading) → next.end ≡ None → Settles (grown next.reading (bytes_that_came turns)) (events_then turns) last.end last.reading)
    → Turns next turns last
    → Settles (grown w.reading (bytes ++ bytes_that_came turns)) (t.events ++ events_then turns) last.end last.reading
one_turn w next last t turns bytes None e h ih run =
    let h' = subst (λ o. Settles (grown w.reading bytes) t.events o next.reading) e h in
    let joined = settles_join (grown w.reading bytes) (bytes_that_came turns) t.events (events_then turns) next.reading last.reading last.end h' (ih (settles_rest _ t.events next.reading h') e) in
    subst (λ r. Settles r (t.events ++ events_then turns) last.end last.reading) (grown_twice w.reading bytes (bytes_that_came turns)) joined
one_turn w next last t [] bytes (Some why) e h ih run =
    subst (λ (l : Waiting). Settles (grown w.reading (bytes ++ [])) (t.events ++ []) l.end l.reading) (sym run)
    (subst (λ xs. Settles (grown w.reading xs) (t.events ++ []) next.end next.reading) (sym (append-nil bytes))
    (subst (λ es. Settles (grown w.reading bytes) es next.end next.reading) (sym (append-nil t.events)) h))
one_turn w next last t (other ∷ turns) bytes (Some why) e h ih run = absurd (let d = run.0 in cc)

-- however the bytes were cut into turns, the events are those that one read of them all brings
pub turns_in_one_piece : (w last : Waiting) (turns : List Turned) → BringPieces turns → EndsByBytes turns last → Turns w turns last → Rests w.reading → w.end ≡ None
    → Settles (grown w.reading (bytes_that_came turns)) (events_then turns) last.end last.reading
turns_in_one_piece w last [] only ends run rests goes_on =
    subst (λ (l : Waiting). Settles (grown w.reading []) [] l.end l.reading) (sym run)
    (subst (λ r. Settles r [] w.end w.reading) (sym (grown_none w.reading)) (rests, goes_on, refl))
turns_in_one_piece w last (t ∷ turns) (inl only, others) ends run rests goes_on =
    let next = run.1 in
    let read : IsTurnBy (came only.0) w t.moment t.is_stopped t.events next = subst (λ c. IsTurnBy c w t.moment t.is_stopped t.events next) only.1 run.2 in
    let whole = one_turn w next last t turns only.0 next.end refl read.1 (λ r e. turns_in_one_piece next last turns others (ends_on next last t turns ends run.3 e) run.3 r e) run.3 in
    subst (λ c. Settles (grown w.reading (piece_of c ++ bytes_that_came turns)) (t.events ++ events_then turns) last.end last.reading) (sym only.1) whole
turns_in_one_piece w last (t ∷ turns) (inr only, others) ends run rests goes_on =
    let next = run.1 in
    let turn : IsTurnBy nothing w t.moment t.is_stopped t.events next = subst (λ c. IsTurnBy c w t.moment t.is_stopped t.events next) only run.2 in
    let is_open : next.end ≡ None = went_on next last t turns next.end refl only ends run.3 in
    let same : next.reading ≡ w.reading = turn.0 in
    let whole = turns_in_one_piece next last turns others (ends_on next last t turns ends run.3 is_open) run.3 (subst Rests (sym same) rests) is_open in
    subst (λ c. Settles (grown w.reading (piece_of c ++ bytes_that_came turns)) (t.events ++ events_then turns) last.end last.reading) (sym only)
    (subst (λ es. Settles (grown w.reading (bytes_that_came turns)) (es ++ events_then turns) last.end last.reading) (sym (idle w next t turn is_open))
    (subst (λ r. Settles (grown r (bytes_that_came turns)) (events_then turns) last.end last.reading) same whole))
