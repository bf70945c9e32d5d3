-- What is received where many connections are served at once: it goes on with each turn of whichever connection.
-- For the law of `by_turns_is_received`.
use Rattle.std.proofs.Common.{◌≡◌, ◌⊎◌, ℕ, ◌+◌, ◌<◌, ◌≤◌, ◌==◌, ◌&&◌, ◌||◌, Bool, true, false, cond, List, [], ◌∷◌, MatchBool, inl, inr, refl, sym, ap, subst, ◌∙◌, arith, eq-eqb, ne_eqb}
use Rattle.std.proofs.lemmas.Bool.{eqb-true, leb-true, leb-false}
use Rattle.std.specs.Prelude.{if◌then◌else◌, nat_le}
use Rattle.otlp_types.specs.declared.arrival.Arrival.{Arrival}
use Rattle.otlp_types.specs.declared.arrival.Item.{Item}
use Rattle.span_ids.specs.declared.keys.ConnKey.{ConnKey}
use Rattle.lane_queue.specs.Ends.{EndState, TakesItem, IsRefused}
use Rattle.lane_seq.specs.declared.preparing.Conn.{Conn}
use Rattle.lane_seq.specs.declared.reply.Reply.{Reply}
use Rattle.lane_seq.specs.declared.reply.Reply.TheVariants.{Done, Partial, BadData, Busy}
use Rattle.lane_seq.specs.Replies.{IsRefusal, OnReceived}
use Rattle.lane_seq.specs.Pushes.{LaneState}
use Rattle.http_text.specs.declared.allowed.Allowed.{Allowed}
use Rattle.http_lane.specs.Connection.{Submission, SubmitsAll, submissions}
use Rattle.http_lane.specs.Intake.{Intake, Submits, intake, connected}
use Rattle.http_lane.specs.Turns.{came_at}
use Rattle.lane_turns.specs.Acts.{Act, took, had, conn_of, Numbered, numbered, TurnsOf, RunOf, HasNone, LaneDid, acts_uncounted}
use Rattle.lane_turns.proofs.Runs.{lane_kept}
use Rattle.lane_worker.specs.Serving.{LaneAt, lane_at}
use Rattle.journal_theory.proofs.ListFacts.{Each, Each-weaker, tally-append}
use Rattle.world_theory.specs.Step.{is_of_conn}
use Rattle.world_theory.proofs.Received.{on_conn, count_is}
use Rattle.run_weave.specs.Lanes.{LaneLog, log, Came, Logs}
use Rattle.lane_turns.specs.declared.serving.Next.{Next}
use Rattle.lane_turns.specs.declared.serving.Done.{Done as TurnDone}
use Rattle.run_weave.specs.Received.{Keeps, ActsLog, IsReceived, serves_by_turns, receives_by_turns}
use Rattle.run_weave.specs.Workers.{zeros}
use Rattle.run_weave.proofs.Counted.{any_uncounted}
use Rattle.run_weave.proofs.Logs.{OnConn, takes_all, on_their_conn, or_false, or_assoc}
use Rattle.run_weave.proofs.OneByOne.{keeps_first}

abbrev key_of : (lane ordinal : ℕ) → ConnKey
key_of lane ordinal = record { lane = lane; ordinal = ordinal }

by_reply : {F Q : Type 0} (reply : Reply) → OnReceived reply F → (IsRefusal reply → Q) → (F → Q) → Q
by_reply (Done n) f r k = k f
by_reply (Partial n i x) f r k = k f
by_reply (BadData x) f r k = r tt
by_reply Busy f r k = r tt

-- ---- what came is of its connection, and of no other

came_on : (old : Intake (EndState Item)) (s : Submission) (reply : Reply) (came : List Arrival) → Came old s reply came → Each (λ (a : Arrival). a.key.conn ≡ old.conn.key) came
came_on old s (Done n) came c = subst (Each (λ (a : Arrival). a.key.conn ≡ old.conn.key)) (sym c.2) (on_their_conn old.conn.key old.conn.next s.moment _)
came_on old s (Partial n i x) came c = subst (Each (λ (a : Arrival). a.key.conn ≡ old.conn.key)) (sym c.2) (on_their_conn old.conn.key old.conn.next s.moment _)
came_on old s (BadData x) came c = subst (Each (λ (a : Arrival). a.key.conn ≡ old.conn.key)) (sym c) tt
came_on old s Busy came c = subst (Each (λ (a : Arrival). a.key.conn ≡ old.conn.key)) (sym c) tt

of_other : (number k j : ℕ) → (k == j) ≡ false → (xs : List Arrival) → Each (λ (a : Arrival). a.key.conn ≡ key_of number k) xs → on_conn (key_of number j) xs ≡ 0
of_other number k j ne [] h = refl
of_other number k j ne (a ∷ xs) h = omega (arith, of_other number k j ne xs h.1, ap (λ (b : Bool). cond {A = ℕ} b 1 0) is_other)
  where
    both : (b : Bool) → (b && (k == j)) ≡ false
    both true = ne
    both false = refl

    is_other : is_of_conn (key_of number j) a ≡ false
    is_other = ap (λ (c : ConnKey). (c.lane == number) && (c.ordinal == j)) h.0 ∙ both (number == number)

-- ---- the turns of a connection number its spans on

abbrev NumbersOn : (ordinal next : ℕ) → List Act → Type 0
NumbersOn ordinal next [] = Unit {0}
NumbersOn ordinal next (took j moment ∷ acts) = NumbersOn ordinal next acts
NumbersOn ordinal next (had j before after t ∷ acts) = MatchBool (j == ordinal) ((before ≡ next) × NumbersOn ordinal after acts) (NumbersOn ordinal next acts)

turns_number : (k : ℕ) (acts : List Act) (c last : Numbered) → TurnsOf k c acts last → NumbersOn k c.next acts
turns_number k [] c last h = tt
turns_number k (took j moment ∷ acts) c last h = go (j == k) h (λ x. turns_number k acts c last x)
  where
    go : (b : Bool) → MatchBool b ⊥ (TurnsOf k c acts last) → (TurnsOf k c acts last → NumbersOn k c.next acts) → NumbersOn k c.next acts
    go true x f = absurd x
    go false x f = f x
turns_number k (had j before after t ∷ acts) c last h = either (j == k) (λ x. (x.1, turns_number k acts (numbered x.2 after) last x.4)) (λ x. turns_number k acts c last x) h
  where
    either : {A B C D : Type 0} (b : Bool) → (A → C) → (B → D) → MatchBool b A B → MatchBool b C D
    either true f g x = f x
    either false f g x = g x

run_numbers : (g : Allowed) (k : ℕ) (acts : List Act) (last : Numbered) → RunOf g k acts last → NumbersOn k 0 acts
run_numbers g k [] last h = tt
run_numbers g k (took j moment ∷ acts) last h = go (j == k) h (λ x. turns_number k acts (numbered (came_at g moment) 0) last x) (λ x. run_numbers g k acts last x)
  where
    go : {A B C : Type 0} (b : Bool) → MatchBool b A B → (A → C) → (B → C) → C
    go true x f g = f x
    go false x f g = g x
run_numbers g k (had j before after t ∷ acts) last h = go (j == k) h (λ x. run_numbers g k acts last x)
  where
    go : (b : Bool) → MatchBool b ⊥ (RunOf g k acts last) → (RunOf g k acts last → NumbersOn k 0 acts) → MatchBool b ((before ≡ 0) × NumbersOn k after acts) (NumbersOn k 0 acts)
    go true x f = absurd x
    go false x f = f x

none_numbers : (k next : ℕ) (acts : List Act) → HasNone k acts → NumbersOn k next acts
none_numbers k next [] h = tt
none_numbers k next (took j moment ∷ acts) h = none_numbers k next acts h.1
none_numbers k next (had j before after t ∷ acts) h = subst (λ (b : Bool). MatchBool b ((before ≡ next) × NumbersOn k after acts) (NumbersOn k next acts)) (sym h.0) (none_numbers k next acts h.1)

-- a connection is still to be taken, or never is
abbrev IsToCome : (allowed : Allowed) → (ordinal : ℕ) → List Act → Type 0
IsToCome g k acts = ((last : Numbered) × RunOf g k acts last) ⊎ HasNone k acts

to_come_taken : (g : Allowed) (k j moment : ℕ) (acts : List Act) → (j == k) ≡ false → IsToCome g k (took j moment ∷ acts) → IsToCome g k acts
to_come_taken g k j moment acts ne (inl h) = inl (h.0, other_part _ _ (j == k) ne h.1)
  where
    other_part : (A B : Type 0) (b : Bool) → b ≡ false → MatchBool b A B → B
    other_part A B true e x = absurd (cc e)
    other_part A B false e x = x
to_come_taken g k j moment acts ne (inr h) = inr h.1

to_come_had : (g : Allowed) (k j before after : ℕ) (t : _) (acts : List Act) → IsToCome g k (had j before after t ∷ acts) → ((j == k) ≡ false) × IsToCome g k acts
to_come_had g k j before after t acts (inl h) = go (j == k) refl h.1
  where
    go : (b : Bool) → (j == k) ≡ b → MatchBool b ⊥ (RunOf g k acts h.0) → ((j == k) ≡ false) × IsToCome g k acts
    go true is x = absurd x
    go false is x = (is, inl (h.0, x))
to_come_had g k j before after t acts (inr h) = (h.0, inr h.1)

-- ---- turn by turn

module _ (g : Allowed) (capacity number : ℕ) (first : List (EndState Item)) where
  others_same : (k j : ℕ) → (k == j) ≡ false → (ss : List Submission) (old new : LaneLog) → old.at.conn.key ≡ key_of number k → SubmitsAll (Logs capacity) old ss new
      → on_conn (key_of number j) new.received ≡ on_conn (key_of number j) old.received
  others_same k j ne [] old new e p = ap (λ (l : LaneLog). on_conn (key_of number j) l.received) p
  others_same k j ne (s ∷ ss) old new e p =
      let one = p.1 in
      let same_key : p.0.at.conn.key ≡ old.at.conn.key = by_reply s.reply one.0.received (λ r. ap (λ (c : Conn). c.key) (one.0.refused r).1) (λ f. ap (λ (c : Conn). c.key) f.3) in
      let of_it = Each-weaker (λ (a : Arrival). a.key.conn ≡ old.at.conn.key) (λ (a : Arrival). a.key.conn ≡ key_of number k) one.1 (λ a is. is ∙ e) (came_on old.at s s.reply one.1 one.2) in
      others_same k j ne ss p.0 new (same_key ∙ e) p.2
      ∙ (ap (λ (z : List Arrival). on_conn (key_of number j) z) one.3 ∙ omega (arith, tally-append (is_of_conn (key_of number j)) old.received one.1, of_other number k j ne one.1 of_it))

  submitted_connected : (ss : List Submission) (old new : Intake (EndState Item)) → SubmitsAll (Submits (TakesItem capacity) (IsRefused capacity)) old ss new → new.lane.connected ≡ old.lane.connected
  submitted_connected ss old new h = ap (λ (l : LaneState (EndState Item)). l.connected) (lane_kept (TakesItem capacity) (IsRefused capacity) ss old new h)

  -- a lane between two turns
  record Amid (is_full : Bool) (at : LaneAt) (next : ℕ → ℕ) (received : List Arrival) : Type 0 where
    pub keeps : Keeps capacity number first is_full received at.lane.ports at.counted
    pub lane_is : at.lane.number ≡ number
    pub below : Each (λ (a : Arrival). a.key.conn.ordinal < at.lane.connected) received
    pub next_is : (k : ℕ) → next k ≡ on_conn (key_of number k) received

  own_part : (A B : Type 0) (b : Bool) → b ≡ true → MatchBool b A B → A
  own_part A B true e x = x
  own_part A B false e x = absurd (cc e)

  numbers_then : (j a n : ℕ) (before : ℕ) (acts : List Act) (b : Bool) → MatchBool b ((before ≡ n) × NumbersOn j a acts) (NumbersOn j n acts) → NumbersOn j (if b then a else n) acts
  numbers_then j a n before acts true x = x.1
  numbers_then j a n before acts false x = x

  goes : (acts : List Act) (is_full : Bool) (at last : LaneAt) (next : ℕ → ℕ) (received : List Arrival) → Amid is_full at next received
      → ((k : ℕ) → NumbersOn k (next k) acts) → ((k : ℕ) → at.lane.connected ≤ k → IsToCome g k acts)
      → LaneDid (Submits (TakesItem capacity) (IsRefused capacity)) number at acts last
      → (after : List Arrival) × ActsLog capacity number at received acts last after × Keeps capacity number first (is_full || acts_uncounted acts) after last.lane.ports last.counted
  goes [] is_full at last next received b numbers to_come did = (
    received,
    (did, refl),
    subst (λ (full : Bool). Keeps capacity number first full received last.lane.ports last.counted) (sym (or_false is_full)) (subst (λ (l : LaneAt). Keeps capacity number first is_full received l.lane.ports l.counted) (sym did) b.keeps),
  )
  goes (took k moment ∷ acts) is_full at last next received b numbers to_come did =
      let rest = goes acts is_full (lane_at (connected at.lane) at.counted) last next received began numbers later did.1 in (rest.0, (did.0, rest.1), rest.2)
    where
      began : Amid is_full (lane_at (connected at.lane) at.counted) next received
      began = record {
        keeps = b.keeps;
        lane_is = b.lane_is;
        below = Each-weaker (λ (a : Arrival). a.key.conn.ordinal < at.lane.connected) (λ (a : Arrival). a.key.conn.ordinal < at.lane.connected + 1) received (λ a l. omega (arith, l)) b.below;
        next_is = b.next_is;
      }

      later : (j : ℕ) → at.lane.connected + 1 ≤ j → IsToCome g j acts
      later j past = to_come_taken g j k moment acts (ne_eqb k j (λ e. absurd (omega (arith, past, did.0, e)))) (to_come j (omega (arith, past)))
  goes (had k before after t ∷ acts) is_full at last next received b numbers to_come did =
      let rest = goes acts (is_full || any_uncounted (submissions t.events)) mid last (λ j. if k == j then after else next j) all.0 amid (λ j. numbers_then j after (next j) before acts (k == j) (numbers j)) later did.2 in (
        rest.0,
        (mid, all.0, all.1, rest.1),
        subst (λ (full : Bool). Keeps capacity number first full rest.0 last.lane.ports last.counted) (or_assoc is_full (any_uncounted (submissions t.events)) (acts_uncounted acts)) rest.2,
      )
    where
      mid : LaneAt
      mid = did.0

      current : k < at.lane.connected
      current = go (nat_le at.lane.connected k) refl
        where
          go : (b : Bool) → nat_le at.lane.connected k ≡ b → k < at.lane.connected
          go true is = let apart = (to_come_had g k k before after t acts (to_come k (leb-true at.lane.connected k is))).0 in absurd (cc (sym apart ∙ eq-eqb k k refl))
          go false is = omega (arith, leb-false at.lane.connected k is)

      start : OnConn capacity number first is_full (log (intake at.lane (conn_of number k before) at.counted) received)
      start = record {
        keeps = b.keeps;
        lane_is = b.lane_is;
        key_is = refl;
        next_is = (own_part _ _ (k == k) (eq-eqb k k refl) (numbers k)).0 ∙ (b.next_is k ∙ count_is (key_of number k) received);
        current = current;
        below = b.below;
      }

      all : (got : List Arrival) × SubmitsAll (Logs capacity) (log (intake at.lane (conn_of number k before) at.counted) received) (submissions t.events) (log (intake mid.lane (conn_of number k after) mid.counted) got)
          × OnConn capacity number first (is_full || any_uncounted (submissions t.events)) (log (intake mid.lane (conn_of number k after) mid.counted) got)
      all = takes_all capacity number first is_full (log (intake at.lane (conn_of number k before) at.counted) received) (submissions t.events) (intake mid.lane (conn_of number k after) mid.counted) start did.1

      next_of : (j : ℕ) (same : Bool) → (k == j) ≡ same → (if same then after else next j) ≡ on_conn (key_of number j) all.0
      next_of j true e = all.2.next_is ∙ (sym (count_is (key_of number k) all.0) ∙ ap (λ i. on_conn (key_of number i) all.0) (eqb-true k j e))
      next_of j false e = b.next_is j ∙ sym (others_same k j e (submissions t.events) (log (intake at.lane (conn_of number k before) at.counted) received) (log (intake mid.lane (conn_of number k after) mid.counted) all.0) refl all.1)

      amid : Amid (is_full || any_uncounted (submissions t.events)) mid (λ j. if k == j then after else next j) all.0
      amid = record { keeps = all.2.keeps; lane_is = all.2.lane_is; below = all.2.below; next_is = λ j. next_of j (k == j) refl }

      same_connected : mid.lane.connected ≡ at.lane.connected
      same_connected = submitted_connected (submissions t.events) (intake at.lane (conn_of number k before) at.counted) (intake mid.lane (conn_of number k after) mid.counted) did.1

      later : (j : ℕ) → mid.lane.connected ≤ j → IsToCome g j acts
      later j past = (to_come_had g j k before after t acts (to_come j (omega (arith, past, same_connected)))).1

module _ {V D : Type 0} (allowed_of : V → Allowed) (driver_of : V → D) (asks : D → Next → ℕ → List ℕ → D → Type 0) (hears : D → TurnDone → List ℕ → D → Type 0) where
  pub by_turns : IsReceived (serves_by_turns allowed_of driver_of asks hears) (receives_by_turns allowed_of driver_of asks hears)
  by_turns keeps_doubles capacity number ports old new last is_full (h, driven) =
      let all = goes (allowed_of old) capacity number ports h.acts false (lane_at (record { number = number; connected = 0; ports = ports; keeps_doubles = keeps_doubles }) zeros) last (λ k. 0) [] (record { keeps = keeps_first capacity number ports; lane_is = refl; below = tt; next_is = λ k. refl }) numbers to_come h.fits.did in (
        all.0,
        (record { acts = h.acts; open_at = h.open_at; fits = h.fits; logged = all.1; full = h.full; all_over = h.all_over }, driven),
        subst (λ (full : Bool). Keeps capacity number ports full all.0 last.lane.ports last.counted) h.full all.2,
      )
    where
      to_come : (k : ℕ) → 0 ≤ k → IsToCome (allowed_of old) k h.acts
      to_come k from = go (nat_le last.lane.connected k) refl
        where
          go : (b : Bool) → nat_le last.lane.connected k ≡ b → IsToCome (allowed_of old) k h.acts
          go true is = inr (h.fits.fresh k (leb-true last.lane.connected k is))
          go false is = let run = h.fits.runs k (omega arith) (omega (arith, leb-false last.lane.connected k is)) in inl (run.last, run.run)

      numbers : (k : ℕ) → NumbersOn k 0 h.acts
      numbers k = go (to_come k (omega arith))
        where
          go : IsToCome (allowed_of old) k h.acts → NumbersOn k 0 h.acts
          go (inl run) = run_numbers (allowed_of old) k h.acts run.0 run.1
          go (inr none) = none_numbers k 0 h.acts none
