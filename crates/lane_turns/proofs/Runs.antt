-- One act more of a lane: what it does to the runs of its connections.
-- For the clause `fits` of `came`.
use Rattle.std.proofs.Common.{◌≡◌, ◌≢◌, ◌∙◌, ◌⊎◌, ⊎_elim, ℕ, ◌==◌, Bool, true, false, List, [], ◌∷◌, ◌++◌, Option, Some, None, MatchBool, refl, sym, ap, subst, inl, inr, eq-eqb, ne_eqb, arith, ◌+◌, ◌<◌, ◌≤◌}
use Rattle.std.proofs.lemmas.Bool.{eqb-true, eqb-false}
use Rattle.lane_seq.specs.declared.preparing.Conn.{Conn}
use Rattle.lane_seq.specs.declared.reply.Reply.{Reply}
use Rattle.lane_seq.specs.declared.reply.Reply.TheVariants.{Done, Partial, BadData, Busy}
use Rattle.lane_seq.specs.Replies.{OnReceived, IsRefusal}
use Rattle.lane_seq.specs.Pushes.{LaneState}
use Rattle.otlp_types.specs.declared.arrival.Item.{Item}
use Rattle.http_text.specs.declared.allowed.Allowed.{Allowed}
use Rattle.http_lane.specs.declared.turns.Exchange.{Exchange}
use Rattle.http_lane.specs.Connection.{ConnectionEvent, Submission, SubmitsAll, submissions}
use Rattle.http_lane.specs.Intake.{Intake, intake, Submits, connected}
use Rattle.http_lane.specs.Requests.{Awaits}
use Rattle.http_lane.specs.Turns.{Waiting, came_at, Coming, Turned, turned, IsTurn, IsTurnBy, AwaitsBy}
use Rattle.lane_turns.specs.Acts.{Act, took, had, of_act, LaneNow, lane_now, conn_of, Numbered, numbered, TurnsOf, RunOf, HasNone, LaneDid, IsOpen, HasRun, Fits}

-- ---- what is submitted leaves the connection's number

by_reply : {F Q : Type 0} (reply : Reply) → OnReceived reply F → (IsRefusal reply → Q) → (F → Q) → Q
by_reply (Done n) f r k = k f
by_reply (Partial n i x) f r k = k f
by_reply (BadData x) f r k = r tt
by_reply Busy f r k = r tt

module _ {P : Type 0} (takes : P → Item → P → Type 0) (refuses : P → P → Type 0) where
  key_kept : (s : Submission) (old new : Intake P) → Submits takes refuses old s new → new.conn.key ≡ old.conn.key
  key_kept s old new p = by_reply s.reply p.received (λ r. ap (λ (c : Conn). c.key) (p.refused r).1) (λ f. ap (λ (c : Conn). c.key) f.3)

  pub keys_kept : (ss : List Submission) (old new : Intake P) → SubmitsAll (Submits takes refuses) old ss new → new.conn.key ≡ old.conn.key
  keys_kept [] old new p = ap (λ (i : Intake P). i.conn.key) p
  keys_kept (s ∷ ss) old new p = keys_kept ss p.0 new p.2 ∙ key_kept s old p.0 p.1

  lane_one : (s : Submission) (old new : Intake P) → Submits takes refuses old s new → record new.lane { ports = [] } ≡ record old.lane { ports = [] }
  lane_one s old new p = ap (λ (l : LaneState P). record l { ports = [] }) p.lane

  lane_all : (ss : List Submission) (old new : Intake P) → SubmitsAll (Submits takes refuses) old ss new → record new.lane { ports = [] } ≡ record old.lane { ports = [] }
  lane_all [] old new p = ap (λ (i : Intake P). record i.lane { ports = [] }) p
  lane_all (s ∷ ss) old new p = lane_all ss p.0 new p.2 ∙ lane_one s old p.0 p.1

  -- but for its ports
  pub lane_kept : (ss : List Submission) (old new : Intake P) → SubmitsAll (Submits takes refuses) old ss new → record new.lane { ports = [] } ≡ record old.lane { ports = [] }
  lane_kept = lane_all

pub one_of : {X : Type 0} {x y : X} → Some x ≡ Some y → x ≡ y
one_of e = cc e

-- ---- runs

pub of_own : (A B : Type 0) (b : Bool) → b ≡ true → A → MatchBool b A B
of_own A B true e a = a
of_own A B false e a = absurd cc

pub of_other : (A B : Type 0) (b : Bool) → b ≡ false → B → MatchBool b A B
of_other A B true e x = absurd cc
of_other A B false e x = x

either_way : {A B C D : Type 0} (b : Bool) → (A → C) → (B → D) → MatchBool b A B → MatchBool b C D
either_way true f g x = f x
either_way false f g x = g x

not_own : (A B : Type 0) (b : Bool) → b ≡ true → MatchBool b ⊥ B → A
not_own A B true e x = absurd x
not_own A B false e x = absurd cc

-- one turn of the connection more
turns_more : (k : ℕ) (acts : List Act) (c mid : Numbered) (j after : ℕ) (t : Turned) (next : Waiting) → (j == k) ≡ true → mid.waiting.end ≡ None → IsTurn mid.waiting t next
    → TurnsOf k c acts mid → TurnsOf k c (acts ++ had j mid.next after t ∷ []) (numbered next after)
turns_more k [] c mid j after t next own ends turn r = subst (λ (d : Numbered). TurnsOf k d (had j mid.next after t ∷ []) (numbered next after)) r (of_own _ _ (j == k) own (ends, refl, next, turn, refl))
turns_more k (took i m ∷ acts) c mid j after t next own ends turn r = either_way (i == k) (λ x. x) (λ x. turns_more k acts c mid j after t next own ends turn x) r
turns_more k (had i b a u ∷ acts) c mid j after t next own ends turn r =
    either_way (i == k) (λ x. (x.0, x.1, x.2, x.3, turns_more k acts (numbered x.2 a) mid j after t next own ends turn x.4)) (λ x. turns_more k acts c mid j after t next own ends turn x) r

pub run_more : (g : Allowed) → (k : ℕ) (acts : List Act) (mid : Numbered) (j after : ℕ) (t : Turned) (next : Waiting) → (j == k) ≡ true → mid.waiting.end ≡ None → IsTurn mid.waiting t next
    → RunOf g k acts mid → RunOf g k (acts ++ had j mid.next after t ∷ []) (numbered next after)
run_more g k [] mid j after t next own ends turn r = absurd r
run_more g k (took i m ∷ acts) mid j after t next own ends turn r = either_way (i == k) (λ x. turns_more k acts (numbered (came_at g m) 0) mid j after t next own ends turn x) (λ x. run_more g k acts mid j after t next own ends turn x) r
run_more g k (had i b a u ∷ acts) mid j after t next own ends turn r = either_way (i == k) (λ x. x) (λ x. run_more g k acts mid j after t next own ends turn x) r

-- an act of another connection
turns_still : (k : ℕ) (acts : List Act) (c mid : Numbered) (a : Act) → (of_act a == k) ≡ false → TurnsOf k c acts mid → TurnsOf k c (acts ++ a ∷ []) mid
turns_still k [] c mid (took j m) other r = of_other _ _ (j == k) other r
turns_still k [] c mid (had j b e t) other r = of_other _ _ (j == k) other r
turns_still k (took i m ∷ acts) c mid a other r = either_way (i == k) (λ x. x) (λ x. turns_still k acts c mid a other x) r
turns_still k (had i b e u ∷ acts) c mid a other r = either_way (i == k) (λ x. (x.0, x.1, x.2, x.3, turns_still k acts (numbered x.2 e) mid a other x.4)) (λ x. turns_still k acts c mid a other x) r

run_still : (g : Allowed) → (k : ℕ) (acts : List Act) (mid : Numbered) (a : Act) → (of_act a == k) ≡ false → RunOf g k acts mid → RunOf g k (acts ++ a ∷ []) mid
run_still g k [] mid a other r = absurd r
run_still g k (took i m ∷ acts) mid a other r = either_way (i == k) (λ x. turns_still k acts (numbered (came_at g m) 0) mid a other x) (λ x. run_still g k acts mid a other x) r
run_still g k (had i b e u ∷ acts) mid a other r = either_way (i == k) (λ x. x) (λ x. run_still g k acts mid a other x) r

none_still : (k : ℕ) (acts : List Act) (a : Act) → (of_act a == k) ≡ false → HasNone k acts → HasNone k (acts ++ a ∷ [])
none_still k [] a other h = (other, tt)
none_still k (b ∷ acts) a other h = (h.0, none_still k acts a other h.1)

-- the connection was taken
run_first : (g : Allowed) → (k moment : ℕ) (acts : List Act) → HasNone k acts → RunOf g k (acts ++ took k moment ∷ []) (numbered (came_at g moment) 0)
run_first g k moment [] h = of_own _ _ (k == k) (eq-eqb k k refl) refl
run_first g k moment (took i m ∷ acts) h = of_other _ _ (i == k) h.0 (run_first g k moment acts h.1)
run_first g k moment (had i b a u ∷ acts) h = of_other _ _ (i == k) h.0 (run_first g k moment acts h.1)

module _ {P : Type 0} (submits : Intake P → Submission → Intake P → Type 0) (number : ℕ) where
  did_more : (acts : List Act) (old mid new : LaneNow P) (ordinal before after : ℕ) (t : Turned)
      → SubmitsAll submits (intake mid.lane (conn_of number ordinal before) mid.counted) (submissions t.events) (intake new.lane (conn_of number ordinal after) new.counted)
      → LaneDid submits number old acts mid → LaneDid submits number old (acts ++ had ordinal before after t ∷ []) new
  did_more [] old mid new ordinal before after t s d = subst (λ (l : LaneNow P). LaneDid submits number l (had ordinal before after t ∷ []) new) d (new, s, refl)
  did_more (took j m ∷ acts) old mid new ordinal before after t s d = (d.0, did_more acts (lane_now (connected old.lane) old.counted) mid new ordinal before after t s d.1)
  did_more (had j b a u ∷ acts) old mid new ordinal before after t s d = (d.0, d.1, did_more acts d.0 mid new ordinal before after t s d.2)

  did_take : (acts : List Act) (old mid : LaneNow P) (moment : ℕ) → LaneDid submits number old acts mid → LaneDid submits number old (acts ++ took mid.lane.connected moment ∷ []) (lane_now (connected mid.lane) mid.counted)
  did_take [] old mid moment d = subst (λ (l : LaneNow P). LaneDid submits number l (took mid.lane.connected moment ∷ []) (lane_now (connected mid.lane) mid.counted)) d (refl, refl)
  did_take (took j m ∷ acts) old mid moment d = (d.0, did_take acts (lane_now (connected old.lane) old.counted) mid moment d.1)
  did_take (had j b a u ∷ acts) old mid moment d = (d.0, d.1, did_take acts d.0 mid moment d.2)

same_or_not : (k key : ℕ) → (k ≡ key) ⊎ (k ≢ key)
same_or_not k key = go (k == key) refl
  where
    go : (b : Bool) → (k == key) ≡ b → (k ≡ key) ⊎ (k ≢ key)
    go true e = inl (eqb-true k key e)
    go false e = inr (eqb-false k key e)

-- what the turn left at the key: nothing, or the connection, which goes on
pub record Left (g : Allowed) (conn : Conn) (next : Waiting) (y : Exchange) : Type 0 where
  pub conn_is : y.conn ≡ conn
  pub goes_on : next.end ≡ None
  pub awaits : AwaitsBy g Awaits y.engine next.reading
  pub since : y.since ≡ next.since

-- ---- a turn of the connection at a key

module _ {P : Type 0} (takes : P → Item → P → Type 0) (refuses : P → P → Type 0) (g : Allowed) (number : ℕ) (first : LaneNow P) (before after : (key : ℕ) → Option Exchange) (acts : List Act) (now : LaneNow P)
    (key : ℕ) (x : Exchange) (at_key : before key ≡ Some x) (others : (other : ℕ) → other ≢ key → after other ≡ before other) where
  pub fits_turn : (f : Fits (Submits takes refuses) g number first before acts now) (coming : Coming) (moment : ℕ) (is_stopped : Bool) (events : List ConnectionEvent) (next : Waiting) (conn : Conn) (lane : LaneState P) (counted : List ℕ)
      → IsTurnBy coming (f.each key x at_key).waiting moment is_stopped events next
      → SubmitsAll (Submits takes refuses) (intake now.lane x.conn now.counted) (submissions events) (intake lane conn counted)
      → ((y : Exchange) → after key ≡ Some y → Left g conn next y)
      → (next.end ≡ None → (y : Exchange) × (after key ≡ Some y))
      → Fits (Submits takes refuses) g number first after (acts ++ had x.conn.key.ordinal x.conn.next conn.next (turned coming moment is_stopped events) ∷ []) (lane_now lane counted)
  fits_turn f coming moment is_stopped events next conn lane counted turn did left stays = record {
    did = did_more (Submits takes refuses) number acts first now (lane_now lane counted) mine x.conn.next conn.next t
        (subst (λ (c : Conn). SubmitsAll (Submits takes refuses) (intake now.lane (conn_of number mine x.conn.next) now.counted) (submissions events) (intake lane c counted)) same_conn
        (subst (λ (c : Conn). SubmitsAll (Submits takes refuses) (intake now.lane c now.counted) (submissions events) (intake lane conn counted)) o.of_lane did)) f.did;
    each = λ k y e. ⊎_elim (λ (same : k ≡ key). own y (subst (λ n. after n ≡ Some y) same e)) (λ (other : k ≢ key). kept k y other (sym (others k other) ∙ e)) (same_or_not k key);
    apart = λ k j y z e h ne. let p = comes_from k y e in let q = comes_from j z h in λ same. f.apart k j p.0 q.0 p.1 q.1 ne (p.2 ∙ (same ∙ sym q.2));
    runs = λ ordinal from below. run_after ordinal (f.runs ordinal from (subst (λ n. ordinal < n) same_connected below)) (same_or_not ordinal mine);
    fresh = λ ordinal past. none_still ordinal acts a (ne_eqb mine ordinal (λ e. absurd (omega (arith, o.below, past, same_connected, e)))) (f.fresh ordinal (subst (λ n. n ≤ ordinal) same_connected past));
    number_is = ap (λ (l : LaneState P). l.number) (lane_kept takes refuses (submissions events) (intake now.lane x.conn now.counted) (intake lane conn counted) did) ∙ f.number_is;
  }
    where
      o : IsOpen (Submits takes refuses) g number acts now x
      o = f.each key x at_key

      t : Turned
      t = turned coming moment is_stopped events

      mine : ℕ
      mine = x.conn.key.ordinal

      a : Act
      a = had mine x.conn.next conn.next t

      same_key : conn.key ≡ x.conn.key
      same_key = keys_kept takes refuses (submissions events) (intake now.lane x.conn now.counted) (intake lane conn counted) did

      same_connected : lane.connected ≡ now.lane.connected
      same_connected = ap (λ (l : LaneState P). l.connected) (lane_kept takes refuses (submissions events) (intake now.lane x.conn now.counted) (intake lane conn counted) did)

      lane_is : x.conn.key.lane ≡ number
      lane_is = ap (λ (c : Conn). c.key.lane) o.of_lane

      same_conn : conn ≡ conn_of number mine conn.next
      same_conn = λ i. record { key = record { lane = (ap (λ k. k.lane) same_key ∙ lane_is) i; ordinal = ap (λ k. k.ordinal) same_key i }; next = conn.next }

      run_own : RunOf g mine (acts ++ a ∷ []) (numbered next conn.next)
      run_own = run_more g mine acts (numbered o.waiting x.conn.next) mine conn.next t next (eq-eqb mine mine refl) o.goes_on turn o.run

      of_y : (y : Exchange) → after key ≡ Some y → mine ≡ y.conn.key.ordinal
      of_y y e = sym (ap (λ k. k.ordinal) same_key) ∙ sym (ap (λ (c : Conn). c.key.ordinal) (left y e).conn_is)

      own : (y : Exchange) → after key ≡ Some y → IsOpen (Submits takes refuses) g number (acts ++ a ∷ []) (lane_now lane counted) y
      own y e =
          let l = left y e in
          let ordinal : mine ≡ y.conn.key.ordinal = of_y y e in
          let next_is : conn.next ≡ y.conn.next = sym (ap (λ (c : Conn). c.next) l.conn_is) in
          record {
            waiting = next;
            run = subst (λ k. RunOf g k (acts ++ a ∷ []) (numbered next y.conn.next)) ordinal (subst (λ n. RunOf g mine (acts ++ a ∷ []) (numbered next n)) next_is run_own);
            goes_on = l.goes_on;
            awaits = l.awaits;
            since = l.since;
            of_lane = l.conn_is ∙ (same_conn ∙ λ i. conn_of number (ordinal i) (next_is i));
            below = omega (arith, o.below, same_connected, ordinal);
          }

      kept : (k : ℕ) (y : Exchange) → k ≢ key → before k ≡ Some y → IsOpen (Submits takes refuses) g number (acts ++ a ∷ []) (lane_now lane counted) y
      kept k y other e =
          let p = f.each k y e in
          record {
            waiting = p.waiting;
            run = run_still g y.conn.key.ordinal acts (numbered p.waiting y.conn.next) a (ne_eqb mine y.conn.key.ordinal (f.apart key k x y at_key e (λ same. other (sym same)))) p.run;
            goes_on = p.goes_on;
            awaits = p.awaits;
            since = p.since;
            of_lane = p.of_lane;
            below = omega (arith, p.below, same_connected);
          }

      comes_from : (k : ℕ) (y : Exchange) → after k ≡ Some y → (z : Exchange) × (before k ≡ Some z) × (z.conn.key.ordinal ≡ y.conn.key.ordinal)
      comes_from k y e = ⊎_elim
          (λ (same : k ≡ key). (x, ap before same ∙ at_key, of_y y (subst (λ n. after n ≡ Some y) same e)))
          (λ (other : k ≢ key). (y, sym (others k other) ∙ e, refl))
          (same_or_not k key)

      run_after : (ordinal : ℕ) → HasRun (Submits takes refuses) g number before acts ordinal → (ordinal ≡ mine) ⊎ (ordinal ≢ mine) → HasRun (Submits takes refuses) g number after (acts ++ a ∷ []) ordinal
      run_after ordinal r (inl same) = record {
        last = numbered next conn.next;
        run = subst (λ k. RunOf g k (acts ++ a ∷ []) (numbered next conn.next)) (sym same) run_own;
        is_open = λ e. let y = stays e in (key, y.0, y.1, sym (of_y y.0 y.1) ∙ sym same);
      }
      run_after ordinal r (inr other) = record {
        last = r.last;
        run = run_still g ordinal acts r.last a (ne_eqb mine ordinal (λ e. other (sym e))) r.run;
        is_open = λ e.
            let p = r.is_open e in
            (p.0, p.1, others p.0 (λ same. other (sym p.3 ∙ ap (λ (y : Exchange). y.conn.key.ordinal) (let both = sym p.2 ∙ (ap before same ∙ at_key) in one_of both))) ∙ p.2, p.3);
      }

-- ---- a connection is taken

module _ {P : Type 0} (takes : P → Item → P → Type 0) (refuses : P → P → Type 0) (g : Allowed) (number : ℕ) (first : LaneNow P) (before after : (key : ℕ) → Option Exchange) (acts : List Act) (now : LaneNow P)
    (key : ℕ) (vacant : before key ≡ None) (others : (other : ℕ) → other ≢ key → after other ≡ before other) where
  pub fits_take : (f : Fits (Submits takes refuses) g number first before acts now) (moment : ℕ) (y : Exchange) → after key ≡ Some y → y ≡ record { engine = None; conn = conn_of now.lane.number now.lane.connected 0; since = moment }
      → Fits (Submits takes refuses) g number first after (acts ++ took now.lane.connected moment ∷ []) (lane_now (connected now.lane) now.counted)
  fits_take f moment y here is = record {
    did = did_take (Submits takes refuses) number acts first now moment f.did;
    each = λ k z e. ⊎_elim (λ (same : k ≡ key). subst (λ (v : Exchange). IsOpen (Submits takes refuses) g number (acts ++ a ∷ []) then v) (one_of (sym here ∙ (ap after (sym same) ∙ e))) own) (λ (other : k ≢ key). kept k z (sym (others k other) ∙ e)) (same_or_not k key);
    apart = λ k j u v e h ne same. apart_by k j u v e h ne same (same_or_not k key) (same_or_not j key);
    runs = λ ordinal from below. run_after ordinal from below (same_or_not ordinal mine);
    fresh = λ ordinal past. none_still ordinal acts a (ne_eqb mine ordinal (λ e. absurd (omega (arith, past, e)))) (f.fresh ordinal (omega (arith, past)));
    number_is = f.number_is;
  }
    where
      mine : ℕ
      mine = now.lane.connected

      then : LaneNow P
      then = lane_now (connected now.lane) now.counted

      a : Act
      a = took mine moment

      ordinal_is : y.conn.key.ordinal ≡ mine
      ordinal_is = ap (λ (v : Exchange). v.conn.key.ordinal) is

      run_own : RunOf g mine (acts ++ a ∷ []) (numbered (came_at g moment) 0)
      run_own = run_first g mine moment acts (f.fresh mine (omega arith))

      own : IsOpen (Submits takes refuses) g number (acts ++ a ∷ []) then y
      own = subst (λ (v : Exchange). IsOpen (Submits takes refuses) g number (acts ++ a ∷ []) then v) (sym is) (record {
        waiting = came_at g moment;
        run = run_own;
        goes_on = refl;
        awaits = refl;
        since = refl;
        of_lane = λ i. conn_of (f.number_is i) mine 0;
        below = omega arith;
      })

      kept : (k : ℕ) (z : Exchange) → before k ≡ Some z → IsOpen (Submits takes refuses) g number (acts ++ a ∷ []) then z
      kept k z e =
          let p = f.each k z e in
          record {
            waiting = p.waiting;
            run = run_still g z.conn.key.ordinal acts (numbered p.waiting z.conn.next) a (ne_eqb mine z.conn.key.ordinal (λ same. absurd (omega (arith, p.below, same)))) p.run;
            goes_on = p.goes_on;
            awaits = p.awaits;
            since = p.since;
            of_lane = p.of_lane;
            below = omega (arith, p.below);
          }

      is_y : (k : ℕ) (u : Exchange) → after k ≡ Some u → k ≡ key → u.conn.key.ordinal ≡ mine
      is_y k u e same = ap (λ (v : Exchange). v.conn.key.ordinal) (one_of (sym e ∙ (ap after same ∙ here))) ∙ ordinal_is

      below_mine : (k : ℕ) (u : Exchange) → after k ≡ Some u → k ≢ key → u.conn.key.ordinal < mine
      below_mine k u e other = (f.each k u (sym (others k other) ∙ e)).below

      apart_by : (k j : ℕ) (u v : Exchange) → after k ≡ Some u → after j ≡ Some v → k ≢ j → u.conn.key.ordinal ≡ v.conn.key.ordinal → (k ≡ key) ⊎ (k ≢ key) → (j ≡ key) ⊎ (j ≢ key) → ⊥
      apart_by k j u v e h ne same (inl p) (inl q) = ne (p ∙ sym q)
      apart_by k j u v e h ne same (inl p) (inr q) = absurd (omega (arith, is_y k u e p, below_mine j v h q, same))
      apart_by k j u v e h ne same (inr p) (inl q) = absurd (omega (arith, is_y j v h q, below_mine k u e p, same))
      apart_by k j u v e h ne same (inr p) (inr q) = f.apart k j u v (sym (others k p) ∙ e) (sym (others j q) ∙ h) ne same

      run_after : (ordinal : ℕ) → first.lane.connected ≤ ordinal → ordinal < mine + 1 → (ordinal ≡ mine) ⊎ (ordinal ≢ mine) → HasRun (Submits takes refuses) g number after (acts ++ a ∷ []) ordinal
      run_after ordinal from below (inl same) = record {
        last = numbered (came_at g moment) 0;
        run = subst (λ k. RunOf g k (acts ++ a ∷ []) (numbered (came_at g moment) 0)) (sym same) run_own;
        is_open = λ e. (key, y, here, ordinal_is ∙ sym same);
      }
      run_after ordinal from below (inr other) =
          let r = f.runs ordinal from (omega (arith, below, other)) in
          record {
            last = r.last;
            run = run_still g ordinal acts r.last a (ne_eqb mine ordinal (λ e. other (sym e))) r.run;
            is_open = λ e. let p = r.is_open e in (p.0, p.1, others p.0 (λ same. let both = sym vacant ∙ (ap before (sym same) ∙ p.2) in absurd cc) ∙ p.2, p.3);
          }

-- ---- a lane that has done nothing

pub fits_first : {P : Type 0} (submits : Intake P → Submission → Intake P → Type 0) (g : Allowed) (lane : LaneState P) (counted : List ℕ) (open_at : (key : ℕ) → Option Exchange) → ((key : ℕ) → open_at key ≡ None)
    → Fits submits g lane.number (lane_now lane counted) open_at [] (lane_now lane counted)
fits_first submits g lane counted open_at empty = record {
  did = refl;
  each = λ key x e. absurd (let none = sym (empty key) ∙ e in cc);
  apart = λ key other x y e h ne same. let none = sym (empty key) ∙ e in cc;
  runs = λ ordinal from below. absurd (omega (arith, from, below));
  fresh = λ ordinal past. tt;
  number_is = refl;
}
