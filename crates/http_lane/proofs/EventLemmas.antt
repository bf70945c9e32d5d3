-- What events do, one after another.
-- They serve the clauses of `write_text`, `respond`, `act`, `settle`, `wait` and `serve_turns`.
use Rattle.std.proofs.Common.{false, ◌≡◌, ℕ, List, [], ◌∷◌, ◌++◌, Option, Some, None, sym, ap, ◌∙◌, refl, subst, append_assoc, append-nil, true, take, drop, ◌+◌, Bool, length, ◌<◌, arith, length-append, inl, inr, ◌⊎◌}
use Rattle.std.specs.Prelude.{MatchOption, ◌||◌}
use Rattle.std.proofs.Math.Seq.{take-add}
use Rattle.std.specs.Io.KnownBytes.{Appends, Consumes}
use Rattle.otlp_encoding.specs.declared.encoding.Encoding.{Encoding}
use Rattle.http_lane.specs.declared.answer.EventFate.{EventFate}
use Rattle.http_lane.specs.declared.answer.EventFate.TheVariants.{Written, Uncounted, Unmade, Unwritten}
use Rattle.http_lane.specs.declared.answer.ServeEnd.{ServeEnd}
use Rattle.http_lane.specs.declared.answer.ServeEnd.TheVariants.{Turns, NoMemory}
use Rattle.http_lane.specs.Connection.{RequestReading, Cause, ConnectionEvent, Brings, Rests, Settles, IsTold, end_of, can_be, Writes, WritesBy, text_of, SubmitsAll, Submission, submissions, submission_by, is_counted, accepts, refusal, close_asked, starved, stopping, timed_out, submitted, end_with, ConnectionStanding, ReadRound, Rounds, IsRound, ConnectionTurn, turns_of, bytes_by, bytes_given, is_end, is_ended, events_of, at_first, standing, IsRoundBy, in_head}
use Rattle.http_lane.specs.declared.answer.TheConstants.{READ_LIMIT}
use Rattle.http_lane.specs.Engine.{Does, Puts, IsFateOfText, Served, KnownReader, Tells, Gives, Serves}
use Rattle.http_lane.specs.Turns.{answers, has_answer}

pub Appends-then : (u v w : Option (List ℕ)) (a b : List ℕ) → Appends u v a → Appends v w b → Appends u w (a ++ b)
Appends-then None v w a b x y = tt
Appends-then (Some xs) None w a b x y = absurd x
Appends-then (Some xs) (Some ys) None a b x y = y
Appends-then (Some xs) (Some ys) (Some zs) a b x y = y ∙ ap (λ (t : List ℕ). t ++ b) x ∙ append_assoc xs a b

pub Appends-none : (u : Option (List ℕ)) → Appends u u []
Appends-none None = tt
Appends-none (Some xs) = sym (append-nil xs)

-- one event more
abbrev pub one : Encoding → Cause → EventFate → ConnectionEvent
one encoding cause fate = record { cause = cause; encoding = encoding; fate = fate }

-- whatever comes behind the reading mid comes behind these events from r
abbrev pub Leads : RequestReading → List ConnectionEvent → RequestReading → Type 0
Leads r events mid = (more : List ConnectionEvent) (end : Option ServeEnd) (last : RequestReading) → Settles mid more end last → Settles r (events ++ more) end last

pub leads_none : (r : RequestReading) → Leads r [] r
leads_none r more end last s = s

settles_on : (o : Option ServeEnd) (next : RequestReading) (more : List ConnectionEvent) (end : Option ServeEnd) (last : RequestReading) → o ≡ None → Settles next more end last
    → MatchOption o (Settles next more end last) (λ why. (more ≡ []) × (end ≡ Some why))
settles_on None next more end last e s = s
settles_on (Some why) next more end last e s = absurd (cc)

-- and behind one event more
pub leads_more : (r mid next : RequestReading) (events : List ConnectionEvent) (e : ConnectionEvent) → Leads r events mid → Brings mid e.cause next → IsTold mid e → end_of e ≡ None
    → Leads r (events ++ e ∷ []) next
leads_more r mid next events e leads brings can none more end last s =
    subst (λ es. Settles r es end last) (sym (append_assoc events (e ∷ []) more))
    (leads (e ∷ more) end last (next, brings, can, settles_on (end_of e) next more end last none s))

ends_here : (o : Option ServeEnd) (next : RequestReading) (why : ServeEnd) (last : RequestReading) → o ≡ Some why
    → MatchOption o (Settles next [] (Some why) last) (λ w. (◌≡◌ {A = List ConnectionEvent} [] []) × (Some why ≡ Some w))
ends_here None next why last e = absurd (cc)
ends_here (Some w) next why last e = (refl, sym e)

-- an event that ends the connection is the last
pub leads_end : (r mid next last : RequestReading) (events : List ConnectionEvent) (e : ConnectionEvent) (why : ServeEnd) → Leads r events mid → Brings mid e.cause next → IsTold mid e → end_of e ≡ Some why
    → Settles r (events ++ e ∷ []) (Some why) last
leads_end r mid next last events e why leads brings can ends =
    leads (e ∷ []) (Some why) last (next, brings, can, ends_here (end_of e) next why last ends)

pub writes-append : (xs ys : List ConnectionEvent) (a b : List ℕ) → Writes xs a → Writes ys b → Writes (xs ++ ys) (a ++ b)
writes-append [] ys a b x y = subst (λ t. Writes ys (t ++ b)) (sym x) y
writes-append (e ∷ xs) ys a b x y =
    (x.0, x.1 ++ b, ap (λ t. t ++ b) x.2 ∙ append_assoc x.0 x.1 b, x.3, writes-append xs ys x.1 b x.4 y)

pub writes_one : (e : ConnectionEvent) (a : List ℕ) → WritesBy e.fate (text_of e.encoding e.cause) a → Writes (e ∷ []) a
writes_one e a w = (a, [], sym (append-nil a), w, refl)

pub submits-append : {L : Type 0} (submits : L → Submission → L → Type 0) (u v w : L) (xs ys : List Submission) → SubmitsAll submits u xs v → SubmitsAll submits v ys w → SubmitsAll submits u (xs ++ ys) w
submits-append submits u v w [] ys x y = subst (λ l. SubmitsAll submits l ys w) x y
submits-append submits u v w (s ∷ xs) ys x y = (x.0, x.1, submits-append submits x.0 v w xs ys x.2 y)

pub submissions-append : (xs ys : List ConnectionEvent) → submissions (xs ++ ys) ≡ submissions xs ++ submissions ys
submissions-append [] ys = refl
submissions-append (e ∷ xs) ys = ap (λ l. submission_by e.fate e.encoding e.cause ++ l) (submissions-append xs ys) ∙ sym (append_assoc (submission_by e.fate e.encoding e.cause) (submissions xs) (submissions ys))

pub does_none : {L : Type 0} (submits : L → Submission → L → Type 0) (text : Option (List ℕ)) (lane : L) → Does submits text text lane lane []
does_none submits text lane = ([], Appends-none text, refl, refl)

-- one event more was done
pub does_more : {L : Type 0} (submits : L → Submission → L → Type 0) (t u v : Option (List ℕ)) (a b c : L) (events : List ConnectionEvent) (e : ConnectionEvent)
    → Does submits t u a b events → Puts u v e.fate (text_of e.encoding e.cause) → SubmitsAll submits b (submission_by e.fate e.encoding e.cause) c → Does submits t v a c (events ++ e ∷ [])
does_more submits t u v a b c events e d p s = (
  d.0 ++ p.0,
  Appends-then t u v d.0 p.0 d.1 p.1,
  writes-append events (e ∷ []) d.0 p.0 d.2 (writes_one e p.0 p.2),
  subst (λ ss. SubmitsAll submits a ss c) (sym (submissions-append events (e ∷ [])))
      (submits-append submits a b c (submissions events) (submissions (e ∷ [])) d.3 (subst (λ ss. SubmitsAll submits b ss c) (sym (append-nil (submission_by e.fate e.encoding e.cause))) s)),
)

pub take_then : (i n : ℕ) (xs : List ℕ) → take i xs ++ take n (drop i xs) ≡ take (i + n) xs
take_then i n xs = sym (take-add i n xs)

-- the cause has a text
abbrev pub has_text : Cause → Bool
has_text (accepts awaited) = awaited
has_text _ = true

-- what has a text may stay unmade or unwritten
unsaid : (cause : Cause) → has_text cause ≡ true → (can_be Unmade cause ≡ true) × (can_be Unwritten cause ≡ true)
unsaid (accepts awaited) h = (h, h)
unsaid (refusal r i) h = (refl, refl)
unsaid close_asked h = (refl, refl)
unsaid starved h = (refl, refl)
unsaid stopping h = (refl, refl)
unsaid timed_out h = (refl, refl)
unsaid (submitted b m r c) h = (refl, refl)

pub can_text : (fate : EventFate) (cause : Cause) → IsFateOfText fate → has_text cause ≡ true → can_be fate cause ≡ true
can_text Written cause f h = refl
can_text Uncounted cause f h = absurd f
can_text Unmade cause f h = (unsaid cause h).0
can_text Unwritten cause f h = (unsaid cause h).1

pub never_open : (fate : EventFate) → end_with fate true ≡ None → ⊥
never_open Written e = cc
never_open Uncounted e = cc
never_open Unmade e = cc
never_open Unwritten e = cc

-- one round more
pub rounds_more : (s mid next : ConnectionStanding) (rounds : List ReadRound) (round : ReadRound) → Rounds s rounds mid → mid.end ≡ None → IsRound mid round next → Rounds s (rounds ++ round ∷ []) next
rounds_more s mid next [] round run goes_on r = subst (λ (t : ConnectionStanding). Rounds t (round ∷ []) next) run (goes_on, next, r, refl)
rounds_more s mid next (first ∷ rounds) round run goes_on r = (run.0, run.1, run.2, rounds_more run.1 mid next rounds round run.3 goes_on r)

pub turns-append : (xs ys : List ReadRound) → turns_of (xs ++ ys) ≡ turns_of xs ++ turns_of ys
turns-append [] ys = refl
turns-append (r ∷ xs) ys = ap (λ l. r.turn ∷ l) (turns-append xs ys)

pub events-append : (xs ys : List ReadRound) → events_of (xs ++ ys) ≡ events_of xs ++ events_of ys
events-append [] ys = refl
events-append (r ∷ xs) ys = ap (λ l. r.events ++ l) (events-append xs ys) ∙ sym (append_assoc r.events (events_of xs) (events_of ys))

-- what was done before, and then for more events
pub does_then : {L : Type 0} (submits : L → Submission → L → Type 0) (t u v : Option (List ℕ)) (a b c : L) (xs ys : List ConnectionEvent)
    → Does submits t u a b xs → Does submits u v b c ys → Does submits t v a c (xs ++ ys)
does_then submits t u v a b c xs ys d p = (
  d.0 ++ p.0,
  Appends-then t u v d.0 p.0 d.1 p.1,
  writes-append xs ys d.0 p.0 d.2 p.2,
  subst (λ ss. SubmitsAll submits a ss c) (sym (submissions-append xs ys)) (submits-append submits a b c (submissions xs) (submissions ys) d.3 p.3),
)

-- a connection that is being served: the rounds so far, and where they lead
pub record Serving {E L : Type 0} (stands : E → RequestReading → Type 0) (submits : L → Submission → L → Type 0) (old_text new_text : Option (List ℕ)) (old new : L) (old_reader new_reader : KnownReader) (engine : E) (row count : ℕ) : Type 0 where
  pub rounds : List ReadRound
  pub last : ConnectionStanding
  pub run : Rounds (at_first old_reader.allowed) rounds last
  pub goes_on : last.end ≡ None
  pub stood : stands engine last.reading
  pub rests : Rests last.reading
  pub row_is : row ≡ last.row
  pub count_is : length rounds ≡ count
  pub turns : Gives old_reader new_reader (turns_of rounds)
  pub done : Does submits old_text new_text old new (events_of rounds)

abbrev pub round_of : ConnectionTurn → Bool → List ConnectionEvent → ReadRound
round_of turn is_stopped events = record { turn = turn; is_stopped = is_stopped; events = events }

tells_more : (old cur new : Option (List ConnectionTurn)) (xs : List ConnectionTurn) (t : ConnectionTurn) → Tells old cur xs → Tells cur new (t ∷ []) → Tells old new (xs ++ t ∷ [])
tells_more None cur new xs t a b = tt
tells_more (Some old) cur new xs t a b = (subst (λ o. Tells o new (t ∷ [])) a b) ∙ ap Some (append_assoc old xs (t ∷ []))

tells_none : (old : Option (List ConnectionTurn)) → Tells old old []
tells_none None = tt
tells_none (Some old) = ap Some (sym (append-nil old))

consumes_then : (u v w : Option (List ℕ)) (a b : List ℕ) → Consumes u v a → Consumes v w b → Consumes u w (a ++ b)
consumes_then None v w a b x y = tt
consumes_then (Some xs) None w a b x y = absurd x
consumes_then (Some xs) (Some ys) None a b x y = y
consumes_then (Some xs) (Some ys) (Some zs) a b x y = x ∙ ap (λ t. a ++ t) y ∙ sym (append_assoc a b zs)

consumes_none : (u : Option (List ℕ)) → Consumes u u []
consumes_none None = tt
consumes_none (Some xs) = refl

given-append : (xs : List ConnectionTurn) (t : ConnectionTurn) → bytes_given (xs ++ t ∷ []) ≡ bytes_given xs ++ bytes_given (t ∷ [])
given-append [] t = refl
given-append (x ∷ xs) t = ap (λ l. bytes_by x ++ l) (given-append xs t) ∙ sym (append_assoc (bytes_by x) (bytes_given xs) (bytes_given (t ∷ [])))

ended_last : (xs : List ConnectionTurn) (t : ConnectionTurn) → is_ended (xs ++ t ∷ []) ≡ is_end t
ended_last [] t = refl
ended_last (x ∷ []) t = refl
ended_last (x ∷ y ∷ xs) t = ended_last (y ∷ xs) t

gives_more : (old cur new : KnownReader) (xs : List ConnectionTurn) (t : ConnectionTurn) → Gives old cur xs → Gives cur new (t ∷ []) → Gives old new (xs ++ t ∷ [])
gives_more old cur new xs t a b = record {
  told = tells_more old.turns cur.turns new.turns xs t a.told b.told;
  bytes = subst (λ bs. Consumes old.left new.left bs) (sym (given-append xs t)) (consumes_then old.left cur.left new.left (bytes_given xs) (bytes_given (t ∷ [])) a.bytes b.bytes);
  end = λ e. b.end (sym (ended_last xs t) ∙ e);
}

pub gives_none : (old : KnownReader) → Gives old old []
gives_none old = record { told = tells_none old.turns; bytes = consumes_none old.left; end = λ e. absurd (cc) }

turns_told : (old cur new : KnownReader) (rounds : List ReadRound) (round : ReadRound) → Gives old cur (turns_of rounds) → Gives cur new (round.turn ∷ []) → Gives old new (turns_of (rounds ++ round ∷ []))
turns_told old cur new rounds round e told = subst (Gives old new) (sym (turns-append rounds (round ∷ []))) (gives_more old cur new (turns_of rounds) round.turn e told)

-- what one more round did
done_more : {L : Type 0} (submits : L → Submission → L → Type 0) (t u v : Option (List ℕ)) (a b c : L) (rounds : List ReadRound) (round : ReadRound)
    → Does submits t u a b (events_of rounds) → Does submits u v b c round.events → Does submits t v a c (events_of (rounds ++ round ∷ []))
done_more submits t u v a b c rounds round d p =
    subst (λ es. Does submits t v a c es) (sym (events-append rounds (round ∷ []) ∙ ap (λ es. events_of rounds ++ es) (append-nil round.events)))
    (does_then submits t u v a b c (events_of rounds) round.events d p)

events_more : (rounds : List ReadRound) (round : ReadRound) → events_of (rounds ++ round ∷ []) ≡ events_of rounds ++ round.events
events_more rounds round = events-append rounds (round ∷ []) ∙ ap (λ es. events_of rounds ++ es) (append-nil round.events)

-- one more round of a connection that is being served
module _ {E L : Type 0} {stands : E → RequestReading → Type 0} {submits : L → Submission → L → Type 0} {t u : Option (List ℕ)} {a b : L} {old cur : KnownReader} {e : E} {row count : ℕ} where
  -- the connection goes on after it
  pub serving_more : (v : Option (List ℕ)) (c : L) (new : KnownReader) (e' : E) (row' : ℕ) (turn : ConnectionTurn) (is_stopped : Bool) (events : List ConnectionEvent) (reading : RequestReading)
      → (s : Serving stands submits t u a b old cur e row count) → IsRoundBy turn s.last is_stopped events (standing reading row' None) → stands e' reading → Rests reading
      → Gives cur new (turn ∷ []) → Does submits u v b c events → (now : Serving stands submits t v a c old new e' row' (count + 1)) × (events_of now.rounds ≡ events_of s.rounds ++ events)
  serving_more v c new e' row' turn is_stopped events reading s r stood rests told did = (
    record {
      rounds = s.rounds ++ round_of turn is_stopped events ∷ [];
      last = standing reading row' None;
      run = rounds_more (at_first old.allowed) s.last (standing reading row' None) s.rounds (round_of turn is_stopped events) s.run s.goes_on r;
      goes_on = refl;
      stood = stood;
      rests = rests;
      row_is = refl;
      count_is = omega (arith, length-append s.rounds (round_of turn is_stopped events ∷ []), s.count_is);
      turns = turns_told old cur new s.rounds (round_of turn is_stopped events) s.turns told;
      done = done_more submits t u v a b c s.rounds (round_of turn is_stopped events) s.done did;
    },
    events_more s.rounds (round_of turn is_stopped events),
  )

  -- or ends with it
  pub serving_end : (v : Option (List ℕ)) (c : L) (new : KnownReader) (row' : ℕ) (turn : ConnectionTurn) (is_stopped : Bool) (events : List ConnectionEvent) (reading : RequestReading) (why : ServeEnd)
      → (s : Serving stands submits t u a b old cur e row count) → IsRoundBy turn s.last is_stopped events (standing reading row' (Some why)) → count < READ_LIMIT
      → Gives cur new (turn ∷ []) → Does submits u v b c events → (served : Served submits t v a c old new why) × (events_of served.0 ≡ events_of s.rounds ++ events)
  serving_end v c new row' turn is_stopped events reading why s r few told did = (
    (
      s.rounds ++ round_of turn is_stopped events ∷ [],
      record {
        last = standing reading row' (Some why);
        run = rounds_more (at_first old.allowed) s.last (standing reading row' (Some why)) s.rounds (round_of turn is_stopped events) s.run s.goes_on r;
        few = omega (arith, length-append s.rounds (round_of turn is_stopped events ∷ []), s.count_is);
        ends = refl;
      },
      turns_told old cur new s.rounds (round_of turn is_stopped events) s.turns told,
      done_more submits t u v a b c s.rounds (round_of turn is_stopped events) s.done did,
    ),
    events_more s.rounds (round_of turn is_stopped events),
  )

  -- or ends with it where the reader gives no more
  pub serving_stop : (new : KnownReader) (turn : ConnectionTurn) (why : ServeEnd) → (s : Serving stands submits t u a b old cur e row count) → IsRoundBy turn s.last false [] (standing s.last.reading 0 (Some why)) → count < READ_LIMIT
      → Gives cur new (turn ∷ []) → (served : Served submits t u a b old new why) × (events_of served.0 ≡ events_of s.rounds ++ [])
  serving_stop new turn why s r few told = serving_end u b new 0 turn false [] s.last.reading why s r few told (does_none submits u b)

  -- or all reads were made
  pub serving_over : (s : Serving stands submits t u a b old cur e row count) → count ≡ READ_LIMIT → (served : Served submits t u a b old cur Turns) × (events_of served.0 ≡ events_of s.rounds)
  serving_over s over = (
    (
      s.rounds,
      record {
        last = s.last;
        run = s.run;
        few = omega (arith, s.count_is, over);
        ends = subst (λ (o : Option ServeEnd). MatchOption o (((Turns ≡ Turns) × (length s.rounds ≡ READ_LIMIT)) ⊎ ((Turns ≡ NoMemory) × (s.rounds ≡ []))) (λ why. Turns ≡ why)) (sym s.goes_on) (inl (refl, s.count_is ∙ over));
      },
      s.turns,
      s.done,
    ),
    refl,
  )

-- events that submit nothing leave the lane
pub does_still : {L : Type 0} (submits : L → Submission → L → Type 0) (u v : Option (List ℕ)) (lane : L) (events : List ConnectionEvent) (bytes : List ℕ)
    → Appends u v bytes → Writes events bytes → submissions events ≡ [] → Does submits u v lane lane events
does_still submits u v lane events bytes a w e = (bytes, a, w, subst (λ ss. SubmitsAll submits lane ss lane) (sym e) refl)

rest_behind : (o : Option ServeEnd) (next : RequestReading) (events : List ConnectionEvent) (mid : RequestReading) → (Settles next events None mid → Rests mid)
    → MatchOption o (Settles next events None mid) (λ why. (events ≡ []) × (None ≡ Some why)) → Rests mid
rest_behind None next events mid ih h = ih h
rest_behind (Some why) next events mid ih h = absurd (let e = h.1 in cc)

-- what has been settled rests
pub settled_rests : (r : RequestReading) (events : List ConnectionEvent) (mid : RequestReading) → Settles r events None mid → Rests mid
settled_rests r [] mid s = subst Rests (sym s.2) s.0
settled_rests r (e ∷ events) mid s = rest_behind (end_of e) s.0 events mid (λ u. settled_rests s.0 events mid u) s.3

-- where a text was to be written, the counts took all
pub counted_text : (fate : EventFate) → IsFateOfText fate → is_counted fate ≡ true
counted_text Written f = refl
counted_text Uncounted f = absurd f
counted_text Unmade f = refl
counted_text Unwritten f = refl

-- a connection of which nothing has been read
pub serving_first : {E L : Type 0} (awaits : E → RequestReading → Type 0) (submits : L → Submission → L → Type 0) (text : Option (List ℕ)) (lane : L) (reader : KnownReader) (engine : E) → awaits engine (in_head reader.allowed [])
    → (now : Serving awaits submits text text lane lane reader reader engine 0 0) × (now.rounds ≡ [])
serving_first awaits submits text lane reader engine a = (record { rounds = []; last = at_first reader.allowed; run = refl; goes_on = refl; stood = a; rests = refl; row_is = refl; count_is = refl; turns = gives_none reader; done = does_none submits text lane }, refl)

-- no read was made, for want of memory
pub served_nothing : {L : Type 0} (submits : L → Submission → L → Type 0) (text : Option (List ℕ)) (lane : L) (reader : KnownReader) → (served : Served submits text text lane lane reader reader NoMemory) × (served.0 ≡ [])
served_nothing submits text lane reader = (
  (
    [],
    record { last = at_first reader.allowed; run = refl; few = omega arith; ends = inr (refl, refl) },
    gives_none reader,
    does_none submits text lane,
  ),
  refl,
)

-- ---- whether a request was answered

or_false : (b : Bool) → (b || false) ≡ b
or_false true = refl
or_false false = refl

or_assoc : (a b c : Bool) → (a || (b || c)) ≡ ((a || b) || c)
or_assoc true b c = refl
or_assoc false b c = refl

-- what is done with a whole body answers it
pub serves_answers : (limit : ℕ) (is_packed : Bool) (body : Option (List ℕ)) (closing : Bool) (cause : Cause) → Serves limit is_packed body closing cause → answers cause ≡ true
serves_answers limit is_packed body closing (accepts awaited) s = absurd s
serves_answers limit is_packed body closing (refusal r i) s = refl
serves_answers limit is_packed body closing close_asked s = refl
serves_answers limit is_packed body closing starved s = refl
serves_answers limit is_packed body closing stopping s = refl
serves_answers limit is_packed body closing timed_out s = refl
serves_answers limit is_packed body closing (submitted b m r c) s = refl

has-append : (xs : List ConnectionEvent) (e : ConnectionEvent) → has_answer (xs ++ e ∷ []) ≡ (has_answer xs || answers e.cause)
has-append [] e = or_false (answers e.cause)
has-append (x ∷ xs) e = ap (λ b. answers x.cause || b) (has-append xs e) ∙ or_assoc (answers x.cause) (has_answer xs) (answers e.cause)

-- one event more
pub answered_more : (events : List ConnectionEvent) (e : ConnectionEvent) (before now : Bool) → before ≡ has_answer events → answers e.cause ≡ now → (before || now) ≡ has_answer (events ++ e ∷ [])
answered_more events e before now b n = ap (λ x. x || now) b ∙ (ap (λ y. has_answer events || y) (sym n) ∙ sym (has-append events e))
