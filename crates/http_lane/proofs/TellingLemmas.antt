-- What a clock is told while a lane is handed one text after the other.
-- For the contracts of `submit`, `unpack`, `respond`, `act`, `settle` and `Exchange::came`.
use Rattle.std.proofs.Common.{◌≡◌, ◌∙◌, ℕ, suc, ◌+◌, Bool, true, false, List, [], ◌∷◌, ◌++◌, length, refl, sym, ap, subst, append_assoc, append-nil, arith, length-append}
use Rattle.std.specs.Prelude.{◌&&◌, if◌then◌else◌, MatchBool}
use Rattle.span_ids.specs.declared.keys.ConnKey.{ConnKey}
use Rattle.lane_seq.specs.declared.preparing.Conn.{Conn}
use Rattle.lane_seq.specs.declared.reply.Reply.{Reply}
use Rattle.lane_seq.specs.declared.reply.Reply.TheVariants.{Done, Partial, BadData, Busy}
use Rattle.lane_seq.specs.Replies.{is_received, IsRefusal, OnReceived}
use Rattle.http_lane.specs.Connection.{Submission, ConnectionEvent, submissions, submission_by}
use Rattle.http_lane.specs.Telling.{TakenRequest, request_of, is_taken, taken_of, AreHeard, TellsTaken}
use Rattle.http_lane.proofs.EventLemmas.{submissions-append as submissions_both}

-- ---- the connection keeps its number

pub key_by_reply : {F : Type 0} (reply : Reply) (old new : Conn) → OnReceived reply F → (IsRefusal reply → new ≡ old) → (F → new.key ≡ old.key) → new.key ≡ old.key
key_by_reply (Done n) old new f r k = k f
key_by_reply (Partial n i x) old new f r k = k f
key_by_reply (BadData x) old new f r k = ap (λ (c : Conn). c.key) (r tt)
key_by_reply Busy old new f r k = ap (λ (c : Conn). c.key) (r tt)

-- ---- one text, and none

heard_if : (heard : ℕ → TakenRequest → Type 0) (b : Bool) (r : TakenRequest) (old new : ℕ) → MatchBool b (heard old r × (new ≡ old + 1)) (new ≡ old)
    → AreHeard heard old ((if b then r ∷ [] else []) ++ []) × (new ≡ old + length ((if b then r ∷ [] else []) ++ []))
heard_if heard true r old new m = ((m.0, tt), m.1)
heard_if heard false r old new m = (tt, let e : new ≡ old + 0 = omega (arith, m) in e)

and_true : (a b : Bool) → b ≡ true → (a && b) ≡ a
and_true true b e = e
and_true false b e = refl

and_false : (a b : Bool) → b ≡ false → (a && b) ≡ false
and_false true b e = e
and_false false b e = refl

module _ (heard : ℕ → TakenRequest → Type 0) where
  pub tells_none : (told : ℕ) (key : ConnKey) → TellsTaken heard told told key key []
  tells_none told key = record { told = tt; all = let e : told ≡ told + 0 = omega arith in e; same = refl }

  by_taken : (old new : ℕ) (key last : ConnKey) (s : Submission) (b : Bool) → is_taken s ≡ b → last ≡ key → MatchBool b (heard old (request_of key s) × (new ≡ old + 1)) (new ≡ old) → TellsTaken heard old new key last (s ∷ [])
  by_taken old new key last s b e same m =
      let both = subst (λ (x : Bool). AreHeard heard old ((if x then request_of key s ∷ [] else []) ++ []) × (new ≡ old + length ((if x then request_of key s ∷ [] else []) ++ []))) (sym e) (heard_if heard b (request_of key s) old new m) in
      record { told = both.0; all = both.1; same = same }

  -- its spans found their place in the counts
  pub tells_counted : (old new : ℕ) (key last : ConnKey) (s : Submission) → s.is_counted ≡ true → last ≡ key → MatchBool (is_received s.reply) (heard old (request_of key s) × (new ≡ old + 1)) (new ≡ old) → TellsTaken heard old new key last (s ∷ [])
  tells_counted old new key last s e same m = by_taken old new key last s (is_received s.reply) (and_true (is_received s.reply) s.is_counted e) same m

  -- they did not
  pub tells_uncounted : (told : ℕ) (key last : ConnKey) (s : Submission) → s.is_counted ≡ false → last ≡ key → TellsTaken heard told told key last (s ∷ [])
  tells_uncounted told key last s e same = by_taken told told key last s false (and_false (is_received s.reply) s.is_counted e) same refl

  -- ---- one after the other

  heard-append : (place : ℕ) (xs ys : List TakenRequest) → AreHeard heard place xs → AreHeard heard (place + length xs) ys → AreHeard heard place (xs ++ ys)
  heard-append place [] ys x y = subst (λ (n : ℕ). AreHeard heard n ys) (let e : place + 0 ≡ place = omega arith in e) y
  heard-append place (r ∷ xs) ys x y = (x.0, heard-append (place + 1) xs ys x.1 (subst (λ (n : ℕ). AreHeard heard n ys) (let e : place + suc (length xs) ≡ place + 1 + length xs = omega arith in e) y))

  taken-append : (key : ConnKey) (xs ys : List Submission) → taken_of key (xs ++ ys) ≡ taken_of key xs ++ taken_of key ys
  taken-append key [] ys = refl
  taken-append key (s ∷ xs) ys =
      ap (λ l. (if is_taken s then request_of key s ∷ [] else []) ++ l) (taken-append key xs ys) ∙ sym (append_assoc (if is_taken s then request_of key s ∷ [] else []) (taken_of key xs) (taken_of key ys))

  pub tells_then : (a b c : ℕ) (j k l : ConnKey) (xs ys : List Submission) → TellsTaken heard a b j k xs → TellsTaken heard b c k l ys → TellsTaken heard a c j l (xs ++ ys)
  tells_then a b c j k l xs ys x y =
      let mine : AreHeard heard (a + length (taken_of j xs)) (taken_of j ys) = subst (λ (n : ℕ). AreHeard heard n (taken_of j ys)) x.all (subst (λ (i : ConnKey). AreHeard heard b (taken_of i ys)) x.same y.told) in
      let ends : c ≡ b + length (taken_of j ys) = subst (λ (i : ConnKey). c ≡ b + length (taken_of i ys)) x.same y.all in record {
        told = subst (λ (rs : List TakenRequest). AreHeard heard a rs) (sym (taken-append j xs ys)) (heard-append a (taken_of j xs) (taken_of j ys) x.told mine);
        all = omega (arith, ends, x.all, ap length (taken-append j xs ys), length-append (taken_of j xs) (taken_of j ys));
        same = y.same ∙ x.same;
      }

  -- one event more
  pub tells_more : (a b c : ℕ) (j k l : ConnKey) (events : List ConnectionEvent) (e : ConnectionEvent) → TellsTaken heard a b j k (submissions events) → TellsTaken heard b c k l (submission_by e.fate e.encoding e.cause)
      → TellsTaken heard a c j l (submissions (events ++ e ∷ []))
  tells_more a b c j k l events e x y =
      subst (λ (ss : List Submission). TellsTaken heard a c j l ss) (sym (submissions_both events (e ∷ [])))
      (tells_then a b c j k l (submissions events) (submissions (e ∷ [])) x (subst (λ (ss : List Submission). TellsTaken heard b c k l ss) (sym (append-nil (submission_by e.fate e.encoding e.cause))) y))

  -- events that hand the lane nothing
  pub tells_still : (told : ℕ) (key : ConnKey) (events : List ConnectionEvent) → submissions events ≡ [] → TellsTaken heard told told key key (submissions events)
  tells_still told key events e = subst (λ (ss : List Submission). TellsTaken heard told told key key ss) (sym e) (tells_none told key)

  -- one round more
  pub tells_round : (a b c : ℕ) (j k l : ConnKey) (xs ys zs : List ConnectionEvent) → zs ≡ xs ++ ys → TellsTaken heard a b j k (submissions xs) → TellsTaken heard b c k l (submissions ys) → TellsTaken heard a c j l (submissions zs)
  tells_round a b c j k l xs ys zs e x y =
      subst (λ (ss : List Submission). TellsTaken heard a c j l ss) (sym (ap submissions e ∙ submissions_both xs ys)) (tells_then a b c j k l (submissions xs) (submissions ys) x y)
