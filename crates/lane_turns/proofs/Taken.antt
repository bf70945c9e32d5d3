-- What a lane's clock is told in its acts.
-- For the clauses `fits` of `came` and of `turn`, and `told` of `serve_turns`.
use Rattle.std.proofs.Common.{◌≡◌, ◌∙◌, ℕ, suc, ◌+◌, List, [], ◌∷◌, ◌++◌, Option, Some, None, length, refl, sym, ap, subst, append_assoc, append-nil, arith, length-append}
use Rattle.lane_seq.specs.declared.preparing.Conn.{Conn}
use Rattle.http_lane.specs.Connection.{submissions}
use Rattle.http_lane.specs.Telling.{TakenRequest, taken_of, AreHeard, TellsTaken}
use Rattle.http_lane.specs.Turns.{Turned}
use Rattle.lane_turns.specs.Acts.{Act, took, had, conn_of, act_taken, acts_taken, TakesNone, TellsActs}
use Rattle.lane_turns.specs.Driven.{Table, TakesOne}

-- a connection is taken, or none is
pub one_takes_none : (old new : Table) (moment : ℕ) (key : Option ℕ) (acts : List Act) → TakesOne old new moment key acts → TakesNone acts
one_takes_none old new moment (Some key) acts h = λ number. ap (λ (l : List Act). acts_taken number l) h.1
one_takes_none old new moment None acts h = λ number. ap (λ (l : List Act). acts_taken number l) h.0

module _ (heard : (place : ℕ) → TakenRequest → Type 0) where
  pub tells_nothing : (told number : ℕ) (acts : List Act) → TakesNone acts → TellsActs heard told told number acts
  tells_nothing told number acts none = record {
    told = subst (λ (rs : List TakenRequest). AreHeard heard told rs) (sym (none number)) tt;
    all = subst (λ (rs : List TakenRequest). told ≡ told + length rs) (sym (none number)) (let e : told ≡ told + 0 = omega arith in e);
  }

  -- a turn of one connection
  pub tells_act : (a b number : ℕ) (x last : Conn) (t : Turned) → x ≡ conn_of number x.key.ordinal x.next → TellsTaken heard a b x.key last.key (submissions t.events)
      → TellsActs heard a b number (had x.key.ordinal x.next last.next t ∷ [])
  tells_act a b number x last t e h =
      let same : taken_of x.key (submissions t.events) ≡ acts_taken number (had x.key.ordinal x.next last.next t ∷ []) =
      ap (λ (c : Conn). taken_of c.key (submissions t.events)) e ∙ sym (append-nil (taken_of (conn_of number x.key.ordinal x.next).key (submissions t.events))) in record {
        told = subst (λ (rs : List TakenRequest). AreHeard heard a rs) same h.told;
        all = subst (λ (rs : List TakenRequest). b ≡ a + length rs) same h.all;
      }

  heard-append : (place : ℕ) (xs ys : List TakenRequest) → AreHeard heard place xs → AreHeard heard (place + length xs) ys → AreHeard heard place (xs ++ ys)
  heard-append place [] ys x y = subst (λ (n : ℕ). AreHeard heard n ys) (let e : place + 0 ≡ place = omega arith in e) y
  heard-append place (r ∷ xs) ys x y = (x.0, heard-append (place + 1) xs ys x.1 (subst (λ (n : ℕ). AreHeard heard n ys) (let e : place + suc (length xs) ≡ place + 1 + length xs = omega arith in e) y))

  taken-append : (number : ℕ) (xs ys : List Act) → acts_taken number (xs ++ ys) ≡ acts_taken number xs ++ acts_taken number ys
  taken-append number [] ys = refl
  taken-append number (a ∷ xs) ys = ap (λ (l : List TakenRequest). act_taken number a ++ l) (taken-append number xs ys) ∙ sym (append_assoc (act_taken number a) (acts_taken number xs) (acts_taken number ys))

  -- further acts
  pub tells_acts : (a b c number : ℕ) (xs ys : List Act) → TellsActs heard a b number xs → TellsActs heard b c number ys → TellsActs heard a c number (xs ++ ys)
  tells_acts a b c number xs ys x y = record {
    told = subst (λ (rs : List TakenRequest). AreHeard heard a rs) (sym (taken-append number xs ys))
        (heard-append a (acts_taken number xs) (acts_taken number ys) x.told (subst (λ (n : ℕ). AreHeard heard n (acts_taken number ys)) x.all y.told));
    all = omega (arith, y.all, x.all, ap length (taken-append number xs ys), length-append (acts_taken number xs) (acts_taken number ys));
  }
