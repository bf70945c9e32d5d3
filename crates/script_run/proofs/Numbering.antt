-- What is known of a script's connections, and of the spans that they received.
-- For the contract of `scripts_are_runs_of_the_core`.
use Rattle.std.proofs.Common.{◌≡◌, ℕ, zero, suc, ◌+◌, ◌<◌, ◌≤◌, ◌⊎◌, Bool, true, false, cond, ◌&&◌, ◌==◌, nat_eq, List, [], ◌∷◌, ◌++◌, length, get_or, replicate, slice_index, slice_set, Option, Some, None, refl, ap, sym, subst, ◌∙◌, arith, inl, inr, eq-eqb, eqb-true, get_or-set_same, mod-lt}
use Rattle.std.proofs.lemmas.List.{length-replicate}
use Rattle.std.specs.Map.{lookup}
use Rattle.std.proofs.lemmas.Bool.{eqb-false}
use Rattle.indexmap.specs.IndexMap.{insert_entry}
use Rattle.otlp_types.specs.declared.arrival.Arrival.{Arrival}
use Rattle.otlp_types.specs.declared.arrival.Record.{Record}
use Rattle.span_ids.specs.declared.keys.ConnKey.{ConnKey}
use Rattle.lane_seq.specs.declared.preparing.Conn.{Conn}
use Rattle.lane_seq.specs.Numbers.{arrival_of, arrivals_from}
use Rattle.journal_theory.proofs.ListFacts.{Each, Each-append, Each-weaker, tally, tally-append, length-slice_set}
use Rattle.world_theory.specs.Step.{is_of_conn}
use Rattle.script_run.specs.Connections.{Contacts, with_spans, lane_of, conn_where, connection_of, connected_where, with_connection, with_received}
use Rattle.script_run.specs.World.{ScriptWorld}

-- ---- entries by their numbers

-- a number is itself
same_number : (n : ℕ) → nat_eq n n ≡ true
same_number n = eq-eqb n n refl

module _ {V : Type 0} (k : ℕ) (v : V) where
  -- the value that was put at a number is found there
  pub found_put : (es : List (ℕ × V)) → lookup (nat_eq k) (insert_entry nat_eq es k v) ≡ Some v
  found_put [] = ap (λ (b : Bool). cond {A = Option V} b (Some v) None) (same_number k)
  found_put (e ∷ es) = go (nat_eq k e.0) refl (found_put es)
    where
      go : (b : Bool) → nat_eq k e.0 ≡ b → lookup (nat_eq k) (insert_entry nat_eq es k v) ≡ Some v → lookup (nat_eq k) (cond {A = List (ℕ × V)} b ((e.0, v) ∷ es) (e ∷ insert_entry nat_eq es k v)) ≡ Some v
      go true q h = ap (λ (b : Bool). cond {A = Option V} b (Some v) (lookup (nat_eq k) es)) q
      go false q h = ap (λ (b : Bool). cond {A = Option V} b (Some e.1) (lookup (nat_eq k) (insert_entry nat_eq es k v))) q ∙ h

  -- at another number nothing changes
  pub found_other : (q : ℕ) → (q ≡ k → ⊥) → (es : List (ℕ × V)) → lookup (nat_eq q) (insert_entry nat_eq es k v) ≡ lookup (nat_eq q) es
  found_other q n [] = none (nat_eq q k) refl
    where
      none : (b : Bool) → nat_eq q k ≡ b → cond {A = Option V} b (Some v) None ≡ None
      none true e = absurd (n (eqb-true q k e))
      none false e = refl
  found_other q n (e ∷ es) = go (nat_eq k e.0) refl (found_other q n es)
    where
      other : (b : Bool) → nat_eq q e.0 ≡ b → k ≡ e.0 → (x : V) → cond {A = Option V} b (Some x) (lookup (nat_eq q) es) ≡ lookup (nat_eq q) es
      other true p at x = absurd (n (eqb-true q e.0 p ∙ sym at))
      other false p at x = refl

      go : (b : Bool) → nat_eq k e.0 ≡ b → lookup (nat_eq q) (insert_entry nat_eq es k v) ≡ lookup (nat_eq q) es
          → lookup (nat_eq q) (cond {A = List (ℕ × V)} b ((e.0, v) ∷ es) (e ∷ insert_entry nat_eq es k v)) ≡ cond {A = Option V} (nat_eq q e.0) (Some e.1) (lookup (nat_eq q) es)
      go true p h = let at : k ≡ e.0 = eqb-true k e.0 p in other (nat_eq q e.0) refl at v ∙ sym (other (nat_eq q e.0) refl at e.1)
      go false p h = ap (λ (z : Option V). cond {A = Option V} (nat_eq q e.0) (Some e.1) z) h

  -- what is found is what was put, or what stood there
  pub found_cases : (q : ℕ) (x : V) (es : List (ℕ × V)) → lookup (nat_eq q) (insert_entry nat_eq es k v) ≡ Some x → ((q ≡ k) × (x ≡ v)) ⊎ ((q ≡ k → ⊥) × (lookup (nat_eq q) es ≡ Some x))
  found_cases q x es h = go (nat_eq q k) refl
    where
      go : (b : Bool) → nat_eq q k ≡ b → ((q ≡ k) × (x ≡ v)) ⊎ ((q ≡ k → ⊥) × (lookup (nat_eq q) es ≡ Some x))
      go true e =
          let at : q ≡ k = eqb-true q k e in
          let here : lookup (nat_eq k) (insert_entry nat_eq es k v) ≡ Some x = subst (λ (n : ℕ). lookup (nat_eq n) (insert_entry nat_eq es k v) ≡ Some x) at h in
          let both : Some v ≡ Some x = sym (found_put es) ∙ here in inl (at, cc)
      go false e = let apart : q ≡ k → ⊥ = eqb-false q k e in inr (apart, sym (found_other q apart es) ∙ h)

-- ---- connections that a lane has had

-- a lane has had the connection of this key
abbrev pub IsHad : (connected : List ℕ) → ConnKey → Type 0
IsHad connected key = (key.lane < length connected) × (key.ordinal < slice_index connected key.lane)

-- one more at a place makes no number less
one_more : (xs : List ℕ) (i j : ℕ) → get_or xs j 0 ≤ get_or (slice_set xs i (get_or xs i 0 + 1)) j 0
one_more [] i j = omega arith
one_more (x ∷ xs) zero zero = omega arith
one_more (x ∷ xs) zero (suc j) = omega arith
one_more (x ∷ xs) (suc i) zero = omega arith
one_more (x ∷ xs) (suc i) (suc j) = one_more xs i j

-- the connections of a lane stay where another comes
had_grows : (connected : List ℕ) (lane : ℕ) (key : ConnKey) → IsHad connected key → IsHad (slice_set connected lane (slice_index connected lane + 1)) key
had_grows connected lane key h =
    let long = length-slice_set connected lane (slice_index connected lane + 1) in
    let more = one_more connected lane key.lane in (omega (arith, long, h.0), omega (arith, more, h.1))

-- ---- spans of a connection

-- a connection is itself
same_conn : (c : ConnKey) → ((c.lane == c.lane) && (c.ordinal == c.ordinal)) ≡ true
same_conn c = ap (λ (b : Bool). b && (c.ordinal == c.ordinal)) (same_number c.lane) ∙ same_number c.ordinal

-- connections that differ are told apart
other_conn : (c d : ConnKey) → (c ≡ d → ⊥) → ((c.lane == d.lane) && (c.ordinal == d.ordinal)) ≡ false
other_conn c d n = go (c.lane == d.lane) refl (c.ordinal == d.ordinal) refl
  where
    go : (a : Bool) → (c.lane == d.lane) ≡ a → (b : Bool) → (c.ordinal == d.ordinal) ≡ b → (a && b) ≡ false
    go true p true q = let x = eqb-true c.lane d.lane p in let y = eqb-true c.ordinal d.ordinal q in absurd (n (λ i. record { lane = x i; ordinal = y i }))
    go true p false q = refl
    go false p b q = refl

-- all spans of a request are of its connection
pub all_of_conn : (conn : ConnKey) (next moment : ℕ) (records : List Record) → tally (is_of_conn conn) (arrivals_from conn next moment records) ≡ length (arrivals_from conn next moment records)
all_of_conn conn next moment [] = refl
all_of_conn conn next moment (r ∷ rest) =
    let one : cond {A = ℕ} (is_of_conn conn (arrival_of conn next moment r)) 1 0 ≡ 1 = ap (λ (b : Bool). cond {A = ℕ} b 1 0) (same_conn conn) in
    omega (arith, one, all_of_conn conn (next + 1) moment rest)

-- and none of another one
pub none_of_conn : (other conn : ConnKey) → (conn ≡ other → ⊥) → (next moment : ℕ) (records : List Record) → tally (is_of_conn other) (arrivals_from conn next moment records) ≡ 0
none_of_conn other conn n next moment [] = refl
none_of_conn other conn n next moment (r ∷ rest) =
    let one : cond {A = ℕ} (is_of_conn other (arrival_of conn next moment r)) 1 0 ≡ 0 = ap (λ (b : Bool). cond {A = ℕ} b 1 0) (other_conn conn other n) in
    omega (arith, one, none_of_conn other conn n (next + 1) moment rest)

-- what holds of a connection holds of the connection of each of its spans
pub each_of_conn : (P : ConnKey → Type 0) (conn : ConnKey) → P conn → (next moment : ℕ) (records : List Record) → Each (λ (a : Arrival). P a.key.conn) (arrivals_from conn next moment records)
each_of_conn P conn p next moment [] = tt
each_of_conn P conn p next moment (r ∷ rest) = (p, each_of_conn P conn p (next + 1) moment rest)

-- no span came on a connection that its lane has not had
none_came : (connected : List ℕ) (conn : ConnKey) → (IsHad connected conn → ⊥) → (spans : List Arrival) → Each (λ (a : Arrival). IsHad connected a.key.conn) spans → tally (is_of_conn conn) spans ≡ 0
none_came connected conn n [] h = refl
none_came connected conn n (a ∷ rest) h =
    let apart : a.key.conn ≡ conn → ⊥ = λ e. n (subst (λ (c : ConnKey). IsHad connected c) e h.0) in
    let one : cond {A = ℕ} (is_of_conn conn a) 1 0 ≡ 0 = ap (λ (b : Bool). cond {A = ℕ} b 1 0) (other_conn a.key.conn conn apart) in
    omega (arith, one, none_came connected conn n rest h.1)

-- ---- what is known

-- there is a lane; the connections differ and are their lanes' own, the next number of each is how many spans came on
-- it, and spans came on such connections alone
pub record Knows (c : Contacts) (received : List Arrival) : Type 0 where
  pub lanes : 0 < length c.connected
  pub had : (number : ℕ) (conn : Conn) → lookup (nat_eq number) c.connections ≡ Some conn → IsHad c.connected conn.key
  pub next : (number : ℕ) (conn : Conn) → lookup (nat_eq number) c.connections ≡ Some conn → conn.next ≡ tally (is_of_conn conn.key) received
  pub distinct : (number other : ℕ) (conn twin : Conn) → lookup (nat_eq number) c.connections ≡ Some conn → lookup (nat_eq other) c.connections ≡ Some twin → conn.key ≡ twin.key → number ≡ other
  pub came : Each (λ (a : Arrival). IsHad c.connected a.key.conn) received

-- the same, of a world
abbrev pub KnowsConnections : ScriptWorld → Type 0
KnowsConnections w = Knows w.contacts w.received

-- it is known before the first line
pub knows_new : (lanes : ℕ) → 0 < lanes → Knows (record { connections = []; connected = replicate lanes 0 }) []
knows_new lanes some =
    let none : List ℕ = replicate lanes 0 in
    let long : length none ≡ lanes = length-replicate lanes 0 in
    record {
      lanes = omega (arith, long);
      had = λ number conn e. absurd (cc e);
      next = λ number conn e. absurd (cc e);
      distinct = λ number other conn twin e f g. absurd (cc e);
      came = tt;
    }

-- the connection of a number is there, with what is known before its spans are counted
pub record IsThere (number : ℕ) (conn : Conn) (c there : Contacts) (received : List Arrival) : Type 0 where
  pub found : lookup (nat_eq number) there.connections ≡ Some conn
  pub knows : Knows there received
  pub many : length there.connected ≡ length c.connected

-- a lane has not had the connection that it has next
not_had : (connected : List ℕ) (lane : ℕ) → IsHad connected (record { lane = lane; ordinal = slice_index connected lane }) → ⊥
not_had connected lane h = omega (arith, h.1)

module _ (number : ℕ) (c : Contacts) (received : List Arrival) (k : Knows c received) where
  -- the lane of a new connection
  abbrev lane : ℕ
  lane = lane_of number c

  -- a new connection
  abbrev conn : Conn
  conn = conn_where None number c

  -- the connections with it
  abbrev there : Contacts
  there = connected_where None number c

  -- what a lane has had it has had once the new connection is there
  grown : (key : ConnKey) → IsHad c.connected key → IsHad there.connected key
  grown key h = had_grows c.connected lane key h

  -- there are as many lanes
  long : length there.connected ≡ length c.connected
  long = length-slice_set c.connected lane (slice_index c.connected lane + 1)

  -- the lane of the new connection is one of them
  within : lane < length c.connected
  within = mod-lt number k.lanes

  -- that lane has had the new connection
  new_had : IsHad there.connected conn.key
  new_had =
      let at : get_or there.connected lane 0 ≡ slice_index c.connected lane + 1 = get_or-set_same c.connected lane (slice_index c.connected lane + 1) 0 within in
      (omega (arith, long, within), omega (arith, at))

  -- the new connection is found by its number
  found : lookup (nat_eq number) there.connections ≡ Some conn
  found = found_put number conn c.connections

  -- no other connection has its key
  fresh : (other : ℕ) (twin : Conn) → lookup (nat_eq other) c.connections ≡ Some twin → conn.key ≡ twin.key → ⊥
  fresh other twin e f = not_had c.connected lane (subst (λ (key : ConnKey). IsHad c.connected key) (sym f) (k.had other twin e))

  -- what is found is the new connection, or was found before
  cases : (q : ℕ) (x : Conn) → lookup (nat_eq q) there.connections ≡ Some x → ((q ≡ number) × (x ≡ conn)) ⊎ ((q ≡ number → ⊥) × (lookup (nat_eq q) c.connections ≡ Some x))
  cases q x e = found_cases number conn q x c.connections e

  -- each connection is one that its lane has had
  had_there : (q : ℕ) (x : Conn) → ((q ≡ number) × (x ≡ conn)) ⊎ ((q ≡ number → ⊥) × (lookup (nat_eq q) c.connections ≡ Some x)) → IsHad there.connected x.key
  had_there q x (inl h) = subst (λ (z : Conn). IsHad there.connected z.key) (sym h.1) new_had
  had_there q x (inr h) = grown x.key (k.had q x h.1)

  -- the next number of each is how many spans came on it
  next_there : (q : ℕ) (x : Conn) → ((q ≡ number) × (x ≡ conn)) ⊎ ((q ≡ number → ⊥) × (lookup (nat_eq q) c.connections ≡ Some x)) → x.next ≡ tally (is_of_conn x.key) received
  next_there q x (inl h) = subst (λ (z : Conn). z.next ≡ tally (is_of_conn z.key) received) (sym h.1) (sym (none_came c.connected conn.key (not_had c.connected lane) received k.came))
  next_there q x (inr h) = k.next q x h.1

  -- the connections differ
  distinct_there : (q r : ℕ) (x y : Conn) → ((q ≡ number) × (x ≡ conn)) ⊎ ((q ≡ number → ⊥) × (lookup (nat_eq q) c.connections ≡ Some x))
      → ((r ≡ number) × (y ≡ conn)) ⊎ ((r ≡ number → ⊥) × (lookup (nat_eq r) c.connections ≡ Some y)) → x.key ≡ y.key → q ≡ r
  distinct_there q r x y (inl h) (inl g) e = h.0 ∙ sym g.0
  distinct_there q r x y (inl h) (inr g) e = absurd (fresh r y g.1 (ap (λ (z : Conn). z.key) (sym h.1) ∙ e))
  distinct_there q r x y (inr h) (inl g) e = absurd (fresh q x h.1 (ap (λ (z : Conn). z.key) (sym g.1) ∙ sym e))
  distinct_there q r x y (inr h) (inr g) e = k.distinct q r x y h.1 g.1 e

  -- what is known once the new connection is there
  knows_there : Knows there received
  knows_there = record {
    lanes = omega (arith, long, k.lanes);
    had = λ q x e. had_there q x (cases q x e);
    next = λ q x e. next_there q x (cases q x e);
    distinct = λ q r x y e f g. distinct_there q r x y (cases q x e) (cases r y f) g;
    came = Each-weaker (λ (a : Arrival). IsHad c.connected a.key.conn) (λ (a : Arrival). IsHad there.connected a.key.conn) received (λ a h. grown a.key.conn h) k.came;
  }

  -- the connection was there, or is new
  either : (o : Option Conn) → lookup (nat_eq number) c.connections ≡ o → IsThere number (conn_where o number c) c (connected_where o number c) received
  either None e = record { found = found; knows = knows_there; many = long }
  either (Some x) e = record { found = e; knows = k; many = refl }

  -- a connection is there once its number was used
  pub is_there : IsThere number (connection_of number c) c (with_connection number c) received
  is_there = either (lookup (nat_eq number) c.connections) refl

-- the connections once so many spans came on this one
abbrev pub counted : (number : ℕ) → Conn → (spans : ℕ) → Contacts → Contacts
counted number conn spans c = record c { connections = with_spans number conn spans c.connections }

module _ (number : ℕ) (conn : Conn) (c : Contacts) (received : List Arrival) (k : Knows c received) (found : lookup (nat_eq number) c.connections ≡ Some conn) (moment : ℕ) (records : List Record) where
  -- the spans of a request
  abbrev spans : List Arrival
  spans = arrivals_from conn.key conn.next moment records

  -- the connection, and the connections, after them
  abbrev later : Conn
  later = record conn { next = conn.next + length spans }

  abbrev after : Contacts
  after = counted number conn (length spans) c

  -- what a number finds after them
  abbrev Found : (q : ℕ) (x : Conn) → Type 0
  Found q x = ((q ≡ number) × (x ≡ later)) ⊎ ((q ≡ number → ⊥) × (lookup (nat_eq q) c.connections ≡ Some x))

  -- what a number finds
  finds : (q : ℕ) (x : Conn) → lookup (nat_eq q) after.connections ≡ Some x → Found q x
  finds q x e = found_cases number later q x c.connections e

  -- it found a connection of the same key before
  had_before : (q : ℕ) (x : Conn) → Found q x → (y : Conn) × (lookup (nat_eq q) c.connections ≡ Some y) × (y.key ≡ x.key)
  had_before q x (inl h) = (conn, subst (λ (n : ℕ). lookup (nat_eq n) c.connections ≡ Some conn) (sym h.0) found, ap (λ (z : Conn). z.key) (sym h.1))
  had_before q x (inr h) = (x, h.1, refl)

  -- each connection is one that its lane has had
  had_after : (q : ℕ) (x : Conn) → Found q x → IsHad c.connected x.key
  had_after q x h = let b = had_before q x h in subst (λ (z : ConnKey). IsHad c.connected z) b.2 (k.had q b.0 b.1)

  -- how many spans came on a connection
  came_on : (key : ConnKey) → tally (is_of_conn key) (received ++ spans) ≡ tally (is_of_conn key) received + tally (is_of_conn key) spans
  came_on key = tally-append (is_of_conn key) received spans

  -- the next number of each is how many spans came on it
  next_after : (q : ℕ) (x : Conn) → Found q x → x.next ≡ tally (is_of_conn x.key) (received ++ spans)
  next_after q x (inl h) =
      let own : conn.next + length spans ≡ tally (is_of_conn conn.key) (received ++ spans) = omega (arith, came_on conn.key, k.next number conn found, all_of_conn conn.key conn.next moment records) in
      subst (λ (z : Conn). z.next ≡ tally (is_of_conn z.key) (received ++ spans)) (sym h.1) own
  next_after q x (inr h) =
      let apart : conn.key ≡ x.key → ⊥ = λ e. h.0 (sym (k.distinct number q conn x found h.1 e)) in
      omega (arith, came_on x.key, k.next q x h.1, none_of_conn x.key conn.key apart conn.next moment records)

  -- the connections differ
  distinct_after : (q r : ℕ) (x y : Conn) → Found q x → Found r y → x.key ≡ y.key → q ≡ r
  distinct_after q r x y h g e = let b = had_before q x h in let d = had_before r y g in k.distinct q r b.0 d.0 b.1 d.1 (b.2 ∙ (e ∙ sym d.2))

  -- what is known after a request's spans came
  pub knows_after : Knows after (received ++ spans)
  knows_after = record {
    lanes = k.lanes;
    had = λ q x e. had_after q x (finds q x e);
    next = λ q x e. next_after q x (finds q x e);
    distinct = λ q r x y e f g. distinct_after q r x y (finds q x e) (finds r y f) g;
    came = Each-append (λ (a : Arrival). IsHad c.connected a.key.conn) received spans k.came (each_of_conn (λ (key : ConnKey). IsHad c.connected key) conn.key (k.had number conn found) conn.next moment records);
  }

-- a request's spans come on its connection
pub knows_received : (number moment : ℕ) (records : List Record) (c : Contacts) (received : List Arrival) → Knows c received → let conn = connection_of number c in let spans = arrivals_from conn.key conn.next moment records in
    Knows (with_received number (length spans) c) (received ++ spans)
knows_received number moment records c received k = let t = is_there number c received k in knows_after number (connection_of number c) (with_connection number c) received t.knows t.found moment records
