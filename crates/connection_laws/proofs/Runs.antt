-- The turns of one connection, taken out of all acts of its lane.
-- For the clause `served` of `connections_in_any_pieces`.
use Rattle.std.specs.Prelude.{MatchBool, if◌then◌else◌}
use Rattle.std.proofs.Common.{ℕ, ◌==◌, Bool, true, false, List, [], ◌∷◌, ap}
use Rattle.http_text.specs.declared.allowed.Allowed.{Allowed}
use Rattle.otlp_types.specs.declared.arrival.Item.{Item}
use Rattle.http_lane.specs.Turns.{Waiting, came_at, Turned, Turns}
use Rattle.lane_turns.specs.Acts.{Act, took, had, Numbered, numbered, TurnsOf, RunOf}
use Rattle.connection_laws.specs.Connections.{turns_had, ServedByTurns, AreServedByTurns}

one_more : (b : Bool) (w last : Waiting) (t : Turned) (turns : List Turned) (A B : Type 0) → (A → Turns w (t ∷ turns) last) → (B → Turns w turns last)
    → MatchBool b A B → Turns w (if b then t ∷ turns else turns) last
one_more true w last t turns A B own other h = own h
one_more false w last t turns A B own other h = other h

-- the connection isn't taken again
not_taken : (b : Bool) (A B : Type 0) → (A → B) → MatchBool b ⊥ A → B
not_taken true A B f h = absurd h
not_taken false A B f h = f h

turns_of : (k : ℕ) (acts : List Act) (c last : Numbered) → TurnsOf k c acts last → Turns c.waiting (turns_had k acts) last.waiting
turns_of k [] c last h = ap (λ (n : Numbered). n.waiting) h
turns_of k (took j moment ∷ acts) c last h = not_taken (j == k) (TurnsOf k c acts last) (Turns c.waiting (turns_had k acts) last.waiting) (λ x. turns_of k acts c last x) h
turns_of k (had j before after t ∷ acts) c last h = one_more (j == k) c.waiting last.waiting t (turns_had k acts) _ _
    (λ x. (x.0, x.2, x.3, turns_of k acts (numbered x.2 after) last x.4)) (λ x. turns_of k acts c last x) h

-- nor has it a turn before it is taken
no_turn : (b : Bool) (g : Allowed) (t : Turned) (turns : List Turned) (A : Type 0) → (A → ServedByTurns g turns) → MatchBool b ⊥ A → ServedByTurns g (if b then t ∷ turns else turns)
no_turn true g t turns A f h = absurd h
no_turn false g t turns A f h = f h

either : (b : Bool) (A B C : Type 0) → (A → C) → (B → C) → MatchBool b A B → C
either true A B C f g h = f h
either false A B C f g h = g h

run_of : (g : Allowed) (k : ℕ) (acts : List Act) (last : Numbered) → RunOf g k acts last → ServedByTurns g (turns_had k acts)
run_of g k [] last h = absurd h
run_of g k (took j moment ∷ acts) last h = either (j == k) (TurnsOf k (numbered (came_at g moment) 0) acts last) (RunOf g k acts last) (ServedByTurns g (turns_had k acts))
    (λ x. record { moment = moment; last = last.waiting; run = turns_of k acts (numbered (came_at g moment) 0) last x }) (λ x. run_of g k acts last x) h
run_of g k (had j before after t ∷ acts) last h = no_turn (j == k) g t (turns_had k acts) (RunOf g k acts last) (λ x. run_of g k acts last x) h

module _ {P : Type 0} (takes : P → Item → P → Type 0) (refuses : P → P → Type 0) where
  pub are_served : AreServedByTurns takes refuses
  are_served allowed keeps c =
      let run = c.fits.runs c.ordinal c.not_before c.taken in
      run_of allowed c.ordinal c.acts run.last run.run
