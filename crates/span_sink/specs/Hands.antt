-- Lines that are handed over one after the other, and what their sink took of them.
use Rattle.std.specs.Prelude.{◌≡◌, ℕ, ◌+◌, ◌<◌, Bool, true, false, List, [], ◌∷◌, ◌++◌, length, map, filter, Result, Ok, Err, ◌⊎◌}
use Rattle.std.specs.List.{concat, list_all}
use Rattle.std.specs.Io.KnownBytes.{Appends}
use Rattle.span_sink.specs.declared.sink.SinkFault.{SinkFault}
use Rattle.span_sink.specs.declared.sink.SinkFault.TheVariants.{Failed, Down, Refused}
use Rattle.span_sink.specs.LineSinks.{LineSinkState, TakesWhole, FailsInside, Refuses}
use Rattle.span_sink.specs.Manners.{Manner, prints}

-- a call of `hand`: its line and its answer
pub record Handing : Type 0 where
  pub line : List ℕ
  pub answer : Result (Unit {0}) SinkFault

-- what a call does, for each answer
abbrev pub HandsOne : (old : LineSinkState) → List ℕ → Result (Unit {0}) SinkFault → (new : LineSinkState) → Type 0
HandsOne old line (Ok done) new = TakesWhole old line new
HandsOne old line (Err Failed) new = FailsInside old line new
HandsOne old line (Err Down) new = (old.is_down ≡ true) × (new ≡ old)
HandsOne old line (Err Refused) new = ⊥

-- what a call on a destination of this manner does
abbrev pub HandsTo : Manner → (old : LineSinkState) → List ℕ → Result (Unit {0}) SinkFault → (new : LineSinkState) → Type 0
HandsTo manner old line (Ok done) new = HandsOne old line (Ok done) new
HandsTo manner old line (Err Failed) new = HandsOne old line (Err Failed) new
HandsTo manner old line (Err Down) new = HandsOne old line (Err Down) new
HandsTo manner old line (Err Refused) new = Refuses manner old line new

-- what calls do, one after the other
abbrev pub HandsAll : Manner → (old : LineSinkState) → List Handing → (new : LineSinkState) → Type 0
HandsAll manner old [] new = new ≡ old
HandsAll manner old (call ∷ calls) new = (between : LineSinkState) × HandsTo manner old call.line call.answer between × HandsAll manner between calls new

-- by the answer a destination of this manner took the line whole
abbrev pub is_whole : Manner → Result (Unit {0}) SinkFault → Bool
is_whole manner (Ok done) = true
is_whole manner (Err Failed) = false
is_whole manner (Err Down) = false
is_whole manner (Err Refused) = prints manner

-- the lines that it took whole, in order
abbrev pub handed_lines : Manner → List Handing → List (List ℕ)
handed_lines manner calls = map (λ call. call.line) (filter (λ call. is_whole manner call.answer) calls)

-- a write had failed before this call
abbrev pub is_down_answer : Result (Unit {0}) SinkFault → Bool
is_down_answer (Ok done) = false
is_down_answer (Err Failed) = false
is_down_answer (Err Down) = true
is_down_answer (Err Refused) = false

-- at one of the calls a write failed, after this part of its line was taken, which isn't the whole; every later call
-- was answered Down
pub record StopsWithin (part : List ℕ) (calls : List Handing) : Type 0 where
  pub before : List Handing
  pub line : List ℕ
  pub after : List Handing
  pub missing : List ℕ
  pub place : calls ≡ before ++ record { line = line; answer = Err Failed } ∷ after
  pub split : line ≡ part ++ missing
  pub cut_short : 0 < length missing
  pub nothing_follows : list_all (λ call. is_down_answer call.answer) after ≡ true

-- the sink took the lines whose call answered Ok, and those that it printed and refused, joined, and then a part of one
-- line if a write failed, else nothing more
pub record TookLines (manner : Manner) (old : LineSinkState) (calls : List Handing) (new : LineSinkState) : Type 0 where
  pub part : List ℕ
  pub bytes : Appends old.taken new.taken (concat (handed_lines manner calls) ++ part)
  pub ends : ((part ≡ []) × (new.is_down ≡ old.is_down) × (new.failures ≡ old.failures))
      ⊎ ((old.is_down ≡ false) × (new.is_down ≡ true) × (new.failures ≡ old.failures + 1) × StopsWithin part calls)

-- this holds of all calls on all destinations
abbrev pub TakesHandedLines : Type 0
TakesHandedLines = (manner : Manner) (old new : LineSinkState) (calls : List Handing) → HandsAll manner old calls new → TookLines manner old calls new
