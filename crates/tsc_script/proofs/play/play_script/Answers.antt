use Rattle.std.proofs.Common.{◌≡◌, ◌+◌, ℕ, Some, List, [], ◌∷◌, ◌++◌, refl, sym, ap, ◌∙◌, subst, arith, inl, inr}
use Rattle.tsc_script.specs.Instructions.{Instruction, instruction_of_command}
use Rattle.tsc_script.specs.Reads.{SourceTurn, bytes_given}
use Rattle.tsc_script.proofs.Turns.{Gives-none, Gives-then, Counts-none, Counts-then, GoOn-append, LastGave-append, Spends-append, cut_short}
use Rattle.tsc_script.proofs.Playing.{Follows, Follows-none, Follows-line}
use Rattle.tsc_script.proofs.Last.{command-goes_on, command-open}
use Rattle.tsc_script.proofs.Exits.{follows_on, follows_close, few, told-refused, line_refused, long_line_refused, cut_line, begins, stops_at, closes, closed-stopped, close-whole, close-refused, close-caused, input-whole, input-refused, input-stopped, input-caused, played_last, IfErr-played_last, too_many}
use Rattle.tsc_script.proofs.play.play_script.Goals as goal

-- before the first line
pub loop-number-init : goal.loop-number-init
loop-number-init g c = record {
  room = c.in-Ok.ensures.capacity;
  turns = (
    [],
    Gives-none _,
    rw c.in-Ok-new.ensures (Counts-none 0),
    tt,
    [],
    rw c.in-Ok-new.ensures Follows-none,
    c.requires.start c.args.machine.now,
  );
  still_open = c.requires.open;
  still_up = c.requires.up;
}

-- the text behind the last line feed
pub returns-in-Input-clause-whole : goal.returns-in-Input-clause-whole
returns-in-Input-clause-whole g c =
    let so_far = c.loop-number.invariant.turns in
    let more = c.in-Input.ensures.turns in
    let gives = Gives-then _ _ _ so_far.0 more.0 so_far.1 more.1 in
    let f = follows_on so_far.0 more.0 _ c.read_line.new.line.items c.loop-number.number so_far.4 so_far.5 more.3.1 in
    let done : List Instruction = so_far.4 in
    let F = λ (line : List ℕ). Follows (bytes_given (so_far.0 ++ more.0)) line c.loop-number.number done in
    input-whole _ _ (bytes_given (so_far.0 ++ more.0)) gives.bytes (λ xs. g.M.ScriptPlayer.leads c.args.machine.now xs c.play_last.new.machine) c.play_last.result c.loop-number.number done c.deref.result.now
    (subst F (sym c.deref.ensures.value) f) (c.in-Input.ensures.end refl)
    (played_last g.M.ScriptPlayer.leads c.args.machine.now c.play_last.result c.loop-number.machine c.play_last.new.machine c.loop-number.number _ c.deref.result.now so_far.6 c.play_last.ensures.whole)

pub returns-in-Input-clause-refused : goal.returns-in-Input-clause-refused
returns-in-Input-clause-refused g c =
    let so_far = c.loop-number.invariant.turns in
    let more = c.in-Input.ensures.turns in
    let gives = Gives-then _ _ _ so_far.0 more.0 so_far.1 more.1 in
    let f = follows_on so_far.0 more.0 _ c.read_line.new.line.items c.loop-number.number so_far.4 so_far.5 more.3.1 in
    let done : List Instruction = so_far.4 in
    let F = λ (line : List ℕ). Follows (bytes_given (so_far.0 ++ more.0)) line c.loop-number.number done in
    input-refused _ _ (bytes_given (so_far.0 ++ more.0)) gives.bytes c.play_last.result c.loop-number.number done c.deref.result.now
    (subst F (sym c.deref.ensures.value) f) (c.in-Input.ensures.end refl) c.play_last.ensures.refused

pub returns-in-Input-clause-stopped : goal.returns-in-Input-clause-stopped
returns-in-Input-clause-stopped g c =
    let so_far = c.loop-number.invariant.turns in
    let more = c.in-Input.ensures.turns in
    let gives = Gives-then _ _ _ so_far.0 more.0 so_far.1 more.1 in
    let f = follows_on so_far.0 more.0 _ c.read_line.new.line.items c.loop-number.number so_far.4 so_far.5 more.3.1 in
    let done : List Instruction = so_far.4 in
    let F = λ (line : List ℕ). Follows (bytes_given (so_far.0 ++ more.0)) line c.loop-number.number done in
    input-stopped _ _ (bytes_given (so_far.0 ++ more.0)) gives.bytes (λ xs. g.M.ScriptPlayer.leads c.args.machine.now xs c.play_last.new.machine) _ (c.play_last.new.machine ≡ c.loop-number.machine) c.play_last.result c.loop-number.number done c.deref.result.now
    (subst F (sym c.deref.ensures.value) f) (c.in-Input.ensures.end refl)
    (λ e. rw e so_far.6) c.play_last.ensures.refused
    (IfErr-played_last g.M.ScriptPlayer.leads c.args.machine.now c.play_last.result c.loop-number.machine c.play_last.new.machine c.loop-number.number _ c.deref.result.now so_far.6 c.play_last.ensures.stopped)

pub returns-in-Input-clause-caused : goal.returns-in-Input-clause-caused
returns-in-Input-clause-caused g c =
    let so_far = c.loop-number.invariant.turns in
    let more = c.in-Input.ensures.turns in
    let f = follows_on so_far.0 more.0 _ c.read_line.new.line.items c.loop-number.number so_far.4 so_far.5 more.3.1 in
    let done : List Instruction = so_far.4 in
    let F = λ (line : List ℕ). Follows (bytes_given (so_far.0 ++ more.0)) line c.loop-number.number done in (
      so_far.0 ++ more.0,
      Gives-then _ _ _ so_far.0 more.0 so_far.1 more.1,
      few _ _ (Counts-then _ _ _ so_far.0 more.0 so_far.2 more.2),
      input-caused c.play_last.result _ _ (so_far.0 ++ more.0) c.loop-number.number done c.deref.result.now
          (subst F (sym c.deref.ensures.value) f) (LastGave-append _ so_far.0 more.0 so_far.3 more.3.0) c.play_last.ensures.refused c.play_last.ensures.stopped,
    )

-- a line that is too long
pub returns-in-TooLong-clause-stopped : goal.returns-in-TooLong-clause-stopped
returns-in-TooLong-clause-stopped g c =
    let so_far = c.loop-number.invariant.turns in
    let more = c.in-TooLong.ensures.turns in
    let gives = Gives-then _ _ _ so_far.0 more.0 so_far.1 more.1 in
    stops_at _ _ (bytes_given (so_far.0 ++ more.0)) gives.bytes (λ xs. g.M.ScriptPlayer.leads c.args.machine.now xs c.loop-number.machine) _ c.loop-number.number so_far.4
    (follows_on so_far.0 more.0 _ _ c.loop-number.number so_far.4 so_far.5 more.3.4) so_far.6

pub returns-in-TooLong-clause-refused : goal.returns-in-TooLong-clause-refused
returns-in-TooLong-clause-refused g c =
    let so_far = c.loop-number.invariant.turns in
    let more = c.in-TooLong.ensures.turns in
    let gives = Gives-then _ _ _ so_far.0 more.0 so_far.1 more.1 in
    let f = follows_on so_far.0 more.0 _ _ c.loop-number.number so_far.4 so_far.5 more.3.4 in
    told-refused _ _ (bytes_given (so_far.0 ++ more.0)) c.loop-number.number gives.bytes
    (long_line_refused (so_far.0 ++ more.0) c.read_line.new.line.items more.3.1 c.read_line.new.buffer.bytes c.loop-number.number so_far.4 f c.in-TooLong.ensures.plain.0 more.3.2 more.3.3)

pub returns-in-TooLong-clause-caused : goal.returns-in-TooLong-clause-caused
returns-in-TooLong-clause-caused g c =
    let so_far = c.loop-number.invariant.turns in
    let more = c.in-TooLong.ensures.turns in
    let f = follows_on so_far.0 more.0 _ _ c.loop-number.number so_far.4 so_far.5 more.3.4 in (
      so_far.0 ++ more.0,
      Gives-then _ _ _ so_far.0 more.0 so_far.1 more.1,
      few _ _ (Counts-then _ _ _ so_far.0 more.0 so_far.2 more.2),
      λ later _. long_line_refused (so_far.0 ++ more.0) c.read_line.new.line.items more.3.1 c.read_line.new.buffer.bytes c.loop-number.number so_far.4 f c.in-TooLong.ensures.plain.0 more.3.2 more.3.3 later,
    )

-- a read fault
pub returns-in-Fault-clause-stopped : goal.returns-in-Fault-clause-stopped
returns-in-Fault-clause-stopped g c =
    let so_far = c.loop-number.invariant.turns in
    let more = c.in-Fault.ensures.turns in
    let gives = Gives-then _ _ _ so_far.0 more.0 so_far.1 more.1 in
    stops_at _ _ (bytes_given (so_far.0 ++ more.0)) gives.bytes (λ xs. g.M.ScriptPlayer.leads c.args.machine.now xs c.loop-number.machine) _ c.loop-number.number so_far.4
    (follows_on so_far.0 more.0 _ _ c.loop-number.number so_far.4 so_far.5 more.3.1) so_far.6

pub returns-in-Fault-clause-caused : goal.returns-in-Fault-clause-caused
returns-in-Fault-clause-caused g c =
    let so_far = c.loop-number.invariant.turns in
    let more = c.in-Fault.ensures.turns in
    let counts = Counts-then _ _ _ so_far.0 more.0 so_far.2 more.2 in
    let f = follows_on so_far.0 more.0 _ _ c.loop-number.number so_far.4 so_far.5 more.3.1 in (
      so_far.0 ++ more.0,
      Gives-then _ _ _ so_far.0 more.0 so_far.1 more.1,
      few _ _ counts,
      cut_line (so_far.0 ++ more.0) c.read_line.new.line.items c.loop-number.number so_far.4 f c.in-Fault.ensures.plain.0
          (cut_short _ _ counts (Spends-append _ so_far.0 more.0 so_far.3 more.3.0)),
    )

-- a line that says nothing
pub returns-in_default-parse-clause-stopped : goal.returns-in_default-parse-clause-stopped
returns-in_default-parse-clause-stopped g c =
    let so_far = c.loop-number.invariant.turns in
    let more = c.in-LineFeed.ensures.turns in
    let gives = Gives-then _ _ _ so_far.0 more.0 so_far.1 more.1 in
    stops_at _ _ (bytes_given (so_far.0 ++ more.0)) gives.bytes (λ xs. g.M.ScriptPlayer.leads c.args.machine.now xs c.loop-number.machine) _ c.loop-number.number so_far.4
    (follows_on so_far.0 more.0 _ _ c.loop-number.number so_far.4 so_far.5 more.3.1) so_far.6

pub returns-in_default-parse-clause-refused : goal.returns-in_default-parse-clause-refused
returns-in_default-parse-clause-refused g c =
    let so_far = c.loop-number.invariant.turns in
    let more = c.in-LineFeed.ensures.turns in
    let gives = Gives-then _ _ _ so_far.0 more.0 so_far.1 more.1 in
    let f = follows_on so_far.0 more.0 _ _ c.loop-number.number so_far.4 so_far.5 more.3.1 in
    told-refused _ _ (bytes_given (so_far.0 ++ more.0)) c.loop-number.number gives.bytes
    (line_refused (so_far.0 ++ more.0) c.read_line.new.line.items c.read_line.new.buffer.bytes c.loop-number.number so_far.4 f c.in-LineFeed.ensures.plain.0
    (rw (← c.deref-in-loop-number.ensures.value) (sym c.in_default-parse.ensures)))

pub returns-in_default-parse-clause-caused : goal.returns-in_default-parse-clause-caused
returns-in_default-parse-clause-caused g c =
    let so_far = c.loop-number.invariant.turns in
    let more = c.in-LineFeed.ensures.turns in
    let f = follows_on so_far.0 more.0 _ _ c.loop-number.number so_far.4 so_far.5 more.3.1 in (
      so_far.0 ++ more.0,
      Gives-then _ _ _ so_far.0 more.0 so_far.1 more.1,
      few _ _ (Counts-then _ _ _ so_far.0 more.0 so_far.2 more.2),
      λ later _. line_refused (so_far.0 ++ more.0) c.read_line.new.line.items c.read_line.new.buffer.bytes c.loop-number.number so_far.4 f c.in-LineFeed.ensures.plain.0
          (rw (← c.deref-in-loop-number.ensures.value) (sym c.in_default-parse.ensures)) later,
    )

-- the machine is down after a close
pub returns-then-not-play-clause-stopped : goal.returns-then-not-play-clause-stopped
returns-then-not-play-clause-stopped g c =
    let so_far = c.loop-number.invariant.turns in
    let more = c.in-LineFeed.ensures.turns in
    let gives = Gives-then _ _ _ so_far.0 more.0 so_far.1 more.1 in
    let f = follows_on so_far.0 more.0 _ _ c.loop-number.number so_far.4 so_far.5 more.3.1 in (
      so_far.4,
      rw c.in-Close.is at (c.play.ensures.played _ _ so_far.6),
      inr (inl (closes _ _ (bytes_given (so_far.0 ++ more.0)) gives.bytes c.read_line.new.line.items c.read_line.new.buffer.bytes c.loop-number.number so_far.4 f c.in-LineFeed.ensures.plain.0
          (rw (← c.deref-in-loop-number.ensures.value) (sym c.in-Some.ensures ∙ ap (λ x. Some (instruction_of_command x)) c.in-Close.is)))),
    )

pub returns-then-not-play-clause-caused : goal.returns-then-not-play-clause-caused
returns-then-not-play-clause-caused g c =
    let so_far = c.loop-number.invariant.turns in
    let more = c.in-LineFeed.ensures.turns in (
      so_far.0 ++ more.0,
      Gives-then _ _ _ so_far.0 more.0 so_far.1 more.1,
      few _ _ (Counts-then _ _ _ so_far.0 more.0 so_far.2 more.2),
      tt,
    )

-- behind a close
pub returns-in-Close-clause-whole : goal.returns-in-Close-clause-whole
returns-in-Close-clause-whole g c =
    let so_far = c.loop-number.invariant.turns in
    let more = c.in-LineFeed.ensures.turns in
    let behind = c.expect_end.ensures.turns in
    let all : List SourceTurn = (so_far.0 ++ more.0) ++ behind.0 in
    let gives = Gives-then _ _ _ (so_far.0 ++ more.0) behind.0 (Gives-then _ _ _ so_far.0 more.0 so_far.1 more.1) behind.1 in
    let f = follows_close (so_far.0 ++ more.0) behind.0 c.read_line.new.line.items c.read_line.new.buffer.bytes c.loop-number.number so_far.4
    (follows_on so_far.0 more.0 _ _ c.loop-number.number so_far.4 so_far.5 more.3.1) in
    close-whole _ _ (bytes_given all) gives.bytes (λ xs. g.M.ScriptPlayer.leads c.args.machine.now xs c.play.new.self) c.expect_end.result c.read_line.new.line.items _ c.loop-number.number _ so_far.4 behind.0
    f c.in-LineFeed.ensures.plain.0
    (rw (← c.deref-in-loop-number.ensures.value) (sym c.in-Some.ensures ∙ ap (λ x. Some (instruction_of_command x)) c.in-Close.is))
    (rw c.in-Close.is at (c.play.ensures.played _ _ so_far.6)) behind.3 c.expect_end.ensures.end

pub returns-in-Close-clause-stopped : goal.returns-in-Close-clause-stopped
returns-in-Close-clause-stopped g c =
    let so_far = c.loop-number.invariant.turns in
    let more = c.in-LineFeed.ensures.turns in
    let behind = c.expect_end.ensures.turns in
    let all : List SourceTurn = (so_far.0 ++ more.0) ++ behind.0 in
    let gives = Gives-then _ _ _ (so_far.0 ++ more.0) behind.0 (Gives-then _ _ _ so_far.0 more.0 so_far.1 more.1) behind.1 in
    let f = follows_close (so_far.0 ++ more.0) behind.0 c.read_line.new.line.items c.read_line.new.buffer.bytes c.loop-number.number so_far.4
    (follows_on so_far.0 more.0 _ _ c.loop-number.number so_far.4 so_far.5 more.3.1) in
    closed-stopped _ _ (bytes_given all) gives.bytes (λ xs. g.M.ScriptPlayer.leads c.args.machine.now xs c.play.new.self) _ c.expect_end.result c.read_line.new.line.items _ c.loop-number.number _ so_far.4 behind.0
    f c.in-LineFeed.ensures.plain.0
    (rw (← c.deref-in-loop-number.ensures.value) (sym c.in-Some.ensures ∙ ap (λ x. Some (instruction_of_command x)) c.in-Close.is))
    (rw c.in-Close.is at (c.play.ensures.played _ _ so_far.6)) behind.3

pub returns-in-Close-clause-refused : goal.returns-in-Close-clause-refused
returns-in-Close-clause-refused g c =
    let so_far = c.loop-number.invariant.turns in
    let more = c.in-LineFeed.ensures.turns in
    let behind = c.expect_end.ensures.turns in
    let all : List SourceTurn = (so_far.0 ++ more.0) ++ behind.0 in
    let gives = Gives-then _ _ _ (so_far.0 ++ more.0) behind.0 (Gives-then _ _ _ so_far.0 more.0 so_far.1 more.1) behind.1 in
    let f = follows_close (so_far.0 ++ more.0) behind.0 c.read_line.new.line.items c.read_line.new.buffer.bytes c.loop-number.number so_far.4
    (follows_on so_far.0 more.0 _ _ c.loop-number.number so_far.4 so_far.5 more.3.1) in
    close-refused _ _ (bytes_given all) gives.bytes c.expect_end.result all refl c.read_line.new.line.items _ c.loop-number.number _ so_far.4 behind.0
    f c.in-LineFeed.ensures.plain.0
    (rw (← c.deref-in-loop-number.ensures.value) (sym c.in-Some.ensures ∙ ap (λ x. Some (instruction_of_command x)) c.in-Close.is)) behind.3

pub returns-in-Close-clause-caused : goal.returns-in-Close-clause-caused
returns-in-Close-clause-caused g c =
    let so_far = c.loop-number.invariant.turns in
    let more = c.in-LineFeed.ensures.turns in
    let behind = c.expect_end.ensures.turns in
    let xs : List SourceTurn = so_far.0 ++ more.0 in
    let counts = Counts-then _ _ _ xs behind.0 (Counts-then _ _ _ so_far.0 more.0 so_far.2 more.2) behind.2 in
    let f = follows_close xs behind.0 c.read_line.new.line.items c.read_line.new.buffer.bytes c.loop-number.number so_far.4
    (follows_on so_far.0 more.0 _ _ c.loop-number.number so_far.4 so_far.5 more.3.1) in (
      xs ++ behind.0,
      Gives-then _ _ _ xs behind.0 (Gives-then _ _ _ so_far.0 more.0 so_far.1 more.1) behind.1,
      few _ _ counts,
      close-caused c.expect_end.result xs behind.0 c.read_line.new.line.items _ c.loop-number.number _ so_far.4
          f c.in-LineFeed.ensures.plain.0
          (rw (← c.deref-in-loop-number.ensures.value) (sym c.in-Some.ensures ∙ ap (λ x. Some (instruction_of_command x)) c.in-Close.is))
          (GoOn-append so_far.0 more.0 so_far.3 more.3.0) counts behind.3,
    )

-- the machine is down after another instruction
pub returns-then-not-play-2-clause-stopped : goal.returns-then-not-play-2-clause-stopped
returns-then-not-play-2-clause-stopped g c =
    let so_far = c.loop-number.invariant.turns in
    let more = c.in-LineFeed.ensures.turns in
    let gives = Gives-then _ _ _ so_far.0 more.0 so_far.1 more.1 in
    let f = follows_on so_far.0 more.0 _ _ c.loop-number.number so_far.4 so_far.5 more.3.1 in
    let played = c.play-in-loop-number.ensures.played _ _ so_far.6 in (
      so_far.4 ++ instruction_of_command c.in-Some.command ∷ [],
      c.play-then-not-play-2.ensures.played _ _ played,
      inl (
        begins _ _ (bytes_given (so_far.0 ++ more.0)) gives.bytes c.read_line.new.buffer.bytes (c.loop-number.number + 1) _
            (Follows-line _ c.read_line.new.buffer.bytes _ _ c.read_line.new.line.items _ f c.in-LineFeed.ensures.plain.0
            (rw (← c.deref-in-loop-number.ensures.value) (sym c.in-Some.ensures)) (command-goes_on _ c.in_default-command.not-Close)),
        (
          c.play-in-loop-number.new.self,
          played,
          sym c.play-in-loop-number.ensures.up ∙ c.if-not-play-2.true,
          c.play-then-not-play-2.ensures.played _ _ (c.requires.start c.play-in-loop-number.new.self),
        ),
      ),
    )

pub returns-then-not-play-2-clause-caused : goal.returns-then-not-play-2-clause-caused
returns-then-not-play-2-clause-caused g c =
    let so_far = c.loop-number.invariant.turns in
    let more = c.in-LineFeed.ensures.turns in (
      so_far.0 ++ more.0,
      Gives-then _ _ _ so_far.0 more.0 so_far.1 more.1,
      few _ _ (Counts-then _ _ _ so_far.0 more.0 so_far.2 more.2),
      tt,
    )

-- a further line
pub loop-number-preserved : goal.loop-number-preserved
loop-number-preserved g c =
    let so_far = c.loop-number.invariant.turns in
    let more = c.in-LineFeed.ensures.turns in
    let f = follows_on so_far.0 more.0 _ _ c.loop-number.number so_far.4 so_far.5 more.3.1 in record {
      room = c.in-LineFeed.ensures.room;
      turns = (
        so_far.0 ++ more.0,
        Gives-then _ _ _ so_far.0 more.0 so_far.1 more.1,
        Counts-then _ _ _ so_far.0 more.0 so_far.2 more.2,
        GoOn-append so_far.0 more.0 so_far.3 more.3.0,
        so_far.4 ++ instruction_of_command c.in-Some.command ∷ [],
        Follows-line _ c.read_line.new.buffer.bytes _ _ c.read_line.new.line.items _ f c.in-LineFeed.ensures.plain.0
            (rw (← c.deref-in-loop-number.ensures.value) (sym c.in-Some.ensures)) (command-goes_on _ c.in_default-command.not-Close),
        c.play-in-loop-number.ensures.played _ _ so_far.6,
      );
      still_open = c.play-in-loop-number.ensures.closed ∙ command-open _ c.in_default-command.not-Close;
      still_up = sym c.play-in-loop-number.ensures.up ∙ c.if-not-play-2.false;
    }

-- the number of a line comes to no bound
pub returns : goal.returns
returns g c =
    let so_far = c.loop-number.invariant.turns in
    let below = too_many so_far.0 _ c.loop-number.number _ so_far.4 so_far.5 so_far.2 in
    absurd (omega (arith, below))
