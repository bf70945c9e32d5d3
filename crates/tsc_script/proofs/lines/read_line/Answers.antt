use Rattle.std.proofs.Common.{◌≡◌, ℕ, List, ◌++◌, [], refl, sym, ap, ◌∙◌, append-nil}
use Rattle.tsc_script.specs.Lines.{HasNoLineFeed}
use Rattle.tsc_script.specs.Reads.{bytes_given}
use Rattle.tsc_script.proofs.Reading.{HasNoLineFeed-append, refilled}
use Rattle.tsc_script.proofs.Turns.{given-append, Gives-then, Counts-then, GoOn-append, LastGave-append, Spends-append}
use Rattle.tsc_script.proofs.lines.read_line.Goals as goal

longer : (old part new : List ℕ) → new ≡ old ++ part → HasNoLineFeed old → HasNoLineFeed part → HasNoLineFeed new
longer old part new e p q = rw e (HasNoLineFeed-append old part p q)

-- what came is the line
all_moved : (start given line bytes new more : List ℕ) → start ++ given ≡ line ++ bytes → new ≡ line ++ bytes → more ≡ [] → start ++ (given ++ more) ≡ new
all_moved start given line bytes new more e p none =
    refilled start given line bytes bytes more e refl ∙ ap (λ (l : List ℕ). (line ++ bytes) ++ l) none ∙ append-nil (line ++ bytes) ∙ sym p

pub returns-in-Ended-clause-plain : goal.returns-in-Ended-clause-plain
returns-in-Ended-clause-plain g c =
    let e = c.in-Ended.ensures.ended refl in
    (longer _ _ _ e.2 c.line.invariant.plain e.1, c.take_part.ensures.short)

pub line-preserved : goal.line-preserved
line-preserved g c =
    let e = c.in-Open.ensures.open refl in
    let so_far = c.line.invariant.turns in
    let more = c.in-More.ensures.turns in record {
      turns = (
        so_far.0 ++ more.0,
        Gives-then _ _ _ so_far.0 more.0 so_far.1 more.1,
        Counts-then _ _ _ so_far.0 more.0 so_far.2 (rw c.take_part.ensures.reads at more.2),
        GoOn-append so_far.0 more.0 so_far.3 more.4,
        ap (λ (l : List ℕ). c.args.buffer.now.bytes ++ l) (given-append so_far.0 more.0)
            ∙ refilled c.args.buffer.now.bytes (bytes_given so_far.0) c.line.line.items c.line.buffer.bytes c.line.buffer.bytes (bytes_given more.0) so_far.4 refl
            ∙ ap (λ (l : List ℕ). l ++ bytes_given more.0) (sym e.1)
            ∙ ap (λ (l : List ℕ). c.take_part.new.line.items ++ l) (sym more.3),
      );
      plain = longer _ _ _ e.1 c.line.invariant.plain e.0;
      short = c.take_part.ensures.short;
      room = c.take_part.ensures.room;
    }

pub returns-in-End-clause-plain : goal.returns-in-End-clause-plain
returns-in-End-clause-plain g c =
    let e = c.in-Open.ensures.open refl in
    (longer _ _ _ e.1 c.line.invariant.plain e.0, c.take_part.ensures.short)

pub returns-in-End-clause-turns : goal.returns-in-End-clause-turns
returns-in-End-clause-turns g c =
    let e = c.in-Open.ensures.open refl in
    let so_far = c.line.invariant.turns in
    let more = c.in-End.ensures.turns in
    let none = sym more.3 ∙ c.in-End.ensures.none (λ is. cc) in (
      so_far.0 ++ more.0,
      Gives-then _ _ _ so_far.0 more.0 so_far.1 more.1,
      Counts-then _ _ _ so_far.0 more.0 so_far.2 (rw c.take_part.ensures.reads at more.2),
      (
        LastGave-append _ so_far.0 more.0 so_far.3 more.4,
        ap (λ (l : List ℕ). c.args.buffer.now.bytes ++ l) (given-append so_far.0 more.0)
            ∙ all_moved c.args.buffer.now.bytes (bytes_given so_far.0) c.line.line.items c.line.buffer.bytes c.take_part.new.line.items (bytes_given more.0) so_far.4 e.1 none,
        c.in-End.ensures.none (λ is. cc),
      ),
    )

pub returns-in-Fault-clause-plain : goal.returns-in-Fault-clause-plain
returns-in-Fault-clause-plain g c =
    let e = c.in-Open.ensures.open refl in
    (longer _ _ _ e.1 c.line.invariant.plain e.0, c.take_part.ensures.short)

pub returns-in-Fault-clause-turns : goal.returns-in-Fault-clause-turns
returns-in-Fault-clause-turns g c =
    let e = c.in-Open.ensures.open refl in
    let so_far = c.line.invariant.turns in
    let more = c.in-Fault.ensures.turns in
    let none = sym more.3 ∙ c.in-Fault.ensures.none (λ is. cc) in (
      so_far.0 ++ more.0,
      Gives-then _ _ _ so_far.0 more.0 so_far.1 more.1,
      Counts-then _ _ _ so_far.0 more.0 so_far.2 (rw c.take_part.ensures.reads at more.2),
      (
        Spends-append _ so_far.0 more.0 so_far.3 more.4,
        ap (λ (l : List ℕ). c.args.buffer.now.bytes ++ l) (given-append so_far.0 more.0)
            ∙ all_moved c.args.buffer.now.bytes (bytes_given so_far.0) c.line.line.items c.line.buffer.bytes c.take_part.new.line.items (bytes_given more.0) so_far.4 e.1 none,
      ),
    )
