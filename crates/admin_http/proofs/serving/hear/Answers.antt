use Rattle.std.proofs.Common.{◌∙◌, subst, Some, None, ap, refl}
use Rattle.std.proofs.KnownBytes.{Consumes-trans}
use Rattle.std.proofs.lemmas.Result.{err_from_is_err_and}
use Rattle.http_text.specs.Lines.{cut, head_len}
use Rattle.admin_http.specs.Asked.{IsHeard}
use Rattle.admin_http.proofs.Pieces.{quiet_ends, read_on, read_still, still_waits, unheard_waits}
use Rattle.admin_http.proofs.serving.hear.Goals as goal
use Rattle.admin_http.proofs.serving.hear.Goals.{in-More+in_default, in-Nothing+in_ok-quiet-in-Nothing, in-Interrupted}

pub returns-in-Some : goal.returns-in-Some
returns-in-Some g c =
    let known = g.R.Read.remaining in
    let more = c.in-More.ensures in (
      c.take_piece.new.read.items,
      read_on (known c.args.reader.now) (known c.loop.reader) (known c.take_piece.new.reader) c.loop.read.items more.0 c.take_piece.new.read.items c.loop.invariant.read more.1 more.2,
      subst (λ l. IsHeard c.args.access l (Some c.in-Some.asked)) c.deref.ensures.value c.in-Some.ensures,
    )

pub returns-in_err-quiet-in-Nothing : goal.returns-in_err-quiet-in-Nothing
returns-in_err-quiet-in-Nothing g c =
    let p = err_from_is_err_and c.before.from_residual.result c.before.from_residual.ensures.1 in
    rw (p.1, p.2) (quiet_ends _ _ _ c.loop.read.items c.loop.quiet _ _ c.loop.invariant.read c.in-Nothing.ensures.0 c.loop.invariant.waits c.in_err-quiet-in-Nothing.ensures)

pub returns-in-Failed : goal.returns-in-Failed
returns-in-Failed g c =
    still_waits _ _ _ c.loop.read.items c.loop.invariant.read c.in-Failed.ensures.0 c.loop.invariant.waits

pub returns-in-End : goal.returns-in-End
returns-in-End g c =
    let known = g.R.Read.remaining in
    let still = c.in-End.ensures in (
      c.loop.read.items,
      read_still (known c.args.reader.now) (known c.loop.reader) (known c.take_piece.new.reader) c.loop.read.items c.loop.read.items c.loop.invariant.read still.0 refl,
      (c.loop.invariant.waits, still.2),
    )

pub returns-in-NoRoom : goal.returns-in-NoRoom
returns-in-NoRoom g c =
    let known = g.R.Read.remaining in
    let lost = c.in-NoRoom.ensures in (
      _,
      Consumes-trans (known c.args.reader.now) (known c.loop.reader) (known c.take_piece.new.reader) c.loop.read.items lost.0 c.loop.invariant.read lost.1,
      tt,
    )

pub loop-preserved : goal.loop-preserved
loop-preserved g c =
    let known = g.R.Read.remaining in
    let now = c.take_piece.new.read.items in
    elim c.match-take_piece.branch [
      | in-More+in_default w ↦
          let more = w.in-More.ensures in
          record {
            read = read_on (known c.args.reader.now) (known c.loop.reader) (known c.take_piece.new.reader) c.loop.read.items more.0 now c.loop.invariant.read more.1 more.2;
            waits = unheard_waits c.args.access now (subst (λ l. IsHeard c.args.access l None) w.deref.ensures.value w.in_default.ensures);
          }
      | in-Nothing+in_ok-quiet-in-Nothing w ↦
          let still = w.in-Nothing.ensures in
          record {
            read = read_still (known c.args.reader.now) (known c.loop.reader) (known c.take_piece.new.reader) c.loop.read.items now c.loop.invariant.read still.0 still.1;
            waits = ap (cut head_len) still.1 ∙ c.loop.invariant.waits;
          }
      | in-Interrupted w ↦
          let still = w.in-Interrupted.ensures in
          record {
            read = read_still (known c.args.reader.now) (known c.loop.reader) (known c.take_piece.new.reader) c.loop.read.items now c.loop.invariant.read still.0 still.1;
            waits = ap (cut head_len) still.1 ∙ c.loop.invariant.waits;
          }
    ]
