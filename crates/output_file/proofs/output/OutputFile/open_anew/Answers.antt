use Rattle.std.proofs.Common.{ap, subst, sym}
use Rattle.std.specs.Io.KnownBytes.{Keeps}
use Rattle.output_file.specs.Segments.{OutputState, joined, taken_by, IsFresh}
use Rattle.output_file.proofs.Segments.{place_turns}
use Rattle.output_file.proofs.output.OutputFile.open_anew.Goals as goal

pub returns-clause-keeps : goal.returns-clause-keeps
returns-clause-keeps g c =
    let left = g.P.OutputPlace.left in
    let contents = g.P.File.Write.contents in
    let old = contents c.self.inside.file in
    let new = contents c.replace-left.new.dest in
    let fresh = subst (λ f. IsFresh (left c.self.inside.place) (contents f)) (sym c.replace-left.ensures.after) c.in-Ok.ensures.fresh in
    subst (λ (s : OutputState). Keeps (taken_by s) (joined (left c.leave.new.self) new)) c.self.view_is
    (place_turns (left c.self.inside.place) (left c.open.new.self) (left c.leave.new.self) old (contents c.replace-left.result) new c.self.inside.at_line_end c.self.invariant c.open.ensures.left fresh (ap contents c.replace-left.ensures.value) c.leave.ensures)
