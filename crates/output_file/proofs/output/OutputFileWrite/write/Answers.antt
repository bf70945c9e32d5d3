use Rattle.std.proofs.Common.{sym, subst, take}
use Rattle.output_file.specs.Segments.{AreSegments}
use Rattle.output_file.proofs.Segments.{segments_grow}
use Rattle.output_file.proofs.output.OutputFileWrite.write.Goals as goal

pub invariant_of-self-2 : goal.invariant_of-self-2
invariant_of-self-2 g c =
    let left = g.P.OutputPlace.left in
    let contents = g.P.File.Write.contents in
    let new = contents c.write.new.self in
    let taken = take c.in_ok-count.count c.args.bytes.now in
    subst (λ b. AreSegments (left c.self.inside.place) new b) (sym c.line_end_after-self-inside.ensures)
    (segments_grow (left c.self.inside.place) (contents c.self.inside.file) new c.self.inside.at_line_end taken c.self.invariant c.in_ok-count.ensures.bytes)
