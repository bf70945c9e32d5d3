use Rattle.std.proofs.Common.{◌≡◌, ◌∙◌, sym, ap, length, []}
use Rattle.httparse.specs.Spans.{IsChunkLineAt}
use Rattle.httparse.specs.Grammar.{ChunkLine, print_chunk_line}
use Rattle.httparse.proofs.ChunkLemmas.{chunk_line_unique}
use Rattle.std.proofs.Common.{append-nil}
use Rattle.http_text.proofs.body.read_size.Goals as goal

pub returns-in_default-clause-none : goal.returns-in_default-clause-none
returns-in_default-clause-none c l reads =
    let found : (k : ChunkLine) × IsChunkLineAt c.args.line.now c.in-Ok-Complete.len c.in-Ok-Complete.size k = rw c.in-Ok-Complete.field-0-is at c.in-Ok-Complete.ensures.complete in
    let same = chunk_line_unique c.args.line.now l found.0 [] _ reads found.1.reads in
    let whole : length c.args.line.now ≡ length (print_chunk_line l) = ap length (reads.1 ∙ append-nil (print_chunk_line l)) in
    let len : c.in-Ok-Complete.len ≡ length (print_chunk_line l) = found.1.len_is ∙ ap (λ k. length (print_chunk_line k)) (sym same.0) in
    c.if-len-line.false (len ∙ sym whole)
