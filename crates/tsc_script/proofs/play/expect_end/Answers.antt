use Rattle.std.proofs.Common.{ℕ, ◌++◌, List, refl, sym, ap, ◌∙◌, length, length-append, arith}
use Rattle.tsc_script.proofs.play.expect_end.Goals as goal

pub returns-in-TooLong-clause-turns : goal.returns-in-TooLong-clause-turns
returns-in-TooLong-clause-turns g c =
    let read = c.in-TooLong.ensures.turns in
    let found = read.3 in
    let line : List ℕ = c.read_line.new.line.items in (
      read.0,
      read.1,
      read.2,
      (
        refl,
        λ none. omega (arith, found.3, ap length (sym found.4 ∙ none), length-append (line ++ found.1) c.read_line.new.buffer.bytes, length-append line found.1),
      ),
    )
