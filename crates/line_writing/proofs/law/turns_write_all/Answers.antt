use Rattle.line_writing.proofs.Turning.{turns_write_all}
use Rattle.line_writing.proofs.law.turns_write_all.Goals as goal

pub returns : goal.returns
returns g c = λ maker. turns_write_all g.S.EntrySource.gives (g.L.LineMaker.is_line maker)
