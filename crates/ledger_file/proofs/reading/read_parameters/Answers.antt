-- The file begins with the header of its parameters: `found` of `read_parameters`.
use Rattle.std.proofs.Common.{◌≡◌, ◌++◌, take, drop, sym, ◌∙◌, ap}
use Rattle.std.specs.Int.{w32, to_le_bytes}
use Rattle.ledger_file.specs.Format.{magic}
use Rattle.ledger_file.proofs.RecordReads.{begins_with}
use Rattle.ledger_file.proofs.reading.read_parameters.Goals as goal

pub returns-clause-found : goal.returns-clause-found
returns-clause-found g c clean =
    let file = g.D.Disk.seen c.args.disk.now in
    let head : take 12 file ≡ c.read.new.buffer = c.in_ok-read.ensures.held (c.read_into.ensures.only.clean clean) in
    let held : take c.from_le_bytes-size.result (drop 12 file) ≡ c.read_into.new.buffer.items = ap (λ f. take c.from_le_bytes-size.result (drop 12 f)) (sym c.read.ensures.only.same) ∙ c.in_ok-read_into.ensures.held clean in
    let is : c.read.new.buffer ≡ magic ++ to_le_bytes w32 c.from_le_bytes-size.result = c.is_header.ensures.0 c.if-not-is_header.false in
    begins_with file c.read.new.buffer c.read_into.new.buffer.items c.from_le_bytes-size.result head is held c.in_ok-read_into.ensures.len
