-- A record is whole or not by its head and its bytes: `found` of `read_record`.
use Rattle.std.proofs.Common.{◌≡◌, ℕ, ◌+◌, ◌≤◌, List, length, take, drop, false, inl, inr, arith, sym, ◌∙◌, ap, subst, length-drop}
use Rattle.ledger_file.specs.Format.{longest, claimed, is_whole, frame_head}
use Rattle.std.specs.Bool.{Decides}
use Rattle.ledger_file.specs.Reading.{IsReadAt}
use Rattle.ledger_file.proofs.RecordReads.{broken, claimed_head, tested, payload_is}
use Rattle.ledger_file.proofs.reading.read_record.Goals.{then-size-gt-LONGEST-via-then-size-gt-LONGEST, then-size-gt-LONGEST-via-else-size-gt-LONGEST+then-size-len}
use Rattle.ledger_file.proofs.reading.read_record.Goals as goal

no_record : (seed : ℕ) (file : List ℕ) (at : ℕ) (bytes : List ℕ) → is_whole seed (drop at file) ≡ false → IsReadAt seed file at false bytes
no_record seed file at bytes is = record { tested = is; held = λ odd. absurd (cc (odd)) }

pub returns-then-len-at-lt9-clause-found : goal.returns-then-len-at-lt9-clause-found
returns-then-len-at-lt9-clause-found g c clean =
    let file = g.D.Disk.seen c.args.disk.now in
    let len = c.requires.len clean in
    no_record c.args.seed file c.args.at _ (broken c.args.seed (drop c.args.at file) (inl (omega (arith, len, c.if-len-at-lt9.true, length-drop c.args.at file))))

pub returns-then-size-gt-LONGEST-clause-found : goal.returns-then-size-gt-LONGEST-clause-found
returns-then-size-gt-LONGEST-clause-found g c clean =
    let file = g.D.Disk.seen c.args.disk.now in
    let len = c.requires.len (c.read.ensures.only.clean clean) in
    let head : take 9 (drop c.args.at file) ≡ c.read.new.buffer = c.in_ok-read.ensures.held clean in
    let claims = claimed_head (drop c.args.at file) c.read.new.buffer head in
    let size : claimed (drop c.args.at file) ≡ c.from_le_bytes-size.result = claims ∙ sym c.from_le_bytes-size.ensures in
    elim c.then-size-gt-LONGEST.branch [
      | then-size-gt-LONGEST-via-then-size-gt-LONGEST w ↦ no_record c.args.seed file c.args.at _ (broken c.args.seed (drop c.args.at file) (inr (inl (omega (arith, size, w.if-size-gt-LONGEST.true)))))
      | then-size-gt-LONGEST-via-else-size-gt-LONGEST+then-size-len w ↦ no_record c.args.seed file c.args.at _ (broken c.args.seed (drop c.args.at file) (inr (inr (omega (arith, len, size, w.if-size-len.true, length-drop c.args.at file, c.if-len-at-lt9.false)))))
    ]

pub returns-clause-found : goal.returns-clause-found
returns-clause-found g c clean =
    let file = g.D.Disk.seen c.args.disk.now in
    let clean_then = c.read_into.ensures.only.clean clean in
    let len = c.requires.len (c.read.ensures.only.clean clean_then) in
    let head : take 9 (drop c.args.at file) ≡ c.read.new.buffer = c.in_ok-read.ensures.held clean_then in
    let claims = claimed_head (drop c.args.at file) c.read.new.buffer head in
    let size : claimed (drop c.args.at file) ≡ c.from_le_bytes-size.result = claims ∙ sym c.from_le_bytes-size.ensures in
    let low : claimed (drop c.args.at file) ≤ longest = omega (arith, size, c.if-size-gt-LONGEST.false) in
    let within : 9 + claimed (drop c.args.at file) ≤ length (drop c.args.at file) = omega (arith, len, size, c.if-size-len.false, c.if-len-at-lt9.false, length-drop c.args.at file) in
    let held : take c.from_le_bytes-size.result (drop (c.args.at + 9) file) ≡ c.read_into.new.buffer.items = ap (λ f. take c.from_le_bytes-size.result (drop (c.args.at + 9) f)) (sym c.read.ensures.only.same) ∙ c.in_ok-read_into.ensures.held clean in
    let is = payload_is file c.read_into.new.buffer.items c.args.at c.from_le_bytes-size.result size held in
    let same : Decides c.is_head.result (c.read.new.buffer ≡ frame_head c.args.seed c.read_into.new.buffer.items) = subst (λ b. Decides c.is_head.result (c.read.new.buffer ≡ frame_head c.args.seed b)) c.deref.ensures.value c.is_head.ensures in
    record { tested = tested c.args.seed (drop c.args.at file) c.read.new.buffer c.read_into.new.buffer.items c.is_head.result low within head is same; held = λ odd. is }
