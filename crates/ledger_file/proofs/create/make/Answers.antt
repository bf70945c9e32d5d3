-- In each step a crash leaves no record, and in the end the header: `crash` and `done` of `make`.
use Rattle.std.proofs.Common.{◌≡◌, length, inr, rules, sym, ◌∙◌, ap, subst}
use Rattle.sqlite_disk.specs.Disk.{Only}
use Rattle.ledger_file.specs.Checksum.{after_bytes}
use Rattle.ledger_file.specs.Format.{header}
use Rattle.ledger_file.specs.Ledger.{EndsBehind}
use Rattle.ledger_file.proofs.Creations.{first_crash, second_ends, second_crash, third_crash, made, header_tail, header_front}
use Rattle.ledger_file.proofs.create.make.Goals as goal

pub returns-in_err-write_synced-clause-crash : goal.returns-in_err-write_synced-clause-crash
returns-in_err-write_synced-clause-crash g c clean file left =
    let was_clean = sym (c.write_synced.ensures.clean) ∙ clean in
    let empty : length (g.D.Disk.seen c.args.disk.now) ≡ 0 = ap length (sym c.sync.ensures.seen) ∙ sym (c.in_ok-len.ensures.len was_clean) ∙ c.if-branch-ne0.false in
    let only : Only (g.D.Disk.seen c.args.disk.now) (g.D.Disk.may_leave c.len-2.new.self) = λ x before. c.in_ok-sync.ensures.durable x (c.len-2.ensures.crash x before) in
    inr (first_crash _ _ _ only empty c.write_synced.ensures.crash file left)

pub returns-in_err-write_synced-2-clause-crash : goal.returns-in_err-write_synced-2-clause-crash
returns-in_err-write_synced-2-clause-crash g c clean file left =
    let w = c.in_ok-write_synced.ensures.done in
    inr (second_crash _ _ _ _ w.holds w.only c.write_synced-2.ensures.crash file left)

pub returns-in_err-write_synced-3-clause-crash : goal.returns-in_err-write_synced-3-clause-crash
returns-in_err-write_synced-3-clause-crash g c clean file left =
    let w = c.in_ok-write_synced.ensures.done in
    let w2 = c.in_ok-write_synced-2.ensures.done in
    let p = c.args.parameters.now in
    let whole = header_tail p c.in_ok-bytes.bytes.items c.deref-2.result.now c.deref-2.ensures.value c.in_ok-bytes.ensures in
    let starts = second_ends _ _ _ _ w.holds w.only c.write_synced-2.ensures.crash _ (g.met.D.Disk.seen_may_stay c.write_synced-2.new.disk) in
    inr (third_crash p c.requires.fits _ whole _ starts w2.holds _ _ w2.only c.write_synced-3.ensures.crash file left)

pub returns-clause-crash : goal.returns-clause-crash
returns-clause-crash g c clean file left =
    let w = c.in_ok-write_synced.ensures.done in
    let w2 = c.in_ok-write_synced-2.ensures.done in
    let p = c.args.parameters.now in
    let whole = header_tail p c.in_ok-bytes.bytes.items c.deref-2.result.now c.deref-2.ensures.value c.in_ok-bytes.ensures in
    let starts = second_ends _ _ _ _ w.holds w.only c.write_synced-2.ensures.crash _ (g.met.D.Disk.seen_may_stay c.write_synced-2.new.disk) in
    inr (third_crash p c.requires.fits _ whole _ starts w2.holds _ _ w2.only c.write_synced-3.ensures.crash file left)

pub returns-clause-done : goal.returns-clause-done
returns-clause-done g c clean file left =
    let w = c.in_ok-write_synced.ensures.done in
    let w2 = c.in_ok-write_synced-2.ensures.done in
    let p = c.args.parameters.now in
    let whole = header_tail p c.in_ok-bytes.bytes.items c.deref-2.result.now c.deref-2.ensures.value c.in_ok-bytes.ensures in
    let starts = second_ends _ _ _ _ w.holds w.only c.write_synced-2.ensures.crash _ (g.met.D.Disk.seen_may_stay c.write_synced-2.new.disk) in
    let w3 = c.in_ok-write_synced-3.ensures.done in
    subst (EndsBehind (header p)) (sym (w3.only file left)) (made p c.requires.fits _ whole _ starts w2.holds _ w3.torn w3.holds)

pub returns-clause-batch : goal.returns-clause-batch
returns-clause-batch g c =
    (c.in_ok-batch.ensures.none, c.in_ok-batch.ensures.seed ∙ c.extend_checksum-seed.ensures ∙ ap (after_bytes 0xFFFFFFFF) (header_front c.args.parameters.now c.in_ok-bytes.bytes.items c.deref.result.now c.len.result c.deref.ensures.value c.in_ok-bytes.ensures (search rules)))
