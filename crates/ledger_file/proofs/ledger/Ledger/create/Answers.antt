-- A new ledger is at rest, with no record: `made` and `rests` of `Ledger::create`.
use Rattle.std.proofs.Common.{◌≡◌, ℕ, ◌+◌, List, [], ◌++◌, length, arith, sym, subst, refl, length-append}
use Rattle.std.proofs.lemmas.List.{append-nil}
use Rattle.std.specs.Int.{w32, to_le_bytes}
use Rattle.ledger_file.specs.Format.{magic, header, front}
use Rattle.ledger_file.specs.Ledger.{EndsBehind}
use Rattle.ledger_file.proofs.Commits.{has, keeps_read}
use Rattle.ledger_file.proofs.ledger.Ledger.create.Goals as goal

-- a header alone is the front of no records
behind_front : (parameters file : List ℕ) → EndsBehind (header parameters) file → EndsBehind (front parameters []) file
behind_front parameters file was = subst (λ (l : List ℕ). EndsBehind l file) (sym (append-nil (header parameters))) was

front_size : (parameters : List ℕ) (n : ℕ) → n ≡ length parameters → 12 + n ≡ length (front parameters [])
front_size parameters n is = omega (arith, is, length-append (header parameters) [], length-append (magic ++ to_le_bytes w32 (length parameters)) parameters)

pub returns-in-Ok-clause-made : goal.returns-in-Ok-clause-made
returns-in-Ok-clause-made g c clean =
    has c.args.parameters.now c.requires.fits [] tt _ (behind_front c.args.parameters.now _ (c.in-Ok.ensures.done clean _ (g.met.D.Disk.seen_may_stay c.make.new.disk)))

pub returns-in-Ok-clause-rests : goal.returns-in-Ok-clause-rests
returns-in-Ok-clause-rests g c clean ready =
    let p = c.args.parameters.now in
    keeps_read p c.requires.fits [] tt g.D.Disk.may_leave _ _ (has p c.requires.fits [] tt _ (behind_front p _ (c.in-Ok.ensures.done clean _ (g.met.D.Disk.seen_may_stay c.make.new.disk))))
    (record { known = c.requires.fits; fit = tt; seed = c.in-Ok.ensures.batch.1; end = front_size p (length p) refl; each = λ file left. behind_front p file (c.in-Ok.ensures.done clean file left) })
