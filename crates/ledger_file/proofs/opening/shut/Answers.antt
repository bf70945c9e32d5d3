-- The gate is written only where none stood shut: `crash` and `done` of `shut`.
use Rattle.std.proofs.Common.{◌≡◌, [], ◌∷◌, inl, inr, sym, ◌∙◌, subst}
use Rattle.std.specs.Prelude.{true, false}
use Rattle.sqlite_disk.specs.Disk.{Torn}
use Rattle.ledger_file.proofs.opening.shut.Goals as goal

pub returns-then-branch-clause-done : goal.returns-then-branch-clause-done
returns-then-branch-clause-done g c clean file left = inl ((c.in_ok-is_shut.ensures.shut clean).0 c.if-branch.true, c.is_shut.ensures.only.crash file left)

pub returns-in_err-write_synced-clause-crash : goal.returns-in_err-write_synced-clause-crash
returns-in_err-write_synced-clause-crash g c clean file left =
    let before = c.write_synced.ensures.crash file left in
    let was_clean = sym c.write_synced.ensures.clean ∙ clean in
    inr (record { stood_open = λ shut. (let full : true ≡ c.in_ok-is_shut.field-0 = sym ((c.in_ok-is_shut.ensures.shut was_clean).1 shut) in let bare : c.in_ok-is_shut.field-0 ≡ false = c.if-branch.false in cc (full, bare)); before = before.0; left = c.is_shut.ensures.only.crash before.0 before.1; torn = before.2 })

pub returns-clause-crash : goal.returns-clause-crash
returns-clause-crash g c clean file left =
    let before = c.write_synced.ensures.crash file left in
    let was_clean = sym c.write_synced.ensures.clean ∙ clean in
    inr (record { stood_open = λ shut. (let full : true ≡ c.in_ok-is_shut.field-0 = sym ((c.in_ok-is_shut.ensures.shut was_clean).1 shut) in let bare : c.in_ok-is_shut.field-0 ≡ false = c.if-branch.false in cc (full, bare)); before = before.0; left = c.is_shut.ensures.only.crash before.0 before.1; torn = before.2 })

pub returns-clause-done : goal.returns-clause-done
returns-clause-done g c clean file left =
    let w = c.in_ok-write_synced.ensures.done in
    let is = w.only file left in
    inr (
      subst (λ f. Torn c.args.at 1 f file) c.is_shut.ensures.only.same (subst (Torn c.args.at 1 (g.D.Disk.seen c.is_shut.new.disk)) (sym is) w.torn),
      subst (λ f. Rattle.sqlite_disk.specs.Disk.Holds f c.args.at (0 ∷ [])) (sym is) w.holds,
    )
