use Rattle.std.proofs.Common.{◌≡◌, ℕ, ◌-◌, suc, subst, arith}
use Rattle.output_file.proofs.Shifts.{IsGoing, begins, goes_on, stays, stops, at_error}
use Rattle.output_file.proofs.names.shift_names.Goals as goal

pub returns-in_err-number-clause-behind : goal.returns-in_err-number-clause-behind
returns-in_err-number-clause-behind g c = at_error c.from_residual.result (stays (g.N.OutputNames.names c.args.names.now))

pub loop-number-init : goal.loop-number-init
loop-number-init g c =
    begins c.args.keep c.in_ok-number.number (g.N.OutputNames.names c.args.names.now) c.in_ok-number.ensures.within c.requires.so_many c.in_ok-number.ensures.taken c.in_ok-number.ensures.free

pub loop-number-preserved : goal.loop-number-preserved
loop-number-preserved g c =
    let names = g.N.OutputNames.names in
    let old = names c.args.names.now in
    let now = names c.loop-number.names in
    let n = c.loop-number.number - 1 in
    let is : c.loop-number.number ≡ suc (c.loop-number.number - 1) = omega (arith, c.loop-number-test.true) in
    goes_on c.args.keep n old now (names c.move_up.new.self) (subst (λ (m : ℕ). IsGoing c.args.keep old m now) is c.loop-number.invariant) c.in_ok-move_up.ensures.moved

pub returns-in_err-move_up-clause-behind : goal.returns-in_err-move_up-clause-behind
returns-in_err-move_up-clause-behind g c =
    let names = g.N.OutputNames.names in
    at_error c.from_residual-in_err-move_up.result
    (stops c.args.keep c.loop-number.number (names c.args.names.now) (names c.loop-number.names) (names c.move_up.new.self) c.loop-number.invariant c.in_err-move_up.ensures.failed)
