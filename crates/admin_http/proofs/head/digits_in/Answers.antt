-- What stands in front of the digits and behind them is compared whole.
-- For the contract of `digits_in`.
use Rattle.std.proofs.Common.{rules, ◌≡◌, ◌∙◌, ap, sym, true, length, drop, take, ◌-◌}
use Rattle.std.specs.Prelude.{bytes_eq, codes}
use Rattle.std.proofs.Math.Seq.{take-length}
use Rattle.std.proofs.lemmas.List.{length-drop}
use Rattle.admin_http.proofs.head.digits_in.Goals as goal

pub returns-then-eq-2 : goal.returns-then-eq-2
returns-then-eq-2 c =
    let target = c.args.target.now in
    let len : length target ≡ 44 = c.if-target-eq-TRACE_TARGET.true in
    let front : bytes_eq (take 7 target) (codes "/trace/") ≡ true = ap (λ x. bytes_eq (take 7 target) x) (sym c.as_slice.ensures) ∙ sym c.eq.ensures ∙ c.if-eq.true in
    let whole : take (length target - 39) (drop 39 target) ≡ drop 39 target = ap (λ n. take n (drop 39 target)) (sym (length-drop 39 target)) ∙ take-length (drop 39 target) in
    let end : bytes_eq (drop 39 target) (codes ".json") ≡ true =
    ap (λ x. bytes_eq x (codes ".json")) (sym whole) ∙ ap (λ x. bytes_eq (take (length target - 39) (drop 39 target)) x) (sym c.as_slice-then-eq.ensures) ∙ sym c.eq-then-eq.ensures ∙ c.if-eq-2.true in
    search (rules, len, front, end)
