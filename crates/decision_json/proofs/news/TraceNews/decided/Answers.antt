use Rattle.std.proofs.Common.{◌≡◌, ◌∙◌, ℕ, ap, arith, length, refl, take}
use Rattle.std.proofs.lemmas.List.{length-take, take-append-le, take_all, take_min}
use Rattle.std.specs.Prelude.{min}
use Rattle.decision_json.proofs.news.TraceNews.decided.Goals as goal

pub returns : goal.returns
returns c =
    let told = c.args.told.now in
    let asked = c.min-asked.result in
    let copied = c.copy_from_slice.new.self in
    let after : copied ≡ take asked told = c.copy_from_slice.ensures.after in
    let least : asked ≡ min 64 (length told) = omega (arith, c.min-asked.ensures) in
    let size : length copied ≡ asked = omega (arith, ap length after, length-take asked told, least) in (
      _,
      asked,
      refl,
      take-append-le asked copied _ (omega (arith, size)) ∙ take_all asked copied (omega (arith, size)) ∙ after ∙ ap (λ (n : ℕ). take n told) least ∙ take_min 64 told,
    )
