use Rattle.std.proofs.Common.{◌≡◌, List, ◌∷◌, refl}
use Rattle.collector_main.proofs.report_fields.fields_of.Goals as goal

-- lists of equal heads and equal rests
both : {A : Type 0} {x y : A} {xs ys : List A} → x ≡ y → xs ≡ ys → x ∷ xs ≡ y ∷ ys
both p q = cc

pub returns : goal.returns
returns c =
    both c.text.ensures (both c.counted.ensures (both c.counted-2.ensures (both c.counted-3.ensures (both c.counted-4.ensures
    (both c.counted-5.ensures (both c.counted-6.ensures (both c.counted-7.ensures (both c.counted-8.ensures (both c.counted-9.ensures refl)))))))))
