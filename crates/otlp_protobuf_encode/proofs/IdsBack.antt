-- Ids that are written are read as themselves.
-- For the clauses `back` of spans.
use Rattle.std.proofs.Common.{◌≡◌, ℕ, List, [], ◌∷◌, length, replicate, Bool, true, false, cond, ◌||◌, Some, None, option_map, refl, sym, ap, subst, arith}
use Rattle.std.specs.Prelude.{◌==◌, bytes_eq}
use Rattle.std.proofs.lemmas.Bool.Decides.{nat_tests}
use Rattle.std.proofs.lemmas.Slice.Eq.{bytes_eq-Decides}
use Rattle.span_ids.specs.Id.{id_from}
use Rattle.otlp_protobuf.specs.Reading.{parent_from}

empty_no_id : (b : Bool) (p : List ℕ) → b ≡ (length p == 0) → b ≡ true → id_from 8 p ≡ Some p → ⊥
empty_no_id b [] e t h = cc
empty_no_id b (c ∷ p) e t h = absurd (grind (arith, nat_tests))

zeros_no_id : (p : List ℕ) → p ≡ replicate 8 0 → id_from 8 p ≡ Some p → ⊥
zeros_no_id p e h =
    let P : List ℕ → Type 0 = λ s. id_from 8 s ≡ Some s in
    let no : id_from 8 (replicate 8 0) ≡ Some (replicate 8 0) = subst P e h in
    cc

by_tests : (x y : Bool) (p : List ℕ) → x ≡ (length p == 0) → y ≡ bytes_eq p (replicate 8 0) → id_from 8 p ≡ Some p → cond (x || y) (Some None) (option_map Some (id_from 8 p)) ≡ Some (Some p)
by_tests true y p e f h = absurd (empty_no_id true p e refl h)
by_tests false true p e f h = absurd (zeros_no_id p ((bytes_eq-Decides p (replicate 8 0)).0 (sym f)) h)
by_tests false false p e f h = ap (option_map Some) h

pub parent_again : (p : List ℕ) → id_from 8 p ≡ Some p → parent_from p ≡ Some (Some p)
parent_again p h = by_tests (length p == 0) (bytes_eq p (replicate 8 0)) p refl refl h
