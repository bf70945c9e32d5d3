-- What is refused, and what holds of the elements of a list.
-- For packed.rt, and for what is packed by it.
use Rattle.std.proofs.Common.{◌≡◌, ℕ, zero, suc, ◌<◌, List, [], ◌∷◌, length, get_or, sym, subst, arith}
use Rattle.std.specs.List.{AllByRecursion}
use Rattle.span_block.specs.declared.pack_error.PackError.{PackError}
use Rattle.span_block.specs.declared.pack_error.PackError.TheVariants.{NoBlock, NoMemory}
use Rattle.span_block.specs.Fits.{Refuses}

-- where P follows from Q, what refuses P refuses Q
pub refuses_by : (P Q : Type 0) (e : PackError) → (Q → P) → Refuses P e → Refuses Q e
refuses_by P Q NoBlock f h = λ q. h (f q)
refuses_by P Q NoMemory f h = tt

all_at : {A : Type 0} (P : A → Type 0) (xs : List A) (i : ℕ) (x : A) → i < length xs → x ≡ get_or xs i x → AllByRecursion P xs → P x
all_at P [] i x within is all = absurd (omega (arith, within))
all_at P (y ∷ xs) zero x within is all = subst P (sym is) all.0
all_at P (y ∷ xs) (suc i) x within is all = all_at P xs i x (omega (arith, within)) is all.1

-- where an element is refused, the list is
pub refused_here : {A : Type 0} (P : A → Type 0) (xs : List A) (i : ℕ) (x : A) (e : PackError) → i < length xs → x ≡ get_or xs i x → Refuses (P x) e → Refuses (AllByRecursion P xs) e
refused_here P xs i x e within is h = refuses_by (P x) (AllByRecursion P xs) e (all_at P xs i x within is) h
