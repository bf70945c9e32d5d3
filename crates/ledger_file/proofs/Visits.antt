-- One record further: for the loop of `visit_records`.
use Rattle.std.proofs.Common.{◌≡◌, ℕ, ◌+◌, Bool, true, false, List, [], ◌∷◌, ◌++◌, length, drop, sym, ◌∙◌, ap, arith, append_assoc, length-append, drop-drop}
use Rattle.std.proofs.lemmas.List.{append-nil}
use Rattle.ledger_file.specs.Format.{frame_head, frame, frames, claimed, payload, is_whole, records_in}
use Rattle.ledger_file.specs.Writes.{IsOnlyRead}
use Rattle.ledger_file.specs.Reading.{IsReadAt}
use Rattle.ledger_file.proofs.Found.{begins, in_whole, in_broken}

pub one_more : (seed : ℕ) (file : List ℕ) (at after : ℕ) (whole : Bool) (bytes : List ℕ) → IsReadAt seed file at whole bytes → whole ≡ true → after ≡ at + (9 + length bytes) → records_in seed (drop at file) ≡ bytes ∷ records_in seed (drop after file)
one_more seed file at after whole bytes is it_is place =
    let here : is_whole seed (drop at file) ≡ true = is.tested ∙ it_is in
    let held : bytes ≡ payload (drop at file) = is.held it_is in
    let claims = (begins seed (drop at file) here).claims in
    let next : after ≡ at + (9 + claimed (drop at file)) = omega (arith, place, claims, ap length held) in
    in_whole seed (drop at file) here
    ∙ ap (λ (l : List ℕ). l ∷ records_in seed (drop (9 + claimed (drop at file)) (drop at file))) (sym held)
    ∙ ap (λ (l : List ℕ). bytes ∷ records_in seed l) (drop-drop (9 + claimed (drop at file)) at file ∙ ap (λ (k : ℕ). drop k file) (sym next))

pub visited_more : (visited : List (List ℕ)) (bytes : List ℕ) (rest found all : List (List ℕ)) → found ≡ bytes ∷ rest → visited ++ found ≡ all → (visited ++ bytes ∷ []) ++ rest ≡ all
visited_more visited bytes rest found all is so_far = append_assoc visited (bytes ∷ []) rest ∙ ap (λ (l : List (List ℕ)). visited ++ l) (sym is) ∙ so_far

pub place_more : (seed at after : ℕ) (bytes : List ℕ) (rest found : List (List ℕ)) (all : ℕ) → after ≡ at + (9 + length bytes) → found ≡ bytes ∷ rest → at + length (frames seed found) ≡ all → after + length (frames seed rest) ≡ all
place_more seed at after bytes rest found all place is so_far =
    let size : length (frames seed found) ≡ 9 + length bytes + length (frames seed rest) =
    ap (λ (l : List (List ℕ)). length (frames seed l)) is ∙ length-append (frame seed bytes) (frames seed rest) ∙ ap (λ (k : ℕ). k + length (frames seed rest)) (length-append (frame_head seed bytes) bytes) in
    omega (arith, place, size, so_far)

-- where no whole record begins, nothing is left
pub none_left : (seed : ℕ) (file : List ℕ) (at : ℕ) (whole : Bool) (bytes : List ℕ) → IsReadAt seed file at whole bytes → whole ≡ false → records_in seed (drop at file) ≡ []
none_left seed file at whole bytes is ends = in_broken seed (drop at file) (is.tested ∙ ends)

pub visited_all : (visited found all : List (List ℕ)) → found ≡ [] → visited ++ found ≡ all → visited ≡ all
visited_all visited found all none so_far = sym (ap (λ (l : List (List ℕ)). visited ++ l) none ∙ append-nil visited) ∙ so_far

pub place_all : (seed at : ℕ) (found : List (List ℕ)) (all : ℕ) → found ≡ [] → at + length (frames seed found) ≡ all → at ≡ all
place_all seed at found all none so_far = let size : length (frames seed found) ≡ 0 = ap (λ (l : List (List ℕ)). length (frames seed l)) none in omega (arith, size, so_far)

pub read_on : {D : Type 0} (seen : D → List ℕ) (may_leave : D → List ℕ → Type 0) (is_usable is_clean : D → Bool) (old mid new : D) → IsOnlyRead seen may_leave is_usable is_clean old mid → IsOnlyRead seen may_leave is_usable is_clean mid new → IsOnlyRead seen may_leave is_usable is_clean old new
read_on seen may_leave is_usable is_clean old mid new a b = record {
  usable = b.usable;
  same = b.same ∙ a.same;
  clean = λ clean. a.clean (b.clean clean);
  crash = λ c left. a.crash c (b.crash c left);
}
