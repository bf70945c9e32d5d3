-- The shards from a place on: the one there, and the others.
use Rattle.std.proofs.Common.{◌≡◌, ℕ, ◌+◌, ◌<◌, ◌≤◌, List, ◌∷◌, length, drop, set, get_or, length-drop, sym, ap, ◌∙◌, arith}
use Rattle.std.proofs.lemmas.List.{drop_more, drop-set-lt, get_or-set_same}
use Rattle.shard_core.specs.Held.{Held}
use Rattle.script_session.specs.Pulling.{StayBefore}

-- what stands there, once it was changed and the later ones were too
pub drop-changed : (old new : List Held) (place : ℕ) (one : Held) → place < length old → length new ≡ length old → StayBefore (place + 1) (set old place one) new → drop place new ≡ one ∷ drop (place + 1) new
drop-changed old new place one within same stays =
    drop_more new place one (omega (arith, within, same)) ∙ ap (λ h. h ∷ drop (place + 1) new) (stays place one (omega arith) ∙ get_or-set_same old place one one within)

-- what stands there, and the others
pub at-place : (all : List Held) (place : ℕ) (one : Held) → place < length all → one ≡ get_or all place one → drop place all ≡ one ∷ drop (place + 1) all
at-place all place one within is = drop_more all place one within ∙ ap (λ h. h ∷ drop (place + 1) all) (sym is)

-- the others stay where the one there changes
pub others-stay : (all : List Held) (place : ℕ) (one : Held) → drop (place + 1) (set all place one) ≡ drop (place + 1) all
others-stay all place one = drop-set-lt (place + 1) all place one (omega arith)

-- none is left
pub none-left : (all : List Held) (place : ℕ) → length all ≤ place → length (drop place all) ≡ 0
none-left all place past = length-drop place all ∙ omega (arith, past)
