-- Lines were made, and then written.
-- For the contract of `write_turn`.
use Rattle.std.proofs.Common.{◌≡◌, ℕ, Bool, true, false, Option, List, [], ◌++◌, sym, ◌∙◌, Decides}
use Rattle.std.specs.Io.KnownBytes.{Appends}
use Rattle.line_writing.specs.Filling.{Fills}
use Rattle.line_writing.specs.Turns.{WritesTurn}

module _ {S T : Type 0} (gives : S → Option T → S → Type 0) (is_line : T → List ℕ → Type 0) (old new : S) (before made after : List ℕ) (may_wait : Bool) (lost : ℕ) (output output' : Option (List ℕ))
    (fills : Fills gives is_line old new before made may_wait lost) (writes : (written : List ℕ) × Appends output output' written × (made ≡ written ++ after)) where
  abbrev pub Writes : Bool → Type 0
  Writes goes_on = WritesTurn gives is_line (record { source = old; left = before; output = output }) (record { source = new; left = after; output = output' }) goes_on lost

  turn_of : (goes_on : Bool) → Decides goes_on ((may_wait ≡ true) × (after ≡ [])) → Writes goes_on
  turn_of goes_on goes = record { may_wait = may_wait; made = made; fills = fills; written = writes.0; takes = writes.1; split = sym fills.put ∙ writes.2; goes = goes }

  -- all is written
  pub whole_turn : after ≡ [] → Writes may_wait
  whole_turn whole = turn_of may_wait (λ waits. (waits, whole), λ both. both.0)

  -- a rest is left
  pub part_turn : (is_written : Bool) → is_written ≡ false → Decides is_written (after ≡ []) → Writes is_written
  part_turn false stops whole = turn_of false (λ goes. cc, λ both. whole.1 both.1)
  part_turn true stops whole = let is : true ≡ false = stops in cc
