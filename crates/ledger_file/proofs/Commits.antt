-- What each file has that a crash may leave in the steps of a commit.
use Rattle.std.proofs.Common.{◌≡◌, ◌≢◌, ℕ, ◌+◌, ◌-◌, List, [], ◌∷◌, ◌++◌, length, take, drop, get_or, refl, sym, ◌∙◌, ap, subst, arith, append_assoc, length-append, length-drop, ◌<◌}
use Rattle.std.proofs.lemmas.List.{take_at, take_all, drop_at}
use Rattle.sqlite_disk.specs.Disk.{Holds, Torn, Follows, Only}
use Rattle.ledger_file.specs.Format.{Fits, frame_head, frame, frames, seed_of, parameters_of, records_of, front}
use Rattle.ledger_file.specs.Ledger.{EndsBehind, Keeps, HasFirstOrBoth, Has}
use Rattle.ledger_file.proofs.Found.{AllFit}
use Rattle.ledger_file.proofs.Torn.{torn_behind, torn_gate, held, two_parts}
use Rattle.ledger_file.specs.declared.ledger.Ledger.{Ledger}
use Rattle.ledger_file.proofs.Batches.{begins_open}
use Rattle.ledger_file.proofs.Whole.{ends, named, front-append, opened, either}

-- the bytes behind the gate
after_gate : (begin : List ℕ) (gate : ℕ) (rest : List ℕ) → drop (length begin + 1) (begin ++ gate ∷ rest) ≡ rest
after_gate begin gate rest = ap (λ (l : List ℕ). drop (length begin + 1) l) (sym (append_assoc begin (gate ∷ []) rest)) ∙ drop_at (begin ++ gate ∷ []) rest (length begin + 1) (length-append begin (gate ∷ []))

-- a write behind the gate, done or torn, leaves the records as they were
pub behind : (begin : List ℕ) (n : ℕ) (old new : List ℕ → Type 0) → ((c : List ℕ) → old c → EndsBehind begin c) → Follows (Torn (length begin + 1) n) old new → (c : List ℕ) → new c → EndsBehind begin c
behind begin n old new each follows c left =
    let from = follows c left in
    let was = each from.0 from.1 in
    (was.0, drop (length begin + 1) c, was.2, torn_behind begin was.0 n was.1 from.0 c was.3 from.2)

-- done, it has the batch behind the gate
pub staged : (begin tail file : List ℕ) → EndsBehind begin file → Holds file (length begin + 1) tail → (gate : ℕ) × (rest : List ℕ) × (gate ≢ 1) × (file ≡ begin ++ gate ∷ (tail ++ rest))
staged begin tail file was holds =
    let gate = was.0 in
    let rest = was.1 in
    let same : drop (length begin + 1) file ≡ rest = ap (λ (l : List ℕ). drop (length begin + 1) l) was.3 ∙ after_gate begin gate rest in
    let first : take (length begin + 1) file ≡ begin ++ gate ∷ [] = ap (λ (l : List ℕ). take (length begin + 1) l) (was.3 ∙ sym (append_assoc begin (gate ∷ []) rest)) ∙ take_at (begin ++ gate ∷ []) rest (length begin + 1) (length-append begin (gate ∷ [])) in (
      gate,
      drop (length begin + 1 + length tail) file,
      was.2,
      two_parts file (begin ++ gate ∷ []) tail (length begin + 1) first (held file tail (length begin + 1) holds) ∙ append_assoc begin (gate ∷ []) (tail ++ drop (length begin + 1 + length tail) file),
    )

-- the write of the gate leaves the batch behind it
pub gate_torn : (begin tail rest file : List ℕ) (gate : ℕ) (old new : List ℕ → Type 0) → Only file old → file ≡ begin ++ gate ∷ (tail ++ rest) → Follows (Torn (length begin) 1) old new
    → (c : List ℕ) → new c → c ≡ begin ++ get_or c (length begin) 0 ∷ (tail ++ rest)
gate_torn begin tail rest file gate old new only is follows c left =
    let from = follows c left in
    torn_gate begin gate (tail ++ rest) from.0 c (only from.0 from.1 ∙ is) from.2

-- done, the gate is open
pub gate_open : (begin tail rest old new : List ℕ) (gate : ℕ) → old ≡ begin ++ gate ∷ (tail ++ rest) → Torn (length begin) 1 old new → Holds new (length begin) (1 ∷ []) → new ≡ begin ++ 1 ∷ (tail ++ rest)
gate_open begin tail rest old new gate is torn holds =
    let one : get_or new (length begin) 0 ≡ 1 = ap (λ (k : ℕ). get_or new k 0) (omega arith) ∙ holds.each 0 (omega arith) in
    torn_gate begin gate (tail ++ rest) old new is torn ∙ ap (λ (g : ℕ). begin ++ g ∷ (tail ++ rest)) one

module _ (parameters : List ℕ) (known : Fits parameters) (items : List (List ℕ)) (fit : AllFit items) where
  pub has : (file : List ℕ) → EndsBehind (front parameters items) file → Has parameters items file
  has file was = record { named = named parameters known items file was; found = ends parameters known items file fit was }

  -- a ledger that keeps this keeps what a read finds
  pub keeps_read : {D : Type 0} (may_leave : D → List ℕ → Type 0) (file : List ℕ) (ledger : Ledger D) → Has parameters items file → Keeps may_leave parameters items ledger → Keeps may_leave (parameters_of file) (records_of file) ledger
  keeps_read may_leave file ledger is keeps =
      subst (λ (ps : List ℕ). Keeps may_leave ps (records_of file) ledger) (sym is.named)
      (subst (λ (xs : List (List ℕ)). Keeps may_leave parameters xs ledger) (sym is.found) keeps)

  module _ (end : ℕ) (at : end ≡ length (front parameters items)) where
    pub first : (n : ℕ) (old new : List ℕ → Type 0) → ((c : List ℕ) → old c → EndsBehind (front parameters items) c) → Follows (Torn (end + 1) n) old new → (c : List ℕ) → new c → EndsBehind (front parameters items) c
    first n old new each follows = behind (front parameters items) n old new each (subst (λ (k : ℕ). Follows (Torn (k + 1) n) old new) at follows)

    module _ (more : List (List ℕ)) (fits : AllFit more) (tail : List ℕ) (whole : 1 ∷ tail ≡ frames (seed_of parameters) more ++ 0 ∷ []) (mid : List ℕ)
        (was : EndsBehind (front parameters items) mid) (written : Holds mid (end + 1) tail) where
      stage : (gate : ℕ) × (rest : List ℕ) × (gate ≢ 1) × (mid ≡ front parameters items ++ gate ∷ (tail ++ rest))
      stage = staged (front parameters items) tail mid was (subst (λ (k : ℕ). Holds mid (k + 1) tail) at written)

      -- the write of the gate: all of the batch or none
      pub second : (old new : List ℕ → Type 0) → Only mid old → Follows (Torn end 1) old new → (c : List ℕ) → new c → HasFirstOrBoth items more c
      second old new only follows c left =
          either parameters known items more (get_or c (length (front parameters items)) 0) tail stage.1 c fit fits whole
          (gate_torn (front parameters items) tail stage.1 mid stage.0 old new only stage.3 (subst (λ (k : ℕ). Follows (Torn k 1) old new) at follows) c left)

      -- and once it is done all of it
      pub done : (file : List ℕ) → Torn end 1 mid file → Holds file end (1 ∷ []) → EndsBehind (front parameters (items ++ more)) file
      done file torn holds =
          opened parameters known items more tail stage.1 file fit fits whole
          (gate_open (front parameters items) tail stage.1 mid file stage.0 stage.3 (subst (λ (k : ℕ). Torn k 1 mid file) at torn) (subst (λ (k : ℕ). Holds file k (1 ∷ [])) at holds))

      pub end_after : (size : ℕ) → size ≡ length (frames (seed_of parameters) more ++ 0 ∷ []) → end + (size - 1) ≡ length (front parameters (items ++ more))
      end_after size is =
          let grown : length (front parameters (items ++ more) ++ []) ≡ length (front parameters items) + length (frames (seed_of parameters) more ++ []) =
          ap length (sym (front-append parameters known items more [])) ∙ length-append (front parameters items) (frames (seed_of parameters) more ++ []) in
          omega (arith, at, is, grown, length-append (frames (seed_of parameters) more) (0 ∷ []), length-append (frames (seed_of parameters) more) [], length-append (front parameters (items ++ more)) [])

-- the slice behind the gate of a batch's bytes
pub whole_tail : (seed seed' : ℕ) (items : List (List ℕ)) (bytes slice : List ℕ) → slice ≡ bytes → bytes ≡ frames seed items ++ 0 ∷ [] → seed ≡ seed' → items ≢ []
    → 1 ∷ take (length slice - 1) (drop 1 slice) ≡ frames seed' items ++ 0 ∷ []
whole_tail seed seed' items bytes slice same framed seeds some =
    ap (λ (l : List ℕ). 1 ∷ l) (take_all (length slice - 1) (drop 1 slice) (omega (arith, length-drop 1 slice)) ∙ ap (λ (l : List ℕ). drop 1 l) same)
    ∙ begins_open seed items bytes framed some ∙ ap (λ (s : ℕ). frames s items ++ 0 ∷ []) seeds

pub tail_some : (seed : ℕ) (items : List (List ℕ)) (tail : List ℕ) → 1 ∷ tail ≡ frames seed items ++ 0 ∷ [] → items ≢ [] → 0 < length tail
tail_some seed [] tail whole some = absurd (some refl)
tail_some seed (x ∷ items) tail whole some =
    omega (arith, ap length whole, length-append (frames seed (x ∷ items)) (0 ∷ []), length-append (frame seed x) (frames seed items), length-append (frame_head seed x) x)
