-- What a batch's bytes are.
use Rattle.std.proofs.Common.{◌≡◌, ◌≢◌, ℕ, ◌+◌, List, [], ◌∷◌, ◌++◌, length, take, drop, set, sym, ◌∙◌, ap, arith, refl, append_assoc, length-append}
use Rattle.std.proofs.lemmas.List.{append-nil, set_at}
use Rattle.ledger_file.specs.Format.{frame_head, frame, frames, records_in}
use Rattle.ledger_file.proofs.Found.{AllFit, in_frames, in_shut, frames-append}

pub in_batch : (seed : ℕ) (items : List (List ℕ)) → AllFit items → records_in seed (frames seed items ++ 0 ∷ []) ≡ items
in_batch seed items fit = in_frames seed items (0 ∷ []) fit ∙ ap (λ (l : List (List ℕ)). items ++ l) (in_shut seed 0 [] (omega arith)) ∙ append-nil items

pub frames-push : (seed : ℕ) (items : List (List ℕ)) (item rest : List ℕ) → frames seed (items ++ item ∷ []) ++ rest ≡ frames seed items ++ (frame seed item ++ rest)
frames-push seed items item rest =
    ap (λ (l : List ℕ). l ++ rest) (frames-append seed items (item ∷ []) ∙ ap (λ (l : List ℕ). frames seed items ++ l) (append-nil (frame seed item)))
    ∙ append_assoc (frames seed items) (frame seed item) rest

-- the gate is opened, and the record and a shut gate put behind it
pub pushed : (seed : ℕ) (items : List (List ℕ)) (item old : List ℕ) (gate : ℕ) → old ≡ frames seed items ++ 0 ∷ [] → gate + 1 ≡ length old
    → set (old ++ (drop 1 (frame_head seed item) ++ (item ++ 0 ∷ []))) gate 1 ≡ frames seed (items ++ item ∷ []) ++ 0 ∷ []
pushed seed items item old gate is size =
    let behind = drop 1 (frame_head seed item) ++ (item ++ 0 ∷ []) in
    let same : old ++ behind ≡ frames seed items ++ 0 ∷ behind = ap (λ (l : List ℕ). l ++ behind) is ∙ append_assoc (frames seed items) (0 ∷ []) behind in
    let at : length (frames seed items) ≡ gate = omega (arith, size, ap length is, length-append (frames seed items) (0 ∷ [])) in
    ap (λ (l : List ℕ). set l gate 1) same ∙ set_at (frames seed items) 0 behind 1 gate at ∙ sym (frames-push seed items item (0 ∷ []))

-- an empty batch is one byte long, and only an empty one
pub short_none : (seed : ℕ) (items : List (List ℕ)) (bytes : List ℕ) → bytes ≡ frames seed items ++ 0 ∷ [] → length bytes ≡ 1 → items ≡ []
short_none seed [] bytes is size = refl
short_none seed (x ∷ items) bytes is size =
    absurd (omega (arith, size, ap length is, length-append (frames seed (x ∷ items)) (0 ∷ []), length-append (frame seed x) (frames seed items), length-append (frame_head seed x) x))

pub none_short : (seed : ℕ) (items : List (List ℕ)) (bytes : List ℕ) → bytes ≡ frames seed items ++ 0 ∷ [] → items ≡ [] → length bytes ≡ 1
none_short seed items bytes is none = ap length (is ∙ ap (λ (l : List (List ℕ)). frames seed l ++ 0 ∷ []) none)

-- what is left when all of it is cut off but a shut gate
pub cleared : (old begin : List ℕ) → old ≡ begin ++ 0 ∷ [] → set (take 1 old) 0 0 ≡ 0 ∷ []
cleared [] begin is = absurd (omega (arith, ap length is, length-append begin (0 ∷ [])))
cleared (x ∷ old) begin is = refl

-- a batch with a record begins with an open gate
pub begins_open : (seed : ℕ) (items : List (List ℕ)) (bytes : List ℕ) → bytes ≡ frames seed items ++ 0 ∷ [] → items ≢ [] → 1 ∷ drop 1 bytes ≡ frames seed items ++ 0 ∷ []
begins_open seed [] bytes is some = absurd (some refl)
begins_open seed (x ∷ items) bytes is some = ap (λ (l : List ℕ). 1 ∷ drop 1 l) is
