-- What a reader finds in bytes: records, one after another, and then what is no whole record.
use Rattle.std.proofs.Common.{◌≡◌, ◌≢◌, ℕ, zero, suc, ◌+◌, ◌≤◌, true, false, List, [], ◌∷◌, ◌++◌, length, take, drop, refl, sym, ◌∙◌, ap, subst, arith, append_assoc, length-append, length-take, take-append-drop, ⊎_elim}
use Rattle.std.specs.List.{AllByRecursion}
use Rattle.std.proofs.lemmas.Bool.{and_parts, and_from, cond-true, cond-false, le-leb, leb-true, cases_Bool}
use Rattle.std.proofs.lemmas.Slice.Eq.{bytes_eq-Decides}
use Rattle.std.proofs.lemmas.Nat.{from_le_bytes-to_le_bytes_4}
use Rattle.std.proofs.lemmas.List.{take_at, drop_at}
use Rattle.ledger_file.specs.Format.{longest, Fits, frame_head, frame, frames, claimed, payload, is_whole, records_past, records_in}

-- passing over bytes is dropping them
pub past : (seed n : ℕ) (bytes : List ℕ) → records_past seed n bytes ≡ records_in seed (drop n bytes)
unfolding records_past
past seed zero bytes = refl
past seed (suc n) [] = refl
past seed (suc n) (b ∷ bytes) = past seed n bytes

-- a frame claims the length of its record
pub claimed-frame : (seed : ℕ) (item rest : List ℕ) → Fits item → claimed (frame seed item ++ rest) ≡ length item
unfolding claimed
claimed-frame seed item rest fits = from_le_bytes-to_le_bytes_4 (length item) (omega arith)

pub payload-frame : (seed : ℕ) (item rest : List ℕ) → Fits item → payload (frame seed item ++ rest) ≡ item
unfolding payload
payload-frame seed item rest fits = take_at item rest (claimed (frame seed item ++ rest)) (sym (claimed-frame seed item rest fits))

pub whole-frame : (seed : ℕ) (item rest : List ℕ) → Fits item → is_whole seed (frame seed item ++ rest) ≡ true
unfolding is_whole
whole-frame seed item rest fits =
    let is = claimed-frame seed item rest fits in
    let same : payload (frame seed item ++ rest) ≡ item = payload-frame seed item rest fits in
    let whole : take (9 + claimed (frame seed item ++ rest)) (frame seed item ++ rest) ≡ frame seed item =
    take_at (frame seed item) rest _ (omega (arith, is, length-append (frame_head seed item) item)) in
    and_from _ _ (le-leb _ _ (omega (arith, is, fits)))
    ((bytes_eq-Decides _ _).1 (whole ∙ ap (frame seed) (sym same)))

-- what a whole record's bytes are
pub record Begins (seed : ℕ) (bytes : List ℕ) : Type 0 where
  pub fits : Fits (payload bytes)
  pub claims : length (payload bytes) ≡ claimed bytes
  pub split : bytes ≡ frame seed (payload bytes) ++ drop (9 + claimed bytes) bytes

pub begins : (seed : ℕ) (bytes : List ℕ) → is_whole seed bytes ≡ true → Begins seed bytes
unfolding is_whole payload
begins seed bytes whole =
    let parts = and_parts _ _ whole in
    let low : claimed bytes ≤ longest = leb-true _ _ parts.0 in
    let front : take (9 + claimed bytes) bytes ≡ frame seed (payload bytes) = (bytes_eq-Decides _ _).0 parts.1 in
    let short : length (payload bytes) ≤ claimed bytes = omega (arith, length-take (claimed bytes) (drop 9 bytes)) in
    let split : bytes ≡ frame seed (payload bytes) ++ drop (9 + claimed bytes) bytes = sym (take-append-drop (9 + claimed bytes) bytes) ∙ ap (λ (l : List ℕ). l ++ drop (9 + claimed bytes) bytes) front in
    let fits : Fits (payload bytes) = omega arith in
    let size : length (payload bytes) ≡ claimed bytes = sym (ap claimed split ∙ claimed-frame seed (payload bytes) (drop (9 + claimed bytes) bytes) fits) in
    record { fits = fits; claims = size; split = split }

in_head : (seed b : ℕ) (bytes : List ℕ) → is_whole seed (b ∷ bytes) ≡ true → records_in seed (b ∷ bytes) ≡ payload (b ∷ bytes) ∷ records_in seed (drop (9 + claimed (b ∷ bytes)) (b ∷ bytes))
unfolding records_past
in_head seed b bytes whole =
    let n = claimed (b ∷ bytes) in
    let one : 9 + n ≡ suc (8 + n) = omega arith in
    cond-true _ _ _ whole
    ∙ ap (λ (rest : List (List ℕ)). payload (b ∷ bytes) ∷ rest) (past seed (8 + n) bytes ∙ ap (λ (k : ℕ). records_in seed (drop k (b ∷ bytes))) (sym one))

-- a whole record is found, and then those behind it
pub in_whole : (seed : ℕ) (bytes : List ℕ) → is_whole seed bytes ≡ true → records_in seed bytes ≡ payload bytes ∷ records_in seed (drop (9 + claimed bytes) bytes)
in_whole seed [] whole = let none : [] ≡ frame seed (payload []) ++ drop (9 + claimed []) [] = (begins seed [] whole).split in absurd (cc)
in_whole seed (b ∷ bytes) whole = in_head seed b bytes whole

-- where no whole record begins, none is found
pub in_broken : (seed : ℕ) (bytes : List ℕ) → is_whole seed bytes ≡ false → records_in seed bytes ≡ []
unfolding records_past
in_broken seed [] broken = refl
in_broken seed (b ∷ bytes) broken = cond-false _ _ _ broken

pub in_frame : (seed : ℕ) (item rest : List ℕ) → Fits item → records_in seed (frame seed item ++ rest) ≡ item ∷ records_in seed rest
in_frame seed item rest fits =
    let is = payload-frame seed item rest fits in
    let gone : drop (9 + claimed (frame seed item ++ rest)) (frame seed item ++ rest) ≡ rest =
    drop_at (frame seed item) rest _ (omega (arith, claimed-frame seed item rest fits, length-append (frame_head seed item) item)) in
    in_whole seed (frame seed item ++ rest) (whole-frame seed item rest fits) ∙ ap (λ (l : List ℕ). l ∷ records_in seed (drop (9 + claimed (frame seed item ++ rest)) (frame seed item ++ rest))) is ∙ ap (λ (l : List ℕ). item ∷ records_in seed l) gone

abbrev pub AllFit : List (List ℕ) → Type 0
AllFit items = AllByRecursion Fits items

pub in_frames : (seed : ℕ) (items : List (List ℕ)) (rest : List ℕ) → AllFit items → records_in seed (frames seed items ++ rest) ≡ items ++ records_in seed rest
in_frames seed [] rest fit = refl
in_frames seed (item ∷ items) rest fit =
    ap (records_in seed) (append_assoc (frame seed item) (frames seed items) rest)
    ∙ in_frame seed item (frames seed items ++ rest) fit.0
    ∙ ap (λ (l : List (List ℕ)). item ∷ l) (in_frames seed items rest fit.1)

pub frames-append : (seed : ℕ) (xs ys : List (List ℕ)) → frames seed (xs ++ ys) ≡ frames seed xs ++ frames seed ys
frames-append seed [] ys = refl
frames-append seed (x ∷ xs) ys = ap (λ (l : List ℕ). frame seed x ++ l) (frames-append seed xs ys) ∙ sym (append_assoc (frame seed x) (frames seed xs) (frames seed ys))

pub fit-append : (xs ys : List (List ℕ)) → AllFit xs → AllFit ys → AllFit (xs ++ ys)
fit-append [] ys fx fy = fy
fit-append (x ∷ xs) ys fx fy = (fx.0, fit-append xs ys fx.1 fy)

-- behind a gate that isn't open there is no record
shut_gate : (seed gate : ℕ) (rest : List ℕ) → is_whole seed (gate ∷ rest) ≡ true → gate ≡ 1
shut_gate seed gate rest whole = let split : gate ∷ rest ≡ frame seed (payload (gate ∷ rest)) ++ drop (9 + claimed (gate ∷ rest)) (gate ∷ rest) = (begins seed (gate ∷ rest) whole).split in cc

pub in_shut : (seed gate : ℕ) (rest : List ℕ) → gate ≢ 1 → records_in seed (gate ∷ rest) ≡ []
in_shut seed gate rest shut = in_broken seed (gate ∷ rest) (⊎_elim (λ whole. absurd (shut (shut_gate seed gate rest whole))) (λ broken. broken) (cases_Bool (is_whole seed (gate ∷ rest))))

-- any bytes: the frames of the records that are found there, and an end where none begins
pub record Parts (seed : ℕ) (bytes : List ℕ) : Type 0 where
  pub end : List ℕ
  pub split : bytes ≡ frames seed (records_in seed bytes) ++ end
  pub none : is_whole seed end ≡ false
  pub fit : AllFit (records_in seed bytes)

parts_within : (n seed : ℕ) (bytes : List ℕ) → length bytes ≤ n → Parts seed bytes
parts_within zero seed bytes short = ⊎_elim
    (λ (whole : is_whole seed bytes ≡ true). let h : length bytes ≡ 9 + length (payload bytes) + length (drop (9 + claimed bytes) bytes) = ap length (begins seed bytes whole).split ∙ length-append (frame seed (payload bytes)) (drop (9 + claimed bytes) bytes) ∙ ap (λ (k : ℕ). k + length (drop (9 + claimed bytes) bytes)) (length-append (frame_head seed (payload bytes)) (payload bytes)) in absurd (omega arith))
    (λ (broken : is_whole seed bytes ≡ false). let is = in_broken seed bytes broken in record { end = bytes; split = ap (λ (l : List (List ℕ)). frames seed l ++ bytes) (sym is); none = broken; fit = subst AllFit (sym is) tt })
    (cases_Bool (is_whole seed bytes))
parts_within (suc n) seed bytes short = ⊎_elim
    (λ (whole : is_whole seed bytes ≡ true).
    let b = begins seed bytes whole in
    let h : length bytes ≡ 9 + length (payload bytes) + length (drop (9 + claimed bytes) bytes) = ap length b.split ∙ length-append (frame seed (payload bytes)) (drop (9 + claimed bytes) bytes) ∙ ap (λ (k : ℕ). k + length (drop (9 + claimed bytes) bytes)) (length-append (frame_head seed (payload bytes)) (payload bytes)) in
    let behind = parts_within n seed (drop (9 + claimed bytes) bytes) (omega arith) in
    let is = in_whole seed bytes whole in
    let same : bytes ≡ frames seed (records_in seed bytes) ++ behind.end =
    b.split ∙ ap (λ (l : List ℕ). frame seed (payload bytes) ++ l) behind.split ∙ sym (append_assoc (frame seed (payload bytes)) (frames seed (records_in seed (drop (9 + claimed bytes) bytes))) behind.end)
    ∙ ap (λ (l : List (List ℕ)). frames seed l ++ behind.end) (sym is) in
    let fit : AllFit (records_in seed bytes) = subst AllFit (sym is) (b.fits, behind.fit) in
    record { end = behind.end; split = same; none = behind.none; fit = fit })
    (λ (broken : is_whole seed bytes ≡ false). let is = in_broken seed bytes broken in record { end = bytes; split = ap (λ (l : List (List ℕ)). frames seed l ++ bytes) (sym is); none = broken; fit = subst AllFit (sym is) tt })
    (cases_Bool (is_whole seed bytes))

pub parts : (seed : ℕ) (bytes : List ℕ) → Parts seed bytes
parts seed bytes = parts_within (length bytes) seed bytes (omega arith)
