-- What a write of a disk leaves, as lists.
use Rattle.std.proofs.Common.{◌≡◌, ℕ, suc, ◌+◌, ◌≤◌, ◌<◌, List, [], ◌∷◌, ◌++◌, length, take, drop, get_or, refl, sym, ◌∙◌, ap, arith, ext_get_or, length-take, length-drop, length-append, take-append-drop, get_or-take, get_or-drop, drop-drop, append_assoc}
use Rattle.std.proofs.lemmas.List.{take_at, drop_at, drop_more}
use Rattle.sqlite_disk.specs.Disk.{Holds, Torn, Follows}
use Rattle.ledger_file.specs.Reading.{AgreesUpTo}

-- below the range the file stays
pub torn_front : (at n : ℕ) (old new : List ℕ) → Torn at n old new → at ≤ length old → take at new ≡ take at old
torn_front at n old new torn low =
    ext_get_or 0 (take at new) (take at old) (omega (arith, length-take at new, length-take at old, torn.no_shorter))
    (λ i h.
    let below : i < at = omega (arith, length-take at new) in
    let inside : i < length old = omega arith in
    get_or-take at new i 0 below ∙ torn.below i inside below ∙ sym (get_or-take at old i 0 below))

-- above it too, where the file isn't longer
pub torn_back : (at n : ℕ) (old new : List ℕ) → Torn at n old new → at + n ≤ length old → drop (at + n) new ≡ drop (at + n) old
torn_back at n old new torn low =
    ext_get_or 0 (drop (at + n) new) (drop (at + n) old) (omega (arith, length-drop (at + n) new, length-drop (at + n) old, torn.no_shorter, torn.no_longer))
    (λ i h.
    let inside : at + n + i < length old = omega (arith, length-drop (at + n) new, torn.no_longer, torn.no_shorter) in
    let above : at + n ≤ at + n + i = omega arith in
    get_or-drop (at + n) new i 0 ∙ torn.above (at + n + i) inside above ∙ sym (get_or-drop (at + n) old i 0))

pub torn_size : (at n : ℕ) (old new : List ℕ) → Torn at n old new → at + n ≤ length old → length new ≡ length old
torn_size at n old new torn low = omega (arith, torn.no_shorter, torn.no_longer)

-- what is written stands there
pub held : (file bytes : List ℕ) (at : ℕ) → Holds file at bytes → take (length bytes) (drop at file) ≡ bytes
held file bytes at holds =
    ext_get_or 0 (take (length bytes) (drop at file)) bytes (omega (arith, length-take (length bytes) (drop at file), length-drop at file, holds.within))
    (λ i h.
    let low : i < length bytes = omega (arith, length-take (length bytes) (drop at file)) in
    get_or-take (length bytes) (drop at file) i 0 low ∙ get_or-drop at file i 0 ∙ holds.each i low)

-- a file that has begin in front, and these bytes behind it
pub two_parts : (file begin bytes : List ℕ) (at : ℕ) → take at file ≡ begin → take (length bytes) (drop at file) ≡ bytes → file ≡ begin ++ (bytes ++ drop (at + length bytes) file)
two_parts file begin bytes at first second =
    sym (take-append-drop at file)
    ∙ ap (λ (l : List ℕ). l ++ drop at file) first
    ∙ ap (λ (l : List ℕ). begin ++ l) (sym (take-append-drop (length bytes) (drop at file)) ∙ ap (λ (l : List ℕ). l ++ drop (length bytes) (drop at file)) second ∙ ap (λ (l : List ℕ). bytes ++ l) (drop-drop (length bytes) at file))

-- A write behind `begin` and one byte leaves both, torn or not.
pub torn_behind : (begin : List ℕ) (gate n : ℕ) (rest old new : List ℕ) → old ≡ begin ++ gate ∷ rest → Torn (length begin + 1) n old new → new ≡ begin ++ gate ∷ drop (length begin + 1) new
torn_behind begin gate n rest old new is torn =
    let whole : old ≡ (begin ++ gate ∷ []) ++ rest = is ∙ sym (append_assoc begin (gate ∷ []) rest) in
    let size : length (begin ++ gate ∷ []) ≡ length begin + 1 = length-append begin (gate ∷ []) in
    let long : length old ≡ length begin + 1 + length rest = omega (arith, ap length whole, length-append (begin ++ gate ∷ []) rest, size) in
    let front : take (length begin + 1) new ≡ begin ++ gate ∷ [] = torn_front (length begin + 1) n old new torn (omega arith) ∙ ap (λ (l : List ℕ). take (length begin + 1) l) whole ∙ take_at (begin ++ gate ∷ []) rest (length begin + 1) size in
    sym (take-append-drop (length begin + 1) new) ∙ ap (λ (l : List ℕ). l ++ drop (length begin + 1) new) front ∙ append_assoc begin (gate ∷ []) (drop (length begin + 1) new)

-- A write of the one byte behind `begin` leaves what stands on both sides.
pub torn_gate : (begin : List ℕ) (gate : ℕ) (rest old new : List ℕ) → old ≡ begin ++ gate ∷ rest → Torn (length begin) 1 old new → new ≡ begin ++ get_or new (length begin) 0 ∷ rest
torn_gate begin gate rest old new is torn =
    let long : length old ≡ length begin + suc (length rest) = ap length is ∙ length-append begin (gate ∷ rest) in
    let front : take (length begin) new ≡ begin = torn_front (length begin) 1 old new torn (omega arith) ∙ ap (λ (l : List ℕ). take (length begin) l) is ∙ take_at begin (gate ∷ rest) (length begin) refl in
    let whole : old ≡ (begin ++ gate ∷ []) ++ rest = is ∙ sym (append_assoc begin (gate ∷ []) rest) in
    let back : drop (length begin + 1) new ≡ rest = torn_back (length begin) 1 old new torn (omega arith) ∙ ap (λ (l : List ℕ). drop (length begin + 1) l) whole ∙ drop_at (begin ++ gate ∷ []) rest (length begin + 1) (length-append begin (gate ∷ [])) in
    let size : length new ≡ length old = torn_size (length begin) 1 old new torn (omega arith) in
    sym (take-append-drop (length begin) new) ∙ ap (λ (l : List ℕ). l ++ drop (length begin) new) front
    ∙ ap (λ (l : List ℕ). begin ++ l) (drop_more new (length begin) 0 (omega arith) ∙ ap (λ (l : List ℕ). get_or new (length begin) 0 ∷ l) back)

-- below some place under the range
pub torn_low : (m at n : ℕ) (old new : List ℕ) → Torn at n old new → m ≤ at → m ≤ length old → take m new ≡ take m old
torn_low m at n old new torn under low =
    ext_get_or 0 (take m new) (take m old) (omega (arith, length-take m new, length-take m old, torn.no_shorter))
    (λ i h.
    let below : i < m = omega (arith, length-take m new) in
    let under_at : i < at = omega arith in
    let inside : i < length old = omega arith in
    get_or-take m new i 0 below ∙ torn.below i inside under_at ∙ sym (get_or-take m old i 0 below))

-- what all agree on below a write stays so
pub agree_step : (m at n : ℕ) (file new_file : List ℕ) (old new : List ℕ → Type 0) → m ≤ at → m ≤ length file → AgreesUpTo m file old → Torn at n file new_file → Follows (Torn at n) old new → AgreesUpTo m new_file new
agree_step m at n file new_file old new under low agree torn follows c left =
    let from = follows c left in
    let was : take m from.0 ≡ take m file = agree from.0 from.1 in
    let long : m ≤ length from.0 = omega (arith, ap length was, length-take m from.0, length-take m file) in
    torn_low m at n from.0 c from.2 under long ∙ was ∙ sym (torn_low m at n file new_file torn under low)
