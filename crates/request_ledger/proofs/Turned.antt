-- One byte that was turned changes the first sum.
-- For the contract of `turned_byte_is_found`.
use Rattle.std.proofs.Common.{◌≡◌, ◌≢◌, ℕ, zero, suc, ◌+◌, ◌^◌, ◌%◌, ◌<◌, true, None, List, [], ◌∷◌, ◌++◌, length, take, drop, get_or, set, sym, ◌∙◌, ap, arith, length-append}
use Rattle.std.proofs.lemmas.Bool.{cond-false}
use Rattle.std.proofs.lemmas.List.{take_at, length-set}
use Rattle.std.proofs.lemmas.Nat.{from_le_bytes-to_le_bytes_4}
use Rattle.std.proofs.lemmas.Slice.Eq.{bytes_eq-Decides}
use Rattle.std.specs.Int.{w32, from_le_bytes}
use Rattle.request_ledger.specs.declared.sums.Sums.{Sums}
use Rattle.request_ledger.specs.Sums.{after_byte, after_bytes, no_sums, sums_of}
use Rattle.request_ledger.specs.Format.{Fits, head_bytes, record_of, told_len, told_payload, is_record, record_in}
use Rattle.request_ledger.proofs.Found.{told-head}
use Rattle.request_ledger.proofs.Heads.{false_unless}

-- what one byte adds tells the byte
step_tells : (a x y : ℕ) → x < 256 → y < 256 → (a + (x + 1)) % 2 ^ 32 ≡ (a + (y + 1)) % 2 ^ 32 → x ≡ y
step_tells a x y lx ly is = omega arith

back_step : (a c x : ℕ) → a < 2 ^ 32 → c < 2 ^ 32 → (a + (x + 1)) % 2 ^ 32 ≡ (c + (x + 1)) % 2 ^ 32 → a ≡ c
back_step a c x la lc is = omega arith

below : (a : ℕ) → a % 2 ^ 32 < 2 ^ 32
below a = omega arith

-- the sum that comes of bytes tells the sum before them
pub same_before : (xs : List ℕ) (s t : Sums) → s.first < 2 ^ 32 → t.first < 2 ^ 32 → (after_bytes s xs).first ≡ (after_bytes t xs).first → s.first ≡ t.first
same_before [] s t ls lt is = is
same_before (x ∷ xs) s t ls lt is =
    back_step s.first t.first x ls lt (same_before xs (after_byte s x) (after_byte t x) (below (s.first + (x + 1))) (below (t.first + (x + 1))) is)

pub turned_first : (xs : List ℕ) (i b : ℕ) (s : Sums) → i < length xs → get_or xs i 0 < 256 → b < 256 → b ≢ get_or xs i 0 → (after_bytes s xs).first ≢ (after_bytes s (set xs i b)).first
turned_first [] i b s within lx lb other is = absurd (omega arith)
turned_first (x ∷ xs) zero b s within lx lb other is =
    other (sym (step_tells s.first x b lx lb (same_before xs (after_byte s x) (after_byte s b) (below (s.first + (x + 1))) (below (s.first + (b + 1))) is)))
turned_first (x ∷ xs) (suc i) b s within lx lb other is = let h : i < length xs = omega arith in turned_first xs i b (after_byte s x) h lx lb other is

first_below : (xs : List ℕ) (s : Sums) → s.first < 2 ^ 32 → (after_bytes s xs).first < 2 ^ 32
first_below [] s low = low
first_below (x ∷ xs) s low = first_below xs (after_byte s x) (below (s.first + (x + 1)))

sum_below : (xs : List ℕ) → (sums_of xs).first < 2 ^ 32
unfolding sums_of
sum_below xs = let zero_low : 0 < 2 ^ 32 = omega arith in first_below xs no_sums zero_low

other_sum : (xs : List ℕ) (i b : ℕ) → i < length xs → get_or xs i 0 < 256 → b < 256 → b ≢ get_or xs i 0 → (sums_of xs).first ≢ (sums_of (set xs i b)).first
unfolding sums_of
other_sum xs i b within lx lb other = turned_first xs i b no_sums within lx lb other

-- two heads that are the same have the same first sum
head_tells : (m n : ℕ) (s t : Sums) (xs ys : List ℕ) → s.first < 2 ^ 32 → t.first < 2 ^ 32 → head_bytes m s ++ xs ≡ head_bytes n t ++ ys → s.first ≡ t.first
head_tells m n s t xs ys ls lt is =
    sym (from_le_bytes-to_le_bytes_4 s.first ls) ∙ ap (λ (l : List ℕ). from_le_bytes w32 (drop 4 l)) is ∙ from_le_bytes-to_le_bytes_4 t.first lt

-- what the bytes tell behind the head that was written
told_behind : (payload turned behind : List ℕ) → Fits payload → length turned ≡ length payload → told_payload (head_bytes (length payload) (sums_of payload) ++ (turned ++ behind)) ≡ turned
unfolding told_payload
told_behind payload turned behind fits same = take_at turned behind _ (same ∙ sym (told-head payload (turned ++ behind) fits))

-- it is a record only where the sums are its own
own_sum : (payload turned behind : List ℕ) → Fits payload → length turned ≡ length payload → is_record (head_bytes (length payload) (sums_of payload) ++ (turned ++ behind)) ≡ true → (sums_of payload).first ≡ (sums_of turned).first
unfolding is_record
own_sum payload turned behind fits same is =
    let head = head_bytes (length payload) (sums_of payload) in
    let size : length (head ++ turned) ≡ 12 + told_len (head ++ (turned ++ behind)) =
    omega (arith, length-append head turned, same, told-head payload (turned ++ behind) fits) in
    let whole : take (12 + told_len (head ++ (turned ++ behind))) (head ++ (turned ++ behind)) ≡ head ++ turned = take_at (head ++ turned) behind _ size in
    head_tells (length payload) (length turned) (sums_of payload) (sums_of turned) turned turned (sum_below payload) (sum_below turned)
    (sym whole ∙ (bytes_eq-Decides _ _).0 is ∙ ap record_of (told_behind payload turned behind fits same))

pub turned_is_none : (payload behind : List ℕ) (i byte : ℕ) → Fits payload → i < length payload → get_or payload i 0 < 256 → byte < 256 → byte ≢ get_or payload i 0
    → record_in (head_bytes (length payload) (sums_of payload) ++ (set payload i byte ++ behind)) ≡ None
turned_is_none payload behind i byte fits within lx lb other =
    cond-false _ _ _ (false_unless _ (λ is. other_sum payload i byte within lx lb other (own_sum payload (set payload i byte) behind fits (length-set payload i byte) is)))
