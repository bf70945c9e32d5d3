-- What the head and the payload that were read say of a record.
-- For the contract of `record_in`.
use Rattle.std.proofs.Common.{◌≡◌, ℕ, zero, suc, ◌+◌, ◌-◌, ◌^◌, ◌<◌, ◌≤◌, Bool, true, false, Some, None, List, [], ◌∷◌, ◌++◌, length, take, drop, get_or, refl, sym, ◌∙◌, ap, ⊎_elim, arith, length-take, length-drop}
use Rattle.std.specs.Bool.{Decides}
use Rattle.std.specs.Int.{w32, from_le_bytes}
use Rattle.std.proofs.lemmas.Bool.{cases_Bool, cond-true, cond-false}
use Rattle.std.proofs.lemmas.Bool.Decides.{same_from_decides}
use Rattle.std.proofs.lemmas.List.{take_all}
use Rattle.std.proofs.lemmas.Slice.Eq.{bytes_eq-Decides}
use Rattle.request_ledger.specs.Sums.{sums_of}
use Rattle.request_ledger.specs.Format.{head_bytes, record_of, told_len, told_payload, is_record, record_in, records_in}
use Rattle.request_ledger.proofs.Found.{begins, whole_length, in_whole}

pub false_unless : (b : Bool) → (b ≡ true → ⊥) → b ≡ false
false_unless b never = ⊎_elim (λ holds. absurd (never holds)) (λ is. is) (cases_Bool b)

-- bytes tell a length of 32 bits
pub told_below : (bytes : List ℕ) → ((i : ℕ) → get_or bytes i 0 < 256) → told_len bytes < 2 ^ 32
unfolding told_len
told_below bytes fit = omega (arith, fit 0, fit 1, fit 2, fit 3)

-- what was read of the first four bytes
pub told_is : (bytes : List ℕ) (len : ℕ) → len ≡ from_le_bytes w32 bytes → told_len bytes ≡ len
unfolding told_len
told_is bytes len is = sym is

-- fewer bytes than they tell
pub torn : (bytes : List ℕ) → told_len bytes < 2 ^ 32 → length bytes < 12 + told_len bytes → is_record bytes ≡ false
torn bytes low short = false_unless (is_record bytes) (λ is. let whole = whole_length bytes low is in absurd (omega arith))

take_none : (k : ℕ) → take {A = ℕ} k [] ≡ []
take_none zero = refl
take_none (suc k) = refl

take-add : (m n : ℕ) (xs : List ℕ) → take (m + n) xs ≡ take m xs ++ take n (drop m xs)
take-add zero n xs = let e : 0 + n ≡ n = omega arith in ap (λ (k : ℕ). take k xs) e
take-add (suc m) n [] = take_none (suc m + n) ∙ sym (take_none n)
take-add (suc m) n (x ∷ xs) = (let e : suc m + n ≡ suc (m + n) = omega arith in ap (λ (k : ℕ). take k (x ∷ xs)) e) ∙ ap (λ (l : List ℕ). x ∷ l) (take-add m n xs)

told : (bytes : List ℕ) → take (told_len bytes) (drop 12 bytes) ≡ told_payload bytes
unfolding told_payload
told bytes = refl

full : (bytes : List ℕ) (len : ℕ) → told_len bytes ≡ len → 12 + len ≤ length bytes → length (told_payload bytes) ≡ len
unfolding told_payload
full bytes len tells within = omega (arith, length-take (told_len bytes) (drop 12 bytes), length-drop 12 bytes)

-- a record begins there where the head is that of the payload
pub tested : (bytes head payload : List ℕ) (len : ℕ) (same : Bool) → told_len bytes ≡ len → len < 2 ^ 32 → 12 + len ≤ length bytes → head ≡ take 12 bytes → payload ≡ told_payload bytes → Decides same (head ≡ head_bytes len (sums_of payload)) → is_record bytes ≡ same
unfolding is_record
tested bytes head payload len same tells low within head_is payload_is decides =
    same_from_decides (is_record bytes) same (
      λ whole.
          let below : told_len bytes < 2 ^ 32 = omega arith in
          let b = begins bytes below whole in
          let size : length (told_payload bytes) ≡ len = b.tells ∙ tells in
          let first : take 12 bytes ≡ head_bytes (length (told_payload bytes)) (sums_of (told_payload bytes)) =
          ap (λ (l : List ℕ). take 12 l) b.split in
          head_is ∙ first ∙ ap (λ (k : ℕ). head_bytes k (sums_of (told_payload bytes))) size ∙ ap (λ (l : List ℕ). head_bytes len (sums_of l)) (sym payload_is),
      λ (heads : head ≡ head_bytes len (sums_of payload)).
          let size : length (told_payload bytes) ≡ len = full bytes len tells within in
          let parts : take (12 + told_len bytes) bytes ≡ record_of (told_payload bytes) =
          take-add 12 (told_len bytes) bytes ∙ ap (λ (l : List ℕ). l ++ take (told_len bytes) (drop 12 bytes)) (sym head_is ∙ heads ∙ ap (λ (k : ℕ). head_bytes k (sums_of payload)) (sym size) ∙ ap (λ (l : List ℕ). head_bytes (length (told_payload bytes)) (sums_of l)) payload_is)
          ∙ ap (λ (l : List ℕ). head_bytes (length (told_payload bytes)) (sums_of (told_payload bytes)) ++ l) (told bytes) in
          (bytes_eq-Decides _ _).1 parts,
    )
    decides

-- what was read as the length and the payload
pub held : (bytes payload : List ℕ) (len : ℕ) → told_len bytes ≡ len → payload ≡ take len (take (length bytes - 12) (drop 12 bytes)) → payload ≡ told_payload bytes
unfolding told_payload
held bytes payload len tells is =
    is ∙ ap (λ (l : List ℕ). take len l) (take_all (length bytes - 12) (drop 12 bytes) (omega (arith, length-drop 12 bytes))) ∙ ap (λ (k : ℕ). take k (drop 12 bytes)) (sym tells)

-- no record
pub none_read : (bytes : List ℕ) → is_record bytes ≡ false → None ≡ record_in bytes
none_read bytes broken = sym (cond-false _ _ _ broken)

-- a record, and those behind it
pub some_read : (bytes payload : List ℕ) → is_record bytes ≡ true → payload ≡ told_payload bytes → Some payload ≡ record_in bytes
some_read bytes payload is held = ap Some held ∙ sym (cond-true _ _ _ is)

pub first_read : (bytes payload : List ℕ) (len : ℕ) → is_record bytes ≡ true → payload ≡ told_payload bytes → told_len bytes ≡ len → 12 + len ≤ length bytes → records_in bytes ≡ payload ∷ records_in (drop (12 + length payload) bytes)
first_read bytes payload len is held tells within =
    let size : told_len bytes ≡ length payload = tells ∙ sym (full bytes len tells within) ∙ ap length (sym held) in
    in_whole bytes is ∙ ap (λ (l : List ℕ). l ∷ records_in (drop (12 + told_len bytes) bytes)) (sym held) ∙ ap (λ (k : ℕ). payload ∷ records_in (drop (12 + k) bytes)) size
