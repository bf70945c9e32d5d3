-- What the reads of a record say of the bytes that begin there.
use Rattle.std.proofs.Common.{◌≡◌, ◌⊎◌, ℕ, zero, suc, ◌+◌, ◌≤◌, ◌<◌, Bool, true, false, List, [], ◌∷◌, ◌++◌, length, take, drop, get_or, refl, sym, ◌∙◌, ap, ⊎_elim, arith, append_assoc, length-append, drop-drop, get_or-take, get_or-drop}
use Rattle.std.specs.Int.{w32, to_le_bytes, from_le_bytes}
use Rattle.std.specs.Bool.{Decides}
use Rattle.std.proofs.lemmas.Bool.{and_from, le-leb, cases_Bool}
use Rattle.std.proofs.lemmas.Bool.Decides.{same_from_decides}
use Rattle.std.proofs.lemmas.Slice.Eq.{bytes_eq-Decides}
use Rattle.std.proofs.lemmas.List.{take_at}
use Rattle.ledger_file.specs.Format.{longest, frame_head, frame, claimed, payload, is_whole, magic, header}
use Rattle.ledger_file.proofs.Found.{begins}

false_unless : (b : Bool) → (b ≡ true → ⊥) → b ≡ false
false_unless b never = ⊎_elim (λ holds. absurd (never holds)) (λ is. is) (cases_Bool b)

-- too few bytes, or a claim of too many
pub broken : (seed : ℕ) (bytes : List ℕ) → (length bytes < 9) ⊎ ((longest < claimed bytes) ⊎ (length bytes < 9 + claimed bytes)) → is_whole seed bytes ≡ false
broken seed bytes why = false_unless (is_whole seed bytes) (λ whole.
    let b = begins seed bytes whole in
    let size : length bytes ≡ 9 + length (payload bytes) + length (drop (9 + claimed bytes) bytes) =
    ap length b.split ∙ length-append (frame seed (payload bytes)) (drop (9 + claimed bytes) bytes) ∙ ap (λ (k : ℕ). k + length (drop (9 + claimed bytes) bytes)) (length-append (frame_head seed (payload bytes)) (payload bytes)) in
    let claims = b.claims in
    let fits = b.fits in
    ⊎_elim (λ (h : length bytes < 9). absurd (omega arith)) (⊎_elim (λ (h : longest < claimed bytes). absurd (omega arith)) (λ (h : length bytes < 9 + claimed bytes). absurd (omega arith))) why)

byte_of : (n k : ℕ) (bytes head : List ℕ) → take n bytes ≡ head → k < n → get_or bytes k 0 ≡ get_or head k 0
byte_of n k bytes head is low = sym (get_or-take n bytes k 0 low) ∙ ap (λ (l : List ℕ). get_or l k 0) is

-- the claimed length is that of the head's bytes
pub claimed_head : (bytes head : List ℕ) → take 9 bytes ≡ head → claimed bytes ≡ from_le_bytes w32 (get_or head 1 0 ∷ get_or head 2 0 ∷ get_or head 3 0 ∷ get_or head 4 0 ∷ [])
unfolding claimed
claimed_head bytes head is =
    let a : get_or (drop 1 bytes) 0 0 ≡ get_or head 1 0 = get_or-drop 1 bytes 0 0 ∙ byte_of 9 1 bytes head is (omega arith) in
    let b : get_or (drop 1 bytes) 1 0 ≡ get_or head 2 0 = get_or-drop 1 bytes 1 0 ∙ byte_of 9 2 bytes head is (omega arith) in
    let c : get_or (drop 1 bytes) 2 0 ≡ get_or head 3 0 = get_or-drop 1 bytes 2 0 ∙ byte_of 9 3 bytes head is (omega arith) in
    let d : get_or (drop 1 bytes) 3 0 ≡ get_or head 4 0 = get_or-drop 1 bytes 3 0 ∙ byte_of 9 4 bytes head is (omega arith) in
    λ i. from_le_bytes w32 (a i ∷ b i ∷ c i ∷ d i ∷ [])

take_none : (k : ℕ) → take {A = ℕ} k [] ≡ []
take_none zero = refl
take_none (suc k) = refl

take-add : (m n : ℕ) (xs : List ℕ) → take (m + n) xs ≡ take m xs ++ take n (drop m xs)
take-add zero n xs = let e : 0 + n ≡ n = omega arith in ap (λ (k : ℕ). take k xs) e
take-add (suc m) n [] = take_none (suc m + n) ∙ sym (take_none n)
take-add (suc m) n (x ∷ xs) = (let e : suc m + n ≡ suc (m + n) = omega arith in ap (λ (k : ℕ). take k (x ∷ xs)) e) ∙ ap (λ (l : List ℕ). x ∷ l) (take-add m n xs)

-- a whole record is what its head says of its bytes
pub tested : (seed : ℕ) (bytes head held : List ℕ) (same : Bool) → claimed bytes ≤ longest → 9 + claimed bytes ≤ length bytes → take 9 bytes ≡ head → held ≡ payload bytes → Decides same (head ≡ frame_head seed held) → is_whole seed bytes ≡ same
unfolding is_whole payload
tested seed bytes head held same low within is held_is decides =
    same_from_decides (is_whole seed bytes) same (
      λ whole.
          let b = begins seed bytes whole in
          let first : take 9 bytes ≡ frame_head seed (payload bytes) =
          ap (λ (l : List ℕ). take 9 l) (b.split ∙ append_assoc (frame_head seed (payload bytes)) (payload bytes) (drop (9 + claimed bytes) bytes)) in
          sym is ∙ first ∙ ap (frame_head seed) (sym held_is),
      λ (heads : head ≡ frame_head seed held).
          let parts : take (9 + claimed bytes) bytes ≡ frame seed (payload bytes) =
          take-add 9 (claimed bytes) bytes ∙ ap (λ (l : List ℕ). l ++ payload bytes) (is ∙ heads ∙ ap (frame_head seed) held_is) in
          and_from _ _ (le-leb _ _ low) ((bytes_eq-Decides _ _).1 parts),
    )
    decides

-- a buffer that was written over whole
pub rewritten : (len : ℕ) (held old : List ℕ) → len ≡ length old → length held ≡ length old → take len (held ++ drop (length held) old) ≡ held
rewritten len held old size same = take_at held (drop (length held) old) len (omega arith)

-- the bytes behind the head
pub payload_is : (file held : List ℕ) (at size : ℕ) → claimed (drop at file) ≡ size → take size (drop (at + 9) file) ≡ held → held ≡ payload (drop at file)
unfolding payload
payload_is file held at size claims is = sym (ap (λ (k : ℕ). take k (drop 9 (drop at file))) claims ∙ ap (take size) (drop-drop 9 at file) ∙ is)

-- a header's start and the parameters behind it are the header
pub begins_with : (file head held : List ℕ) (size : ℕ) → take 12 file ≡ head → head ≡ magic ++ to_le_bytes w32 size → take size (drop 12 file) ≡ held → length held ≡ size → take (length (header held)) file ≡ header held
begins_with file head held size is starts rest len =
    let long : length (header held) ≡ 12 + length held = length-append (magic ++ to_le_bytes w32 (length held)) held in
    ap (λ (k : ℕ). take k file) (long ∙ ap (λ (k : ℕ). 12 + k) len) ∙ take-add 12 size file
    ∙ ap (λ (l : List ℕ). l ++ take size (drop 12 file)) (is ∙ starts ∙ ap (λ (k : ℕ). magic ++ to_le_bytes w32 k) (sym len)) ∙ ap (λ (l : List ℕ). magic ++ to_le_bytes w32 (length held) ++ l) rest
