-- What a crash leaves while a new file is made: for `make`.
use Rattle.std.proofs.Common.{◌≡◌, ◌≢◌, ℕ, ◌+◌, ◌-◌, ◌<◌, true, false, List, [], ◌∷◌, ◌++◌, length, take, drop, get_or, refl, ◌∙◌, ap, ⊎_elim, arith, append_assoc, length-append, length-take, length-drop}
use Rattle.std.proofs.lemmas.Bool.{cases_Bool, cases_eq, cond-false}
use Rattle.std.proofs.lemmas.List.{take_all, take_at}
use Rattle.std.proofs.lemmas.Slice.Eq.{bytes_eq-Decides}
use Rattle.std.specs.Int.{w32, to_le_bytes}
use Rattle.sqlite_disk.specs.Disk.{Holds, Torn, Follows, Only}
use Rattle.ledger_file.specs.Format.{Fits, magic, header, seed_of, parameters_of, is_ledger, records_of}
use Rattle.ledger_file.specs.Ledger.{EndsBehind}
use Rattle.ledger_file.proofs.Found.{in_shut}
use Rattle.ledger_file.proofs.Torn.{held, two_parts, torn_behind, torn_gate}
use Rattle.ledger_file.proofs.Whole.{records-header}
use Rattle.ledger_file.proofs.Commits.{staged, gate_torn}

no_ledger : (file : List ℕ) → (is_ledger file ≡ true → ⊥) → records_of file ≡ []
unfolding records_of
no_ledger file never = cond-false _ _ _ (⊎_elim (λ (is : is_ledger file ≡ true). absurd (never is)) (λ (is : is_ledger file ≡ false). is) (cases_Bool (is_ledger file)))

-- too short for a header
pub short_file : (file : List ℕ) → length file < 12 → records_of file ≡ []
unfolding is_ledger
short_file file short = no_ledger file (λ is.
    let front : take (length (header (parameters_of file))) file ≡ header (parameters_of file) = (bytes_eq-Decides _ _).0 is in
    let size : length (header (parameters_of file)) ≡ 12 + length (parameters_of file) = length-append (magic ++ to_le_bytes w32 (length (parameters_of file))) (parameters_of file) in
    absurd (omega (arith, ap length front, size, length-take (length (header (parameters_of file))) file)))

-- another first byte
pub other_first : (x : ℕ) (rest : List ℕ) → x ≢ 116 → records_of (x ∷ rest) ≡ []
unfolding is_ledger
other_first x rest other = no_ledger (x ∷ rest) (λ is.
    let front : take (length (header (parameters_of (x ∷ rest)))) (x ∷ rest) ≡ header (parameters_of (x ∷ rest)) = (bytes_eq-Decides _ _).0 is in
    other (ap (λ (l : List ℕ). get_or l 0 0) front))

pub header_tail : (parameters bytes slice : List ℕ) → slice ≡ bytes → bytes ≡ header parameters ++ 0 ∷ [] → 116 ∷ take (length slice - 1) (drop 1 slice) ≡ header parameters ++ 0 ∷ []
header_tail parameters bytes slice same is =
    ap (λ (l : List ℕ). 116 ∷ l) (take_all (length slice - 1) (drop 1 slice) (omega (arith, length-drop 1 slice)) ∙ ap (λ (l : List ℕ). drop 1 l) (same ∙ is))

-- the first byte of a file that has 0 there is a shut gate
first_shut : (file : List ℕ) → Holds file 0 (0 ∷ []) → EndsBehind [] file
first_shut file holds = (0, drop 1 file, (omega arith), two_parts file [] (0 ∷ []) 0 refl (held file (0 ∷ []) 0 holds))

pub first_crash : (file : List ℕ) (old new : List ℕ → Type 0) → Only file old → length file ≡ 0 → Follows (Torn 0 1) old new → (c : List ℕ) → new c → records_of c ≡ []
first_crash file old new only empty follows c left =
    let from = follows c left in
    let torn = from.2 in
    short_file c (omega (arith, torn.no_longer, ap length (only from.0 from.1), empty))

-- while the first byte is 0
pub second_ends : (file : List ℕ) (n : ℕ) (old new : List ℕ → Type 0) → Holds file 0 (0 ∷ []) → Only file old → Follows (Torn 1 n) old new → (c : List ℕ) → new c → c ≡ 0 ∷ drop 1 c
unfolding first_shut
second_ends file n old new holds only follows c left =
    let from = follows c left in
    let was = first_shut file holds in
    torn_behind [] 0 n (drop 1 file) from.0 c (only from.0 from.1 ∙ was.3) from.2

pub second_crash : (file : List ℕ) (n : ℕ) (old new : List ℕ → Type 0) → Holds file 0 (0 ∷ []) → Only file old → Follows (Torn 1 n) old new → (c : List ℕ) → new c → records_of c ≡ []
second_crash file n old new holds only follows c left = ap records_of (second_ends file n old new holds only follows c left) ∙ other_first 0 (drop 1 c) (omega arith)

module _ (parameters : List ℕ) (known : Fits parameters) (tail : List ℕ) (whole : 116 ∷ tail ≡ header parameters ++ 0 ∷ []) (mid : List ℕ) (starts : mid ≡ 0 ∷ drop 1 mid) (holds : Holds mid 1 tail) where
  stage : (gate : ℕ) × (rest : List ℕ) × (gate ≢ 1) × (mid ≡ [] ++ gate ∷ (tail ++ rest))
  stage = staged [] tail mid (0, drop 1 mid, (omega arith), starts) holds

  headed : (file rest : List ℕ) → file ≡ 116 ∷ (tail ++ rest) → EndsBehind (header parameters) file
  headed file rest is = (0, rest, (omega arith), is ∙ ap (λ (l : List ℕ). l ++ rest) whole ∙ append_assoc (header parameters) (0 ∷ []) rest)

  pub no_record : (file : List ℕ) → EndsBehind (header parameters) file → records_of file ≡ []
  no_record file (gate, rest, shut, is) = ap records_of is ∙ records-header parameters (gate ∷ rest) known ∙ in_shut (seed_of parameters) gate rest shut

  pub third_crash : (old new : List ℕ → Type 0) → Only mid old → Follows (Torn 0 1) old new → (c : List ℕ) → new c → records_of c ≡ []
  third_crash old new only follows c left =
      let same : c ≡ get_or c 0 0 ∷ (tail ++ stage.1) = gate_torn [] tail stage.1 mid stage.0 old new only stage.3 follows c left in
      ⊎_elim
      (λ (first : get_or c 0 0 ≡ 116). no_record c (headed c stage.1 (same ∙ ap (λ (x : ℕ). x ∷ (tail ++ stage.1)) first)))
      (λ (other : get_or c 0 0 ≡ 116 → ⊥). ap records_of same ∙ other_first (get_or c 0 0) (tail ++ stage.1) other)
      (cases_eq (get_or c 0 0) 116)

  pub made : (file : List ℕ) → Torn 0 1 mid file → Holds file 0 (116 ∷ []) → EndsBehind (header parameters) file
  made file torn written =
      let first : get_or file 0 0 ≡ 116 = ap (λ (k : ℕ). get_or file k 0) (omega arith) ∙ written.each 0 (omega arith) in
      headed file stage.1 (torn_gate [] stage.0 (tail ++ stage.1) mid file stage.3 torn ∙ ap (λ (x : ℕ). x ∷ (tail ++ stage.1)) first)

-- the header, without the gate behind it
pub header_front : (parameters bytes slice : List ℕ) (len : ℕ) → slice ≡ bytes → bytes ≡ header parameters ++ 0 ∷ [] → len ≡ length bytes → take (len - 1) slice ≡ header parameters
header_front parameters bytes slice len same is size =
    ap (λ (l : List ℕ). take (len - 1) l) (same ∙ is) ∙ take_at (header parameters) (0 ∷ []) (len - 1) (omega (arith, size, ap length is, length-append (header parameters) (0 ∷ [])))
