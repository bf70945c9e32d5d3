-- Where the records of a file end, and what a shut gate that is written there may leave: for `recover`.
use Rattle.std.proofs.Common.{◌≡◌, ℕ, ◌+◌, ◌≤◌, ◌<◌, false, List, [], ◌∷◌, ◌++◌, length, take, drop, get_or, sym, ◌∙◌, ap, subst, inl, inr, ⊎_elim, arith, append_assoc, length-append, length-drop, take-append-drop}
use Rattle.std.proofs.lemmas.Bool.{cases_eq}
use Rattle.std.proofs.lemmas.List.{append-nil, take_at, get_or_at, take_all}
use Rattle.std.specs.Int.{w32, to_le_bytes}
use Rattle.sqlite_disk.specs.Disk.{Holds, Torn, Only}
use Rattle.ledger_file.specs.Format.{Fits, frames, is_whole, magic, header, seed_of, records_in, parameters_of, records_of, front}
use Rattle.ledger_file.specs.Ledger.{EndsBehind, Has, LeavesAtRest}
use Rattle.ledger_file.specs.Reading.{BeginsWith, IsShutAt, MayBeShut, IsShutNow}
use Rattle.ledger_file.proofs.Found.{AllFit, parts, in_broken}
use Rattle.ledger_file.proofs.Torn.{torn_front, torn_gate, held, two_parts}
use Rattle.ledger_file.proofs.RecordReads.{broken}
use Rattle.ledger_file.proofs.Whole.{parameters-header, records-header, records-front, parameters-front, ends, named}

-- a file that begins with a header is its parameters, its records and an end where none begins
pub record Splits (file parameters : List ℕ) : Type 0 where
  pub end : List ℕ
  pub is_named : parameters_of file ≡ parameters
  pub is_found : records_of file ≡ records_in (seed_of parameters) (drop (length (header parameters)) file)
  pub fit : AllFit (records_of file)
  pub none : is_whole (seed_of parameters) end ≡ false
  pub split : file ≡ front parameters (records_of file) ++ end

pub splits : (file parameters : List ℕ) → Fits parameters → BeginsWith file parameters → Splits file parameters
splits file parameters known begins =
    let body = drop (length (header parameters)) file in
    let seed = seed_of parameters in
    let whole : file ≡ header parameters ++ body = sym (take-append-drop (length (header parameters)) file) ∙ ap (λ (l : List ℕ). l ++ body) begins in
    let p = parts seed body in
    let found : records_of file ≡ records_in seed body = ap records_of whole ∙ records-header parameters body known in
    record {
      end = p.end;
      is_named = ap parameters_of whole ∙ parameters-header parameters body known;
      is_found = found;
      fit = subst AllFit (sym found) p.fit;
      none = p.none;
      split = whole ∙ ap (λ (l : List ℕ). header parameters ++ l) p.split ∙ sym (append_assoc (header parameters) (frames seed (records_in seed body)) p.end)
          ∙ ap (λ (l : List (List ℕ)). (header parameters ++ frames seed l) ++ p.end) (sym found);
    }

module _ (parameters : List ℕ) (known : Fits parameters) (items : List (List ℕ)) (fit : AllFit items) where
  -- an end where no record begins
  pub has_end : (end file : List ℕ) → is_whole (seed_of parameters) end ≡ false → file ≡ front parameters items ++ end → Has parameters items file
  has_end end file none is = record {
    named = ap parameters_of is ∙ parameters-front parameters known items end;
    found = ap records_of is ∙ records-front parameters known items end fit ∙ ap (λ (l : List (List ℕ)). items ++ l) (in_broken (seed_of parameters) end none) ∙ append-nil items;
  }

  -- a shut gate that stands there
  pub shut_there : (end file : List ℕ) (at : ℕ) → file ≡ front parameters items ++ end → at ≡ length (front parameters items) → IsShutAt file at → EndsBehind (front parameters items) file
  shut_there [] file at is place shut = absurd (omega (arith, shut.0, place, ap length is, length-append (front parameters items) []))
  shut_there (gate ∷ rest) file at is place shut =
      let here : get_or file at 0 ≡ gate = ap (λ (l : List ℕ). get_or l at 0) is ∙ get_or_at (front parameters items) gate rest 0 at (sym place) in
      (gate, rest, (λ one. shut.1 (here ∙ one)), is)

  -- a write of the gate, torn or not, leaves the records as they are, if none began there and no shut gate stood there
  pub torn_there : (end file c : List ℕ) (at : ℕ) → file ≡ front parameters items ++ end → at ≡ length (front parameters items) → is_whole (seed_of parameters) end ≡ false → (IsShutAt file at → ⊥) → Torn at 1 file c → Has parameters items c
  torn_there [] file c at is place none open_there torn =
      let size : length file ≡ length (front parameters items) = ap length (is ∙ append-nil (front parameters items)) in
      let first : take at c ≡ front parameters items = torn_front at 1 file c torn (omega (arith, size, place)) ∙ ap (take at) (is ∙ append-nil (front parameters items)) ∙ take_all at (front parameters items) (omega (arith, place)) in
      let short : length (drop at c) < 9 = omega (arith, length-drop at c, torn.no_longer, size, place) in
      has_end (drop at c) c (broken (seed_of parameters) (drop at c) (inl short)) (sym (take-append-drop at c) ∙ ap (λ (l : List ℕ). l ++ drop at c) first)
  torn_there (gate ∷ rest) file c at is place none open_there torn =
      let here : get_or file at 0 ≡ gate = ap (λ (l : List ℕ). get_or l at 0) is ∙ get_or_at (front parameters items) gate rest 0 at (sym place) in
      let inside : at < length file = omega (arith, place, ap length is, length-append (front parameters items) (gate ∷ rest)) in
      let one : gate ≡ 1 = ⊎_elim (λ (e : gate ≡ 1). e) (λ (shut : gate ≡ 1 → ⊥). absurd (open_there (inside, λ e. shut (sym here ∙ e)))) (cases_eq gate 1) in
      let now = get_or c (length (front parameters items)) 0 in
      let same : c ≡ front parameters items ++ now ∷ rest = torn_gate (front parameters items) gate rest file c is (subst (λ (k : ℕ). Torn k 1 file c) place torn) in
      ⊎_elim
      (λ (e : now ≡ 1). has_end (gate ∷ rest) c none (same ∙ ap (λ (g : ℕ). front parameters items ++ g ∷ rest) (e ∙ sym one)))
      (λ (shut : now ≡ 1 → ⊥). let was : EndsBehind (front parameters items) c = (now, rest, shut, same) in record { named = named parameters known items c was; found = ends parameters known items c fit was })
      (cases_eq now 1)

  -- and once it is done a shut gate stands there
  pub shut_done : (end file c : List ℕ) (at : ℕ) → file ≡ front parameters items ++ end → at ≡ length (front parameters items) → Torn at 1 file c → Holds c at (0 ∷ []) → EndsBehind (front parameters items) c
  shut_done end file c at is place torn holds =
      let low : at ≤ length file = omega (arith, place, ap length is, length-append (front parameters items) end) in
      let first : take at c ≡ front parameters items = torn_front at 1 file c torn low ∙ ap (take at) is ∙ take_at (front parameters items) end at (sym place) in
      (0, drop (at + 1) c, (omega arith), two_parts c (front parameters items) (0 ∷ []) at first (held c (0 ∷ []) at holds))

-- what `recover` leaves, of a file that begins with a header
module _ (file parameters : List ℕ) (known : Fits parameters) (begins : BeginsWith file parameters) (at seed begin : ℕ) (seeds : seed ≡ seed_of parameters) (begin_is : begin ≡ 12 + length parameters)
    (place : at ≡ begin + length (frames seed (records_in seed (drop begin file)))) where
  parted : Splits file parameters
  parted = splits file parameters known begins

  begin_at : begin ≡ length (header parameters)
  begin_at = omega (arith, begin_is, length-append (magic ++ to_le_bytes w32 (length parameters)) parameters)

  pub all_found : records_in seed (drop begin file) ≡ records_of file
  all_found = ap (λ (k : ℕ). records_in k (drop begin file)) seeds ∙ ap (λ (k : ℕ). records_in (seed_of parameters) (drop k file)) begin_at ∙ sym parted.is_found

  pub is_named : parameters_of file ≡ parameters
  is_named = parted.is_named

  at_front : at ≡ length (front parameters (records_of file))
  at_front =
      let size : length (frames seed (records_in seed (drop begin file))) ≡ length (frames (seed_of parameters) (records_of file)) =
      ap (λ (l : List (List ℕ)). length (frames seed l)) all_found ∙ ap (λ (k : ℕ). length (frames k (records_of file))) seeds in
      omega (arith, place, size, begin_at, length-append (header parameters) (frames (seed_of parameters) (records_of file)))

  pub after_crash : (old : List ℕ → Type 0) → Only file old → (c : List ℕ) → MayBeShut old file at c → Has (parameters_of file) (records_of file) c
  after_crash old only c m =
      subst (λ (ps : List ℕ). Has ps (records_of file) c) (sym is_named)
      (torn_there parameters known (records_of file) parted.fit parted.end file c at parted.split at_front parted.none m.stood_open (subst (λ (l : List ℕ). Torn at 1 l c) (only m.before m.left) m.torn))

  pub ends_now : (old : List ℕ → Type 0) → Only file old → (c : List ℕ) → IsShutNow old file at c → EndsBehind (front parameters (records_of file)) c
  ends_now old only c (inl was) =
      subst (EndsBehind (front parameters (records_of file))) (sym (only c was.1)) (shut_there parameters known (records_of file) parted.fit parted.end file at parted.split at_front was.0)
  ends_now old only c (inr done) = shut_done parameters known (records_of file) parted.fit parted.end file c at parted.split at_front done.0 done.1

  pub at_rest : {D : Type 0} (may_leave : D → List ℕ → Type 0) (disk : D) (old : List ℕ → Type 0) → Only file old → ((c : List ℕ) → may_leave disk c → IsShutNow old file at c) → LeavesAtRest may_leave (parameters_of file) (records_of file) at disk
  at_rest may_leave disk old only now =
      subst (λ (ps : List ℕ). LeavesAtRest may_leave ps (records_of file) at disk) (sym is_named)
      (record { known = known; fit = parted.fit; place = at_front; each = λ c left. ends_now old only c (now c left) })
