-- One entry more is taken.
-- For the contract of `fill`.
use Rattle.std.proofs.Common.{◌≡◌, ℕ, ◌+◌, ◌<◌, ◌≤◌, Option, Some, None, List, [], ◌∷◌, ◌++◌, length, cond, is_none, refl, sym, ap, subst, subst₂, ◌∙◌, append_assoc, append-nil, add-zero, zero-add, arith, Bool, true, false}
use Rattle.std.specs.Bool.{OnTrue, OnFalse}
use Rattle.std.specs.List.{AllByRecursion}
use Rattle.std.proofs.lemmas.Grind.{flat_map-append, common_steps}
use Rattle.std.proofs.lemmas.List.Sums.{sum_by-append}
use Rattle.line_writing.specs.Filling.{TakenEntry, text_put, lines_put, lost_in, HasOwnLine, TakesAll, TakesWhileWanted, enough}

-- what holds while entries are taken
pub record Filling {S T : Type 0} (gives : S → Option T → S → Type 0) (is_line : T → List ℕ → Type 0) (old now : S) (before after : List ℕ) (lost : ℕ) : Type 0 where
  pub entries : List (TakenEntry T)
  pub taken : TakesAll gives old entries now
  pub own : AllByRecursion (HasOwnLine is_line) entries
  pub wanted : TakesWhileWanted before entries
  pub put : after ≡ before ++ lines_put entries
  pub counted : lost ≡ lost_in entries

pub none_taken : {S T : Type 0} (gives : S → Option T → S → Type 0) (is_line : T → List ℕ → Type 0) (old : S) (before : List ℕ) → Filling {S = S} {T = T} gives is_line old old before before 0
none_taken gives is_line old before = record { entries = []; taken = refl; own = tt; wanted = tt; put = sym (append-nil before); counted = refl }

pub taken_more : {S T : Type 0} (gives : S → Option T → S → Type 0) (old between new : S) (entries : List (TakenEntry T)) (e : TakenEntry T) → TakesAll gives old entries between → gives between (Some e.entry) new
    → TakesAll gives old (entries ++ e ∷ []) new
taken_more gives old between new [] e all one = (new, subst (λ s. gives s (Some e.entry) new) all one, refl)
taken_more gives old between new (first ∷ entries) e all one = (all.0, all.1, taken_more gives all.0 between new entries e all.2 one)

own_more : {T : Type 0} (is_line : T → List ℕ → Type 0) (entries : List (TakenEntry T)) (e : TakenEntry T) → AllByRecursion (HasOwnLine is_line) entries → HasOwnLine is_line e
    → AllByRecursion (HasOwnLine is_line) (entries ++ e ∷ [])
own_more is_line [] e all one = (one, tt)
own_more is_line (first ∷ entries) e all one = (all.0, own_more is_line entries e all.1 one)

wanted_more : {T : Type 0} (before after : List ℕ) (entries : List (TakenEntry T)) (e : TakenEntry T) → TakesWhileWanted before entries → after ≡ before ++ lines_put entries → length after < enough
    → TakesWhileWanted before (entries ++ e ∷ [])
wanted_more before after [] e all put room = (subst (λ text. length text < enough) (put ∙ append-nil before) room, tt)
wanted_more before after (first ∷ entries) e all put room = (all.0, wanted_more (before ++ text_put first.line) after entries e all.1 (rw append_assoc put) room)

-- behind an entry of which this was put
put_more : {T : Type 0} (before after : List ℕ) (entries : List (TakenEntry T)) (e : TakenEntry T) → after ≡ before ++ lines_put entries → after ++ text_put e.line ≡ before ++ lines_put (entries ++ e ∷ [])
put_more before after entries e put = rw flat_map-append (grind (arith, common_steps, put))

lost_more : {T : Type 0} (entries : List (TakenEntry T)) (e : TakenEntry T) (lost : ℕ) → lost ≡ lost_in entries → lost + cond (is_none e.line) 1 0 ≡ lost_in (entries ++ e ∷ [])
lost_more entries e lost counted = rw sum_by-append (rw zero-add (ap (λ n. n + cond (is_none e.line) 1 0) counted))

module _ {S T : Type 0} (gives : S → Option T → S → Type 0) (is_line : T → List ℕ → Type 0) (old now new : S) (before after : List ℕ) (lost : ℕ) where
  one_more : (f : Filling gives is_line old now before after lost) (e : TakenEntry T) → gives now (Some e.entry) new → HasOwnLine is_line e → length after < enough
      → Filling gives is_line old new before (after ++ text_put e.line) (lost + cond (is_none e.line) 1 0)
  one_more f e one own room = record {
    entries = f.entries ++ e ∷ [];
    taken = taken_more gives old now new f.entries e f.taken one;
    own = own_more is_line f.entries e f.own own;
    wanted = wanted_more before after f.entries e f.wanted f.put room;
    put = put_more before after f.entries e f.put;
    counted = lost_more f.entries e lost f.counted;
  }

  module _ (f : Filling gives is_line old now before after lost) (entry : T) (one : gives now (Some entry) new) (room : length after < enough) where
    -- its line was put
    line_more : (text line : List ℕ) → is_line entry line → text ≡ after ++ line → Filling gives is_line old new before text lost
    line_more text line own is =
        subst₂ (λ t n. Filling gives is_line old new before t n) (sym is) (add-zero lost) (one_more f (record { entry = entry; line = Some line }) one own room)

    -- it has none
    none_more : (text : List ℕ) → text ≡ after → Filling gives is_line old new before text (lost + 1)
    none_more text is =
        subst (λ t. Filling gives is_line old new before t (lost + 1)) (append-nil after ∙ sym is) (one_more f (record { entry = entry; line = None }) one tt room)

    -- its line was put, or it is counted, as was answered
    pub put_or_lost : (text : List ℕ) (is_put : Bool) (counted turns : ℕ) → OnTrue is_put ((line : List ℕ) × is_line entry line × (text ≡ after ++ line)) → OnFalse is_put (text ≡ after)
        → (is_put ≡ true → counted ≡ lost) → (is_put ≡ false → counted ≡ lost + 1) → lost ≤ turns → Filling gives is_line old new before text counted × (counted ≤ turns + 1)
    put_or_lost text true counted turns put same same_count more_count few =
        (subst (λ n. Filling gives is_line old new before text n) (sym (same_count refl)) (line_more text put.0 put.1 put.2), omega (arith, same_count refl, few))
    put_or_lost text false counted turns put same same_count more_count few =
        (subst (λ n. Filling gives is_line old new before text n) (sym (more_count refl)) (none_more text same), omega (arith, more_count refl, few))
