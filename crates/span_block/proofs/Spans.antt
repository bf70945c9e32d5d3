-- Ids that are such, and a status of which nothing is told.
-- For span.rt.
use Rattle.std.proofs.Common.{◌≡◌, ℕ, List, [], length, Bool, true, false, cond, ◌&&◌, ◌==◌, Option, Some, None, pos, refl, sym, ap, subst, lit<}
use Rattle.std.specs.Prelude.{FitsSigned, is_some}
use Rattle.std.specs.Int.{w32}
use Rattle.std.specs.Str.{IsUtf8, is_utf8, chars}
use Rattle.std.proofs.lemmas.Str.{IsUtf8-from_is_utf8}
use lib.Utf8.{encode}
use Rattle.span_ids.specs.Id as ids
use Rattle.otlp_types.specs.declared.span.Status.{Status}
use Rattle.otlp_protobuf_encode.proofs.Empty.{no-status-back}
use Rattle.span_block.specs.Holds.{StatusHolds}

-- what is read as an id is that
same_by : (b : Bool) (id : List ℕ) → is_some (let o : Option (List ℕ) = cond b (Some id) None in o) ≡ true → cond b (Some id) None ≡ Some id
same_by true id h = refl
same_by false id h = absurd (cc)

pub is_id : (n : ℕ) (id : List ℕ) → is_some (ids.id_from n id) ≡ true → ids.id_from n id ≡ Some id
is_id n id h = same_by ((length id == n) && ids.is_id id) id h

pub no_id : (n : ℕ) (id : List ℕ) → is_some (ids.id_from n id) ≡ false → ids.id_from n id ≡ Some id → ⊥
no_id n id h e = let k : is_some (ids.id_from n id) ≡ true = ap is_some e in cc

empty_text : is_utf8 [] ≡ true
unfolding is_utf8 chars encode
empty_text = refl

pub empty_utf8 : IsUtf8 []
empty_utf8 = IsUtf8-from_is_utf8 [] empty_text

pub no_status_holds : (s : Status) → s.code ≡ pos 0 → s.message ≡ [] → StatusHolds s
no_status_holds s code message = record {
  back = no-status-back s code message;
  message = subst IsUtf8 (sym message) empty_utf8;
  code = subst (FitsSigned w32) (sym code) (record { sfits = lit< tt });
}
