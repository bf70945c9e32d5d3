-- The fields of an object, as one more member goes in.
-- For the contracts of `field` and `members`.
use Rattle.std.proofs.Common.{◌≡◌, ℕ, List, Bool, true, false, cond, Option, Some, Result, Ok, OnOk, IfOk, refl, sym, ap, subst, ◌∙◌, bytes_eq}
use Rattle.std.proofs.lemmas.Slice.Eq.{bytes_eq-Decides}
use Rattle.std.proofs.lemmas.Result.{on_ok_weaker, IfOk-weaker}
use mathlib.Core.Path.{fun_ext}
use Rattle.json.specs.Token.{Token}
use Rattle.serde_json.specs.Data.{Data, Members, put}
use Rattle.otlp_reading.specs.Kinds.{field, unless_null}
use Rattle.otlp_stream.specs.declared.take.Declined.{Declined}
use Rattle.otlp_stream.specs.Taking.{TakesAs, TakesField, present, fields_of, updated}
use Rattle.otlp_stream.proofs.Streaming.{field_put, field_put_other}

under : (b : Bool) (k q : List ℕ) (d : Data) (ms : Members) → b ≡ bytes_eq k q → field q (put k d ms) ≡ cond b (unless_null d) (field q ms)
under true k q d ms e = let same : k ≡ q = (bytes_eq-Decides k q).0 (sym e) in rw same (field_put q d ms)
under false k q d ms e = field_put_other q k d ms (sym e)

no : (b : Bool) → (b ≡ true → ⊥) → false ≡ b
no true e = absurd (e refl)
no false e = refl

pub fields_put : (k : List ℕ) (d : Data) (ms : Members) → updated k (unless_null d) (fields_of ms) ≡ fields_of (put k d ms)
fields_put k d ms = fun_ext (λ q. sym (under (bytes_eq k q) k q d ms refl))

-- what stands under another name leaves a field as it is
pub other : {A : Type 0} (read : Option Data → Option A) {q : List ℕ} {name : List ℕ} (o : Option Data) (seen : List ℕ → Option Data) (x : Option A) → (name ≡ q → ⊥) → read (seen q) ≡ x → read (updated name o seen q) ≡ x
other read {q} {name} o seen x e is = ap (λ b. read (cond b o (seen q))) (sym (no (bytes_eq name q) (λ t. e ((bytes_eq-Decides name q).0 t)))) ∙ is

module _ {S : Type 0} (so_far : (List ℕ → Option Data) → S → Type 0) (depth : ℕ) {name : List ℕ} (before : S) (old : List Token) (after : S) (new : List Token) {A : Type 0} (read : Option Data → Option A) {q : List ℕ} where
  taken_at : (x : A) → name ≡ q → TakesAs (present read) depth old new x
      → ((seen : List ℕ → Option Data) (o : Option Data) → read o ≡ Some x → so_far seen before → so_far (updated q o seen) after) → TakesField so_far depth name before old after new
  taken_at x same t step = record {
    found = t.found;
    takes = t.takes;
    keeps = λ seen s. subst (λ k. so_far (updated k (unless_null t.found) seen) after) (sym same) (step seen (unless_null t.found) t.is s);
  }

  module _ (done : Result Unit Declined) (r : Result A Declined) (x : A) (is : OnOk done (r ≡ Ok x)) (same : name ≡ q) where
    -- what was read was put in the place of a field
    pub put_at : IfOk r (λ y. TakesAs (present read) depth old new y)
        → ((seen : List ℕ → Option Data) (o : Option Data) → read o ≡ Some x → so_far seen before → so_far (updated q o seen) after) → OnOk done (TakesField so_far depth name before old after new)
    put_at t step = on_ok_weaker done (λ e. taken_at x same (rw e at t) step) is

    -- the same, where it was read of one token
    pub put_token_at : IfOk r (λ y. (at : ℕ) → TakesAs (present read) at old new y)
        → ((seen : List ℕ → Option Data) (o : Option Data) → read o ≡ Some x → so_far seen before → so_far (updated q o seen) after) → OnOk done (TakesField so_far depth name before old after new)
    put_token_at t step = put_at (IfOk-weaker r _ _ (λ y h. h depth) t) step
