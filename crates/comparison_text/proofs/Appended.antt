-- Values and members that are written one after the other. For the contracts of all functions that write.
use Rattle.std.proofs.Common.{◌≡◌, ◌++◌, ◌∷◌, ℕ, List, [], ap, ◌∙◌, append_assoc, subst, sym}
use Rattle.std.specs.Prelude.{Result, Ok, Err, OnOk}
use Rattle.json.specs.Json.{Json, array, object, Items, Members, no_members, member}
use Rattle.json.specs.Token.{Token, begin_array, begin_object, end_object, key}
use Rattle.json.specs.Tree.{HasNumbers, ItemsHaveNumbers, MembersHaveNumbers, items_tokens, json_tokens, members_tokens}
use Rattle.json.specs.Written.{Written, Writes}
use Rattle.comparison_text.specs.Putting.{PutsMember, PutsValue}

-- the items of an array were written, and its end
pub record PutsItems {E : Type 0} (result : Result (Unit {0}) E) (old new : Written) (items : Items) : Type 0 where
  pub all : OnOk result ((new.tokens ≡ old.tokens ++ items_tokens items) × (new.before ≡ old.before) × ItemsHaveNumbers items)

-- the members of an object were written, and its end
pub record PutsMembers {E : Type 0} (result : Result (Unit {0}) E) (old new : Written) (members : Members) : Type 0 where
  pub all : OnOk result ((new.tokens ≡ old.tokens ++ members_tokens members) × (new.before ≡ old.before) × MembersHaveNumbers members)

-- a value of one token
pub value-one : {E : Type 0} (result : Result (Unit {0}) E) (old new : Written) (value : Json) (token : Token) → json_tokens value ≡ token ∷ [] → HasNumbers value → Writes result old new token
    → PutsValue result old new value
value-one (Ok done) old new value token e n h = record { all = (h.ok ∙ ap (λ (ts : List Token). old.tokens ++ ts) (sym e), h.room.0, n) }
value-one (Err fault) old new value token e n h = record { all = tt }

-- a member's name, and then its value
pub member-of : {E : Type 0} (result : Result (Unit {0}) E) (old between new : Written) (name : List ℕ) (value : Json) → between.tokens ≡ old.tokens ++ key name ∷ [] → between.before ≡ old.before
    → PutsValue result between new value → PutsMember result old new name value
member-of (Ok done) old between new name value e b h =
    record { all = (h.all.0 ∙ ap (λ (ts : List Token). ts ++ json_tokens value) e ∙ append_assoc old.tokens (key name ∷ []) (json_tokens value), h.all.1 ∙ b, h.all.2) }
member-of (Err fault) old between new name value e b h = record { all = tt }

-- the end of an object
pub members-end : {E : Type 0} (result : Result (Unit {0}) E) (old new : Written) → Writes result old new end_object → PutsMembers result old new no_members
members-end (Ok done) old new h = record { all = (h.ok, h.room.0, tt) }
members-end (Err fault) old new h = record { all = tt }

-- a member, and then the others
pub member-then : {E : Type 0} (result : Result (Unit {0}) E) (old between new : Written) (name : List ℕ) (value : Json) (others : Members)
    → (between.tokens ≡ old.tokens ++ key name ∷ json_tokens value) × (between.before ≡ old.before) × HasNumbers value → PutsMembers result between new others
    → PutsMembers result old new (member name value others)
member-then (Ok done) old between new name value others m h =
    record {
      all = (
        h.all.0 ∙ ap (λ (ts : List Token). ts ++ members_tokens others) m.0 ∙ append_assoc old.tokens (key name ∷ json_tokens value) (members_tokens others),
        h.all.1 ∙ m.1,
        (m.2, h.all.2),
      );
    }
member-then (Err fault) old between new name value others m h = record { all = tt }

-- an object: its begin, its members and its end
pub object-of : {E : Type 0} (result : Result (Unit {0}) E) (old between new : Written) (inside : Members) → between.tokens ≡ old.tokens ++ begin_object ∷ [] → between.before ≡ old.before
    → PutsMembers result between new inside → PutsValue result old new (object inside)
object-of (Ok done) old between new inside e b h =
    record { all = (h.all.0 ∙ ap (λ (ts : List Token). ts ++ members_tokens inside) e ∙ append_assoc old.tokens (begin_object ∷ []) (members_tokens inside), h.all.1 ∙ b, h.all.2) }
object-of (Err fault) old between new inside e b h = record { all = tt }

-- an array: its begin, its items and its end
pub array-of : {E : Type 0} (result : Result (Unit {0}) E) (old between new : Written) (items : Items) → between.tokens ≡ old.tokens ++ begin_array ∷ [] → between.before ≡ old.before
    → PutsItems result between new items → PutsValue result old new (array items)
array-of (Ok done) old between new items e b h =
    record { all = (h.all.0 ∙ ap (λ (ts : List Token). ts ++ items_tokens items) e ∙ append_assoc old.tokens (begin_array ∷ []) (items_tokens items), h.all.1 ∙ b, h.all.2) }
array-of (Err fault) old between new items e b h = record { all = tt }

-- what is known of a member that was written, by another spelling of its value
pub member-as : (old new : Written) (name : List ℕ) (value other : Json) → value ≡ other → (new.tokens ≡ old.tokens ++ key name ∷ json_tokens value) × (new.before ≡ old.before) × HasNumbers value
    → (new.tokens ≡ old.tokens ++ key name ∷ json_tokens other) × (new.before ≡ old.before) × HasNumbers other
member-as old new name value other e h =
    subst (λ (v : Json). (new.tokens ≡ old.tokens ++ key name ∷ json_tokens v) × (new.before ≡ old.before) × HasNumbers v) e h

-- a value or a member, by another spelling of it
pub value-as : {E : Type 0} (result : Result (Unit {0}) E) (old new : Written) (value other : Json) → value ≡ other → PutsValue result old new value → PutsValue result old new other
value-as {E} result old new value other e h = subst (λ (v : Json). PutsValue {E = E} result old new v) e h

pub puts-member-as : {E : Type 0} (result : Result (Unit {0}) E) (old new : Written) (name : List ℕ) (value other : Json) → value ≡ other → PutsMember result old new name value
    → PutsMember result old new name other
puts-member-as {E} result old new name value other e h = subst (λ (v : Json). PutsMember {E = E} result old new name v) e h
