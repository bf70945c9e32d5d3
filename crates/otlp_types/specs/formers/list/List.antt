-- How a `List` stores its elements, so that the values of an attribute may hold lists of values.
use mathlib.Core.Path.{◌≡◌, refl, sym}
use mathlib.Core.List.{List, []}
use mathlib.Core.Former.{Former, this, list, via, children}
use base.Stored.{code_map}
use denote.RattleType.{RattleType}
use denote.HoleLaws.{Alike}
use denote.HolePlaces.{Recodes, struct_places, laid}
use denote.Hole.Carrier.{listed, list-listed}
use denote.Hole.Fix.{over}
use denote.Param.Weighed.{Weighed, w_list}
use denote.Model.Placed.{view_places}
use Rattle.std.specs.formers.vec.Vec as vec
use Rattle.std.specs.declared.alloc.Global.{Global}
use Rattle.std.specs.contracts.alloc.Global as global
use Rattle.std.specs.contracts.impls.GlobalAllocator.TheImpl.{ghosts}
use Rattle.otlp_types.specs.declared.list.List.TheInside.{Inside}
use Rattle.otlp_types.specs.declared.list.List.TheView.{view, invariant}
use Rattle.otlp_types.specs.contracts.list.List as contract
use Rattle.otlp_types.specs.contracts.list.List.TheInside as inside

-- a value is the list of its elements
abbrev pub the_former : Former {0} → Former {0}
the_former element = list element

-- the largest measure among the elements
abbrev pub the_weighed : {element : Former {0}} → Weighed element → Weighed (the_former element)
the_weighed weighed = w_list weighed

-- the empty list holds none
abbrev pub the_empty : List ⊥
the_empty = []

-- the elements in their order
abbrev pub the_items : (X : Type 0) → List X → List X
the_items X elements = elements

pub the_items_listed : (X : Type 0) (elements : List X)
    → listed _ (children (the_former this) X elements) ≡ the_items X elements
the_items_listed X elements = list-listed X elements

-- the one field holds the elements as a `Vec` does
abbrev stored : Former {0}
stored = via (vec.the_former this Global) Inside (λ X held. held.items)
    (λ X items. record { items = items }) (λ X held. refl) (λ X items. refl)

-- two rows of elements that are alike give lists that are alike
pub the_places : (from to : RattleType) (along : from.Denot → to.Denot) → Alike from to along
    → Alike (contract.the_row from) (contract.the_row to) ((the_former this).map from.Denot to.Denot along)
the_places from to along alike =
    view_places stored (list this) view (λ X Y k held. refl) (λ X held. refl) from.Denot to.Denot along
    (contract.the_row from).coded (contract.the_row to).coded
    (invariant from.Denot) (invariant to.Denot) (λ held p q. refl) (λ held p q. refl) (λ held e. tt) (λ held e. tt)
    (over (inside.the_row from)) (over (inside.the_row to))
    (struct_places (inside.the_type from) (inside.the_type to) (vec.mapped along, tt) _ (λ held. refl) refl
    (laid _ _ _ (vec.the_places global.the_row ghosts from to along alike), tt))

-- and their codes are alike too
pub the_codes_placed : (from to : RattleType) (along : from.Denot → to.Denot) → Recodes from to along
    → Recodes (contract.the_row from) (contract.the_row to) ((the_former this).map from.Denot to.Denot along)
the_codes_placed from to along same elements =
    sym (code_map from.coded.code to.coded.code along (λ element. sym (same element)) elements)
