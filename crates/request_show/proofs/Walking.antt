-- One field more of a message.
-- For the contract of `first_fault`.
use Rattle.std.proofs.Common.{◌≡◌, ℕ, suc, ◌+◌, ◌-◌, ◌<◌, true, false, List, [], ◌∷◌, length, Option, Some, None, Result, Ok, refl, sym, ap, ◌∙◌, arith}
use Rattle.std.specs.Option.{is_some}
use Rattle.protobuf_wire.specs.declared.fault.WireFault.{WireFault}
use Rattle.protobuf_wire.specs.Wire.{Field, next_field}
use Rattle.request_show.specs.FirstFault.{first_fault, first_met, in_field, in_front}
use Rattle.request_show.specs.declared.messages.MessageKind.{MessageKind}
use Rattle.request_show.specs.declared.walk.Met.{Met}

in_turn : (n : ℕ) (kind : MessageKind) (levels at : ℕ) (s : List ℕ) (front : Result (Field × List ℕ) WireFault) → 0 < length s → next_field s ≡ front
    → first_fault (suc n) kind levels at s ≡ in_front (first_fault n) kind levels at s front
unfolding first_fault
in_turn n kind levels at [] front some e = absurd (omega (arith, some))
in_turn n kind levels at (b ∷ s) front some e = ap (in_front (first_fault n) kind levels at (b ∷ s)) e

one_less : (turns : ℕ) → 0 < turns → turns ≡ suc (turns - 1)
one_less turns some = omega (arith, some)

-- what is met in the field at the front, and else in the bytes behind it
by_front : (turns : ℕ) (kind : MessageKind) (levels at : ℕ) (s : List ℕ) (f : Field) (r : List ℕ) → 0 < turns → 0 < length s → next_field s ≡ Ok (f, r)
    → first_fault turns kind levels at s
    ≡ first_met (in_field (first_fault (turns - 1)) kind levels at (at + (length s - length r)) f) (first_fault (turns - 1) kind levels (at + (length s - length r)) r)
by_front turns kind levels at s f r turned some e = ap (λ n. first_fault n kind levels at s) (one_less turns turned) ∙ in_turn (turns - 1) kind levels at s (Ok (f, r)) some e

first_is : (x y : Option Met) → is_some x ≡ true → first_met x y ≡ x
first_is (Some met) y h = refl
first_is None y h = cc

second_is : (x y : Option Met) → is_some x ≡ false → first_met x y ≡ y
second_is (Some met) y h = cc
second_is None y h = refl

pub met_here : (turns : ℕ) (kind : MessageKind) (levels at : ℕ) (s : List ℕ) (f : Field) (r : List ℕ) (x : Option Met) → 0 < turns → 0 < length s → next_field s ≡ Ok (f, r)
    → x ≡ in_field (first_fault (turns - 1)) kind levels at (at + (length s - length r)) f → is_some x ≡ true → x ≡ first_fault turns kind levels at s
met_here turns kind levels at s f r x turned some e same is =
    let later = first_fault (turns - 1) kind levels (at + (length s - length r)) r in
    sym (by_front turns kind levels at s f r turned some e ∙ ap (λ (m : Option Met). first_met m later) (sym same) ∙ first_is x later is)

pub met_behind : (turns : ℕ) (kind : MessageKind) (levels at : ℕ) (s : List ℕ) (f : Field) (r : List ℕ) (x : Option Met) → 0 < turns → 0 < length s → next_field s ≡ Ok (f, r)
    → x ≡ in_field (first_fault (turns - 1)) kind levels at (at + (length s - length r)) f → is_some x ≡ false
    → first_fault (turns - 1) kind levels (at + (length s - length r)) r ≡ first_fault turns kind levels at s
met_behind turns kind levels at s f r x turned some e same is =
    let later = first_fault (turns - 1) kind levels (at + (length s - length r)) r in
    sym (by_front turns kind levels at s f r turned some e ∙ ap (λ (m : Option Met). first_met m later) (sym same) ∙ second_is x later is)
