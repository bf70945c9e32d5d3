-- The first fault that is met in a body: as it is read, field by field, each whole before the next.
use Rattle.std.specs.Prelude.{ℕ, zero, suc, ◌+◌, ◌-◌, List, [], ◌∷◌, length, Option, Some, None, Result, Ok, Err, if◌then◌else◌}
use Rattle.std.specs.Str.{is_utf8}
use Rattle.protobuf_wire.specs.declared.fault.WireFault.{WireFault}
use Rattle.protobuf_wire.specs.Wire.{Field, Value, bytes, next_field}
use Rattle.otlp_protobuf.specs.declared.protobuf_fault.ProtobufFault.TheVariants as faults
use Rattle.otlp_protobuf.specs.Values.{most_levels}
use Rattle.request_show.specs.Messages.{inside, is_text}
use Rattle.request_show.specs.declared.messages.MessageKind.{MessageKind}
use Rattle.request_show.specs.declared.messages.MessageKind.TheVariants.{Request, AnyValue}
use Rattle.request_show.specs.declared.walk.Met.{Met}

-- the first of two, where it is there
abbrev pub first_met : Option Met → Option Met → Option Met
first_met None second = second
first_met (Some met) second = Some met

-- a text is wanted
abbrev pub in_text : (at : ℕ) → List ℕ → Option Met
in_text at held = if is_utf8 held then None else Some (record { at = at; fault = faults.Utf8 })

-- `inner` tells the first fault of a message of a kind, in which values may nest so deep, behind so many bytes of the
-- body
module _ (inner : MessageKind → (levels at : ℕ) → List ℕ → Option Met) where
  -- of a message inside, which begins at `start`, in a field that begins at `at`: a value takes a level
  abbrev pub in_message : MessageKind → (levels at start : ℕ) → List ℕ → Option Met
  in_message AnyValue zero at start held = Some (record { at = at; fault = faults.TooDeep })
  in_message AnyValue (suc levels) at start held = inner AnyValue levels start held
  in_message kind levels at start held = inner kind levels start held

  abbrev pub in_some_message : Option MessageKind → (levels at start : ℕ) → List ℕ → Option Met
  in_some_message None levels at start held = None
  in_some_message (Some kind) levels at start held = in_message kind levels at start held

  -- of a value of a field, which begins at `at` and ends before `behind`; what it holds ends there too
  abbrev pub in_value : MessageKind → (levels at behind number : ℕ) → Value → Option Met
  in_value kind levels at behind number (bytes held) =
      if is_text kind number then in_text at held else in_some_message (inside kind number) levels at (behind - length held) held
  in_value kind levels at behind number _ = None

  abbrev pub in_field : MessageKind → (levels at behind : ℕ) → Field → Option Met
  in_field kind levels at behind f = in_value kind levels at behind f.number f.value

  -- of what stands at the front of some bytes, and of those behind it
  abbrev pub in_front : MessageKind → (levels at : ℕ) → (whole : List ℕ) → Result (Field × List ℕ) WireFault → Option Met
  in_front kind levels at whole (Err e) = Some (record { at = at; fault = faults.Wire e })
  in_front kind levels at whole (Ok f) =
      first_met (in_field kind levels at (at + (length whole - length f.1)) f.0) (inner kind levels (at + (length whole - length f.1)) f.1)

-- of the bytes of a message, with at most so many fields one after another and inside one another
unfoldable pub first_fault : (turns : ℕ) → MessageKind → (levels at : ℕ) → List ℕ → Option Met
first_fault turns kind levels at [] = None
first_fault zero kind levels at (b ∷ s) = None
first_fault (suc turns) kind levels at (b ∷ s) = in_front (first_fault turns) kind levels at (b ∷ s) (next_field (b ∷ s))

-- of a body
abbrev pub fault_in : List ℕ → Option Met
fault_in body = first_fault (length body) Request most_levels 0 body
