-- Rows of the definitions, by computation.
use Rattle.std.specs.Prelude.{◌≡◌, ℕ, List, [], ◌∷◌, true, false, Some, None, refl}
use Rattle.protobuf_wire.specs.Wire.{base128, number, little_endian, value_of, field_of, next_field}
use Rattle.otlp_protobuf.specs.Kinds.{merged_in}
use Rattle.post_socket.specs.Rejected.{rejected_in}
use Rattle.post_socket.specs.Connecting.{found_at, limits_of, may_be_used}
use Rattle.post_socket.specs.Closing.{attempt_limit, closing_since, milliseconds_asked, next_sleep, time_left}

-- all were taken
nothing_said : rejected_in [] ≡ 0
unfolding base128 number little_endian value_of field_of next_field merged_in
nothing_said = refl

-- `partial_success` of `rejected_spans` 5
five : rejected_in (10 ∷ 2 ∷ 8 ∷ 5 ∷ []) ≡ 5
unfolding base128 number little_endian value_of field_of next_field merged_in
five = refl

-- the last number stands
the_last_one : rejected_in (10 ∷ 4 ∷ 8 ∷ 5 ∷ 8 ∷ 7 ∷ []) ≡ 7
unfolding base128 number little_endian value_of field_of next_field merged_in
the_last_one = refl

-- a second part without a number leaves that of the first
in_two_parts : rejected_in (10 ∷ 2 ∷ 8 ∷ 5 ∷ 10 ∷ 0 ∷ []) ≡ 5
unfolding base128 number little_endian value_of field_of next_field merged_in
in_two_parts = refl

-- a message that is cut, and one below zero, tell none
cut_behind_five : rejected_in (10 ∷ 2 ∷ 8 ∷ 5 ∷ 11 ∷ []) ≡ 0
unfolding base128 number little_endian value_of field_of next_field merged_in
cut_behind_five = refl

below_zero : rejected_in (10 ∷ 11 ∷ 8 ∷ 255 ∷ 255 ∷ 255 ∷ 255 ∷ 255 ∷ 255 ∷ 255 ∷ 255 ∷ 255 ∷ 1 ∷ []) ≡ 0
unfolding base128 number little_endian value_of field_of next_field merged_in
below_zero = refl

-- the collector was seen to close at 5, at 7 it still does; of 100 milliseconds from 5 on 70 are left at 35; none at 200
closing : closing_since None true 5 ∷ closing_since (Some 5) true 7 ∷ closing_since None false 7 ∷ [] ≡ Some 5 ∷ Some 5 ∷ None ∷ []
closing = refl

left : time_left (Some 5) 100 35 ∷ time_left (Some 5) 100 200 ∷ time_left None 100 200 ∷ [] ≡ Some 70 ∷ Some 0 ∷ None ∷ []
left = refl

limits : attempt_limit (Some 70) 30 ∷ attempt_limit (Some 20) 30 ∷ attempt_limit (Some 0) 30 ∷ attempt_limit None 30 ∷ [] ≡ 30 ∷ 20 ∷ 1 ∷ 30 ∷ []
limits = refl

-- a wait of 120 milliseconds, slice by slice; one that the close ends
sleeps : next_sleep 120 0 None ∷ next_sleep 120 100 None ∷ next_sleep 120 120 None ∷ next_sleep 120 0 (Some 0) ∷ next_sleep 120 0 (Some 9) ∷ [] ≡ Some 50 ∷ Some 20 ∷ None ∷ None ∷ Some 50 ∷ []
sleeps = refl

asked : milliseconds_asked (Some 3) ∷ milliseconds_asked None ∷ [] ≡ Some 3000 ∷ None ∷ []
asked = refl

-- the end of a connection, three bytes that nobody asked for, nothing, and a fault
used_again : may_be_used (found_at (Some 0) false) ∷ may_be_used (found_at (Some 3) false) ∷ may_be_used (found_at None true) ∷ may_be_used (found_at None false) ∷ [] ≡ false ∷ false ∷ true ∷ false ∷ []
used_again = refl

write_limit : (limits_of 5000).write ≡ Some 5000
write_limit = refl

read_limit : (limits_of 5000).read ≡ Some 5000
read_limit = refl
