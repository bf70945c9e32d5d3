-- The definitions, computed.
-- For `turn_of` (`turn_of`), `FilesPlace::open` (`opened_size`), `turn` (`seen_after`), `line_end_after` (`is_whole`), the invariant of `OutputFile` (`joined`, `leaves`), `shift_names`
-- (`shifted`, `moved`), `name_of` (`name_text`) and `tries_again` (`tries_again`).
use Rattle.std.proofs.Common.{◌≡◌, true, false, [], ◌∷◌, Some, None, refl, codes}
use Rattle.std.specs.Fmt.{digits}
use Rattle.output_file.specs.declared.turning.FileTurn.TheVariants.{Stays, Reopens, Shifts}
use Rattle.output_file.specs.Turning.{opened_size, seen_after, turn_of}
use Rattle.output_file.specs.Segments.{is_whole, line_end_after, leaves, joined}
use Rattle.output_file.specs.Names.{shifted, moved, name_text}
use Rattle.output_file.specs.Retrying.{tries_again}

-- ---- when it turns

inside_a_line : turn_of 4096 1024 false true ≡ Stays
inside_a_line = refl

still_short : turn_of 1023 1024 true false ≡ Stays
still_short = refl

long_enough : turn_of 1024 1024 true false ≡ Shifts
long_enough = refl

never_by_size : turn_of 1025 0 true false ≡ Stays
never_by_size = refl

asked_for : turn_of 7 1024 true true ≡ Reopens
asked_for = refl

asked_for_while_long : turn_of 2048 1024 true true ≡ Reopens
asked_for_while_long = refl

asked_for_without_a_size : turn_of 7 0 true true ≡ Reopens
asked_for_without_a_size = refl

-- 4,096 bytes that were there, and a line feed behind a line that was torn
sizes_that_were_there : opened_size 4096 false ∷ opened_size 4096 true ∷ opened_size 0 false ∷ opened_size 18446744073709551615 true ∷ [] ≡ 4096 ∷ 4097 ∷ 0 ∷ 18446744073709551615 ∷ []
sizes_that_were_there = refl

-- asked for the fifth time
asked_until_it_is_opened : seen_after 4 5 true ∷ seen_after 4 5 false ∷ [] ≡ 5 ∷ 4 ∷ []
asked_until_it_is_opened = refl

-- ---- whole lines: `a`, a line feed, `b`

nothing_is_whole : is_whole [] ≡ true
nothing_is_whole = refl

a_line : is_whole (97 ∷ 10 ∷ []) ≡ true
a_line = refl

a_part : is_whole (97 ∷ 10 ∷ 98 ∷ []) ≡ false
a_part = refl

a_carriage_return_ends_no_line : is_whole (97 ∷ 13 ∷ []) ≡ false
a_carriage_return_ends_no_line = refl

still_inside : line_end_after false [] ≡ false
still_inside = refl

still_at_the_end : line_end_after true [] ≡ true
still_at_the_end = refl

the_rest_of_a_line : line_end_after false (98 ∷ 10 ∷ []) ≡ true
the_rest_of_a_line = refl

-- ---- two files that were left, and the open one

two_left : leaves (Some ((97 ∷ 10 ∷ []) ∷ [])) (Some (98 ∷ 10 ∷ [])) ≡ Some ((97 ∷ 10 ∷ []) ∷ (98 ∷ 10 ∷ []) ∷ [])
two_left = refl

three_files : joined (Some ((97 ∷ 10 ∷ []) ∷ (98 ∷ 10 ∷ []) ∷ [])) (Some (99 ∷ [])) ≡ Some (97 ∷ 10 ∷ 98 ∷ 10 ∷ 99 ∷ [])
three_files = refl

-- ---- names: the path, and three behind it

one_file : shifted (Some 1 ∷ None ∷ None ∷ None ∷ []) ≡ None ∷ Some 1 ∷ None ∷ None ∷ []
one_file = refl

two_files : shifted (Some 2 ∷ Some 1 ∷ None ∷ None ∷ []) ≡ None ∷ Some 2 ∷ Some 1 ∷ None ∷ []
two_files = refl

oldest_is_lost : shifted (Some 4 ∷ Some 3 ∷ Some 2 ∷ Some 1 ∷ []) ≡ None ∷ Some 4 ∷ Some 3 ∷ Some 2 ∷ []
oldest_is_lost = refl

only_up_to_a_gap : shifted (Some 4 ∷ None ∷ Some 2 ∷ Some 1 ∷ []) ≡ None ∷ Some 4 ∷ Some 2 ∷ Some 1 ∷ []
only_up_to_a_gap = refl

no_file_at_the_path : shifted (None ∷ Some 3 ∷ Some 2 ∷ Some 1 ∷ []) ≡ None ∷ Some 3 ∷ Some 2 ∷ Some 1 ∷ []
no_file_at_the_path = refl

only_the_last_is_kept : shifted (Some 2 ∷ Some 1 ∷ []) ≡ None ∷ Some 2 ∷ []
only_the_last_is_kept = refl

second_moves : moved 1 (Some 4 ∷ Some 3 ∷ Some 2 ∷ Some 1 ∷ []) ≡ Some 4 ∷ None ∷ Some 3 ∷ Some 1 ∷ []
second_moves = refl

path_alone : name_text (codes "spans.jsonl") 0 ≡ codes "spans.jsonl"
path_alone = refl

last_left : name_text (codes "spans.jsonl") 1 ≡ codes "spans.jsonl.1"
unfolding digits
last_left = refl

twelfth : name_text (codes "spans.jsonl") 12 ≡ codes "spans.jsonl.12"
unfolding digits
twelfth = refl

-- ---- trying again

goes_on_running : tries_again None ≡ true
goes_on_running = refl

just_told_to_stop : tries_again (Some 0) ≡ true
just_told_to_stop = refl

at_the_limit : tries_again (Some 10000) ≡ true
at_the_limit = refl

behind_the_limit : tries_again (Some 10001) ≡ false
behind_the_limit = refl
