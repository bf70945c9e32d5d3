-- Worked rows of durations, by computation.
-- No contract rests on it: it shows the definitions on worked cases.
use Rattle.std.specs.Prelude.{◌≡◌, pos, negsuc, [], ◌∷◌, map, codes, Some, None, refl}
use Rattle.ottl_lengths.specs.Lengths.{digits_len}
use Rattle.ottl_duration.specs.Durations.{unit_len, with_unit, fraction_at, part_at, parts_from, unsigned_of, duration_of}

-- each unit, each sign, fractions, several in a row
pub durations : map duration_of (codes "500ms" ∷ codes "1h30m" ∷ codes "-1.5s" ∷ codes "+2m" ∷ codes "0" ∷ codes "-0" ∷ codes ".5us" ∷ codes "3ns" ∷ codes "1.0000000005s" ∷ codes "1s1s" ∷ (49 ∷ 194 ∷ 181 ∷ 115 ∷ []) ∷ []) ≡
    Some (pos 500000000) ∷ Some (pos 5400000000000) ∷ Some (negsuc 1499999999) ∷ Some (pos 120000000000) ∷ Some (pos 0) ∷ Some (pos 0) ∷ Some (pos 500) ∷ Some (pos 3) ∷ Some (pos 1000000000) ∷ Some (pos 2000000000) ∷ Some (pos 1000) ∷ []
unfolding digits_len unit_len with_unit fraction_at part_at parts_from unsigned_of duration_of
durations = refl

-- no unit, no number, blanks, a sign inside, too long
pub none : map duration_of (codes "5" ∷ codes "ms" ∷ codes ".s" ∷ codes "" ∷ codes "1 s" ∷ codes "1s-1s" ∷ codes "1d" ∷ codes "2562048h" ∷ codes "99999999999999999999s" ∷ codes "1.s.5" ∷ []) ≡
    None ∷ None ∷ None ∷ None ∷ None ∷ None ∷ None ∷ None ∷ None ∷ None ∷ []
unfolding digits_len unit_len with_unit fraction_at part_at parts_from unsigned_of duration_of
none = refl

-- a point may end a number; the longest hours
pub ends : map duration_of (codes "1.s" ∷ codes "2562047h" ∷ []) ≡ Some (pos 1000000000) ∷ Some (pos 9223369200000000000) ∷ []
unfolding digits_len unit_len with_unit fraction_at part_at parts_from unsigned_of duration_of
ends = refl

-- what is below a nanosecond is cut off once, in all
pub tenths : map duration_of (codes "0.999999999999999h" ∷ codes "0.123456789123h" ∷ codes "0.00000000009m" ∷ codes "0.9ns" ∷ codes "1.5h" ∷ []) ≡
    Some (pos 3599999999999) ∷ Some (pos 444444440842) ∷ Some (pos 5) ∷ Some (pos 0) ∷ Some (pos 5400000000000) ∷ []
unfolding digits_len unit_len with_unit fraction_at part_at parts_from unsigned_of duration_of
tenths = refl
