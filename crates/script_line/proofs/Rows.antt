-- Whole lines, computed.
use Rattle.std.proofs.Common.{◌≡◌, ◌∷◌, ◌++◌, [], codes, refl}
use Rattle.std.specs.Fmt.{digits}
use Rattle.script_line.specs.Line.{on_one_line, receive_line, tick_line}

-- a connection and a moment that differ, and a body over three lines, with both line breaks
three_lines : receive_line 7 1700000030000 (codes "{\"a\":\n " ++ (13 ∷ 10 ∷ codes "1}")) ≡ codes "recv 7 1700000030000 {\"a\":    1}"
unfolding digits
three_lines = refl

no_body : receive_line 0 12 [] ≡ codes "recv 0 12 "
unfolding digits
no_body = refl

-- what stands beside a line feed and a carriage return stays: a tab, a vertical tab, a form feed, shift-out
beside : on_one_line (9 ∷ 10 ∷ 11 ∷ 12 ∷ 13 ∷ 14 ∷ []) ≡ 9 ∷ 32 ∷ 11 ∷ 12 ∷ 32 ∷ 14 ∷ []
beside = refl

tick_of_500 : tick_line 500 ≡ codes "tick 500"
unfolding digits
tick_of_500 = refl
