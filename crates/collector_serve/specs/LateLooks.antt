-- What a look at a client who connected as the collector closes comes to.
use Rattle.std.specs.Prelude.{ℕ, Bool, true, false, not, ◌&&◌, ◌||◌, nat_le, nat_lt}
use Rattle.collector_serve.specs.declared.late_looks.Came.{Came}
use Rattle.collector_serve.specs.declared.late_looks.Came.TheVariants.{Nothing, Bytes, End}
use Rattle.collector_serve.specs.declared.late_looks.LateLook.{LateLook}

-- bytes came, or the client's end
abbrev pub has_come : Came → Bool
has_come Nothing = false
has_come Bytes = true
has_come End = true

abbrev pub has_ended : Came → Bool
has_ended Nothing = false
has_ended Bytes = false
has_ended End = true

-- it is answered once: where something came, or at the tenth look; and looked at until it ends its side, fifty times
abbrev pub late_look : (looks : ℕ) → Came → (is_answered : Bool) → LateLook
late_look looks came is_answered = record {
  answers = not is_answered && (has_come came || nat_le 10 looks);
  goes_on = not (has_ended came) && nat_lt looks 50;
}
