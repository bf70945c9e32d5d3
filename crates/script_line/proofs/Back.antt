-- The lines read back as what was put.
-- For the clauses `back` of `put_receive` and `put_tick`.
use Rattle.std.proofs.Common.{◌≡◌, ◌≢◌, ◌<◌, ◌≤◌, ◌^◌, ◌&&◌, ◌==◌, ◌+◌, ◌∷◌, ◌++◌, [], Bool, true, false, ℕ, List, Option, Some, ap, arith, append_assoc, codes, length, length-append, map, refl, rules, sym, ◌∙◌, cond}
use Rattle.std.proofs.lemmas.Bool.Decides.{nat_tests}
use Rattle.std.proofs.lemmas.Fmt.{decimal_is_IsNumeral, decimal_nonempty, digits_decimal, length-decimal-le}
use Rattle.std.proofs.lemmas.Str.Parse.{numerals_by_value, tells_all_ascii_digits}
use Rattle.std.specs.Char.{is_ascii_digit}
use Rattle.std.specs.List.{list_all}
use Rattle.std.specs.Prelude.{decimal, ◌||◌}
use Rattle.std.specs.Str.{all_ascii_digits}
use Rattle.tsc_script.specs.Instructions.{Instruction, instruction_of, receive, tick}
use Rattle.tsc_script.specs.LineLaws.{IsReceive, IsTick, Says}
use Rattle.tsc_script.specs.Lines.{HasNoLineFeed, lines_of}
use Rattle.tsc_script.specs.Script.{after_line, instructions_from, with_first}
use Rattle.tsc_script.proofs.Playing.{lines_of-ended}
use Rattle.tsc_script.proofs.Reading.{HasNoLineFeed-append}
use Rattle.tsc_script.proofs.Words.{their_words}
use Rattle.script_line.specs.Line.{ReadsAs, on_one_line, receive_line, tick_line}

-- ---- digits

both : (a b : Bool) → (a && b) ≡ true → (a ≡ true) × (b ≡ true)
both true b h = (refl, h)
both false b h = cc h

all-digits : (text : List ℕ) → all_ascii_digits text ≡ true → list_all is_ascii_digit text ≡ true
all-digits [] h = refl
all-digits (x ∷ xs) h = let parts = both (is_ascii_digit x) (all_ascii_digits xs) h in rw (parts.0, all-digits xs parts.1) refl

no-feed : (byte : ℕ) → is_ascii_digit byte ≡ true → byte ≢ 10
no-feed byte h = λ is. grind (arith, nat_tests)

digits-alone : (text : List ℕ) → list_all is_ascii_digit text ≡ true → HasNoLineFeed text
digits-alone [] h = tt
digits-alone (x ∷ xs) h = let parts = both (is_ascii_digit x) (list_all is_ascii_digit xs) h in (no-feed x parts.0, digits-alone xs parts.1)

-- a number's digits say it
says-number : (n : ℕ) → n < 2 ^ 64 → Says (decimal n) n
says-number n fits = record {
  some = decimal_nonempty n fits;
  few = length-decimal-le 20 n (omega arith) (omega arith) fits;
  digits = all-digits (decimal n) (digits_decimal (numerals_by_value _ tells_all_ascii_digits) n fits);
  value = (decimal_is_IsNumeral n fits).1;
  fits = fits;
}

number-alone : (n : ℕ) → n < 2 ^ 64 → HasNoLineFeed (decimal n)
number-alone n fits = digits-alone (decimal n) (says-number n fits).digits

-- ---- a body on one line

byte-alone : (byte : ℕ) → (if_ten : Bool) → (byte == 10) ≡ if_ten → (if_return : Bool) → (byte == 13) ≡ if_return → cond (byte == 10 || byte == 13) 32 byte ≢ 10
byte-alone byte true e if_return f = rw e (λ is. cc is)
byte-alone byte false e true f = rw (e, f) (λ is. cc is)
byte-alone byte false e false f = rw (e, f) (λ is. grind (arith, nat_tests))

one-line-alone : (body : List ℕ) → HasNoLineFeed (on_one_line body)
one-line-alone [] = tt
one-line-alone (byte ∷ body) = (byte-alone byte (byte == 10) refl (byte == 13) refl, one-line-alone body)

-- ---- lines

-- a line that says an instruction and goes on reads as it wherever it stands in a script
in-script : (line : List ℕ) (instruction : Instruction) → HasNoLineFeed line → instruction_of line ≡ Some instruction
    → ((number : ℕ) (more : List ℕ) → after_line number (Some instruction) (lines_of more) (instructions_from (number + 1) (lines_of more)) ≡ with_first instruction (instructions_from (number + 1) (lines_of more)))
    → ReadsAs line instruction
in-script line instruction alone says goes_on = record {
  says = says;
  alone = alone;
  in_script = λ number more.
      ap (instructions_from number) (lines_of-ended line more alone)
      ∙ ap (λ (o : Option Instruction). after_line number o (lines_of more) (instructions_from (number + 1) (lines_of more))) says
      ∙ goes_on number more;
}

pub receive-reads : (connection moment : ℕ) (body : List ℕ) → connection < 2 ^ 64 → moment < 2 ^ 64 → length (receive_line connection moment body) ≤ 4194368
    → ReadsAs (receive_line connection moment body) (receive connection moment (on_one_line body))
receive-reads connection moment body c m short =
    in-script (receive_line connection moment body) (receive connection moment (on_one_line body))
    (HasNoLineFeed-append (codes "recv ") _ (λ is. cc is, (λ is. cc is, (λ is. cc is, (λ is. cc is, (λ is. cc is, tt)))))
    (HasNoLineFeed-append (decimal connection) _ (number-alone connection c)
    (λ is. cc is, HasNoLineFeed-append (decimal moment) _ (number-alone moment m) (λ is. cc is, one-line-alone body))))
    ((their_words.receives (receive_line connection moment body) (on_one_line body) connection moment short).1
    (decimal connection, decimal moment, says-number connection c, says-number moment m, refl))
    (λ number more. refl)

-- a tick's line is short
tick-short : (moment : ℕ) → moment < 2 ^ 64 → length (tick_line moment) ≤ 4194368
tick-short moment m = omega (arith, length-append (codes "tick ") (decimal moment), length-decimal-le 20 moment (omega arith) (omega arith) m)

pub tick-reads : (moment : ℕ) → moment < 2 ^ 64 → ReadsAs (tick_line moment) (tick moment)
tick-reads moment m =
    in-script (tick_line moment) (tick moment)
    (HasNoLineFeed-append (codes "tick ") _ (λ is. cc is, (λ is. cc is, (λ is. cc is, (λ is. cc is, (λ is. cc is, tt))))) (number-alone moment m))
    ((their_words.ticks (tick_line moment) moment (tick-short moment m)).1 (decimal moment, says-number moment m, refl))
    (λ number more. refl)
