use Rattle.std.proofs.Common.{sym, ◌∙◌}
use Rattle.otlp_stream.proofs.Takes.{held_double_number, held_double_string}
use Rattle.otlp_stream.proofs.take.double.Goals as goal

pub returns-in-Some : goal.returns-in-Some
returns-in-Some c depth =
    held_double_number depth _ _ _ _ (rw c.in-Some-Number.field-0-is at c.in-Some-Number.ensures.value) (sym c.double_of_number.ensures ∙ c.in-Some.is)

pub returns-in-Some-double_of_text : goal.returns-in-Some-double_of_text
returns-in-Some-double_of_text c depth =
    held_double_string depth _ _ _ _ (rw c.in-Some-String.field-0-is at c.in-Some-String.ensures.value) (sym c.double_of_text.ensures ∙ c.in-Some-double_of_text.is)
