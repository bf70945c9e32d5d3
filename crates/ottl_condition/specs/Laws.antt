-- What holds of all conditions, on each span and each event.
use Rattle.std.specs.Prelude.{◌≡◌, Bool, true, false, not, Ok, Err}
use Rattle.ottl_text.specs.declared.expression.Unary.TheVariants.{Not}
use Rattle.ottl_text.specs.declared.expression.Binary.TheVariants.{And, Or}
use Rattle.ottl_text.specs.Syntax.{Term, unary, binary}
use Rattle.ottl_condition.specs.Subjects.{Subject}
use Rattle.ottl_condition.specs.Values.{Answer}
use Rattle.ottl_condition.specs.Meaning.{meaning}

-- the first decides where it is an error or false, or where it is an error or true; else the second
abbrev pub and_of : Answer Bool → Answer Bool → Answer Bool
and_of (Err e) q = Err e
and_of (Ok true) q = q
and_of (Ok false) q = Ok false

abbrev pub or_of : Answer Bool → Answer Bool → Answer Bool
or_of (Err e) q = Err e
or_of (Ok true) q = Ok true
or_of (Ok false) q = q

abbrev pub not_of : Answer Bool → Answer Bool
not_of (Err e) = Err e
not_of (Ok b) = Ok (not b)

abbrev pub AndIsOfBoth : Type 0
AndIsOfBoth = (x y : Term) (s : Subject) → meaning (binary And x y) s ≡ and_of (meaning x s) (meaning y s)

abbrev pub OrIsOfBoth : Type 0
OrIsOfBoth = (x y : Term) (s : Subject) → meaning (binary Or x y) s ≡ or_of (meaning x s) (meaning y s)

abbrev pub NotIsOfOne : Type 0
NotIsOfOne = (t : Term) (s : Subject) → meaning (unary Not t) s ≡ not_of (meaning t s)

-- twice `not` says what the condition says, errors too
abbrev pub NotTwiceIsNothing : Type 0
NotTwiceIsNothing = (t : Term) (s : Subject) → meaning (unary Not (unary Not t)) s ≡ meaning t s

-- De Morgan's laws, with errors too
abbrev pub NotAndIsOrOfNots : Type 0
NotAndIsOrOfNots = (x y : Term) (s : Subject) → meaning (unary Not (binary And x y)) s ≡ meaning (binary Or (unary Not x) (unary Not y)) s

abbrev pub NotOrIsAndOfNots : Type 0
NotOrIsAndOfNots = (x y : Term) (s : Subject) → meaning (unary Not (binary Or x y)) s ≡ meaning (binary And (unary Not x) (unary Not y)) s
