-- What a fault is told as.
use Rattle.std.specs.Prelude.{ℕ, List, codes}
use Rattle.ottl_text.specs.declared.fault.FaultKind.{FaultKind}
use Rattle.ottl_text.specs.declared.fault.FaultKind.TheVariants as kinds

abbrev pub fault_text : FaultKind → List ℕ
fault_text kinds.UnknownCharacter = codes "no value, name or operator begins with this character"
fault_text kinds.OpenText = codes "the text that begins here has no closing quote"
fault_text kinds.UnknownEscape = codes "one of \" \\ a b f n r t v is wanted behind a backslash"
fault_text kinds.LineEnd = codes "a text goes on behind the end of its line; \\n writes one"
fault_text kinds.Utf8 = codes "the text isn't in UTF-8"
fault_text kinds.NumberTooBig = codes "no number of 64 bits is this one"
fault_text kinds.OddDigits = codes "an even number of hex digits is wanted behind 0x"
fault_text kinds.UnknownName = codes "no path, function or enumeration has this name"
fault_text kinds.NoValueHere = codes "a literal, a path, a function or a parenthesis is wanted"
fault_text kinds.NoOpening = codes "( is wanted"
fault_text kinds.NoClosing = codes ") is wanted"
fault_text kinds.NoComma = codes ", is wanted"
fault_text kinds.NoPattern = codes "a regular expression in quotes is wanted"
fault_text kinds.NoDelimiter = codes "a delimiter in quotes is wanted"
fault_text kinds.NoCase = codes "\"lower\" or \"upper\" is wanted; no other case is known here"
fault_text kinds.NoKey = codes "a key in quotes or a whole number is wanted"
fault_text kinds.NoOpeningBracket = codes "[ is wanted"
fault_text kinds.NoClosingBracket = codes "] is wanted"
fault_text kinds.TakesNoKeys = codes "what stands before this has no keys"
fault_text kinds.GoesOn = codes "the condition ends before this"
fault_text kinds.NotAValue = codes "a value is wanted, and a condition stands here"
fault_text kinds.NotACondition = codes "a condition is wanted, and a value stands here"
fault_text kinds.NotANumber = codes "a number is wanted"
fault_text kinds.TooDeep = codes "it nests more than 200 levels deep, has more than 200 operators or values in a row, or more than 400 of both within one another"
