-- Lines that stand one behind the other.
-- For the law `entries_read_back`.
use Rattle.std.proofs.Common.{◌≡◌, ◌+◌, ◌∷◌, ◌++◌, [], ℕ, List, Ok, Result, ap, append_assoc, map, refl, ◌∙◌}
use Rattle.std.proofs.lemmas.List.Elements.{All-head, All-tail}
use Rattle.std.specs.List.{All, flat_map}
use Rattle.tsc_script.specs.Instructions.{Instruction, close}
use Rattle.tsc_script.specs.Lines.{lines_of}
use Rattle.tsc_script.specs.Script.{instructions_from, with_first}
use Rattle.script_line.specs.Entries.{Entry, EntriesReadBack, IsWritable, entry_line, lines_text, request, said_by, ticked}
use Rattle.script_line.specs.Line.{ReadsAs}
use Rattle.script_line.proofs.Back.{receive-reads, tick-reads}

reads : (entry : Entry) → IsWritable entry → ReadsAs (entry_line entry) (said_by entry)
reads (request connection moment body) h = receive-reads connection moment body h.0 h.1 h.2
reads (ticked moment) h = tick-reads moment h

from : (number : ℕ) (entries : List Entry) → All IsWritable entries → instructions_from number (lines_of (lines_text entries)) ≡ Ok (map said_by entries ++ close ∷ [])
from number [] h = refl
from number (entry ∷ entries) h =
    ap (λ (text : List ℕ). instructions_from number (lines_of text)) (append_assoc (entry_line entry) (10 ∷ []) (lines_text entries))
    ∙ (reads entry (All-head IsWritable entry entries h)).in_script number (lines_text entries)
    ∙ ap (with_first (said_by entry)) (from (number + 1) entries (All-tail IsWritable entry entries h))

pub read-back : EntriesReadBack
read-back entries h = from 1 entries h
