-- Worked rows of a script's bounds and of what its reads gave, by computation.
-- No contract rests on it: it shows the definitions on worked cases.
use Rattle.std.specs.Prelude.{◌≡◌, [], ◌∷◌, refl, codes}
use Rattle.tsc_script.specs.declared.limits.TheConstants.{MAX_LINE_BYTES, MAX_READS}
use Rattle.tsc_script.specs.declared.buffer.TheConstants.{CHUNK}
use Rattle.tsc_script.specs.declared.reads.ScriptRead.TheVariants.{Gave, Failed}
use Rattle.tsc_script.specs.Reads.{gave, interrupted, failed, ended, turn_of, bytes_given}
use Rattle.tsc_script.specs.Causes.{line_feeds}

-- a line has at most this many bytes
pub line_bytes : MAX_LINE_BYTES ≡ 4194368
line_bytes = refl

-- a script takes at most this many reads, 2^32
pub reads : MAX_READS ≡ 4294967296
reads = refl

-- and a read asks for this many bytes
pub read_bytes : CHUNK ≡ 65536
read_bytes = refl

-- what a read gave of a chunk
pub gave_two : turn_of (Gave 2) (codes "tick") ≡ gave (codes "ti")
gave_two = refl

pub gave_none : turn_of Failed (codes "tick") ≡ failed
gave_none = refl

-- the bytes of five reads
pub five_reads : bytes_given (gave (codes "ti") ∷ interrupted ∷ gave (codes "ck 5\n") ∷ gave (codes "clo") ∷ ended ∷ []) ≡ codes "tick 5\nclo"
five_reads = refl

-- the line feeds before a third line
pub two_lines : line_feeds (codes "tick 5\n\nclo") ≡ 2
two_lines = refl
