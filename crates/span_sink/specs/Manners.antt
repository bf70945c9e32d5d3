-- What a destination of lines may do beside taking a line and going down.
use Rattle.std.specs.Prelude.{Bool, true, false}

pub data Manner : Type 0 where
  -- it takes each line while it is up
  takes_all : Manner
  -- it may refuse a line, of which it took nothing then, and take the next one
  may_refuse : Manner
  -- it may refuse a line, which it has printed then, and take the next one
  prints_refused : Manner

-- it may refuse a line
abbrev pub refuses : Manner → Bool
refuses takes_all = false
refuses may_refuse = true
refuses prints_refused = true

-- it has printed a line that it refuses
abbrev pub prints : Manner → Bool
prints takes_all = false
prints may_refuse = false
prints prints_refused = true
