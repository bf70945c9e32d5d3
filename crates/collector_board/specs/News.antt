-- What is told of a write of the output, and of a batch that ended.
use Rattle.std.specs.Prelude.{ℕ, Bool, true, false, if◌then◌else◌, List, length, take, Option, Some, None}
use Rattle.batch_post.specs.declared.outcome.BatchFate.{BatchFate}
use Rattle.batch_post.specs.declared.outcome.BatchFate.TheVariants.{Delivered, GivenUp}
use Rattle.output_file.specs.Segments.{line_end_after}
use Rattle.collector_board.specs.declared.write_news.WriteNews.{WriteNews}
use Rattle.collector_board.specs.declared.write_news.WriteNews.TheVariants.{Nothing, Took, Fails}

-- how many lines end with these bytes
abbrev pub lines_in : List ℕ → ℕ
lines_in taken = if line_end_after false taken then 1 else 0

-- of a write of which so many bytes were taken: these, and the line that ends there, where lines aren't sent, too; of one
-- that failed: that, and whether the collector stops
abbrev pub news_of : (taken : Option ℕ) → (bytes : List ℕ) → (are_sent stops : Bool) → WriteNews
news_of None bytes are_sent stops = Fails stops
news_of (Some count) bytes true stops = Nothing
news_of (Some count) bytes false stops = Took (length (take count bytes)) (lines_in (take count bytes))

-- what a backend took of a batch of so many bytes
abbrev pub delivered_of : (bytes : ℕ) → BatchFate → Option ℕ
delivered_of bytes Delivered = Some bytes
delivered_of bytes GivenUp = None
