-- What is told of: the news of traces.
use Rattle.std.specs.Prelude.{ℕ, List, Bool, Option, bytes_eq}
use Rattle.std.specs.List.{find}
use Rattle.decision_json.specs.declared.news.TraceNews.{TraceNews}
use Rattle.decision_json.specs.declared.news.TraceNews.TheVariants.{Decided, Evicted}

-- the id of the trace
abbrev pub id_of_news : TraceNews → List ℕ
id_of_news (Decided trace said asked) = trace.trace
id_of_news (Evicted trace) = trace.trace

-- of the trace whose id has these bytes
abbrev pub is_of : (id : List ℕ) → TraceNews → Bool
is_of id news = bytes_eq (id_of_news news) id

-- what became of a trace at last, of what was told, the newest first
abbrev pub newest_of : (id : List ℕ) → List TraceNews → Option TraceNews
newest_of id news = find (λ one. is_of id one) news
