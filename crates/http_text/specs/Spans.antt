-- What `read_head` answers.
use Rattle.std.specs.Prelude.{◌≡◌, ℕ, List}
use Rattle.httparse.specs.declared.spans.HeaderSpan.{HeaderSpan}
use Rattle.httparse.specs.declared.spans.RequestSpans.{RequestSpans}
use Rattle.httparse.specs.Grammar.{RequestHead}
use Rattle.httparse.specs.Spans.{span_bytes, AreFieldsAt}
use Rattle.http_text.specs.Head.{IsHead}

-- the whole text is the head h, whose parts the spans cover
pub record IsHeadAt (text : List ℕ) (headers : List HeaderSpan) (r : RequestSpans) (h : RequestHead) : Type 0 where
  pub head : IsHead text h
  pub method : span_bytes text r.method ≡ h.method
  pub target : span_bytes text r.path ≡ h.target
  pub minor : r.version ≡ h.minor
  pub fields : AreFieldsAt text headers r.headers h.fields
