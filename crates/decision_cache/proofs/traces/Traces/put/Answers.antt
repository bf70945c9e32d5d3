use Rattle.std.proofs.Common.{◌≡◌, ◌<◌, false, Some, sym, ap, subst, ◌∙◌}
use Rattle.decision_cache.specs.Lists.{PutAs, TraceList, traces_of, is_held}
use Rattle.decision_cache.specs.declared.traces.Remembered.{Remembered}
use Rattle.lru.specs.LruCache.{LruCache}
use Rattle.span_ids.specs.declared.ids.TraceId.{TraceId}
use Rattle.decision_cache.proofs.Entries.{keys-put, keys}
use Rattle.decision_cache.proofs.traces.Traces.put.Goals as goal
use Rattle.decision_cache.proofs.traces.Traces.put.Goals.{in-Ok, in-Err}

pub returns : goal.returns
returns c =
    let cache = c.in-Some.cache in
    let now : traces_of (Some cache) ≡ c.args.self.now = sym (ap traces_of c.in-Some.is) ∙ c.self.view_is in
    let new : is_held c.args.trace (keys cache.entries) ≡ false = ap (λ (l : TraceList). is_held c.args.trace l.traces) now ∙ c.requires in
    let room : 0 < cache.cap = c.len-room.ensures.valid.2 in
    let P = λ (l : TraceList) (k : Remembered). PutAs c.args.trace l k (traces_of (Some c.put.new.self)) in
    elim c.match-put.branch [
      | in-Ok w ↦ let Q = λ (l : TraceList). P l c.match-put.result in
          let R = λ (k : Remembered). P (traces_of (Some cache)) k in
          subst Q now (subst R (sym w.result-is) (room, ap (λ (x : LruCache TraceId (Unit {0})). traces_of (Some x)) w.in-Ok.ensures.entries ∙ ap (λ ts. record { traces = ts; size = cache.cap }) (keys-put cache c.args.trace tt new)))
      | in-Err w ↦ let Q = λ (l : TraceList). P l c.match-put.result in
          let R = λ (k : Remembered). P (traces_of (Some cache)) k in
          subst Q now (subst R (sym w.result-is) (room, ap (λ (x : LruCache TraceId (Unit {0})). traces_of (Some x)) w.in-Err.ensures.err))
    ]
