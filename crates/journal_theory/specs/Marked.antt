-- Where a refusal of memory may stand in a journal: the marks that can apply to an item, and journals whose marks can
-- apply.
use Rattle.std.specs.Prelude.{◌≡◌, nat_lt, Bool, true, false, not, ◌&&◌, ◌||◌, [], ◌∷◌, Option, Some, None, option_and_then}
use Rattle.journal_theory.specs.Journal.{Settings, Journal, Entry, Opening, Notes, Finding, joins, meets, opens, notes, finding, leaving, decided_as, cache_size}
use Rattle.otlp_types.specs.declared.span.Ids.{Ids}
use Rattle.otlp_types.specs.declared.arrival.Item.{Item}
use Rattle.otlp_types.specs.declared.arrival.Item.TheVariants.{Span, Tick, End}
use Rattle.span_ids.specs.declared.outcome.Verdict.{Verdict}

-- a refusal is of an append or an opening
abbrev pub refusal_applies : Finding → Bool
refusal_applies (joins o) = true
refusal_applies (meets o v) = false
refusal_applies opens = true

-- a decided episode is put into a cache that isn't off
abbrev pub cache_is_on : Settings → Option Verdict → Bool
cache_is_on s None = false
cache_is_on s (Some v) = nat_lt 0 (cache_size s v)

-- a loss is of the put of a decided episode, evicted by an opening, whose cache isn't off
abbrev pub loss_applies : Settings → Notes → Finding → Bool
loss_applies s noted (joins o) = false
loss_applies s noted (meets o v) = false
loss_applies s noted opens = cache_is_on s (option_and_then (λ (o : Opening). decided_as noted o.at) (leaving s.num_traces noted.openings))

-- the marks are such as can apply to a span that finds this
abbrev pub marks_apply_to : Settings → Notes → (refused lost : Bool) → Finding → Bool
marks_apply_to s noted refused lost f = (not refused || refusal_applies f) && (not lost || (not refused && loss_applies s noted f))

-- the marks are such as can apply to a span with these ids
abbrev pub marks_apply_to_ids : Settings → (before : Journal) → (refused lost : Bool) → Option Ids → Bool
marks_apply_to_ids s before refused lost None = false
marks_apply_to_ids s before refused lost (Some ids) = marks_apply_to s (notes s before) refused lost (finding s (notes s before) ids.trace)

-- the marks are such as can apply to the item
abbrev pub marks_apply_to_item : Settings → (before : Journal) → (refused lost : Bool) → Item → Bool
marks_apply_to_item s before refused lost (Span a) = marks_apply_to_ids s before refused lost a.rec.span.ids
marks_apply_to_item s before refused lost (Tick m) = not refused && not lost
marks_apply_to_item s before refused lost (End sender) = not refused && not lost

-- memory is refused at most to an append or an opening, or to the put of a decision that an opening evicted
abbrev pub marks_apply : Settings → Entry → (before : Journal) → Bool
marks_apply s e before = marks_apply_to_item s before e.refused e.lost e.item

-- the marks of each entry can apply where it was taken
abbrev pub MarksApply : Settings → Journal → Type 0
MarksApply s [] = Unit {0}
MarksApply s (e ∷ before) = (marks_apply s e before ≡ true) × MarksApply s before
