-- The verdict by which answers policies gave, and what is made of them. For the clauses of `evaluate`, `answer`,
-- `verdict_and_askings` and `answer_given`, and the contract of `earliest_start`.
use Rattle.std.proofs.Common.{◌≡◌, ℕ, suc, ◌+◌, ◌<◌, min, Bool, true, false, ◌||◌, not, cond, List, [], ◌∷◌, length, drop, get_or, Option, Some, None, refl, sym, ap, ◌∙◌, arith, drop-cons, add-one}
use Rattle.std.specs.List.{list_all, list_any, position_from}
use Rattle.std.specs.Option.{option_or}
use Rattle.policy_tree.specs.declared.policy.Join.{Join}
use Rattle.policy_tree.specs.declared.policy.Join.TheVariants.{And, Not, Drop, FirstMatch, Share}
use Rattle.policy_eval.specs.Policies as spec
use Rattle.policy_eval.specs.Meaning.{answer_of, is_for, is_end, none_seen, seen_with, each_is_for, some_is_for, joined_seen, verdict_of_seen, none_first, first_with, decider_of_seen}
use Rattle.policy_eval.specs.declared.answer.AnswersSeen.{AnswersSeen}
use Rattle.policy_eval.specs.declared.decider.Firsts.{Firsts}
use Rattle.otlp_types.specs.declared.arrival.Arrival.{Arrival}

-- which answers were seen, and what the others will answer
pub record Tells (s : AnswersSeen) (rest all : List spec.Answer) : Type 0 where
  pub sample : spec.has_answer spec.sample all ≡ (s.sample || spec.has_answer spec.sample rest)
  pub not_sample : spec.has_answer spec.not_sample all ≡ (s.not_sample || spec.has_answer spec.not_sample rest)
  pub inverted_sample : spec.has_answer spec.inverted_sample all ≡ (s.inverted_sample || spec.has_answer spec.inverted_sample rest)
  pub inverted_not_sample : spec.has_answer spec.inverted_not_sample all ≡ (s.inverted_not_sample || spec.has_answer spec.inverted_not_sample rest)
  pub dropped : spec.has_answer spec.dropped all ≡ (s.dropped || spec.has_answer spec.dropped rest)

or-yes : (b c : Bool) → (b || (true || c)) ≡ (true || c)
or-yes true c = refl
or-yes false c = refl

or-end : (b : Bool) → (b || false) ≡ b
or-end true = refl
or-end false = refl

pub tells-more : (s : AnswersSeen) (a : spec.Answer) (rest all : List spec.Answer) → Tells s (a ∷ rest) all → Tells (seen_with (answer_of a) s) rest all
tells-more s spec.sample rest all t = record { sample = t.sample ∙ or-yes s.sample (spec.has_answer spec.sample rest); not_sample = t.not_sample; inverted_sample = t.inverted_sample; inverted_not_sample = t.inverted_not_sample; dropped = t.dropped }
tells-more s spec.not_sample rest all t = record { sample = t.sample; not_sample = t.not_sample ∙ or-yes s.not_sample (spec.has_answer spec.not_sample rest); inverted_sample = t.inverted_sample; inverted_not_sample = t.inverted_not_sample; dropped = t.dropped }
tells-more s spec.inverted_sample rest all t = record { sample = t.sample; not_sample = t.not_sample; inverted_sample = t.inverted_sample ∙ or-yes s.inverted_sample (spec.has_answer spec.inverted_sample rest); inverted_not_sample = t.inverted_not_sample; dropped = t.dropped }
tells-more s spec.inverted_not_sample rest all t = record { sample = t.sample; not_sample = t.not_sample; inverted_sample = t.inverted_sample; inverted_not_sample = t.inverted_not_sample ∙ or-yes s.inverted_not_sample (spec.has_answer spec.inverted_not_sample rest); dropped = t.dropped }
tells-more s spec.dropped rest all t = record { sample = t.sample; not_sample = t.not_sample; inverted_sample = t.inverted_sample; inverted_not_sample = t.inverted_not_sample; dropped = t.dropped ∙ or-yes s.dropped (spec.has_answer spec.dropped rest) }

pub tells-all : (s : AnswersSeen) (all : List spec.Answer) → Tells s [] all → verdict_of_seen s ≡ spec.verdict_of_answers all
tells-all s all t = rw (t.sample ∙ or-end s.sample, t.not_sample ∙ or-end s.not_sample, t.inverted_sample ∙ or-end s.inverted_sample, t.inverted_not_sample ∙ or-end s.inverted_not_sample, t.dropped ∙ or-end s.dropped)

-- before the first answer
pub tells-none : (all : List spec.Answer) → Tells none_seen all all
tells-none all = record { sample = refl; not_sample = refl; inverted_sample = refl; inverted_not_sample = refl; dropped = refl }

-- where answers were given first, and where the others will be, of which the first has place n
pub record Places (f : Firsts) (n : ℕ) (rest all : List spec.Answer) : Type 0 where
  pub sample : spec.first_place spec.sample all ≡ option_or f.sample (position_from (spec.is_same_answer spec.sample) n rest)
  pub inverted_sample : spec.first_place spec.inverted_sample all ≡ option_or f.inverted_sample (position_from (spec.is_same_answer spec.inverted_sample) n rest)
  pub inverted_not_sample : spec.first_place spec.inverted_not_sample all ≡ option_or f.inverted_not_sample (position_from (spec.is_same_answer spec.inverted_not_sample) n rest)
  pub dropped : spec.first_place spec.dropped all ≡ option_or f.dropped (position_from (spec.is_same_answer spec.dropped) n rest)

or-here : (o : Option ℕ) (n : ℕ) (later : Option ℕ) → option_or o (Some n) ≡ option_or (option_or o (Some n)) later
or-here None n later = refl
or-here (Some m) n later = refl

or-nowhere : (o : Option ℕ) → option_or o None ≡ o
or-nowhere None = refl
or-nowhere (Some m) = refl

pub places-more : (f : Firsts) (n : ℕ) (a : spec.Answer) (rest all : List spec.Answer) → Places f n (a ∷ rest) all → Places (first_with (answer_of a) n f) (n + 1) rest all
places-more f n spec.sample rest all t = record { sample = t.sample ∙ or-here f.sample n (position_from (spec.is_same_answer spec.sample) (n + 1) rest); inverted_sample = t.inverted_sample; inverted_not_sample = t.inverted_not_sample; dropped = t.dropped }
places-more f n spec.not_sample rest all t = record { sample = t.sample; inverted_sample = t.inverted_sample; inverted_not_sample = t.inverted_not_sample; dropped = t.dropped }
places-more f n spec.inverted_sample rest all t = record { sample = t.sample; inverted_sample = t.inverted_sample ∙ or-here f.inverted_sample n (position_from (spec.is_same_answer spec.inverted_sample) (n + 1) rest); inverted_not_sample = t.inverted_not_sample; dropped = t.dropped }
places-more f n spec.inverted_not_sample rest all t = record { sample = t.sample; inverted_sample = t.inverted_sample; inverted_not_sample = t.inverted_not_sample ∙ or-here f.inverted_not_sample n (position_from (spec.is_same_answer spec.inverted_not_sample) (n + 1) rest); dropped = t.dropped }
places-more f n spec.dropped rest all t = record { sample = t.sample; inverted_sample = t.inverted_sample; inverted_not_sample = t.inverted_not_sample; dropped = t.dropped ∙ or-here f.dropped n (position_from (spec.is_same_answer spec.dropped) (n + 1) rest) }

-- before the first answer
pub places-none : (all : List spec.Answer) → Places none_first 0 all all
places-none all = record { sample = refl; inverted_sample = refl; inverted_not_sample = refl; dropped = refl }

pub places-all : (s : AnswersSeen) (f : Firsts) (n : ℕ) (all : List spec.Answer) → Tells s [] all → Places f n [] all → decider_of_seen s f ≡ spec.decider_of_answers all
places-all s f n all t p = rw (t.sample ∙ or-end s.sample, t.not_sample ∙ or-end s.not_sample, t.inverted_sample ∙ or-end s.inverted_sample, t.inverted_not_sample ∙ or-end s.inverted_not_sample, t.dropped ∙ or-end s.dropped, p.sample ∙ or-nowhere f.sample, p.inverted_sample ∙ or-nowhere f.inverted_sample, p.inverted_not_sample ∙ or-nowhere f.inverted_not_sample, p.dropped ∙ or-nowhere f.dropped)

-- which answers were seen and where first, and what the others will answer
pub record Told (s : AnswersSeen) (f : Firsts) (n : ℕ) (rest all : List spec.Answer) : Type 0 where
  pub seen : Tells s rest all
  pub first : Places f n rest all

pub told-more : (s : AnswersSeen) (f : Firsts) (n : ℕ) (a : spec.Answer) (rest all : List spec.Answer) → Told s f n (a ∷ rest) all → Told (seen_with (answer_of a) s) (first_with (answer_of a) n f) (n + 1) rest all
told-more s f n a rest all t = record { seen = tells-more s a rest all t.seen; first = places-more f n a rest all t.first }

pub told-none : (all : List spec.Answer) → Told none_seen none_first 0 all all
told-none all = record { seen = tells-none all; first = places-none all }

-- ---- what is made of them

against : (a c : Bool) → not ((a || true) || c) ≡ false
against true c = refl
against false c = refl

last-against : (a b : Bool) → not ((a || b) || true) ≡ false
last-against true b = refl
last-against false true = refl
last-against false false = refl

-- each is for the trace: none is against it
each-is : (all : List spec.Answer) → list_all spec.samples all ≡ not ((spec.has_answer spec.not_sample all || spec.has_answer spec.inverted_not_sample all) || spec.has_answer spec.dropped all)
each-is [] = refl
each-is (spec.sample ∷ all) = each-is all
each-is (spec.inverted_sample ∷ all) = each-is all
each-is (spec.not_sample ∷ all) = refl
each-is (spec.inverted_not_sample ∷ all) = sym (against (spec.has_answer spec.not_sample all) (spec.has_answer spec.dropped all))
each-is (spec.dropped ∷ all) = sym (last-against (spec.has_answer spec.not_sample all) (spec.has_answer spec.inverted_not_sample all))

or-last : (a : Bool) → (a || true) ≡ true
or-last true = refl
or-last false = refl

-- some are for the trace
some-is : (all : List spec.Answer) → list_any spec.samples all ≡ (spec.has_answer spec.sample all || spec.has_answer spec.inverted_sample all)
some-is [] = refl
some-is (spec.sample ∷ all) = refl
some-is (spec.inverted_sample ∷ all) = sym (or-last (spec.has_answer spec.sample all))
some-is (spec.not_sample ∷ all) = some-is all
some-is (spec.inverted_not_sample ∷ all) = some-is all
some-is (spec.dropped ∷ all) = some-is all

each-told : (s : AnswersSeen) (all : List spec.Answer) → Tells s [] all → each_is_for s ≡ list_all spec.samples all
each-told s all t = sym (each-is all ∙ (rw (t.not_sample ∙ or-end s.not_sample, t.inverted_not_sample ∙ or-end s.inverted_not_sample, t.dropped ∙ or-end s.dropped)))

some-told : (s : AnswersSeen) (all : List spec.Answer) → Tells s [] all → some_is_for s ≡ list_any spec.samples all
some-told s all t = sym (some-is all ∙ (rw (t.sample ∙ or-end s.sample, t.inverted_sample ∙ or-end s.inverted_sample)))

pub joined-all : (join : Join) (s : AnswersSeen) (all : List spec.Answer) → Tells s [] all → joined_seen join s ≡ spec.joined_answer join all
joined-all And s all t = ap spec.plain (each-told s all t)
joined-all Not s all t = ap (λ b. spec.plain (not b)) (each-told s all t)
joined-all Drop s all t = ap (λ b. cond b spec.dropped spec.not_sample) (each-told s all t)
joined-all FirstMatch s all t = ap spec.verdict_answer (tells-all s all t)
joined-all Share s all t =
    ap (λ b. cond b spec.sample (cond (some_is_for s) spec.dropped spec.not_sample)) (each-told s all t)
    ∙ ap (λ b. cond (list_all spec.samples all) spec.sample (cond b spec.dropped spec.not_sample)) (some-told s all t)

samples-is : (a : spec.Answer) → is_for (answer_of a) ≡ spec.samples a
samples-is spec.sample = refl
samples-is spec.not_sample = refl
samples-is spec.inverted_sample = refl
samples-is spec.inverted_not_sample = refl
samples-is spec.dropped = refl

-- the program's answer ends policies where the definition's does
pub ends-is : (join : Join) (a : spec.Answer) → is_end join (answer_of a) ≡ spec.ends join a
ends-is And a = ap not (samples-is a)
ends-is Not a = ap not (samples-is a)
ends-is Drop a = ap not (samples-is a)
ends-is Share a = ap not (samples-is a)
ends-is FirstMatch spec.sample = refl
ends-is FirstMatch spec.not_sample = refl
ends-is FirstMatch spec.inverted_sample = refl
ends-is FirstMatch spec.inverted_not_sample = refl
ends-is FirstMatch spec.dropped = refl

-- ---- latencies

earliest-shift : (x m : ℕ) (spans : List Arrival) → spec.earliest_with (min x m) spans ≡ min x (spec.earliest_with m spans)
earliest-shift x m [] = refl
earliest-shift x m (a ∷ spans) = let ih = earliest-shift x m spans in omega (arith, ih)

pub earliest-next : (m : ℕ) (spans : List Arrival) (i : ℕ) (a : Arrival) → i < length spans → a ≡ get_or spans i a → spec.earliest_with m (drop i spans) ≡ spec.earliest_with (min a.rec.span.start_time_unix_nano m) (drop (i + 1) spans)
earliest-next m spans i a h e =
    ap (spec.earliest_with m) (drop-cons spans i a h)
    ∙ ap (λ (b : Arrival). min b.rec.span.start_time_unix_nano (spec.earliest_with m (drop (suc i) spans))) (sym e)
    ∙ ap (λ k. min a.rec.span.start_time_unix_nano (spec.earliest_with m (drop k spans))) (sym (add-one i))
    ∙ sym (earliest-shift a.rec.span.start_time_unix_nano m (drop (i + 1) spans))
