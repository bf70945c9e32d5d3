use Rattle.std.proofs.Common.{sym, ap, subst, arith, length}
use Rattle.std.proofs.lemmas.List.{length-take}
use Rattle.http_text.specs.declared.lines.TheConstants.{PART_LIMIT}
use Rattle.http_text.specs.declared.search.Ending.TheVariants.{At, Open}
use Rattle.http_text.specs.Search.{IsEnding, Searched}
use Rattle.http_text.proofs.SearchLemmas.{searched_front, cutting_at, cutting_long, cutting_waits}
use Rattle.http_text.proofs.search.cut_on.Goals as goal

pub find-requires : goal.find-requires
find-requires c = omega (arith, ap length c.front.ensures, length-take PART_LIMIT c.args.stream.now, c.requires.0, c.requires.1)

pub returns-in-At-clause-cuts : goal.returns-in-At-clause-cuts
returns-in-At-clause-cuts c = λ len_of s.
    let stream = c.args.stream.now in
    let e = c.in-At.ensures.ends len_of (subst (Searched len_of c.args.search) (sym c.front.ensures) (searched_front len_of c.args.search stream s c.requires.1)) in
    cutting_at len_of stream c.in-At.n (subst (λ l. IsEnding len_of l (At c.in-At.n)) c.front.ensures e)

pub returns-in-Open-clause-cuts : goal.returns-in-Open-clause-cuts
returns-in-Open-clause-cuts c = λ len_of s.
    let stream = c.args.stream.now in
    let e = c.in-Open.ensures.ends len_of (subst (Searched len_of c.args.search) (sym c.front.ensures) (searched_front len_of c.args.search stream s c.requires.1)) in
    cutting_long len_of stream c.in-Open.field-0 (subst (λ l. IsEnding len_of l (Open c.in-Open.field-0)) c.front.ensures e) c.if-stream-ge-PART_LIMIT.true

pub returns-in-Open-2-clause-cuts : goal.returns-in-Open-2-clause-cuts
returns-in-Open-2-clause-cuts c = λ len_of s.
    let stream = c.args.stream.now in
    let e = c.in-Open.ensures.ends len_of (subst (Searched len_of c.args.search) (sym c.front.ensures) (searched_front len_of c.args.search stream s c.requires.1)) in
    cutting_waits len_of stream c.in-Open.field-0 (subst (λ l. IsEnding len_of l (Open c.in-Open.field-0)) c.front.ensures e) c.if-stream-ge-PART_LIMIT.false

pub returns-in-At-clause-inside : goal.returns-in-At-clause-inside
returns-in-At-clause-inside c = (c.in-At.ensures.inside.0, omega (arith, c.in-At.ensures.inside.1, ap length c.front.ensures, length-take PART_LIMIT c.args.stream.now))

pub returns-in-Open-2-clause-inside : goal.returns-in-Open-2-clause-inside
returns-in-Open-2-clause-inside c =
    let fits = ap length c.front.ensures in
    let short = length-take PART_LIMIT c.args.stream.now in
    ((omega (arith, c.in-Open.ensures.inside, fits, short), omega (arith, c.in-Open.ensures.inside, fits, short)), c.if-stream-ge-PART_LIMIT.false)
