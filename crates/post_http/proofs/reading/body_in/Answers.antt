use Rattle.std.proofs.Common.{◌≡◌, ◌+◌, ◌++◌, ◌∙◌, ℕ, List, drop, sym, ap, subst, refl, arith, true, false, Ok}
use Rattle.std.proofs.lemmas.Bool.Decides.{nat_tests}
use Rattle.std.proofs.lemmas.List.{drop_all}
use Rattle.httparse.specs.Spans.{span_bytes}
use Rattle.post_http.specs.Answers.{SeesBody}
use Rattle.post_http.proofs.Seeing.{body_more, body_end, body_close}
use Rattle.post_http.proofs.Texts.{drop_then}
use Rattle.post_http.proofs.reading.body_in.Goals as goal
use Rattle.post_http.proofs.reading.body_in.Goals.{in-Ok-End, in_default-matches, in_default-matches-2, then-is_idle, else-is_idle}

pub returns-in-End : goal.returns-in-End
returns-in-End c =
    let start = drop c.args.headed.at c.args.bytes.now in
    let sees = subst (λ (s : List ℕ). SeesBody c.args.headed.client start c.loop.body.items c.loop.client s) (sym c.behind-rest.ensures.rest) c.loop.invariant.seen in
    let all = body_end c.args.headed.client start c.loop.body.items c.loop.client c.read.new.self c.behind-rest.result.now c.read.new.headers c.in-Ok.field-0 c.in-End.field-0 c.in-End.is sees c.in-Ok.ensures.ok in (
      all.0.0,
      all.0.1,
      all.0.2,
      all.0.3,
      all.0.4,
      refl,
      refl,
      λ kept. all.1 ∙ (elim c.if-is_idle.branch [
        | then-is_idle w ↦ let same = sym w.keeps-is ∙ kept in drop_all c.in-Ok.field-0.consumed c.behind-rest.result.now (grind (arith, nat_tests))
        | else-is_idle w ↦ let e : false ≡ true = sym w.if-is_idle.false ∙ (sym w.keeps-is ∙ kept) in cc
      ]),
    )

pub returns-then-matches : goal.returns-then-matches
returns-then-matches c =
    let start = drop c.args.headed.at c.args.bytes.now in
    let sees = subst (λ (s : List ℕ). SeesBody c.args.headed.client start c.loop.body.items c.loop.client s) (sym c.behind-rest.ensures.rest) c.loop.invariant.seen in
    elim c.match-matches.branch [
      | in-Ok-End w ↦
          let all = body_close c.args.headed.client start c.loop.body.items c.loop.client c.read.new.self c.behind-rest.result.now c.read.new.headers c.in-Ok.field-0 w.in-Ok-End.field-0-0 c.in-NeedMore.is sees c.in-Ok.ensures.ok
          (sym c.read_eof.ensures.answer ∙ (w.in-Ok-End.is ∙ ap Ok w.in-Ok-End.field-0-is)) in
          (all.0, all.1, all.2, all.3, all.4, refl, refl, λ kept. let e : false ≡ true = kept in cc)
      | in_default-matches w ↦ let e : true ≡ false = sym c.if-matches.true ∙ w.matches-is in cc
      | in_default-matches-2 w ↦ let e : true ≡ false = sym c.if-matches.true ∙ w.matches-is in cc
    ]

pub loop-preserved : goal.loop-preserved
loop-preserved c =
    let start = drop c.args.headed.at c.args.bytes.now in
    let sees = subst (λ (s : List ℕ). SeesBody c.args.headed.client start c.loop.body.items c.loop.client s) (sym c.behind-rest.ensures.rest) c.loop.invariant.seen in
    let more = body_more c.args.headed.client start c.loop.body.items c.loop.client c.read.new.self c.behind-rest.result.now c.read.new.headers c.in-Ok.field-0 c.in-Data.piece c.in-Data.is sees c.in-Ok.ensures.ok in
    record {
      fits = omega (arith, c.in-Ok.ensures.consumed, c.behind-rest.ensures.len, c.loop.invariant.fits);
      seen = subst (λ (body : List ℕ). SeesBody c.args.headed.client start body c.read.new.self (drop (c.loop.at + c.in-Ok.field-0.consumed) c.args.bytes.now))
          (sym (c.in_ok-extend_from_slice-in-Data.ensures.items ∙ ap (λ (piece : List ℕ). c.loop.body.items ++ piece) c.of.ensures))
          (subst (λ (s : List ℕ). SeesBody c.args.headed.client start (c.loop.body.items ++ span_bytes c.behind-rest.result.now c.in-Data.piece) c.read.new.self s)
          (ap (λ (s : List ℕ). drop c.in-Ok.field-0.consumed s) c.behind-rest.ensures.rest ∙ drop_then c.loop.at c.in-Ok.field-0.consumed c.args.bytes.now) more);
    }
