use Rattle.std.proofs.Common.{◌≡◌, ◌∙◌, ◌+◌, ℕ, List, drop, sym, ap, subst, arith}
use Rattle.post_http.specs.declared.reading.TheConstants.{INTERIM_LIMIT}
use Rattle.post_http.specs.Answers.{SeesBehind, Behind}
use Rattle.post_http.proofs.Seeing.{sees_interim, sees_final}
use Rattle.post_http.proofs.Texts.{drop_then}
use Rattle.post_http.proofs.reading.heads_in.Goals as goal

pub returns-in-Head : goal.returns-in-Head
returns-in-Head c =
    let bytes = c.args.bytes.now in
    let sees = subst (λ (s : List ℕ). SeesBehind c.loop-heads.heads bytes c.loop-heads.client s) (sym c.behind-rest.ensures.rest) c.loop-heads.invariant.behind in
    let final = sees_final c.loop-heads.heads bytes c.loop-heads.client c.read.new.self c.behind-rest.result.now c.read.new.headers c.in-Ok.field-0 c.in-Head.head c.wait_in.result c.in-Head.is sees c.in-Ok.ensures.ok c.wait_in.ensures in (
      omega (arith, c.in-Ok.ensures.consumed, c.behind-rest.ensures.len, c.loop-heads.invariant.fits),
      subst (λ (s : List ℕ). Behind c.read.new.self bytes c.in-Head.head.code c.wait_in.result s)
          (ap (λ (s : List ℕ). drop c.in-Ok.field-0.consumed s) c.behind-rest.ensures.rest ∙ drop_then c.loop-heads.at c.in-Ok.field-0.consumed bytes) final,
    )

pub loop-heads-preserved : goal.loop-heads-preserved
loop-heads-preserved c =
    let bytes = c.args.bytes.now in
    let sees = subst (λ (s : List ℕ). SeesBehind c.loop-heads.heads bytes c.loop-heads.client s) (sym c.behind-rest.ensures.rest) c.loop-heads.invariant.behind in
    let next = sees_interim c.loop-heads.heads bytes c.loop-heads.client c.read.new.self c.behind-rest.result.now c.read.new.headers c.in-Ok.field-0 c.in-Informational.field-0 c.in-Informational.is sees c.in-Ok.ensures.ok in
    record {
      fits = omega (arith, c.in-Ok.ensures.consumed, c.behind-rest.ensures.len, c.loop-heads.invariant.fits);
      behind = subst (λ (s : List ℕ). SeesBehind (c.loop-heads.heads + 1) bytes c.read.new.self s)
          (ap (λ (s : List ℕ). drop c.in-Ok.field-0.consumed s) c.behind-rest.ensures.rest ∙ drop_then c.loop-heads.at c.in-Ok.field-0.consumed bytes) next;
    }

pub returns : goal.returns
returns c =
    let bytes = c.args.bytes.now in
    let all : c.loop-heads.heads ≡ INTERIM_LIMIT = omega (arith, c.loop-heads-test.false) in
    (c.loop-heads.client, drop c.loop-heads.at bytes, subst (λ (n : ℕ). SeesBehind n bytes c.loop-heads.client (drop c.loop-heads.at bytes)) all c.loop-heads.invariant.behind)
