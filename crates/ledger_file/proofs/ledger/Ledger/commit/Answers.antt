-- The steps of a commit: `committed`, `crash`, `err` and `rests` of `Ledger::commit`.
use Rattle.std.proofs.Common.{◌≡◌, ◌≢◌, ℕ, List, [], ◌∷◌, ◌++◌, length, inl, rules, sym, ◌∙◌, ap, subst, refl}
use Rattle.std.specs.Prelude.{true, false, Result, Ok, Err, OnErr}
use Rattle.std.proofs.lemmas.Bool.{and_parts}
use Rattle.std.proofs.lemmas.List.{append-nil}
use Rattle.ledger_file.specs.Format.{frames, records_in, parameters_of, records_of, front}
use Rattle.ledger_file.specs.Ledger.{EndsBehind, HasFirstOrBoth, Keeps}
use Rattle.ledger_file.proofs.Found.{AllFit, parts, fit-append}
use Rattle.ledger_file.proofs.Commits.{has, keeps_read, first, second, done, end_after, whole_tail, tail_some}
use Rattle.ledger_file.proofs.Whole.{ends}
use Rattle.ledger_file.proofs.ledger.Ledger.commit.Goals as goal

-- nothing was written
same : {D : Type 0} (seen : D → List ℕ) (may_leave : D → List ℕ → Type 0) (ledger : Rattle.ledger_file.specs.declared.ledger.Ledger.Ledger D) (more : List (List ℕ)) → Keeps may_leave (parameters_of (seen ledger.disk)) (records_of (seen ledger.disk)) ledger
    → (c : List ℕ) → may_leave ledger.disk c → HasFirstOrBoth (records_of (seen ledger.disk)) more c
same seen may_leave ledger more k c left = inl (ends _ k.known _ c k.fit (k.each c left))

on_err : {T E : Type 0} (r : Result T E) (P : Type 0) → P → OnErr r P
on_err (Ok x) P p = tt
on_err (Err e) P p = p

pub returns-then-not-may_commit-clause-crash : goal.returns-then-not-may_commit-clause-crash
returns-then-not-may_commit-clause-crash g c clean ready = same g.D.Disk.seen g.D.Disk.may_leave c.args.self.now _ (c.requires clean ready)

pub returns-then-is_empty-clause-committed : goal.returns-then-is_empty-clause-committed
returns-then-is_empty-clause-committed g c clean file left =
    let ready = (and_parts _ _ (sym c.may_commit.ensures ∙ c.if-not-may_commit.false)).0 in
    let k = c.requires clean ready in
    let old = c.args.self.now in
    let none : records_in old.batch.seed old.batch.bytes.items ≡ [] = c.is_empty.ensures.0 c.if-is_empty.true in
    let is = has _ k.known _ k.fit file (k.each file left) in
    record { named = is.named; found = is.found ∙ sym (ap (λ l. records_of (g.D.Disk.seen old.disk) ++ l) none ∙ append-nil _) }

pub returns-then-is_empty-clause-crash : goal.returns-then-is_empty-clause-crash
returns-then-is_empty-clause-crash g c clean ready = same g.D.Disk.seen g.D.Disk.may_leave c.args.self.now _ (c.requires clean ready)

pub returns-then-len-gate-clause-crash : goal.returns-then-len-gate-clause-crash
returns-then-len-gate-clause-crash g c clean ready = same g.D.Disk.seen g.D.Disk.may_leave c.args.self.now _ (c.requires clean ready)

pub write_synced-requires-clause-some : goal.write_synced-requires-clause-some
write_synced-requires-clause-some g c =
    let b = c.args.self.now.batch in
    let some : records_in b.seed b.bytes.items ≢ [] = λ none. let full : true ≡ c.is_empty.result = sym (c.is_empty.ensures.1 none) in let bare : c.is_empty.result ≡ false = c.if-is_empty.false in cc (full, bare) in
    tail_some b.seed _ _ (whole_tail b.seed b.seed _ b.bytes.items c.deref.result.now c.deref.ensures.value b.framed (λ i. b.seed) some) some

pub returns-in_err-write_synced-clause-crash : goal.returns-in_err-write_synced-clause-crash
returns-in_err-write_synced-clause-crash g c clean ready file left =
    let k = c.requires clean ready in
    inl (ends _ k.known _ file k.fit (first _ k.known _ k.fit _ k.end _ _ _ k.each c.write_synced.ensures.crash file left))

pub returns-in_err-write_synced-clause-err : goal.returns-in_err-write_synced-clause-err
returns-in_err-write_synced-clause-err g c = on_err c.from_residual.result _ (λ ready. (
  refl,
  λ clean.
      let k = c.requires clean ready in
      has _ k.known _ k.fit _ (first _ k.known _ k.fit _ k.end _ _ _ k.each c.write_synced.ensures.crash _ (g.met.D.Disk.seen_may_stay c.write_synced.new.disk)),
))

pub returns-in_err-write_synced-clause-rests : goal.returns-in_err-write_synced-clause-rests
returns-in_err-write_synced-clause-rests g c clean ready =
    let k = c.requires (sym c.write_synced.ensures.clean ∙ clean) ready in
    let each = first _ k.known _ k.fit _ k.end _ _ _ k.each c.write_synced.ensures.crash in
    keeps_read _ k.known _ k.fit g.D.Disk.may_leave _ _ (has _ k.known _ k.fit _ (each _ (g.met.D.Disk.seen_may_stay c.write_synced.new.disk)))
    (record { known = k.known; fit = k.fit; seed = k.seed; end = k.end; each = each })

pub returns-in_err-write_synced-2-clause-crash : goal.returns-in_err-write_synced-2-clause-crash
returns-in_err-write_synced-2-clause-crash g c clean ready file left =
    let k = c.requires clean ready in
    let b = c.args.self.now.batch in
    let some : records_in b.seed b.bytes.items ≢ [] = λ none. let full : true ≡ c.is_empty.result = sym (c.is_empty.ensures.1 none) in let bare : c.is_empty.result ≡ false = c.if-is_empty.false in cc (full, bare) in
    let whole = whole_tail b.seed _ _ b.bytes.items c.deref.result.now c.deref.ensures.value b.framed k.seed some in
    let w = c.in_ok-write_synced.ensures.done in
    let was = first _ k.known _ k.fit _ k.end _ _ _ k.each c.write_synced.ensures.crash _ (g.met.D.Disk.seen_may_stay c.write_synced.new.disk) in
    let fits = (parts b.seed b.bytes.items).fit in
    second _ k.known _ k.fit _ k.end _ fits _ whole _ was w.holds _ _ w.only c.write_synced-2.ensures.crash file left

pub returns-clause-committed : goal.returns-clause-committed
returns-clause-committed g c clean file left =
    let ready = (and_parts _ _ (sym c.may_commit.ensures ∙ c.if-not-may_commit.false)).0 in
    let k = c.requires clean ready in
    let b = c.args.self.now.batch in
    let some : records_in b.seed b.bytes.items ≢ [] = λ none. let full : true ≡ c.is_empty.result = sym (c.is_empty.ensures.1 none) in let bare : c.is_empty.result ≡ false = c.if-is_empty.false in cc (full, bare) in
    let whole = whole_tail b.seed _ _ b.bytes.items c.deref.result.now c.deref.ensures.value b.framed k.seed some in
    let w = c.in_ok-write_synced.ensures.done in
    let was = first _ k.known _ k.fit _ k.end _ _ _ k.each c.write_synced.ensures.crash _ (g.met.D.Disk.seen_may_stay c.write_synced.new.disk) in
    let fits = (parts b.seed b.bytes.items).fit in
    let w2 = c.in_ok-write_synced-2.ensures.done in
    let ends = done _ k.known _ k.fit _ k.end _ fits _ whole _ was w.holds _ w2.torn w2.holds in
    let all : AllFit (records_of (g.D.Disk.seen c.args.self.now.disk) ++ records_in b.seed b.bytes.items) = fit-append _ _ k.fit fits in
    let is = has _ k.known _ all _ ends in
    let same = w2.only file left in
    record { named = ap parameters_of same ∙ is.named; found = ap records_of same ∙ is.found }

pub returns-clause-crash : goal.returns-clause-crash
returns-clause-crash g c clean ready file left =
    let k = c.requires clean ready in
    let b = c.args.self.now.batch in
    let some : records_in b.seed b.bytes.items ≢ [] = λ none. let full : true ≡ c.is_empty.result = sym (c.is_empty.ensures.1 none) in let bare : c.is_empty.result ≡ false = c.if-is_empty.false in cc (full, bare) in
    let whole = whole_tail b.seed _ _ b.bytes.items c.deref.result.now c.deref.ensures.value b.framed k.seed some in
    let w = c.in_ok-write_synced.ensures.done in
    let was = first _ k.known _ k.fit _ k.end _ _ _ k.each c.write_synced.ensures.crash _ (g.met.D.Disk.seen_may_stay c.write_synced.new.disk) in
    let fits = (parts b.seed b.bytes.items).fit in
    second _ k.known _ k.fit _ k.end _ fits _ whole _ was w.holds _ _ w.only c.write_synced-2.ensures.crash file left

pub returns-clause-rests : goal.returns-clause-rests
returns-clause-rests g c clean now_open =
    let ready = (and_parts _ _ (sym c.may_commit.ensures ∙ c.if-not-may_commit.false)).0 in
    let k = c.requires (sym (c.write_synced-2.ensures.clean ∙ c.write_synced.ensures.clean) ∙ clean) ready in
    let b = c.args.self.now.batch in
    let some : records_in b.seed b.bytes.items ≢ [] = λ none. let full : true ≡ c.is_empty.result = sym (c.is_empty.ensures.1 none) in let bare : c.is_empty.result ≡ false = c.if-is_empty.false in cc (full, bare) in
    let whole = whole_tail b.seed _ _ b.bytes.items c.deref.result.now c.deref.ensures.value b.framed k.seed some in
    let w = c.in_ok-write_synced.ensures.done in
    let was = first _ k.known _ k.fit _ k.end _ _ _ k.each c.write_synced.ensures.crash _ (g.met.D.Disk.seen_may_stay c.write_synced.new.disk) in
    let fits = (parts b.seed b.bytes.items).fit in
    let w2 = c.in_ok-write_synced-2.ensures.done in
    let ends = done _ k.known _ k.fit _ k.end _ fits _ whole _ was w.holds _ w2.torn w2.holds in
    let all : AllFit (records_of (g.D.Disk.seen c.args.self.now.disk) ++ records_in b.seed b.bytes.items) = fit-append _ _ k.fit fits in
    let is = has _ k.known _ all _ ends in
    let size : c.len-2.result ≡ length b.bytes.items = search rules in
    keeps_read _ k.known _ all g.D.Disk.may_leave _ _ is (record {
      known = k.known;
      fit = all;
      seed = c.clear.ensures.seed ∙ k.seed;
      end = end_after _ k.known _ k.fit _ k.end _ fits _ whole _ was w.holds c.len-2.result (size ∙ ap length (b.framed ∙ ap (λ s. frames s (records_in b.seed b.bytes.items) ++ 0 ∷ []) k.seed));
      each = λ file left. subst (EndsBehind (front (parameters_of (g.D.Disk.seen c.args.self.now.disk)) (records_of (g.D.Disk.seen c.args.self.now.disk) ++ records_in b.seed b.bytes.items))) (sym (w2.only file left)) ends;
    })
