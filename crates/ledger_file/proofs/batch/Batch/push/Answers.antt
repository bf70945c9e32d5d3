-- One record more, and a shut gate behind it: `ok` of `Batch::push`.
use Rattle.std.proofs.Common.{◌≡◌, ◌+◌, ◌-◌, ℕ, List, [], ◌∷◌, ◌++◌, length, drop, set, rules, arith, sym, ◌∙◌, ap, take, length-append}
use Rattle.ledger_file.specs.Format.{Fits, frame_head, frames, records_in}
use Rattle.ledger_file.proofs.Found.{AllFit, parts, fit-append}
use Rattle.ledger_file.proofs.Batches.{in_batch, pushed}
use Rattle.ledger_file.proofs.batch.Batch.push.Goals as goal

abbrev Pushed : List (List ℕ) → List ℕ → ℕ → List ℕ → Type 0
Pushed items item seed new = (new ≡ frames seed (items ++ item ∷ []) ++ 0 ∷ []) × (records_in seed new ≡ items ++ item ∷ [])

pushed_both : (seed : ℕ) (item old new : List ℕ) (gate : ℕ) → Fits item → old ≡ frames seed (records_in seed old) ++ 0 ∷ [] → gate + 1 ≡ length old
    → new ≡ set (old ++ (drop 1 (frame_head seed item) ++ (item ++ 0 ∷ []))) gate 1 → Pushed (records_in seed old) item seed new
pushed_both seed item old new gate fits framed size is =
    let items = records_in seed old in
    let fit : AllFit (items ++ item ∷ []) = fit-append items (item ∷ []) (parts seed old).fit (fits, tt) in
    let same : new ≡ frames seed (items ++ item ∷ []) ++ 0 ∷ [] = is ∙ pushed seed items item old gate framed size in
    (same, ap (records_in seed) same ∙ in_batch seed (items ++ item ∷ []) fit)

-- what was put behind the old bytes
added : (seed : ℕ) (item head old grown : List ℕ) → head ≡ frame_head seed item → grown ≡ old ++ (take 8 (drop 1 head) ++ (item ++ 0 ∷ [])) → grown ≡ old ++ (drop 1 (frame_head seed item) ++ (item ++ 0 ∷ []))
added seed item head old grown is grows = grows ∙ ap (λ (h : List ℕ). old ++ (take 8 (drop 1 h) ++ (item ++ 0 ∷ []))) is

sized : (old items : List ℕ) (gate : ℕ) → old ≡ items ++ 0 ∷ [] → gate ≡ length old → gate - 1 + 1 ≡ length old
sized old items gate is size = omega (arith, size, ap length is, length-append items (0 ∷ []))

pub invariant_of-self-2 : goal.invariant_of-self-2
invariant_of-self-2 c =
    let old = c.args.self.now in
    let grows : c.extend.new.file.items ≡ old.bytes.items ++ (take 8 (drop 1 c.head_of-head.result) ++ (c.args.bytes.now ++ 0 ∷ [])) = search rules in
    let len : c.len-gate.result ≡ length old.bytes.items = search rules in
    let both = pushed_both old.seed c.args.bytes.now old.bytes.items _ (c.len-gate.result - 1) c.requires old.framed (sized old.bytes.items _ c.len-gate.result old.framed len)
    (ap (λ l. set l (c.len-gate.result - 1) 1) (added old.seed c.args.bytes.now c.head_of-head.result old.bytes.items c.extend.new.file.items c.head_of-head.ensures grows)) in
    record { framed = both.0 ∙ ap (λ l. frames old.seed l ++ 0 ∷ []) (sym both.1) }

pub returns-clause-ok : goal.returns-clause-ok
returns-clause-ok c =
    let old = c.args.self.now in
    let grows : c.extend.new.file.items ≡ old.bytes.items ++ (take 8 (drop 1 c.head_of-head.result) ++ (c.args.bytes.now ++ 0 ∷ [])) = search rules in
    let len : c.len-gate.result ≡ length old.bytes.items = search rules in
    let both = pushed_both old.seed c.args.bytes.now old.bytes.items (set c.extend.new.file.items (c.len-gate.result - 1) 1) (c.len-gate.result - 1) c.requires old.framed (sized old.bytes.items _ c.len-gate.result old.framed len)
    (ap (λ l. set l (c.len-gate.result - 1) 1) (added old.seed c.args.bytes.now c.head_of-head.result old.bytes.items c.extend.new.file.items c.head_of-head.ensures grows)) in
    both.1
