-- Texts that are appended one after the other, and the lines of the reasons. For the contracts of `put_build`,
-- `put_spans`, `put_collector`, `put_all_dropped`, `put_shard_lines` and `metrics_text`.
use Rattle.std.proofs.Common.{◌≡◌, ◌<◌, ◌++◌, ◌+◌, ◌∷◌, ℕ, List, [], add-one, ap, sym, ◌∙◌, append_assoc, append-nil, drop, drop-cons, get_or, length, suc}
use Rattle.std.specs.Prelude.{Result, Ok, Err, OnOk, map}
use Rattle.std.specs.List.{concat}
use Rattle.metrics_text.specs.Families.{dropped_sample, reasons, sample_line}
use Rattle.span_ids.specs.declared.outcome.Reason.TheVariants.{InvalidId}

-- behind a first text the second was appended
pub appended-then : {V E : Type 0} (answer : Result V E) → (old first between second new : List ℕ) → between ≡ old ++ first
    → OnOk answer (new ≡ between ++ second) → OnOk answer (new ≡ old ++ (first ++ second))
appended-then (Ok done) old first between second new e h = h ∙ ap (λ (x : List ℕ). x ++ second) e ∙ append_assoc old first second
appended-then (Err fault) old first between second new e h = h

-- the lines of these reasons
abbrev pub lines_of : (name report : List ℕ) → ℕ → List ℕ
lines_of name report passed = concat (map (sample_line name) (map (dropped_sample report) (drop passed reasons)))

-- the head is there, and all lines are left
pub lines-begin : (old head text lines : List ℕ) → text ≡ old ++ head → text ++ lines ≡ old ++ (head ++ lines)
lines-begin old head text lines e = ap (λ (x : List ℕ). x ++ lines) e ∙ append_assoc old head lines

-- one line more is there, and one less is left
pub lines-next : (name report text new whole : List ℕ) (passed : ℕ) → passed < length reasons → text ++ lines_of name report passed ≡ whole
    → new ≡ text ++ sample_line name (dropped_sample report (get_or reasons passed InvalidId)) → new ++ lines_of name report (passed + 1) ≡ whole
lines-next name report text new whole passed some so e =
    rw add-one
    (let line : List ℕ = sample_line name (dropped_sample report (get_or reasons passed InvalidId)) in
    ap (λ (x : List ℕ). x ++ lines_of name report (suc passed)) e
    ∙ append_assoc text line (lines_of name report (suc passed))
    ∙ ap (λ rs. text ++ concat (map (sample_line name) (map (dropped_sample report) rs))) (sym (drop-cons reasons passed InvalidId some))
    ∙ so)

-- one item's text more is there, and one less is left
pub items-next : {A : Type 0} (f : A → List ℕ) (xs : List A) (default : A) (text new whole : List ℕ) (passed : ℕ) → passed < length xs → text ++ concat (map f (drop passed xs)) ≡ whole
    → new ≡ text ++ f (get_or xs passed default) → new ++ concat (map f (drop (passed + 1) xs)) ≡ whole
items-next f xs default text new whole passed some so e =
    rw add-one
    (let line : List ℕ = f (get_or xs passed default) in
    ap (λ (x : List ℕ). x ++ concat (map f (drop (suc passed) xs))) e
    ∙ append_assoc text line (concat (map f (drop (suc passed) xs)))
    ∙ ap (λ rs. text ++ concat (map f rs)) (sym (drop-cons xs passed default some))
    ∙ so)

-- the six families, the figures and the shards
pub six-families : (a b c d e f figures shards none spans dropped whole most text : List ℕ) → none ≡ [] → spans ≡ none ++ (a ++ b) → dropped ≡ spans ++ c → whole ≡ dropped ++ (d ++ (e ++ f))
    → most ≡ whole ++ figures → text ≡ most ++ shards → text ≡ concat (a ∷ b ∷ c ∷ d ∷ e ∷ f ∷ []) ++ (figures ++ shards)
six-families a b c d e f figures shards none spans dropped whole most text n s t u v w =
    w ∙ ap (λ (x : List ℕ). x ++ shards) v ∙ append_assoc whole figures shards
    ∙ ap (λ (x : List ℕ). x ++ (figures ++ shards))
    (u ∙ ap (λ (x : List ℕ). x ++ (d ++ (e ++ f))) (t ∙ ap (λ (x : List ℕ). x ++ c) (s ∙ ap (λ (x : List ℕ). x ++ (a ++ b)) n))
    ∙ simp (append_assoc, append-nil))

-- two texts more, one after the other
pub both-more : (policies shards most more text : List ℕ) → more ≡ most ++ policies → text ≡ more ++ shards → text ≡ most ++ (policies ++ shards)
both-more policies shards most more text v w = w ∙ ap (λ (x : List ℕ). x ++ shards) v ∙ append_assoc most policies shards
