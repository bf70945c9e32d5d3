-- A text of JSON in a script, byte by byte, and the page around it. For the contracts of `put_script` and `put_page`.
use Rattle.std.proofs.Common.{◌≡◌, ◌<◌, ◌+◌, ◌++◌, ◌∙◌, ℕ, suc, List, ap, append_assoc, arith, drop, drop-cons, get_or, length, sym}
use Rattle.std.specs.Prelude.{Err, Ok, OnOk, Result}
use Rattle.comparison_text.specs.Page.{in_script, page_of, script_byte}

-- one byte more stands there, and one less is left
pub script-next : (text : List ℕ) (place : ℕ) (page new whole : List ℕ) → place < length text → page ++ in_script (drop place text) ≡ whole → new ≡ page ++ script_byte (get_or text place 0)
    → new ++ in_script (drop (place + 1) text) ≡ whole
script-next text place page new whole some so e =
    let next : place + 1 ≡ suc place = omega arith in
    ap (λ (n : ℕ). new ++ in_script (drop n text)) next ∙ ap (λ (x : List ℕ). x ++ in_script (drop (suc place) text)) e
    ∙ append_assoc page (script_byte (get_or text place 0)) (in_script (drop (suc place) text))
    ∙ ap (λ (bs : List ℕ). page ++ in_script bs) (sym (drop-cons text place 0 some)) ∙ so

-- a page, by another spelling of its parts
pub page-as : {E : Type 0} (result : Result (Unit {0}) E) (old new before other_before json other_json behind other_behind : List ℕ) → before ≡ other_before → json ≡ other_json → behind ≡ other_behind
    → OnOk result (new ≡ old ++ page_of before json behind) → OnOk result (new ≡ old ++ page_of other_before other_json other_behind)
page-as (Ok done) old new before other_before json other_json behind other_behind b j t h =
    h ∙ ap (λ (x : List ℕ). old ++ page_of x json behind) b ∙ ap (λ (x : List ℕ). old ++ page_of other_before x behind) j ∙ ap (λ (x : List ℕ). old ++ page_of other_before other_json x) t
page-as (Err fault) old new before other_before json other_json behind other_behind b j t h = tt
