use Rattle.std.proofs.Common.{◌≡◌, ℕ, List, ◌++◌, take, IfSome, subst}
use Rattle.std.specs.Option.{option_map}
use Rattle.request_show.proofs.body.read_start.Goals as goal

-- what `read_to_end` gave, by what `take` and the new list say
pub returns : goal.returns
returns g c =
    let items = c.read_to_end.new.buf.items in
    let P = λ (k : ℕ). IfSome (option_map (take k) (g.R.Read.remaining c.take.result.inner)) (λ xs. items ≡ c.new-bytes.result.items ++ xs) in
    let Q = λ (f : g.row.R.Denot). IfSome (option_map (take 67108865) (g.R.Read.remaining f)) (λ xs. items ≡ c.new-bytes.result.items ++ xs) in
    let S = λ (ys : List ℕ). IfSome (option_map (take 67108865) (g.R.Read.remaining c.args.reader)) (λ xs. items ≡ ys ++ xs) in
    subst S c.new-bytes.ensures.items (subst Q c.take.ensures.inner (subst P c.take.ensures.limit c.in_ok-read_to_end.ensures.bytes))
