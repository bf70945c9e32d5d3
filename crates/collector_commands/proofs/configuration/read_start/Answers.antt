use Rattle.std.proofs.Common.{◌≡◌, ℕ, List, ◌++◌, take, IfSome, subst}
use Rattle.std.specs.Option.{option_map}
use Rattle.collector_commands.proofs.configuration.read_start.Goals as goal

-- what `read_to_end` gave, by what `take` and the new list say
pub returns : goal.returns
returns g c =
    let items = c.read_to_end.new.buf.items in
    let P = λ (k : ℕ). IfSome (option_map (take k) (g.F.Read.remaining c.take.result.inner)) (λ xs. items ≡ c.new-bytes.result.items ++ xs) in
    let Q = λ (f : g.row.F.Denot). IfSome (option_map (take 1048577) (g.F.Read.remaining f)) (λ xs. items ≡ c.new-bytes.result.items ++ xs) in
    let R = λ (ys : List ℕ). IfSome (option_map (take 1048577) (g.F.Read.remaining c.args.file)) (λ xs. items ≡ ys ++ xs) in
    subst R c.new-bytes.ensures.items (subst Q c.take.ensures.inner (subst P c.take.ensures.limit c.in_ok-read_to_end.ensures.bytes))
