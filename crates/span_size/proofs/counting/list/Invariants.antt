use Rattle.std.proofs.Common.{◌∷◌, map, take}
use Rattle.json.specs.Token.{key, begin_array}
use Rattle.otlp_json.specs.Tokens.{objects_tokens}
use Rattle.span_size.specs.Counting.{Adds}
use Rattle.span_size.proofs.counting.list.Given as goal

abbrev pub invariant-loop-item : goal.invariant-loop-item
invariant-loop-item g l = Adds l.fn.out l.out (key l.name ∷ begin_array ∷ objects_tokens (map g.T.HasSize.fields (take l.item-index l.items)))
