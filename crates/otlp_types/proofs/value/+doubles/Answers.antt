use Rattle.std.proofs.Common.{◌∙◌, ap, sym}
use Rattle.std.specs.List.{list_any}
use Rattle.otlp_types.specs.HoldsDouble.{holds_double, is_of_double}
use Rattle.otlp_types.proofs.HoldsDouble.{holds-Array, holds-KvList}
use Rattle.otlp_types.proofs.value.+doubles.Goals as goal

pub value_holds_double-returns-in-Array : goal.value_holds_double-returns-in-Array
value_holds_double-returns-in-Array t c = c.any_holds_double.ensures ∙ ap (list_any holds_double) c.as_slice.ensures ∙ sym (ap holds_double c.in-Array.is ∙ holds-Array c.in-Array.items)

pub value_holds_double-returns-in-KvList : goal.value_holds_double-returns-in-KvList
value_holds_double-returns-in-KvList t c = c.any_is_of_double.ensures ∙ ap (list_any is_of_double) c.as_slice-in-KvList.ensures ∙ sym (ap holds_double c.in-KvList.is ∙ holds-KvList c.in-KvList.pairs)
