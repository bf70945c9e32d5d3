use Rattle.std.proofs.Common.{List, Option, Some, None, sym, subst}
use Rattle.otlp_types.specs.declared.value.KeyValue.{KeyValue}
use Rattle.span_block.specs.declared.attribute.Attribute.{Attribute}
use Rattle.span_block.specs.Pairs.{ShowsNext, fields_read, pairs_left}
use Rattle.span_block.proofs.PairsLeft.{taken_pairs, shows_some, none_pairs, shows_none}
use Rattle.span_block.proofs.attributes.Attributes.next.Goals as goal
use Rattle.span_block.proofs.attributes.Attributes.next.Goals.{in-Some, in-None}

pub invariant_of-self : goal.invariant_of-self
invariant_of-self c =
    let old = c.self.inside.fields in
    let new = c.next_message.new.fields in
    elim c.match-next_message.branch [
      | in-Some w ↦ (taken_pairs old new w.in-Some.pair.now c.self.invariant (w.in-Some.ensures.next (fields_read old) c.self.invariant.read)).1
      | in-None w ↦ none_pairs new (w.in-None.ensures.next (fields_read old) c.self.invariant.read).1
    ]

pub returns : goal.returns
returns c =
    let old = c.self.inside.fields in
    let new = c.next_message.new.fields in
    let P : Option Attribute → Type 0 = λ r. ShowsNext c.args.self.now (pairs_left new) r in
    let Q : Option Attribute → List KeyValue → Type 0 = λ r ps. ShowsNext ps (pairs_left new) r in
    elim c.match-next_message.branch [
      | in-Some w ↦ subst P (sym w.result-is) (subst (Q (Some w.attribute.result)) c.self.view_is (shows_some old new w.in-Some.pair.now w.attribute.result c.self.invariant (w.in-Some.ensures.next (fields_read old) c.self.invariant.read) w.in-Some.ensures.room w.attribute.ensures))
      | in-None w ↦ subst P (sym w.result-is) (subst (Q None) c.self.view_is (let end = w.in-None.ensures.next (fields_read old) c.self.invariant.read in shows_none old new end.0 end.1))
    ]
