use Rattle.std.proofs.Common.{rules, ◌≡◌, length, refl, arith, vec_len}
use Rattle.shared_budget.proofs.AllNodes.{tables_init, unite_within, unite_at, unite_step, united_gone}
use Rattle.shared_budget.proofs.budget.unite_nodes.Goals as goal

pub loop-other-init : goal.loop-other-init
loop-other-init c = (refl, tables_init _ _ c.requires)

pub index_mut-requires : goal.index_mut-requires
index_mut-requires c =
    let lt = unite_within c.loop-other.nodes.items c.loop-other.others.items c.pop.new.self.items c.in-Some.other c.loop-other.invariant.1 c.in-Some.ensures.items in
    let last : c.len.result ≡ length c.pop.new.self.items = search rules in
    let all : vec_len c.loop-other.nodes ≡ length c.loop-other.nodes.items = search rules in
    omega arith

pub unite-requires : goal.unite-requires
unite-requires c = (unite_at c.loop-other.nodes.items c.loop-other.others.items c.pop.new.self.items c.in-Some.other c.index_mut.result.now c.len.result c.loop-other.invariant.1 c.in-Some.ensures.items (search rules) c.index_mut.ensures.value).1

pub loop-other-preserved : goal.loop-other-preserved
loop-other-preserved c =
    unite_step _ c.loop-other.nodes.items c.loop-other.others.items c.pop.new.self.items c.in-Some.other c.index_mut.result.now c.unite.new.self c.len.result c.loop-other.invariant.0 c.loop-other.invariant.1 c.in-Some.ensures.items (search rules)
    c.index_mut.ensures.value c.unite.ensures.cell c.unite.ensures.parts

pub returns : goal.returns
returns c = united_gone _ c.loop-other.nodes.items c.loop-other.others.items c.loop-other.invariant.0 (search rules)
