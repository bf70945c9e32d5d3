use Rattle.std.proofs.Common.{◌≡◌, rules, map}
use Rattle.shared_budget.specs.Budget.{cell_of}
use Rattle.shared_budget.proofs.AllNodes.{taken, put_back}
use Rattle.parts_tests.proofs.tests.seats.ask_by_four.Goals as goal

pub returns-clause-one : goal.returns-clause-one
returns-clause-one g c =
    let cells = c.requires.one.0 in
    let one = taken cells _ _ c.take_last-one.result c.requires.one.1 c.take_last-one.ensures.items in
    let two = taken cells _ _ c.take_last-two.result one.0 c.take_last-two.ensures.items in
    let three = taken cells _ _ c.take_last-three.result two.0 c.take_last-three.ensures.items in
    let four = taken cells _ _ c.take_last-four.result three.0 c.take_last-four.ensures.items in
    let same_four : map cell_of c.join-first_half.result.1.2 ≡ map cell_of c.take_last-four.result = search rules in
    let same_three : map cell_of c.join-first_half.result.1.1 ≡ map cell_of c.take_last-three.result = search rules in
    let same_two : map cell_of c.join-first_half.result.0.2 ≡ map cell_of c.take_last-two.result = search rules in
    let same_one : map cell_of c.join-first_half.result.0.1 ≡ map cell_of c.take_last-one.result = search rules in
    let with_four = put_back cells c.push_reserved.new.self.items _ c.take_last-four.result _ four.0 four.1 same_four c.push_reserved.ensures.items in
    let with_three = put_back cells c.push_reserved-2.new.self.items _ c.take_last-three.result _ with_four three.1 same_three c.push_reserved-2.ensures.items in
    let with_two = put_back cells c.push_reserved-3.new.self.items _ c.take_last-two.result _ with_three two.1 same_two c.push_reserved-3.ensures.items in
    (cells, put_back cells c.push_reserved-4.new.self.items _ c.take_last-one.result _ with_two one.1 same_one c.push_reserved-4.ensures.items)
