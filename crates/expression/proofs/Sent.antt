-- What searches for expressions may go to another thread, by what it holds.
-- For each call above that starts threads.
use denote.Param.Send.{IsSend, IsSync, sendable}
use Rattle.regex_hir.specs.contracts.hir.Hir as hir
use Rattle.regex_hir.proofs.hir.Hir.TheLaws.TheKnot as knot
use Rattle.regex_meta.specs.contracts.program.Program as program
use Rattle.regex_dfa.specs.contracts.dfa.Dfa as dfa
use Rattle.regex_meta.specs.contracts.signs.Signs as signs
use Rattle.regex_meta.specs.contracts.plan.Plans as plans
use Rattle.regex_dfa.specs.contracts.forward.Forward as forward
use Rattle.regex_dfa.specs.contracts.reverse.Reverse as reverse
use Rattle.regex_tagged.specs.contracts.search.Tagged as tagged
use Rattle.regex_bits.specs.contracts.build.Bits as bits
use Rattle.regex_vm.specs.contracts.pikevm.PikeVm as pikevm
use Rattle.regex_vm.specs.contracts.backtrack.Backtracker as backtracker
use Rattle.regex_meta.specs.contracts.pace.Pace as pace
use Rattle.regex_meta.specs.contracts.gait.Gait as gait
use Rattle.regex_meta.specs.contracts.head.Head as head
use Rattle.expression.specs.contracts.searches.Searches as searches
use Rattle.expression.specs.contracts.expression.Expression as expression
use denote.Ref.{NamedLft}
use Rattle.regex_meta.specs.contracts.searcher.Searcher as searcher
use Rattle.regex_meta.specs.contracts.searcher.apart.Apart as apart
use Rattle.regex_meta.specs.contracts.branches.Branches as branches
use Rattle.regex_meta.specs.contracts.branch.Branch as branch
use Rattle.regex_meta.specs.contracts.branch.Tail as tail
use Rattle.regex_meta.specs.contracts.branch.Means as means
use Rattle.regex_nfa.specs.contracts.nfa.Nfa as nfa
use Rattle.regex.specs.contracts.engine.Engine as engine
use Rattle.regex.specs.contracts.string.matcher.Matcher as matcher
use Rattle.std.proofs.Crossing.{crosses}

pub dfa_sync : IsSync dfa.the_field.row
dfa_sync = search (sendable, crosses) depth 100 fits 100000

pub signs_sync : IsSync signs.the_field.row
signs_sync = search (sendable, crosses, knot.sync-Hir) depth 100 fits 100000

pub plans_sync : IsSync plans.the_field.row
plans_sync = search (sendable, crosses, knot.sync-Hir) depth 100 fits 100000

pub program_row_sync : IsSync program.the_row
program_row_sync = search (sendable, crosses, knot.sync-Hir, dfa_sync, signs_sync, plans_sync) depth 100 fits 100000

pub forward_send : IsSend forward.the_field.row
forward_send = search (sendable, crosses) depth 100 fits 100000

pub reverse_send : IsSend reverse.the_field.row
reverse_send = search (sendable, crosses) depth 100 fits 100000

pub tagged_send : IsSend tagged.the_field.row
tagged_send = search (sendable, crosses) depth 100 fits 100000

pub bits_send : IsSend bits.the_field.row
bits_send = search (sendable, crosses) depth 100 fits 100000

pub pikevm_send : IsSend pikevm.the_field.row
pikevm_send = search (sendable, crosses) depth 100 fits 100000

pub backtracker_send : IsSend backtracker.the_field.row
backtracker_send = search (sendable, crosses) depth 100 fits 100000

pub pace_send : IsSend pace.the_field.row
pace_send = search (sendable, crosses) depth 100 fits 100000

pub gait_send : IsSend gait.the_field.row
gait_send = search (sendable, crosses) depth 100 fits 100000

pub head_row_send : IsSend head.the_row
head_row_send = search (sendable, crosses) depth 100 fits 100000

pub tail_row_send : IsSend tail.the_row
tail_row_send = search (sendable, crosses) depth 100 fits 100000

pub nfa_row_sync : IsSync nfa.the_row
nfa_row_sync = search (sendable, crosses) depth 100 fits 100000

pub hir_sync : IsSync hir.the_row
hir_sync = search (sendable, crosses, knot.sync-Hir) depth 100 fits 100000

pub means_send : (κ : NamedLft) → IsSend (means.the_field κ).row
means_send κ = search (sendable, crosses, nfa_row_sync) depth 100 fits 100000

pub signs_row_sync : IsSync signs.the_row
signs_row_sync = search (sendable, crosses, knot.sync-Hir) depth 100 fits 100000

pub branch_send : (κ : NamedLft) → IsSend (branch.the_row κ)
branch_send κ = search (sendable, crosses, hir_sync, head_row_send, tail_row_send) depth 100 fits 100000

pub branches_send : (κ : NamedLft) → IsSend (branches.the_field κ).row
branches_send κ = search (sendable, crosses, hir_sync, branch_send, signs_row_sync, means_send) depth 100 fits 100000

pub apart_send : (κ : NamedLft) → IsSend (apart.the_row κ)
apart_send κ = search (sendable, crosses, branches_send) depth 100 fits 100000

pub searcher_send : (κ : NamedLft) → IsSend (searcher.the_field κ).row
searcher_send κ = search (sendable, crosses, forward_send, reverse_send, tagged_send, bits_send, pikevm_send, backtracker_send, pace_send, gait_send, head_row_send, apart_send, program_row_sync) depth 100 fits 100000

pub engine_send : (κ : NamedLft) → IsSend (engine.the_field κ).row
engine_send κ = search (sendable, crosses, searcher_send) depth 100 fits 100000

pub matcher_send : (κ : NamedLft) → IsSend (matcher.the_field κ).row
matcher_send κ = search (sendable, crosses, engine_send) depth 100 fits 100000

pub expression_send : IsSend expression.the_row
expression_send = search (sendable, crosses, matcher_send) depth 100 fits 100000

pub searches_send : IsSend searches.the_row
searches_send = search (sendable, crosses, expression_send) depth 100 fits 100000
