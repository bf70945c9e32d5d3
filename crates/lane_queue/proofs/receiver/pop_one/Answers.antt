use Rattle.std.proofs.Common.{◌≡◌, ap, set, ◌∙◌, Some, slice_get, vec_len, rules}
use Rattle.std.proofs.lemmas.List.{set-get_or}
use Rattle.std.proofs.lemmas.Option.{slice_get_read}
use Rattle.lane_queue.proofs.EndLists.{same_queues}
use Rattle.lane_queue.proofs.receiver.pop_one.Goals as goal

pub returns-in-Some-clause-same_queues : goal.returns-in-Some-clause-same_queues
returns-in-Some-clause-same_queues g c =
    let items = c.args.outlets.now.items in
    let place = c.args.place in
    let end = c.index_mut-outlet.result.now in
    let there : slice_get items place ≡ Some end = slice_get_read items (vec_len c.args.outlets.now) place end (search rules) (search rules) c.index_mut-outlet.ensures.value in
    same_queues items place end _ there (ap (λ e. e.queue) c.in-Some.ensures.first.0)

pub returns-clause-empty : goal.returns-clause-empty
returns-clause-empty g c =
    let items = c.args.outlets.now.items in
    let place = c.args.place in
    let end = c.index_mut-outlet.result.now in
    let there : slice_get items place ≡ Some end = slice_get_read items (vec_len c.args.outlets.now) place end (search rules) (search rules) c.index_mut-outlet.ensures.value in (
      ap (λ e. set items place e) (c.in_default.ensures.empty.0 ∙ c.index_mut-outlet.ensures.value) ∙ set-get_or items place end,
      (end, there, c.in_default.ensures.empty.1),
    )
