use Rattle.std.proofs.Common.{◌≡◌, [], ◌∷◌, ◌++◌, Some, refl, arith}
use Rattle.std.proofs.lemmas.Result.{on_ok_weaker}
use Rattle.json.specs.Json.{read_key}
use Rattle.serde_json.specs.Data.{array, object, no_items, no_members, put}
use Rattle.otlp_stream.specs.Taking.{items_then}
use Rattle.otlp_stream.proofs.Takes.{takes_string, takes_null, takes_boolean, takes_number}
use Rattle.otlp_stream.proofs.Streaming.{Within-start, Within-member, Within-end, takes_object, WithinItems-start, WithinItems-next, WithinItems-end, takes_array}
use Rattle.otlp_stream.proofs.take.+skip.Goals as goal

pub skip-returns-in-Some-String : goal.skip-returns-in-Some-String
skip-returns-in-Some-String t c = (_, takes_string c.args.depth _ _ _ (rw c.in-Some-String.field-0-is at c.in-Some-String.ensures.value))

pub skip-returns-in-Some-Bool : goal.skip-returns-in-Some-Bool
skip-returns-in-Some-Bool t c = (_, takes_boolean c.args.depth _ _ _ (rw c.in-Some-Bool.field-0-is at c.in-Some-Bool.ensures.value))

pub skip-returns-in-Some-Null : goal.skip-returns-in-Some-Null
skip-returns-in-Some-Null t c = (_, takes_null c.args.depth _ _ (rw c.in-Some-Null.field-0-is at c.in-Some-Null.ensures.value))

pub skip-returns-then-is_taken : goal.skip-returns-then-is_taken
skip-returns-then-is_taken t c =
    let n = c.is_taken.ensures c.if-is_taken.true in
    (_, takes_number c.args.depth _ _ _ n.0 (rw c.in-Some-Number.field-0-is at c.in-Some-Number.ensures.value) n.1)

pub skip-returns-else-depth-eq0 : goal.skip-returns-else-depth-eq0
skip-returns-else-depth-eq0 t c =
    on_ok_weaker c.skip_items.result
    (λ m. (array m.0, takes_array c.args.depth _ _ _ m.0 c.if-depth-eq0.false (rw c.in-Some-BeginArray.field-0-is at c.in-Some-BeginArray.ensures.value) m.1)) c.skip_items.ensures

pub skip-returns-else-depth-eq0-2 : goal.skip-returns-else-depth-eq0-2
skip-returns-else-depth-eq0-2 t c =
    on_ok_weaker c.skip_members.result
    (λ m. (object m.1.all, takes_object Some m.0 c.args.depth _ _ _ c.if-depth-eq0-2.false (rw c.in-Some-BeginObject.field-0-is at c.in-Some-BeginObject.ensures.value) m.1)) c.skip_members.ensures

pub skip_items-items-init : goal.skip_items-items-init
skip_items-items-init t c = ([], WithinItems-start c.args.depth c.args.reader.now)

pub skip_items-items-preserved : goal.skip_items-items-preserved
skip_items-items-preserved t c =
    let l = c.items in
    let w = l.invariant in
    let d = c.in_ok-skip.ensures in
    (w.0 ++ d.0 ∷ [], WithinItems-next c.args.depth c.args.reader.now l.reader w.0 c.take_end_array.new.self c.skip.new.reader d.0 w.1 (grind arith) (grind arith) d.1)

pub skip_items-returns : goal.skip_items-returns
skip_items-returns t c =
    let l = c.items in
    let w = l.invariant in
    (items_then w.0 no_items, WithinItems-end c.args.depth c.args.reader.now l.reader w.0 c.take_end_array.new.self w.1 (grind arith))

pub skip_members-members-init : goal.skip_members-members-init
skip_members-members-init t c = (no_members, Within-start c.args.depth c.args.reader.now)

pub skip_members-members-preserved : goal.skip_members-members-preserved
skip_members-members-preserved t c =
    let l = c.members in
    let w = l.invariant in
    let k = c.in-Some.field-0.now in
    let s = c.next_key.new.self in
    let named : read_key l.reader ≡ Some (Some k, s) = rw c.in-Some.is at c.in_ok-next_key.ensures.value in
    let d = c.in_ok-skip.ensures in
    (put k d.0 w.0, Within-member c.args.depth c.args.reader.now l.reader w.0 k s c.skip.new.reader d.0 w.1 named d.1)

pub skip_members-returns : goal.skip_members-returns
skip_members-returns t c =
    let l = c.members in
    let w = l.invariant in
    (w.0, Within-end Some w.0 c.args.depth c.args.reader.now l.reader w.0 c.next_key.new.self w.1 (grind arith) refl)
