-- A record is whole or not by its head and its payload.
use Rattle.std.proofs.Common.{◌≡◌, ℕ, ◌-◌, List, length, take, drop, arith, ◌∙◌, refl, length-take, length-drop}
use Rattle.std.specs.Bool.{Decides}
use Rattle.request_ledger.specs.Sums.{sums_of}
use Rattle.request_ledger.specs.Format.{told_len, head_bytes}
use Rattle.request_ledger.proofs.Found.{in_broken}
use Rattle.request_ledger.proofs.Heads.{told_below, told_is, torn, tested, held, none_read, some_read, first_read}
use Rattle.request_ledger.proofs.records.record_in.Goals as goal

length-behind : (bytes : List ℕ) → length (take (length bytes - 12) (drop 12 bytes)) ≡ length bytes - 12
length-behind bytes = let e : length (drop 12 bytes) ≡ length bytes - 12 = length-drop 12 bytes in omega (arith, length-take (length bytes - 12) (drop 12 bytes))

pub returns-then-bytes-lt-HEAD_LEN-clause-exact : goal.returns-then-bytes-lt-HEAD_LEN-clause-exact
returns-then-bytes-lt-HEAD_LEN-clause-exact c =
    none_read _ (torn c.args.bytes.now (told_below c.args.bytes.now (λ i. let f = c.type_inv.bytes i in omega arith)) (omega arith))

pub returns-then-bytes-lt-HEAD_LEN-clause-last : goal.returns-then-bytes-lt-HEAD_LEN-clause-last
returns-then-bytes-lt-HEAD_LEN-clause-last c =
    in_broken _ (torn c.args.bytes.now (told_below c.args.bytes.now (λ i. let f = c.type_inv.bytes i in omega arith)) (omega arith))

pub returns-then-len-behind-clause-exact : goal.returns-then-len-behind-clause-exact
returns-then-len-behind-clause-exact c =
    let bytes = c.args.bytes.now in
    let tells : told_len bytes ≡ c.from_le_bytes-len.result = told_is bytes _ c.from_le_bytes-len.ensures in
    none_read _ (torn bytes (omega arith) (omega (arith, tells, length-behind bytes)))

pub returns-then-len-behind-clause-last : goal.returns-then-len-behind-clause-last
returns-then-len-behind-clause-last c =
    let bytes = c.args.bytes.now in
    let tells : told_len bytes ≡ c.from_le_bytes-len.result = told_is bytes _ c.from_le_bytes-len.ensures in
    in_broken _ (torn bytes (omega arith) (omega (arith, tells, length-behind bytes)))

pub returns-then-not-is_head-clause-exact : goal.returns-then-not-is_head-clause-exact
returns-then-not-is_head-clause-exact c =
    let bytes = c.args.bytes.now in
    let len = c.from_le_bytes-len.result in
    let payload = take len (take (length bytes - 12) (drop 12 bytes)) in
    let tells : told_len bytes ≡ len = told_is bytes _ c.from_le_bytes-len.ensures in
    let same : Decides c.is_head.result (take 12 bytes ≡ head_bytes len (sums_of payload)) = c.is_head.ensures in
    none_read _ (tested bytes (take 12 bytes) payload len c.is_head.result tells (omega arith) (omega (arith, length-behind bytes)) refl (held bytes payload len tells refl) same ∙ c.if-not-is_head.true)

pub returns-then-not-is_head-clause-last : goal.returns-then-not-is_head-clause-last
returns-then-not-is_head-clause-last c =
    let bytes = c.args.bytes.now in
    let len = c.from_le_bytes-len.result in
    let payload = take len (take (length bytes - 12) (drop 12 bytes)) in
    let tells : told_len bytes ≡ len = told_is bytes _ c.from_le_bytes-len.ensures in
    let same : Decides c.is_head.result (take 12 bytes ≡ head_bytes len (sums_of payload)) = c.is_head.ensures in
    in_broken _ (tested bytes (take 12 bytes) payload len c.is_head.result tells (omega arith) (omega (arith, length-behind bytes)) refl (held bytes payload len tells refl) same ∙ c.if-not-is_head.true)

pub returns-clause-exact : goal.returns-clause-exact
returns-clause-exact c =
    let bytes = c.args.bytes.now in
    let len = c.from_le_bytes-len.result in
    let payload = take len (take (length bytes - 12) (drop 12 bytes)) in
    let tells : told_len bytes ≡ len = told_is bytes _ c.from_le_bytes-len.ensures in
    let same : Decides c.is_head.result (take 12 bytes ≡ head_bytes len (sums_of payload)) = c.is_head.ensures in
    let is = tested bytes (take 12 bytes) payload len c.is_head.result tells (omega arith) (omega (arith, length-behind bytes)) refl (held bytes payload len tells refl) same ∙ c.if-not-is_head.false in
    some_read bytes payload is (held bytes payload len tells refl)

pub returns-clause-first : goal.returns-clause-first
returns-clause-first c =
    let bytes = c.args.bytes.now in
    let len = c.from_le_bytes-len.result in
    let payload = take len (take (length bytes - 12) (drop 12 bytes)) in
    let tells : told_len bytes ≡ len = told_is bytes _ c.from_le_bytes-len.ensures in
    let same : Decides c.is_head.result (take 12 bytes ≡ head_bytes len (sums_of payload)) = c.is_head.ensures in
    let is = tested bytes (take 12 bytes) payload len c.is_head.result tells (omega arith) (omega (arith, length-behind bytes)) refl (held bytes payload len tells refl) same ∙ c.if-not-is_head.false in
    first_read bytes payload len is (held bytes payload len tells refl) tells (omega (arith, length-behind bytes))
