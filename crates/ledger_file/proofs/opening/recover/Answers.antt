-- What was found, and what a crash leaves of it: `visited`, `parameters`, `rests` and `crash` of `recover`.
use Rattle.std.proofs.Common.{◌≡◌, ◌++◌, ◌+◌, List, ℕ, length, drop, inl, inr, ⊎_elim, rules, sym, ◌∙◌, ap, subst}
use Rattle.std.specs.Int.{w32, to_le_bytes}
use Rattle.std.proofs.lemmas.List.Sums.{fold-append}
use Rattle.sqlite_disk.specs.Disk.{Only}
use Rattle.ledger_file.specs.Checksum.{after_byte, after_bytes}
use Rattle.ledger_file.specs.Format.{frames, records_in, seed_of, magic}
use Rattle.ledger_file.specs.Reading.{BeginsWith, MayBeShut, IsShutNow}
use Rattle.ledger_file.proofs.Ends.{all_found, is_named, after_crash, at_rest}
use Rattle.ledger_file.proofs.opening.recover.Goals as goal

seeded : (start parameters slice : List ℕ) (len size middle seed : ℕ) → start ≡ magic ++ to_le_bytes w32 len → len ≡ length parameters → slice ≡ parameters → middle ≡ after_bytes 0xFFFFFFFF start → seed ≡ after_bytes middle slice → seed ≡ seed_of parameters
seeded start parameters slice len size middle seed starts lens same middle_is is =
    is ∙ ap (λ (l : List ℕ). after_bytes middle l) same ∙ ap (λ (k : ℕ). after_bytes k parameters) (middle_is ∙ ap (after_bytes 0xFFFFFFFF) (starts ∙ ap (λ (k : ℕ). magic ++ to_le_bytes w32 k) lens))
    ∙ sym (fold-append after_byte 0xFFFFFFFF (magic ++ to_le_bytes w32 (length parameters)) parameters)

pub returns-clause-visited : goal.returns-clause-visited
returns-clause-visited g c =
    let given = c.in_ok-place.ensures.visited in (
      given.0,
      given.1,
      λ clean.
          let f0 = g.D.Disk.seen c.args.disk.now in
          let p = c.in_ok-parameters.parameters.items in
          let seed = c.extend_checksum-seed.result in
          let clean4 = c.shut.ensures.clean clean in
          let clean3 = c.visit_records.ensures.only.clean clean4 in
          let same_len : g.D.Disk.seen c.len.new.self ≡ f0 = c.len.ensures.seen ∙ c.sync.ensures.seen in
          let same3 : g.D.Disk.seen c.read_parameters.new.disk ≡ f0 = c.read_parameters.ensures.only.same ∙ same_len in
          let begins : BeginsWith f0 p = subst (λ f. BeginsWith f p) same_len (c.in_ok-parameters.ensures.found clean3) in
          let known = c.in_ok-parameters.ensures.fits.0 in
          let len2 : c.len-2.result ≡ length p = search rules in
          let len3 : 12 + c.len-3.result ≡ 12 + length p = search rules in
          let seeds : seed ≡ seed_of p = seeded c.header_start-start.result p c.deref.result.now c.len-2.result 0 c.extend_checksum.result seed c.header_start-start.ensures len2 c.deref.ensures.value c.extend_checksum.ensures c.extend_checksum-seed.ensures in
          let place : c.in_ok-place.place ≡ 12 + c.len-3.result + length (frames seed (records_in seed (drop (12 + c.len-3.result) f0))) =
          subst (λ f. c.in_ok-place.place ≡ 12 + c.len-3.result + length (frames seed (records_in seed (drop (12 + c.len-3.result) f)))) same3 (c.in_ok-place.ensures.place clean4) in
          given.2 clean4 ∙ ap (λ f. records_in seed (drop (12 + c.len-3.result) f)) same3 ∙ all_found f0 p known begins c.in_ok-place.place seed (12 + c.len-3.result) seeds len3 place,
    )

pub returns-clause-batch : goal.returns-clause-batch
returns-clause-batch g c = (
  c.in_ok-batch.ensures.none,
  λ clean.
      let f0 = g.D.Disk.seen c.args.disk.now in
      let p = c.in_ok-parameters.parameters.items in
      let seed = c.extend_checksum-seed.result in
      let clean4 = c.shut.ensures.clean clean in
      let clean3 = c.visit_records.ensures.only.clean clean4 in
      let same_len : g.D.Disk.seen c.len.new.self ≡ f0 = c.len.ensures.seen ∙ c.sync.ensures.seen in
      let same3 : g.D.Disk.seen c.read_parameters.new.disk ≡ f0 = c.read_parameters.ensures.only.same ∙ same_len in
      let begins : BeginsWith f0 p = subst (λ f. BeginsWith f p) same_len (c.in_ok-parameters.ensures.found clean3) in
      let known = c.in_ok-parameters.ensures.fits.0 in
      let len2 : c.len-2.result ≡ length p = search rules in
      let len3 : 12 + c.len-3.result ≡ 12 + length p = search rules in
      let seeds : seed ≡ seed_of p = seeded c.header_start-start.result p c.deref.result.now c.len-2.result 0 c.extend_checksum.result seed c.header_start-start.ensures len2 c.deref.ensures.value c.extend_checksum.ensures c.extend_checksum-seed.ensures in
      let place : c.in_ok-place.place ≡ 12 + c.len-3.result + length (frames seed (records_in seed (drop (12 + c.len-3.result) f0))) =
      subst (λ f. c.in_ok-place.place ≡ 12 + c.len-3.result + length (frames seed (records_in seed (drop (12 + c.len-3.result) f)))) same3 (c.in_ok-place.ensures.place clean4) in
      c.in_ok-batch.ensures.seed ∙ seeds ∙ ap seed_of (sym (is_named f0 p known begins c.in_ok-place.place seed (12 + c.len-3.result) seeds len3 place)),
)

pub returns-clause-parameters : goal.returns-clause-parameters
returns-clause-parameters g c clean =
    let f0 = g.D.Disk.seen c.args.disk.now in
    let p = c.in_ok-parameters.parameters.items in
    let seed = c.extend_checksum-seed.result in
    let clean4 = c.shut.ensures.clean clean in
    let clean3 = c.visit_records.ensures.only.clean clean4 in
    let same_len : g.D.Disk.seen c.len.new.self ≡ f0 = c.len.ensures.seen ∙ c.sync.ensures.seen in
    let same3 : g.D.Disk.seen c.read_parameters.new.disk ≡ f0 = c.read_parameters.ensures.only.same ∙ same_len in
    let begins : BeginsWith f0 p = subst (λ f. BeginsWith f p) same_len (c.in_ok-parameters.ensures.found clean3) in
    let known = c.in_ok-parameters.ensures.fits.0 in
    let len2 : c.len-2.result ≡ length p = search rules in
    let len3 : 12 + c.len-3.result ≡ 12 + length p = search rules in
    let seeds : seed ≡ seed_of p = seeded c.header_start-start.result p c.deref.result.now c.len-2.result 0 c.extend_checksum.result seed c.header_start-start.ensures len2 c.deref.ensures.value c.extend_checksum.ensures c.extend_checksum-seed.ensures in
    let place : c.in_ok-place.place ≡ 12 + c.len-3.result + length (frames seed (records_in seed (drop (12 + c.len-3.result) f0))) =
    subst (λ f. c.in_ok-place.place ≡ 12 + c.len-3.result + length (frames seed (records_in seed (drop (12 + c.len-3.result) f)))) same3 (c.in_ok-place.ensures.place clean4) in
    sym (is_named f0 p known begins c.in_ok-place.place seed (12 + c.len-3.result) seeds len3 place)

pub returns-clause-rests : goal.returns-clause-rests
returns-clause-rests g c clean =
    let f0 = g.D.Disk.seen c.args.disk.now in
    let p = c.in_ok-parameters.parameters.items in
    let seed = c.extend_checksum-seed.result in
    let clean4 = c.shut.ensures.clean clean in
    let clean3 = c.visit_records.ensures.only.clean clean4 in
    let same_len : g.D.Disk.seen c.len.new.self ≡ f0 = c.len.ensures.seen ∙ c.sync.ensures.seen in
    let same3 : g.D.Disk.seen c.read_parameters.new.disk ≡ f0 = c.read_parameters.ensures.only.same ∙ same_len in
    let begins : BeginsWith f0 p = subst (λ f. BeginsWith f p) same_len (c.in_ok-parameters.ensures.found clean3) in
    let known = c.in_ok-parameters.ensures.fits.0 in
    let len2 : c.len-2.result ≡ length p = search rules in
    let len3 : 12 + c.len-3.result ≡ 12 + length p = search rules in
    let seeds : seed ≡ seed_of p = seeded c.header_start-start.result p c.deref.result.now c.len-2.result 0 c.extend_checksum.result seed c.header_start-start.ensures len2 c.deref.ensures.value c.extend_checksum.ensures c.extend_checksum-seed.ensures in
    let place : c.in_ok-place.place ≡ 12 + c.len-3.result + length (frames seed (records_in seed (drop (12 + c.len-3.result) f0))) =
    subst (λ f. c.in_ok-place.place ≡ 12 + c.len-3.result + length (frames seed (records_in seed (drop (12 + c.len-3.result) f)))) same3 (c.in_ok-place.ensures.place clean4) in
    let same4 : g.D.Disk.seen c.visit_records.new.disk ≡ f0 = c.visit_records.ensures.only.same ∙ same3 in
    let only : Only f0 (g.D.Disk.may_leave c.visit_records.new.disk) = λ x left. c.in_ok-sync.ensures.durable x (c.len.ensures.crash x (c.read_parameters.ensures.only.crash x (c.visit_records.ensures.only.crash x left))) in
    at_rest f0 p known begins c.in_ok-place.place seed (12 + c.len-3.result) seeds len3 place g.D.Disk.may_leave c.shut.new.disk (g.D.Disk.may_leave c.visit_records.new.disk) only
    (λ x left. subst (λ f. IsShutNow (g.D.Disk.may_leave c.visit_records.new.disk) f c.in_ok-place.place x) same4 (c.in_ok-shut.ensures.done clean x left))

pub returns-clause-crash : goal.returns-clause-crash
returns-clause-crash g c clean file left =
    let f0 = g.D.Disk.seen c.args.disk.now in
    let p = c.in_ok-parameters.parameters.items in
    let seed = c.extend_checksum-seed.result in
    let clean4 = c.shut.ensures.clean clean in
    let clean3 = c.visit_records.ensures.only.clean clean4 in
    let same_len : g.D.Disk.seen c.len.new.self ≡ f0 = c.len.ensures.seen ∙ c.sync.ensures.seen in
    let same3 : g.D.Disk.seen c.read_parameters.new.disk ≡ f0 = c.read_parameters.ensures.only.same ∙ same_len in
    let begins : BeginsWith f0 p = subst (λ f. BeginsWith f p) same_len (c.in_ok-parameters.ensures.found clean3) in
    let known = c.in_ok-parameters.ensures.fits.0 in
    let len2 : c.len-2.result ≡ length p = search rules in
    let len3 : 12 + c.len-3.result ≡ 12 + length p = search rules in
    let seeds : seed ≡ seed_of p = seeded c.header_start-start.result p c.deref.result.now c.len-2.result 0 c.extend_checksum.result seed c.header_start-start.ensures len2 c.deref.ensures.value c.extend_checksum.ensures c.extend_checksum-seed.ensures in
    let place : c.in_ok-place.place ≡ 12 + c.len-3.result + length (frames seed (records_in seed (drop (12 + c.len-3.result) f0))) =
    subst (λ f. c.in_ok-place.place ≡ 12 + c.len-3.result + length (frames seed (records_in seed (drop (12 + c.len-3.result) f)))) same3 (c.in_ok-place.ensures.place clean4) in
    let same4 : g.D.Disk.seen c.visit_records.new.disk ≡ f0 = c.visit_records.ensures.only.same ∙ same3 in
    let only : Only f0 (g.D.Disk.may_leave c.visit_records.new.disk) = λ x left. c.in_ok-sync.ensures.durable x (c.len.ensures.crash x (c.read_parameters.ensures.only.crash x (c.visit_records.ensures.only.crash x left))) in
    ⊎_elim
    (λ before. inl (c.sync.ensures.crash file (c.len.ensures.crash file (c.read_parameters.ensures.only.crash file (c.visit_records.ensures.only.crash file before)))))
    (λ m. inr (after_crash f0 p known begins c.in_ok-place.place seed (12 + c.len-3.result) seeds len3 place (g.D.Disk.may_leave c.visit_records.new.disk) only file (subst (λ f. MayBeShut (g.D.Disk.may_leave c.visit_records.new.disk) f c.in_ok-place.place file) same4 m)))
    (c.shut.ensures.crash clean file left)

pub returns-in_err-shut-clause-crash : goal.returns-in_err-shut-clause-crash
returns-in_err-shut-clause-crash g c clean file left =
    let f0 = g.D.Disk.seen c.args.disk.now in
    let p = c.in_ok-parameters.parameters.items in
    let seed = c.extend_checksum-seed.result in
    let clean4 = c.shut.ensures.clean clean in
    let clean3 = c.visit_records.ensures.only.clean clean4 in
    let same_len : g.D.Disk.seen c.len.new.self ≡ f0 = c.len.ensures.seen ∙ c.sync.ensures.seen in
    let same3 : g.D.Disk.seen c.read_parameters.new.disk ≡ f0 = c.read_parameters.ensures.only.same ∙ same_len in
    let begins : BeginsWith f0 p = subst (λ f. BeginsWith f p) same_len (c.in_ok-parameters.ensures.found clean3) in
    let known = c.in_ok-parameters.ensures.fits.0 in
    let len2 : c.len-2.result ≡ length p = search rules in
    let len3 : 12 + c.len-3.result ≡ 12 + length p = search rules in
    let seeds : seed ≡ seed_of p = seeded c.header_start-start.result p c.deref.result.now c.len-2.result 0 c.extend_checksum.result seed c.header_start-start.ensures len2 c.deref.ensures.value c.extend_checksum.ensures c.extend_checksum-seed.ensures in
    let place : c.in_ok-place.place ≡ 12 + c.len-3.result + length (frames seed (records_in seed (drop (12 + c.len-3.result) f0))) =
    subst (λ f. c.in_ok-place.place ≡ 12 + c.len-3.result + length (frames seed (records_in seed (drop (12 + c.len-3.result) f)))) same3 (c.in_ok-place.ensures.place clean4) in
    let same4 : g.D.Disk.seen c.visit_records.new.disk ≡ f0 = c.visit_records.ensures.only.same ∙ same3 in
    let only : Only f0 (g.D.Disk.may_leave c.visit_records.new.disk) = λ x left. c.in_ok-sync.ensures.durable x (c.len.ensures.crash x (c.read_parameters.ensures.only.crash x (c.visit_records.ensures.only.crash x left))) in
    ⊎_elim
    (λ before. inl (c.sync.ensures.crash file (c.len.ensures.crash file (c.read_parameters.ensures.only.crash file (c.visit_records.ensures.only.crash file before)))))
    (λ m. inr (after_crash f0 p known begins c.in_ok-place.place seed (12 + c.len-3.result) seeds len3 place (g.D.Disk.may_leave c.visit_records.new.disk) only file (subst (λ f. MayBeShut (g.D.Disk.may_leave c.visit_records.new.disk) f c.in_ok-place.place file) same4 m)))
    (c.shut.ensures.crash clean file left)
