-- What the answer of a run on a listener tells of its outcome.
-- For what `serve_by` ensures.
use Rattle.std.proofs.Common.{◌≡◌, ℕ, Bool, List, Option, Result, Ok, Err, None, inl, inr, refl, sym, subst, true, false}
use Rattle.drop_ledger.specs.declared.report.Report.{Report}
use Rattle.pipeline.specs.declared.fault.ServeFault.{ServeFault}
use Rattle.pipeline.specs.declared.fault.ServeFault.TheVariants.{NoMemory, CounterOverflow, SinkDown}
use Rattle.tsc_config.specs.declared.config.Config.{Config}
use Rattle.collector_commands.specs.Configuration.{IsConfigOf}
use Rattle.collector_main.specs.Serving.{served_to}
use Rattle.collector_commands.specs.Courses.{Course}
use Rattle.collector_main.specs.Serving.{SendsTo, RunsTo, FilesTo, RanOn, Serves, prints, writes_file}
use Rattle.collector_commands.specs.declared.outcome.Outcome.{Outcome}

-- what a run by a configuration answered
Serves-answered : (course : Course) (answer : Result Report ServeFault) → RanOn course (served_to answer) → Serves course (served_to answer)
Serves-answered course (Ok report) ran = ran
Serves-answered course (Err NoMemory) ran = inr ran
Serves-answered course (Err CounterOverflow) ran = ran
Serves-answered course (Err (SinkDown report)) ran = ran

Serves-ran : (course : Course) (answer : Result Report ServeFault) (outcome : Outcome) → outcome ≡ served_to answer → RanOn course outcome → Serves course outcome
Serves-ran course answer outcome is ran = subst (λ o. Serves course o) (sym is) (Serves-answered course answer (subst (λ o. RanOn course o) is ran))

-- nothing was done for want of memory, or since it couldn't be listened
pub sends-starved : (config : Config) (lines : Bool) (taken taken_after : Option (List ℕ)) → config.export.lines ≡ lines → taken_after ≡ taken → SendsTo config taken taken_after (served_to (Err NoMemory))
sends-starved config false taken taken_after is same = inl (is, same, (None, None, inr (0, Err NoMemory, (refl, refl), tt, refl)))
sends-starved config true taken taken_after is same = inr (is, inr (0, Err NoMemory, (same, refl), tt, refl))

runs-starved : (config : Config) (is : Bool) (taken : Option (List ℕ)) → prints config ≡ is → RunsTo config taken taken (served_to (Err NoMemory))
runs-starved config true taken printed = inl (printed, inr (0, Err NoMemory, (refl, refl), tt, refl))
runs-starved config false taken sent = inr (sent, sends-starved config config.export.lines taken taken refl refl)

-- where a run by a configuration came to, which says that the lines go to no file
pub Serves-runs : (course : Course) (config : Config) (outcome : Outcome) → IsConfigOf course.file config → writes_file config ≡ false → course.unread_after ≡ course.unread
    → RunsTo config course.taken course.taken_after outcome → Serves course outcome
Serves-runs course config outcome read here unread (inl (printed, inl x)) = subst (λ o. Serves course o) (sym x.1) (config, read, (unread, x.0))
Serves-runs course config outcome read here unread (inl (printed, inr x)) =
    Serves-ran course x.1 outcome x.4
    (inl (record { config = config; is_read = read; printed = printed; here = here; failures_after = x.0; answer = x.1; sink = x.2; ran = x.3; unread = unread; outcome_is = x.4 }))
Serves-runs course config outcome read here unread (inr (sent, inl (off, same, (t, u, inl x)))) = subst (λ o. Serves course o) (sym x.1) (config, read, (unread, same))
Serves-runs course config outcome read here unread (inr (sent, inl (off, same, (t, u, inr x)))) =
    Serves-ran course x.1 outcome x.4
    (inr (inl (record { config = config; is_read = read; sent = sent; here = here; sends = inl (off, same, (t, u, inr x)); unread = unread })))
Serves-runs course config outcome read here unread (inr (sent, inr (on, inl x))) = subst (λ o. Serves course o) (sym x.1) (config, read, (unread, x.0))
Serves-runs course config outcome read here unread (inr (sent, inr (on, inr x))) =
    Serves-ran course x.1 outcome x.4
    (inr (inl (record { config = config; is_read = read; sent = sent; here = here; sends = inr (on, inr x); unread = unread })))

-- where a run came to whose lines went to a file
filed : (course : Course) (config : Config) (outcome : Outcome) → IsConfigOf course.file config → writes_file config ≡ true → course.unread_after ≡ course.unread
    → FilesTo config course.taken course.taken_after outcome → RanOn course outcome
filed course config outcome read file unread to = inr (inr (record { config = config; is_read = read; filed = file; files = to; unread = unread }))

filed-runs : (course : Course) (config : Config) (outcome : Outcome) (before after : Option (List ℕ)) → IsConfigOf course.file config → course.unread_after ≡ course.unread → course.taken_after ≡ course.taken
    → RanOn course outcome → RunsTo config before after outcome → Serves course outcome
filed-runs course config outcome before after read unread same ran (inl (printed, inl x)) = subst (λ o. Serves course o) (sym x.1) (config, read, (unread, same))
filed-runs course config outcome before after read unread same ran (inl (printed, inr x)) = Serves-ran course x.1 outcome x.4 ran
filed-runs course config outcome before after read unread same ran (inr (sent, inl (off, stays, (t, u, inl x)))) = subst (λ o. Serves course o) (sym x.1) (config, read, (unread, same))
filed-runs course config outcome before after read unread same ran (inr (sent, inl (off, stays, (t, u, inr x)))) = Serves-ran course x.1 outcome x.4 ran
filed-runs course config outcome before after read unread same ran (inr (sent, inr (on, inl x))) = subst (λ o. Serves course o) (sym x.1) (config, read, (unread, same))
filed-runs course config outcome before after read unread same ran (inr (sent, inr (on, inr x))) = Serves-ran course x.1 outcome x.4 ran

pub Serves-files : (course : Course) (config : Config) (outcome : Outcome) → IsConfigOf course.file config → writes_file config ≡ true → course.unread_after ≡ course.unread
    → FilesTo config course.taken course.taken_after outcome → Serves course outcome
Serves-files course config outcome read file unread to = filed-runs course config outcome to.1.0 to.1.1 read unread to.0 (filed course config outcome read file unread to) to.1.2

-- where a run by a configuration came to, whether or not its lines went to a file
pub Serves-to : (course : Course) (config : Config) (outcome : Outcome) (file : Bool) → writes_file config ≡ file → IsConfigOf course.file config → course.unread_after ≡ course.unread
    → (writes_file config ≡ false → RunsTo config course.taken course.taken_after outcome) → (writes_file config ≡ true → FilesTo config course.taken course.taken_after outcome) → Serves course outcome
Serves-to course config outcome true is read unread here filed = Serves-files course config outcome read is unread (filed is)
Serves-to course config outcome false is read unread here filed = Serves-runs course config outcome read is unread (here is)

-- there was no memory before the run
pub Serves-starved : (course : Course) (config : Config) (is : Bool) → prints config ≡ is → IsConfigOf course.file config → course.unread_after ≡ course.unread → course.taken_after ≡ course.taken
    → Serves course (served_to (Err NoMemory))
Serves-starved course config is printed read unread same =
    Serves-to course config (served_to (Err NoMemory)) (writes_file config) refl read unread
    (λ here. subst (λ (after : Option (List ℕ)). RunsTo config course.taken after (served_to (Err NoMemory))) (sym same) (runs-starved config is course.taken printed))
    (λ file. (same, (None, None, runs-starved config is None printed)))
