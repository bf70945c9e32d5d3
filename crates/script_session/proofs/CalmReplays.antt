-- Two calm runs of one script leave the same.
-- For the contract of `calm_replays_agree`.
use Rattle.std.proofs.Common.{◌≡◌, ℕ, zero, suc, ◌<◌, List, [], ◌∷◌, ◌++◌, length, slice_index, Option, Some, None, Ok, Err, inl, inr, refl, ap, sym, subst, ◌∙◌, append-nil, arith}
use Rattle.std.specs.Prelude.{IfSome}
use Rattle.span_ids.specs.declared.outcome.Reason.TheVariants.{InvalidId, QueueFull, NoMemory, Evicted, NotSampled, LateNotSampled, ExporterDown}
use Rattle.drop_ledger.specs.declared.count.Count.{Count}
use Rattle.drop_ledger.specs.declared.count.Count.TheVariants.{Received, Handed, Dropped}
use Rattle.drop_ledger.specs.Places.{place_of}
use Rattle.span_sink.specs.LineSinks.{LineSinkState, up_state}
use Rattle.tsc_script.specs.Instructions.{Instruction}
use Rattle.tsc_script.specs.Script.{instructions_of}
use Rattle.tsc_script.specs.Progress.{Ends, StopsAt}
use Rattle.script_run.specs.World.{ScriptWorld, new_world, PlaysAll}
use Rattle.script_run.specs.Calm.{Calm}
use Rattle.script_run.specs.Laws.{CalmScriptsAgree, CalmStopsAgree}
use Rattle.script_session.specs.Replay.{ReplayRun, first_state}
use Rattle.script_session.specs.CalmReplays.{with_end, EndsCalmly, PlayedCalmly, RefusesCalmly, LeavesTheSame, CalmReplaysAgree}

-- a script that was read to its end says what was played
ends_says : (script : List ℕ) (after : Option (List ℕ)) (played : List Instruction) → Ends (Some script) after played → instructions_of script ≡ Ok played
ends_says script None played e = absurd e.consumed
ends_says script (Some left) played e = ap instructions_of (e.consumed ∙ ap (λ (more : List ℕ). e.script ++ more) e.at_end ∙ append-nil e.script) ∙ e.says_all

-- lists of one length with the same at each place are the same
same_list : (xs ys : List ℕ) → length xs ≡ length ys → ((k : ℕ) → k < length xs → slice_index xs k ≡ slice_index ys k) → xs ≡ ys
same_list [] [] e h = refl
same_list [] (y ∷ ys) e h = absurd (omega (arith, e))
same_list (x ∷ xs) [] e h = absurd (omega (arith, e))
same_list (x ∷ xs) (y ∷ ys) e h =
    let first : x ≡ y = h 0 (omega arith) in
    let rest : xs ≡ ys = same_list xs ys (omega (arith, e)) (λ k l. h (suc k) (omega (arith, l))) in cc

-- nine numbers are those of their counts
same_numbers : (xs ys : List ℕ) → length xs ≡ 9 → length ys ≡ 9 → ((count : Count) → slice_index xs (place_of count) ≡ slice_index ys (place_of count)) → xs ≡ ys
same_numbers xs ys e f h = same_list xs ys (e ∙ sym f) (λ k l. at k (omega (arith, e, l)))
  where
    at : (k : ℕ) → k < 9 → slice_index xs k ≡ slice_index ys k
    at zero l = h Received
    at (suc zero) l = h Handed
    at (suc (suc zero)) l = h (Dropped InvalidId)
    at (suc (suc (suc zero))) l = h (Dropped QueueFull)
    at (suc (suc (suc (suc zero)))) l = h (Dropped NoMemory)
    at (suc (suc (suc (suc (suc zero))))) l = h (Dropped Evicted)
    at (suc (suc (suc (suc (suc (suc zero)))))) l = h (Dropped NotSampled)
    at (suc (suc (suc (suc (suc (suc (suc zero))))))) l = h (Dropped LateNotSampled)
    at (suc (suc (suc (suc (suc (suc (suc (suc zero)))))))) l = h (Dropped ExporterDown)
    at (suc (suc (suc (suc (suc (suc (suc (suc (suc k))))))))) l = absurd (omega (arith, l))

-- the world to which a run stopped, and its sink
record Stopped (run : ReplayRun) (script : List ℕ) (line : ℕ) : Type 0 where
  world : ScriptWorld
  at : StopsAt (λ played. PlaysAll run.settings run.sizes (new_world run.lanes run.shards (first_state run)) played world) (Some script) run.unread_after.left line
  calm : Calm world
  sink : world.sink ≡ up_state run.taken_after run.failures_after

stopped : (run : ReplayRun) (script : List ℕ) (line : ℕ) → StopsAt (PlayedCalmly run) (Some script) run.unread_after.left line → Stopped run script line
stopped run script line (inl h) = record { world = h.3.1.after; at = inl (h.0, h.1, h.2, h.3.1.plays); calm = h.3.2; sink = h.3.1.sink }
stopped run script line (inr h) = record { world = h.3.1.after; at = inr (h.0, h.1, h.2, h.3.1.plays); calm = h.3.2; sink = h.3.1.sink }

-- the same sink in the end
leaves_same : (run other : ReplayRun) (a b : LineSinkState) → a ≡ up_state run.taken_after run.failures_after → b ≡ up_state other.taken_after other.failures_after → a ≡ b → LeavesTheSame run other
leaves_same run other a b e f g = let h = sym e ∙ g ∙ f in (ap (λ (s : LineSinkState). s.taken) h, ap (λ (s : LineSinkState). s.failures) h)

pub replays_agree : CalmScriptsAgree → CalmStopsAgree → CalmReplaysAgree
replays_agree scripts stops run taken failures unread script bytes is known = (ended, refused)
  where
    ended : (report reported : List ℕ) → EndsCalmly run report → EndsCalmly (with_end run taken failures unread) reported → (report ≡ reported) × LeavesTheSame run (with_end run taken failures unread)
    ended report reported h k =
        let a = h.0.2.0 in
        let b = k.0.2.0 in
        let m = ends_says script run.unread_after.left h.0.0 (subst (λ (before : Option (List ℕ)). Ends before run.unread_after.left h.0.0) is h.0.1) in
        let n = ends_says script unread.left k.0.0 (subst (λ (before : Option (List ℕ)). Ends before unread.left k.0.0) is k.0.1) in
        let same = scripts run.settings run.sizes run.lanes run.shards (first_state run) script h.0.0 k.0.0 a.after b.after m n a.plays b.plays h.1 k.1 in (
          same_numbers report reported a.reports.0 b.reports.0 (λ count. (a.reports.1 count).0 ∙ same.counts count ∙ sym (b.reports.1 count).0),
          leaves_same run (with_end run taken failures unread) a.after.sink b.after.sink a.sink b.sink (same.sink bytes known),
        )

    refused : (line other : ℕ) → RefusesCalmly run line → RefusesCalmly (with_end run taken failures unread) other → (line ≡ other) × LeavesTheSame run (with_end run taken failures unread)
    refused line other h k =
        let first : instructions_of script ≡ Err line = subst (λ (before : Option (List ℕ)). IfSome before (λ text. instructions_of text ≡ Err line)) is h.1 in
        let second : instructions_of script ≡ Err other = subst (λ (before : Option (List ℕ)). IfSome before (λ text. instructions_of text ≡ Err other)) is k.1 in
        let one : line ≡ other = cc in
        let a = stopped run script line (subst (λ (before : Option (List ℕ)). StopsAt (PlayedCalmly run) before run.unread_after.left line) is h.0) in
        let there = subst (λ (before : Option (List ℕ)). StopsAt (PlayedCalmly (with_end run taken failures unread)) before unread.left other) is k.0 in
        let b = stopped (with_end run taken failures unread) script line (subst (λ (number : ℕ). StopsAt (PlayedCalmly (with_end run taken failures unread)) (Some script) unread.left number) (sym one) there) in
        let same = stops run.settings run.sizes run.lanes run.shards (first_state run) script run.unread_after.left unread.left line a.world b.world a.at b.at a.calm b.calm in
        (one, leaves_same run (with_end run taken failures unread) a.world.sink b.world.sink a.sink b.sink (same.sink bytes known))
