use Rattle.std.proofs.Common.{◌≡◌, ℕ, ◌+◌, ◌-◌, ◌≤◌, List, take, drop, length, ap, arith, length-take}
use Rattle.std.proofs.lemmas.List.{drop-take, drop-drop}
use Rattle.tsc_script.specs.ToRead.{BufferState}
use Rattle.tsc_script.proofs.buffer.ReadBuffer.consume.Goals as goal

later : (xs : List ℕ) (at filled n : ℕ) → at + n ≤ filled → take (filled - (at + n)) (drop (at + n) xs) ≡ drop n (take (filled - at) (drop at xs))
later xs at filled n h =
    let sum : filled - at ≡ n + (filled - (at + n)) = omega arith in
    rw (sum, drop-take, drop-drop)

within : (xs bytes : List ℕ) (at filled n : ℕ) → at ≤ filled → take (filled - at) (drop at xs) ≡ bytes → n ≤ length bytes → at + n ≤ filled
within xs bytes at filled n o e h = omega (arith, ap length e, length-take (filled - at) (drop at xs))

pub returns-clause-bytes : goal.returns-clause-bytes
returns-clause-bytes g c =
    rw (← c.self.view_is) (later c.self.inside.chunk.items c.self.inside.at c.self.inside.filled c.args.count
    (within c.self.inside.chunk.items c.args.self.now.bytes _ _ _ c.self.invariant.0 (ap (λ (b : BufferState). b.bytes) c.self.view_is) c.requires))
