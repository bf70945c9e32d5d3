-- When requests are refused since the process takes too much memory.
use Rattle.std.specs.Prelude.{ℕ, ◌+◌, ◌-◌, ◌*◌, ◌/◌, ◌^◌, ◌==◌, Bool, ◌&&◌, if◌then◌else◌, nat_le, nat_lt, min, max}

-- what is known of the process's memory: the most that it took since it went beyond its limit, and how many spans may
-- wait again before requests are taken
pub record MemoryState : Type 0 where
  pub limit : ℕ
  pub most : ℕ
  pub release : ℕ

-- how many spans may still wait, where `waiting` did when the process grew to this size: an eighth fewer, and half of
-- them once it is an eighth beyond its limit
abbrev pub release_of : (limit taken waiting : ℕ) → ℕ
release_of limit taken waiting = if nat_le taken (limit + limit / 8) then waiting - waiting / 8 else waiting / 2

-- the state once the process takes `taken` while `waiting` spans wait: freed memory is used again before the process
-- grows, so only its growth counts
abbrev pub memory_after : MemoryState → (taken waiting : ℕ) → MemoryState
memory_after state taken waiting =
    if nat_le taken state.limit then record state { most = state.limit; release = 0 }
    else if nat_le taken state.most then state
    else record state { most = taken; release = release_of state.limit taken waiting }

-- where requests are refused, and the process is more than an eighth beyond its limit, no more spans are kept, unless
-- fewer wait than when it grew to its size: then those are kept in what was freed
abbrev pub is_shorter : MemoryState → (taken waiting : ℕ) → Bool
is_shorter state taken waiting = nat_lt (state.limit + state.limit / 8) taken && nat_le state.release (waiting / 2)

-- how many milliseconds to wait until the next look: one for each two mebibytes that may still be taken, since a process
-- doesn't grow faster, from two to a hundred
abbrev pub pause_before : (limit taken : ℕ) → ℕ
pause_before limit taken = min (max ((limit - taken) / 1048576 / 2) 2) 100

-- then requests are refused
abbrev pub is_short : MemoryState → (taken waiting : ℕ) → Bool
is_short state taken waiting = nat_lt state.limit taken && nat_lt state.release waiting

-- the bytes that a process may take whose limit is so many mebibytes, where 0 is none
abbrev pub limit_of : (mebibytes : ℕ) → ℕ
limit_of mebibytes = if mebibytes == 0 then 2 ^ 64 - 1 else min (mebibytes * 1048576) (2 ^ 64 - 1)
