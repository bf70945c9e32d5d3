-- When a connection is used again, and for how long its reads and writes wait.
use Rattle.std.specs.Prelude.{ℕ, zero, suc, Bool, true, false, if◌then◌else◌, Option, Some, None}
use Rattle.post_socket.specs.declared.connecting.Peeked.{Peeked}
use Rattle.post_socket.specs.declared.connecting.Peeked.TheVariants.{Nothing, End, Bytes, Fault}
use Rattle.post_socket.specs.declared.connecting.SocketLimits.{SocketLimits}

-- what a look found that saw this number of bytes, or, without one, that would have had to wait for some, or failed
abbrev pub found_at : (bytes : Option ℕ) → (would_block : Bool) → Peeked
found_at (Some zero) would_block = End
found_at (Some (suc n)) would_block = Bytes
found_at None true = Nothing
found_at None false = Fault

-- a connection is used again on which nothing came, not even its end
abbrev pub may_be_used : Peeked → Bool
may_be_used Nothing = true
may_be_used End = false
may_be_used Bytes = false
may_be_used Fault = false

-- neither reads nor writes wait longer than an attempt may take, in milliseconds
abbrev pub limits_of : (limit : ℕ) → SocketLimits
limits_of limit = record { read = Some limit; write = Some limit }
