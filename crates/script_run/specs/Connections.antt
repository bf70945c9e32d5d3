-- The connections of a script.
use Rattle.std.specs.Prelude.{ℕ, nat_eq, List, ◌+◌, ◌%◌, length, slice_index, slice_set, Option, Some, None}
use Rattle.std.specs.Map.{lookup}
use Rattle.indexmap.specs.IndexMap.{insert_entry}
use Rattle.lane_seq.specs.declared.preparing.Conn.{Conn}

-- the connections by their numbers in the script, in the order of their first use
abbrev pub Connections : Type 0
Connections = List (ℕ × Conn)

-- a new connection of a lane that has had so many: its first span has number 0
abbrev pub new_connection : (lane connected : ℕ) → Conn
new_connection lane connected = record { key = record { lane = lane; ordinal = connected }; next = 0 }

-- a connection has received so many more spans
abbrev pub with_spans : (number : ℕ) → Conn → (spans : ℕ) → Connections → Connections
with_spans number conn spans known = insert_entry nat_eq known number (record conn { next = conn.next + spans })

-- the connections, and how many each lane has had
pub record Contacts : Type 0 where
  pub connections : Connections
  pub connected : List ℕ

-- the lane of a connection with this number
abbrev pub lane_of : (number : ℕ) → Contacts → ℕ
lane_of number c = number % length c.connected

-- a connection that is there, or a new one
abbrev pub conn_where : Option Conn → (number : ℕ) → Contacts → Conn
conn_where (Some conn) number c = conn
conn_where None number c = new_connection (lane_of number c) (slice_index c.connected (lane_of number c))

-- the connection with this number: the one that was used before, or the next of its lane
abbrev pub connection_of : (number : ℕ) → Contacts → Conn
connection_of number c = conn_where (lookup (nat_eq number) c.connections) number c

-- nothing changes for a connection that is there; a new one is its lane's
abbrev pub connected_where : Option Conn → (number : ℕ) → Contacts → Contacts
connected_where (Some conn) number c = c
connected_where None number c =
    let lane = lane_of number c in
    record {
      connections = insert_entry nat_eq c.connections number (conn_where None number c);
      connected = slice_set c.connected lane (slice_index c.connected lane + 1);
    }

-- the connection with this number is there
abbrev pub with_connection : (number : ℕ) → Contacts → Contacts
with_connection number c = connected_where (lookup (nat_eq number) c.connections) number c

-- the connection with this number is there, and has received so many more spans
abbrev pub with_received : (number spans : ℕ) → Contacts → Contacts
with_received number spans c = let there = with_connection number c in record there { connections = with_spans number (connection_of number c) spans there.connections }
