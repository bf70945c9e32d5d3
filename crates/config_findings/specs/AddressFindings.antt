-- What is told of addresses at which a collector can't listen, or to which it can't send, and of paths of files that it
-- can't write: `tsc validate` tells it behind the faults.
use Rattle.std.specs.Prelude.{ℕ, Bool, false, ◌&&◌, ◌||◌, ◌==◌, List, [], ◌∷◌, ◌++◌, length, take, drop, codes, Option, Some, None, if◌then◌else◌, nat_lt, nat_le}
use Rattle.std.specs.Str.{bytes_eq}
use Rattle.toml.specs.Data.{Data, string, table, Members, get_member}
use Rattle.toml.specs.Parse.{parse_document}
use Rattle.config_faults.specs.Exports.{is_endpoint}
use Rattle.config_findings.specs.Addresses.{is_address, is_backend}
use Rattle.config_findings.specs.declared.address_findings.AddressFault.{AddressFault}
use Rattle.config_findings.specs.declared.address_findings.AddressFault.TheVariants.{NoListener, NoDoor, PathAlone, NoPath, LongPath, NoBackend, OutputToo, DecisionsToo}
use Rattle.config_findings.specs.declared.address_findings.AddressKey.{AddressKey}
use Rattle.config_findings.specs.declared.address_findings.AddressKey.TheVariants.{Listen, Admin, Metrics, Endpoint, Decisions, Record}
use Rattle.config_findings.specs.declared.address_findings.AddressFinding.{AddressFinding}

-- a key of addresses and paths, behind its table
abbrev pub key_name : AddressKey → List ℕ
key_name Listen = codes "listen"
key_name Admin = codes "admin"
key_name Metrics = codes "metrics"
key_name Endpoint = codes "export.endpoint"
key_name Decisions = codes "decisions"
key_name Record = codes "record"

-- what would be right, and what can't be done
abbrev pub fault_text : AddressFault → List ℕ
fault_text NoListener = codes "no address: HOST:PORT, [IPV6]:PORT or :PORT is wanted (cannot listen)"
fault_text NoDoor = codes "no address: HOST:PORT, [IPV6]:PORT, :PORT or unix:PATH is wanted (cannot listen)"
fault_text PathAlone = codes "no address: a socket's path begins with unix: (cannot listen)"
fault_text NoPath = codes "no address: no path stands behind unix: (cannot listen)"
fault_text LongPath = codes "no address: a socket's path has at most 103 bytes (cannot listen)"
fault_text NoBackend = codes "no address: HOST:PORT, with a port from 1 to 65535, is wanted behind http:// (cannot send)"
fault_text OutputToo = codes "no file of its own: the output has it (cannot write)"
fault_text DecisionsToo = codes "no file of its own: the decisions have it (cannot write)"

-- what is said of a finding
abbrev pub said_of : AddressFinding → List ℕ
said_of finding = key_name finding.key ++ (codes ": " ++ fault_text finding.fault)

-- why requests can't be taken at an address
abbrev pub listener_fault : List ℕ → Option AddressFault
listener_fault text = if is_address text then None else Some NoListener

-- an address of a socket's file
abbrev pub is_socket : List ℕ → Bool
is_socket text = nat_le 5 (length text) && bytes_eq (take 5 text) (codes "unix:")

-- why a socket's file can't be made: it has a name while it is made that is four bytes longer, and the system takes 107
abbrev pub path_fault : List ℕ → Option AddressFault
path_fault path = if length path == 0 then Some NoPath else if nat_lt 103 (length path) then Some LongPath else None

-- why nobody can be answered at an address that may be a socket's file; nothing is none
abbrev pub door_fault : List ℕ → Option AddressFault
door_fault [] = None
door_fault (b ∷ rest) =
    if is_socket (b ∷ rest) then path_fault (drop 5 (b ∷ rest))
    else if is_address (b ∷ rest) then None
    else if b == 47 || b == 46 then Some PathAlone
    else Some NoDoor

-- what stands in front of the first slash
abbrev pub before_slash : List ℕ → List ℕ
before_slash [] = []
before_slash (b ∷ rest) = if b == 47 then [] else b ∷ before_slash rest

-- why lines can't be sent to what stands behind `http://`
abbrev pub authority_fault : List ℕ → Option AddressFault
authority_fault text = if is_backend (before_slash text) then None else Some NoBackend

-- why they can't be sent to an address of the form `http://HOST:PORT/PATH`; one of another form is a fault
abbrev pub backend_fault : List ℕ → Option AddressFault
backend_fault text = if is_endpoint text then authority_fault (drop 7 text) else None

-- that of the text at a key, where one stands there
abbrev pub at_text : (List ℕ → Option AddressFault) → Option Data → Option AddressFault
at_text fault_of (Some (string text)) = fault_of text
at_text fault_of _ = None

-- that of the address in the table of `export`
abbrev pub at_export : Option Data → Option AddressFault
at_export (Some (table settings)) = at_text backend_fault (get_member (codes "endpoint") settings)
at_export _ = None

-- the path at a key: nothing where no text stands there
abbrev pub path_at : Option Data → List ℕ
path_at (Some (string text)) = text
path_at _ = []

-- whether a path is that of another's file; no path is of none
abbrev pub is_same_path : (path other : List ℕ) → Bool
is_same_path [] other = false
is_same_path (b ∷ rest) other = bytes_eq (b ∷ rest) other

-- why the lines of decisions can't be written, and why the record of what came can't be
abbrev pub decisions_fault : (output decisions : List ℕ) → Option AddressFault
decisions_fault output decisions = if is_same_path decisions output then Some OutputToo else None

abbrev pub record_fault : (output decisions came : List ℕ) → Option AddressFault
record_fault output decisions came = if is_same_path came output then Some OutputToo else if is_same_path came decisions then Some DecisionsToo else None

-- a finding, where there is a fault
abbrev pub listed : AddressKey → Option AddressFault → List AddressFinding
listed key None = []
listed key (Some fault) = record { key = key; fault = fault } ∷ []

-- what is found of the paths of files
abbrev pub paths_in : Members → List AddressFinding
paths_in members =
    let output = path_at (get_member (codes "output") members) in
    let decisions = path_at (get_member (codes "decisions") members) in
    listed Decisions (decisions_fault output decisions) ++ listed Record (record_fault output decisions (path_at (get_member (codes "record") members)))

-- what is found of a table
abbrev pub findings_in : Members → List AddressFinding
findings_in members =
    listed Listen (at_text listener_fault (get_member (codes "listen") members))
    ++ (listed Admin (at_text door_fault (get_member (codes "admin") members))
    ++ (listed Metrics (at_text door_fault (get_member (codes "metrics") members))
    ++ (listed Endpoint (at_export (get_member (codes "export") members))
    ++ paths_in members)))

-- what is found of a document, where there is one
abbrev pub document_addresses : Option Members → List AddressFinding
document_addresses None = []
document_addresses (Some members) = findings_in members

-- what is found of a text
abbrev pub text_addresses : List ℕ → List AddressFinding
text_addresses text = document_addresses (parse_document text)
