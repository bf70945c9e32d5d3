-- Worked rows: which texts can't be addresses, and what is told of them. No clause needs them: they show what `Addresses`
-- and `AddressFindings` say, which code and contracts follow.
use Rattle.std.proofs.Common.{◌≡◌, ℕ, true, false, [], ◌∷◌, ◌++◌, map, codes, replicate, pos, Some, None, refl}
use Rattle.toml.specs.Data.{no_members, member, string, integer, table}
use Rattle.config_findings.specs.Addresses.{is_address, is_backend}
use Rattle.config_findings.specs.AddressFindings.{findings_in, door_fault, said_of, document_addresses}
use Rattle.config_findings.specs.declared.address_findings.AddressFault.TheVariants.{NoListener, NoDoor, PathAlone, NoPath, LongPath, NoBackend, OutputToo, DecisionsToo}
use Rattle.config_findings.specs.declared.address_findings.AddressKey.TheVariants.{Listen, Admin, Metrics, Endpoint, Decisions, Record}

addresses : map is_address (codes "127.0.0.1:4318" ∷ codes "localhost:65535" ∷ codes ":4318" ∷ codes ":0" ∷ codes "[::1]:80" ∷ codes "[fe80::1%2]:80" ∷ codes "::1:80" ∷ codes "fe80::1%eth0:80" ∷ codes "a_b.c-d:00080" ∷ [])
    ≡ true ∷ true ∷ true ∷ true ∷ true ∷ true ∷ true ∷ true ∷ true ∷ []
addresses = refl

-- no port, a port of no number, one that is too great; a URL, a space, brackets that don't close or hold no address
no_addresses : map is_address ([] ∷ codes "localhost" ∷ codes "localhost:" ∷ codes "localhost:http" ∷ codes "h:+1" ∷ codes "h:65536" ∷ codes "h:4294967376" ∷ codes "4318" ∷ [])
    ≡ false ∷ false ∷ false ∷ false ∷ false ∷ false ∷ false ∷ false ∷ []
no_addresses = refl

no_hosts : map is_address (codes "http://127.0.0.1:4318" ∷ codes "a b:80" ∷ codes "[::1:80" ∷ codes "[::1]:" ∷ codes "[::1]" ∷ codes "[host]:80" ∷ codes "[::g]:80" ∷ codes "h:1:80" ∷ codes "[::1]x:80" ∷ codes "::80" ∷ [])
    ≡ false ∷ false ∷ false ∷ false ∷ false ∷ false ∷ false ∷ false ∷ false ∷ false ∷ []
no_hosts = refl

-- a backend has a host, and a port other than 0
backends : map is_backend (codes "h:1" ∷ codes "[::1]:4318" ∷ codes "h:65535" ∷ codes "h:0" ∷ codes "h:00" ∷ codes ":80" ∷ codes "h" ∷ codes "user:word@h:80" ∷ []) ≡ true ∷ true ∷ true ∷ false ∷ false ∷ false ∷ false ∷ false ∷ []
backends = refl

-- an address that may be a socket's file; nothing is none
doors : map door_fault ([] ∷ codes "127.0.0.1:4319" ∷ codes "unix:/run/tsc.sock" ∷ codes "unix:" ∷ codes "/run/tsc.sock" ∷ codes "./tsc.sock" ∷ codes "tsc.sock" ∷ codes "Unix:/run/tsc.sock" ∷ [])
    ≡ None ∷ None ∷ None ∷ Some NoPath ∷ Some PathAlone ∷ Some PathAlone ∷ Some NoDoor ∷ Some NoDoor ∷ []
doors = refl

-- paths of 103 and 104 bytes
paths : map (λ (n : ℕ). door_fault (codes "unix:" ++ replicate n 97)) (103 ∷ 104 ∷ []) ≡ None ∷ Some LongPath ∷ []
paths = refl

-- each key by its own text, and a value that is no text
some_addresses : findings_in (member (codes "admin") (string (codes "/run/tsc.sock"))
    (member (codes "export") (table (member (codes "endpoint") (string (codes "http://h/v1/traces")) no_members))
    (member (codes "listen") (string (codes "x"))
    (member (codes "metrics") (string (codes "unix:")) no_members))))
    ≡ record { key = Listen; fault = NoListener } ∷ record { key = Admin; fault = PathAlone } ∷ record { key = Metrics; fault = NoPath } ∷ record { key = Endpoint; fault = NoBackend } ∷ []
some_addresses = refl

no_texts : findings_in (member (codes "admin") (integer (pos 1)) (member (codes "export") (table (member (codes "endpoint") (string (codes "h")) no_members)) no_members)) ≡ []
no_texts = refl

-- paths of one file, of two, of three; none is none, and other keys are looked at first
one_file : findings_in (member (codes "decisions") (string (codes "a")) (member (codes "output") (string (codes "a")) (member (codes "record") (string (codes "a")) no_members)))
    ≡ record { key = Decisions; fault = OutputToo } ∷ record { key = Record; fault = OutputToo } ∷ []
one_file = refl

two_files : findings_in (member (codes "decisions") (string (codes "b")) (member (codes "listen") (string (codes "x")) (member (codes "output") (string (codes "a")) (member (codes "record") (string (codes "b")) no_members))))
    ≡ record { key = Listen; fault = NoListener } ∷ record { key = Record; fault = DecisionsToo } ∷ []
two_files = refl

three_files : findings_in (member (codes "decisions") (string (codes "a/b")) (member (codes "output") (string (codes "a")) (member (codes "record") (string (codes "b")) no_members))) ≡ []
three_files = refl

no_files : findings_in (member (codes "decisions") (string []) (member (codes "output") (string []) (member (codes "record") (string []) no_members))) ≡ []
no_files = refl

no_document : document_addresses None ≡ []
no_document = refl

said : map said_of (record { key = Listen; fault = NoListener } ∷ record { key = Endpoint; fault = NoBackend } ∷ record { key = Decisions; fault = OutputToo } ∷ record { key = Record; fault = DecisionsToo } ∷ [])
    ≡ codes "listen: no address: HOST:PORT, [IPV6]:PORT or :PORT is wanted (cannot listen)"
    ∷ codes "export.endpoint: no address: HOST:PORT, with a port from 1 to 65535, is wanted behind http:// (cannot send)"
    ∷ codes "decisions: no file of its own: the output has it (cannot write)" ∷ codes "record: no file of its own: the decisions have it (cannot write)" ∷ []
said = refl
