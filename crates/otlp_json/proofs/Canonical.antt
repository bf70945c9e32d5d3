-- A canonical value's outline reads as the value.
-- For the clause `back` of `encode`.
use Rattle.std.proofs.Common.{◌≡◌, ℕ, List, Some, refl, sym, ap}
use Rattle.std.specs.Cmp.Lexicographic.{slice_cmp}
use Rattle.std.specs.Ordering.{nat_cmp}
use Rattle.std.specs.declared.cmp.Ordering.TheVariants.{Greater}
use Rattle.json.specs.Tree as tree
use Rattle.serde_json.specs.Data.{Data, null, boolean, number, string, array, object, Items, no_items, item, Members, no_members, member, put, depth, items_depth, members_depth}
use Rattle.serde_json.specs.Read.{of_json, of_items, of_members}
use Rattle.otlp_json.specs.Outline.{outline, items_outline, members_outline}
use Rattle.otlp_json.specs.Canonical.{KeysAfter, IsCanonical, AreCanonical, MembersCanonical}

-- ---- members, one after the other

abbrev joined : Members → Members → Members
joined no_members ms = ms
joined (member k d found) ms = member k d (joined found ms)

-- the key comes behind each of these
abbrev Behind : List ℕ → Members → Type 0
Behind k no_members = Unit {0}
Behind k (member l d ms) = (slice_cmp nat_cmp k l ≡ Greater) × Behind k ms

-- each key comes behind those that were found
abbrev AllBehind : Members → Members → Type 0
AllBehind no_members found = Unit {0}
AllBehind (member k d ms) found = Behind k found × AllBehind ms found

put-last : (k : List ℕ) (d : Data) (found : Members) → Behind k found → put k d found ≡ joined found (member k d no_members)
put-last k d no_members h = refl
put-last k d (member l e found) h = rw (h.0, put-last k d found h.1)

joined-more : (found : Members) (k : List ℕ) (d : Data) (ms : Members) → joined (joined found (member k d no_members)) ms ≡ joined found (member k d ms)
joined-more no_members k d ms = refl
joined-more (member l e found) k d ms = ap (λ r. member l e r) (joined-more found k d ms)

joined-none : (found : Members) → joined found no_members ≡ found
joined-none no_members = refl
joined-none (member l e found) = ap (λ r. member l e r) (joined-none found)

behind-more : (l : List ℕ) (found : Members) (k : List ℕ) (d : Data) → Behind l found → slice_cmp nat_cmp l k ≡ Greater → Behind l (joined found (member k d no_members))
behind-more l no_members k d h after = (after, tt)
behind-more l (member m e found) k d h after = (h.0, behind-more l found k d h.1 after)

all-behind-more : (ms found : Members) (k : List ℕ) (d : Data) → AllBehind ms found → KeysAfter k ms → AllBehind ms (joined found (member k d no_members))
all-behind-more no_members found k d h after = tt
all-behind-more (member l e ms) found k d h after = (behind-more l found k d h.0 after.0, all-behind-more ms found k d h.1 after.1)

behind-none : (ms : Members) → AllBehind ms no_members
behind-none no_members = tt
behind-none (member k d ms) = (tt, behind-none ms)

-- ---- reading

mutual
  pub outline-reads : (d : Data) → IsCanonical d → of_json (outline d) ≡ Some d
  outline-reads null h = refl
  outline-reads (boolean b) h = refl
  outline-reads (number n) h = rw h
  outline-reads (string s) h = refl
  outline-reads (array ds) h = rw (items-read ds h)
  outline-reads (object ms) h = rw (members-read ms no_members h (behind-none ms))

  items-read : (ds : Items) → AreCanonical ds → of_items (items_outline ds) ≡ Some ds
  items-read no_items h = refl
  items-read (item d ds) h = rw (outline-reads d h.0, items-read ds h.1)

  members-read : (ms found : Members) → MembersCanonical ms → AllBehind ms found → of_members (members_outline ms) found ≡ Some (joined found ms)
  members-read no_members found h behind = ap Some (sym (joined-none found))
  members-read (member k d ms) found h behind =
      let put : put k d found ≡ joined found (member k d no_members) = put-last k d found behind.0 in
      let rest : of_members (members_outline ms) (joined found (member k d no_members)) ≡ Some (joined (joined found (member k d no_members)) ms)
      = members-read ms (joined found (member k d no_members)) h.2 (all-behind-more ms found k d behind.1 h.1) in
      rw (outline-reads d h.0, put, rest, joined-more found k d ms)

-- ---- nesting

mutual
  pub outline-depth : (d : Data) → tree.depth (outline d) ≡ depth d
  outline-depth null = refl
  outline-depth (boolean b) = refl
  outline-depth (number n) = refl
  outline-depth (string s) = refl
  outline-depth (array ds) = rw (items-depth ds)
  outline-depth (object ms) = rw (members-depth ms)

  items-depth : (ds : Items) → tree.items_depth (items_outline ds) ≡ items_depth ds
  items-depth no_items = refl
  items-depth (item d ds) = rw (outline-depth d, items-depth ds)

  members-depth : (ms : Members) → tree.members_depth (members_outline ms) ≡ members_depth ms
  members-depth no_members = refl
  members-depth (member k d ms) = rw (outline-depth d, members-depth ms)
