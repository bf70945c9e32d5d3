-- The bytes bring one thing only.
-- They serve the laws `pieces_do_not_matter` and `whole_connections` of `http_lane`.
use Rattle.std.proofs.Common.{◌≡◌, zero, suc, ◌+◌, ◌<◌, ◌≤◌, true, false, length, take, drop, ℕ, List, [], ◌∷◌, ◌++◌, Bool, refl, ap, sym, ◌∙◌, subst, arith, append_assoc, length-append, inl, inr}
use Rattle.std.specs.Prelude.{nat_le}
use Rattle.std.proofs.Math.Seq.{take-append_seam, drop-append_seam}
use borrow.Author.Tests.{leb-true, leb-false}
use Rattle.httparse.specs.Ascii.{crlf_bytes}
use Rattle.httparse.specs.Grammar.{ReadsChunkLine, chunk_size}
use Rattle.httparse.proofs.GrammarLemmas.{request_unique}
use Rattle.httparse.proofs.ChunkLemmas.{chunk_line_unique}
use Rattle.http_text.specs.declared.allowed.Allowed.{Allowed}
use Rattle.http_text.specs.Lines.{Cut, Whole, Waits, TooLong}
use Rattle.http_text.specs.declared.request.TheConstants.{FIELD_LIMIT}
use Rattle.http_text.specs.declared.request.HeadVerdict.{HeadVerdict}
use Rattle.http_text.specs.Lines.{cut, head_len, trailer_len, line_len}
use Rattle.http_text.specs.Head.{HeadBy, BeginsWithHead, IsVerdict, Judges, verdict, field_lines}
use Rattle.http_text.specs.Body.{FoundBody, waits, refuses, found, with_front, Chunks, StopsBy, BySize, IsCutChunk, AtTrailerBy, begins_crlf, ChunkedBody, content, GivesSize}

judges_unique : (g : Allowed) (text : List ℕ) (v w : HeadVerdict) → Judges g text v → Judges g text w → v ≡ w
judges_unique g text v w (inl a) (inl b) = a.2 ∙ ap (verdict g) (request_unique text a.0 b.0 [] [] a.1.0 b.1.0).0 ∙ sym b.2
judges_unique g text v w (inl a) (inr b) = absurd (b.0 a.0 a.1)
judges_unique g text v w (inr a) (inl b) = absurd (a.0 b.0 b.1)
judges_unique g text v w (inr a) (inr b) = a.1 ∙ sym b.1

verdict_by_lines : (g : Allowed) (t : Bool) (text : List ℕ) (v w : HeadVerdict) → nat_le (field_lines text) FIELD_LIMIT ≡ t → IsVerdict g text v → IsVerdict g text w → v ≡ w
verdict_by_lines g true text v w e a b = let le = leb-true (field_lines text) FIELD_LIMIT e in judges_unique g text v w (a.few le) (b.few le)
verdict_by_lines g false text v w e a b = let lt = leb-false (field_lines text) FIELD_LIMIT e in a.many lt ∙ sym (b.many lt)

head_by_unique : (g : Allowed) (c : Cut) (xs : List ℕ) (v w : HeadVerdict) (r s : List ℕ) → HeadBy g c xs v r → HeadBy g c xs w s → (v ≡ w) × (r ≡ s)
head_by_unique g (Whole n) xs v w r s a b = (verdict_by_lines g (nat_le (field_lines (take n xs)) FIELD_LIMIT) (take n xs) v w refl a.0 b.0, a.1 ∙ sym b.1)
head_by_unique g Waits xs v w r s a b = absurd a
head_by_unique g TooLong xs v w r s a b = (a.0 ∙ sym b.0, a.1 ∙ sym b.1)

-- a stream begins with one head at most
pub head_unique : (g : Allowed) (xs : List ℕ) (v w : HeadVerdict) (r s : List ℕ) → BeginsWithHead g xs v r → BeginsWithHead g xs w s → (v ≡ w) × (r ≡ s)
head_unique g xs v w r s a b = head_by_unique g (cut head_len xs) xs v w r s a b

pub size_unique : (line : List ℕ) (m n : ℕ) → GivesSize line m → GivesSize line n → m ≡ n
size_unique line m n a b = a.2 ∙ ap chunk_size (chunk_line_unique line a.0 b.0 [] [] a.1 b.1).0 ∙ sym b.2

trailer_unique : (c : Cut) (xs : List ℕ) (f g : FoundBody) → AtTrailerBy c xs f → AtTrailerBy c xs g → f ≡ g
trailer_unique Waits xs f g a b = a ∙ sym b
trailer_unique TooLong xs f g a b = a ∙ sym b
trailer_unique (Whole n) xs f g (inl a) (inl b) = a.1 ∙ sym b.1
trailer_unique (Whole n) xs f g (inl a) (inr b) = absurd (b.0 a.0)
trailer_unique (Whole n) xs f g (inr a) (inl b) = absurd (a.0 b.0)
trailer_unique (Whole n) xs f g (inr a) (inr b) = a.1 ∙ sym b.1

cut_chunk_unique : (t : Bool) (size : ℕ) (xs : List ℕ) (f g : FoundBody) → nat_le size (length xs) ≡ t → IsCutChunk size xs f → IsCutChunk size xs g → f ≡ g
cut_chunk_unique true size xs f g e a b = let le = leb-true size (length xs) e in (a.long le).1 ∙ sym (b.long le).1
cut_chunk_unique false size xs f g e a b = let lt = leb-false size (length xs) e in a.short lt ∙ sym (b.short lt)

front_twice : (p c : List ℕ) (e : FoundBody) → with_front (p ++ c) e ≡ with_front p (with_front c e)
front_twice p c waits = refl
front_twice p c (refuses r) = refl
front_twice p c (found body rest) = ap (λ l. found l rest) (append_assoc p c body)

module _ (limit : ℕ) where
  by_size_unique : (size total : ℕ) (xs : List ℕ) (f g : FoundBody) → BySize limit total size xs f → BySize limit total size xs g → f ≡ g
  by_size_unique zero total xs f g a b = trailer_unique (cut trailer_len xs) xs f g (a.last refl) (b.last refl)
  by_size_unique (suc n) total xs f g a b = by_limit (nat_le (total + suc n) limit) refl where
    by_limit : (t : Bool) → nat_le (total + suc n) limit ≡ t → f ≡ g
    by_limit true e = let le = leb-true (total + suc n) limit e in let p : 0 < suc n = omega arith in cut_chunk_unique (nat_le (suc n) (length xs)) (suc n) xs f g refl (a.cut p le) (b.cut p le)
    by_limit false e = let lt = leb-false (total + suc n) limit e in let p : 0 < suc n = omega arith in a.large p lt ∙ sym (b.large p lt)

  stops_unique : (c : Cut) (total : ℕ) (xs : List ℕ) (f g : FoundBody) → StopsBy limit c total xs f → StopsBy limit c total xs g → f ≡ g
  stops_unique Waits total xs f g a b = a ∙ sym b
  stops_unique TooLong total xs f g a b = a ∙ sym b
  stops_unique (Whole n) total xs f g (inl a) (inl b) = by_size_unique a.0 total (drop n xs) f g a.2 (subst (λ s. BySize limit total s (drop n xs) g) (size_unique (take n xs) b.0 a.0 b.1 a.1) b.2)
  stops_unique (Whole n) total xs f g (inl a) (inr b) = absurd (b.0 a.1.0 a.1.1)
  stops_unique (Whole n) total xs f g (inr a) (inl b) = absurd (a.0 b.1.0 b.1.1)
  stops_unique (Whole n) total xs f g (inr a) (inr b) = a.1 ∙ sym b.1

  -- where a whole chunk within the limit stands, the chunks don't stop
  no_stop : (c : Cut) (n total : ℕ) (xs piece rest : List ℕ) (f : FoundBody) → c ≡ Whole n → 0 < length piece → total + length piece ≤ limit
      → GivesSize (take n xs) (length piece) → drop n xs ≡ piece ++ (crlf_bytes ++ rest) → StopsBy limit c total xs f → ⊥
  no_stop Waits n total xs piece rest f e some le size split s = cc
  no_stop TooLong n total xs piece rest f e some le size split s = cc
  no_stop (Whole k) n total xs piece rest f e some le size split (inr b) =
      let same : n ≡ k = cc in b.0 size.0 (subst (λ m. ReadsChunkLine (take m xs) size.0 []) same size.1)
  no_stop (Whole k) n total xs piece rest f e some le size split (inl b) =
      let same : k ≡ n = cc in
      let is : b.0 ≡ length piece = size_unique (take n xs) b.0 (length piece) (subst (λ m. GivesSize (take m xs) b.0) same b.1) size in
      let by = subst (λ m. BySize limit total (length piece) (drop m xs) f) same (subst (λ s. BySize limit total s (drop k xs) f) is b.2) in
      let long = (by.cut some le).long (omega (arith, ap length split, length-append piece (crlf_bytes ++ rest))) in
      let crlf : begins_crlf (drop (length piece) (drop n xs)) ≡ true = ap (λ l. begins_crlf (drop (length piece) l)) split ∙ ap begins_crlf (drop-append_seam piece (crlf_bytes ++ rest)) in
      let no = long.0 in cc

  -- chunks and where they stop, behind `total` bytes of content
  abbrev pub From : ℕ → List ℕ → List (List ℕ) → List ℕ → FoundBody → Type 0
  From total bytes pieces after end = Chunks bytes pieces after × (total + length (content pieces) ≤ limit) × StopsBy limit (cut line_len after) (total + length (content pieces)) after end

  none_total : (total : ℕ) → total + length (content []) ≡ total
  none_total total = omega arith

  end_at : (total : ℕ) (bytes after : List ℕ) (e : FoundBody) → From total bytes [] after e → StopsBy limit (cut line_len bytes) total bytes e
  end_at total bytes after e a = subst (λ n. StopsBy limit (cut line_len bytes) n bytes e) (none_total total) (subst (λ l. StopsBy limit (cut line_len l) (total + 0) l e) (sym a.0) a.2)

  stop_meets : (total : ℕ) (bytes after : List ℕ) (e : FoundBody) (q : List ℕ) (qs : List (List ℕ)) (b : List ℕ) (f : FoundBody) → StopsBy limit (cut line_len bytes) total bytes e → From total bytes (q ∷ qs) b f → ⊥
  stop_meets total bytes after e q qs b f s h =
      no_stop (cut line_len bytes) h.0.0 total bytes q h.0.4 e h.0.1 h.0.2 (omega (arith, h.1, length-append q (content qs))) h.0.3 h.0.5 s

  -- the rest of the chunks behind the first
  tail_of : (total : ℕ) (bytes : List ℕ) (q : List ℕ) (qs : List (List ℕ)) (b : List ℕ) (f : FoundBody) → (h : From total bytes (q ∷ qs) b f) → From (total + length q) h.0.4 qs b f
  tail_of total bytes q qs b f h =
      let sum : total + length (q ++ content qs) ≡ total + length q + length (content qs) = omega (arith, length-append q (content qs)) in
      (h.0.6, subst (λ n. n ≤ limit) sum h.1, subst (λ n. StopsBy limit (cut line_len b) n b f) sum h.2)

  pub from_unique : (total : ℕ) (bytes : List ℕ) (ps qs : List (List ℕ)) (a b : List ℕ) (e f : FoundBody) → From total bytes ps a e → From total bytes qs b f → with_front (content ps) e ≡ with_front (content qs) f
  from_unique total bytes [] [] a b e f x y = ap (with_front []) (stops_unique (cut line_len bytes) total bytes e f (end_at total bytes a e x) (end_at total bytes b f y))
  from_unique total bytes [] (q ∷ qs) a b e f x y = absurd (stop_meets total bytes a e q qs b f (end_at total bytes a e x) y)
  from_unique total bytes (p ∷ ps) [] a b e f x y = absurd (stop_meets total bytes b f p ps a e (end_at total bytes b f y) x)
  from_unique total bytes (p ∷ ps) (q ∷ qs) a b e f x y =
      let u = x.0 in
      let v = y.0 in
      let place : Whole u.0 ≡ Whole v.0 = sym u.1 ∙ v.1 in
      let same : u.0 ≡ v.0 = cc in
      let len : length p ≡ length q = size_unique (take u.0 bytes) (length p) (length q) u.3 (subst (λ k. GivesSize (take k bytes) (length q)) (sym same) v.3) in
      let X : List ℕ = crlf_bytes ++ u.4 in
      let Y : List ℕ = crlf_bytes ++ v.4 in
      let both : p ++ X ≡ q ++ Y = sym u.5 ∙ ap (λ k. drop k bytes) same ∙ v.5 in
      let pieces : p ≡ q = sym (take-append_seam p X) ∙ ap (take (length p)) both ∙ ap (λ k. take k (q ++ Y)) len ∙ take-append_seam q Y in
      let rests : X ≡ Y = sym (drop-append_seam p X) ∙ ap (drop (length p)) both ∙ ap (λ k. drop k (q ++ Y)) len ∙ drop-append_seam q Y in
      let behind : u.4 ≡ v.4 = ap (drop 2) rests in
      let tail : From (total + length p) u.4 qs b f = subst (λ l. From (total + length p) l qs b f) (sym behind) (subst (λ k. From (total + k) v.4 qs b f) (sym len) (tail_of total bytes q qs b f y)) in
      let ih = from_unique (total + length p) u.4 ps qs a b e f (tail_of total bytes p ps a e x) tail in
      front_twice p (content ps) e ∙ ap (with_front p) ih ∙ ap (λ l. with_front l (with_front (content qs) f)) pieces ∙ sym (front_twice q (content qs) f)

  from_body : (bytes : List ℕ) (f : FoundBody) → (h : ChunkedBody limit bytes f) → From 0 bytes h.pieces h.after h.end
  from_body bytes f h =
      let sum : length (content h.pieces) ≡ 0 + length (content h.pieces) = omega arith in
      (h.chunks, subst (λ n. n ≤ limit) sum h.within, subst (λ n. StopsBy limit (cut line_len h.after) n h.after h.end) sum h.stops)

  -- behind a head stands one thing only
  pub chunked_unique : (bytes : List ℕ) (f g : FoundBody) → ChunkedBody limit bytes f → ChunkedBody limit bytes g → f ≡ g
  chunked_unique bytes f g x y = x.is ∙ from_unique 0 bytes x.pieces y.pieces x.after y.after x.end y.end (from_body bytes f x) (from_body bytes g y) ∙ sym y.is
