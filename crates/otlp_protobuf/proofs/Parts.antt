-- Requests in a row.
-- For requests_concatenate.
use Rattle.std.proofs.Common.{◌≡◌, ℕ, Bool, true, false, cond, List, [], ◌∷◌, ◌++◌, Result, Ok, Err, refl, sym, ◌∙◌, ap, subst, append_assoc, append-nil}
use Rattle.std.specs.Prelude.{◌==◌, IsErr}
use Rattle.protobuf_wire.specs.declared.fault.WireFault.{WireFault}
use Rattle.protobuf_wire.specs.Wire.{Field, Value, varint, fixed64, bytes, fixed32, fields_of}
use Rattle.protobuf_wire.proofs.Concatenating.{concatenate}
use Rattle.otlp_types.specs.declared.request.Request.{Request}
use Rattle.otlp_types.specs.declared.request.ResourceSpans.{ResourceSpans}
use Rattle.otlp_protobuf.specs.Kinds.{Read, ◌>>=◌, map_read}
use Rattle.otlp_protobuf.specs.Laws.{fold_fields}
use Rattle.otlp_protobuf.specs.Reading.{resource_spans, request_by, request_step, no_request, request_of}
use Rattle.otlp_protobuf.proofs.Merging.{then_same}
use Rattle.otlp_protobuf.proofs.Folding.{merged_is_fold, nothing_is_merged}

then_then : {A B C : Type 0} (r : Read A) (f : A → Read B) (g : B → Read C) → ((r >>= f) >>= g) ≡ (r >>= λ x. f x >>= g)
then_then (Ok x) f g = refl
then_then (Err e) f g = refl

fold-append : {S : Type 0} (step : S → Field → Read S) (s : S) (fs gs : List Field) → fold_fields step s (fs ++ gs) ≡ (fold_fields step s fs >>= λ t. fold_fields step t gs)
unfolding fold_fields
fold-append step s [] gs = refl
fold-append step s (f ∷ fs) gs =
    then_same (step s f) (λ t. fold_fields step t (fs ++ gs)) (λ t. fold_fields step t fs >>= λ u. fold_fields step u gs) (λ t. fold-append step t fs gs)
    ∙ sym (then_then (step s f) (λ t. fold_fields step t fs) (λ u. fold_fields step u gs))

-- ---- more behind the spans of some resources

abbrev behind : List ResourceSpans → Request → Request
behind rs p = record { resource_spans = rs ++ p.resource_spans }

one_behind : (rs xs : List ResourceSpans) (o : Read ResourceSpans)
    → map_read (λ xs. record { resource_spans = xs }) (map_read (λ x. (rs ++ xs) ++ x ∷ []) o) ≡ map_read (behind rs) (map_read (λ xs. record { resource_spans = xs }) (map_read (λ x. xs ++ x ∷ []) o))
one_behind rs xs (Ok x) = ap (λ ys. Ok (record { resource_spans = ys })) (append_assoc rs xs (x ∷ []))
one_behind rs xs (Err e) = refl

if_behind : (b : Bool) (rs : List ResourceSpans) (p : Request) (o q : Read Request) → o ≡ map_read (behind rs) q → cond b o (Ok (behind rs p)) ≡ map_read (behind rs) (cond b q (Ok p))
if_behind true rs p o q h = h
if_behind false rs p o q h = refl

by_behind : (keeps_doubles : Bool) (rs : List ResourceSpans) (p : Request) (n : ℕ) (v : Value) → request_by keeps_doubles (behind rs p) n v ≡ map_read (behind rs) (request_by keeps_doubles p n v)
by_behind keeps_doubles rs p n (bytes s) = if_behind (n == 1) rs p _ _ (one_behind rs p.resource_spans (resource_spans keeps_doubles s))
by_behind keeps_doubles rs p n (varint k) = refl
by_behind keeps_doubles rs p n (fixed64 k) = refl
by_behind keeps_doubles rs p n (fixed32 k) = refl

go_behind : (keeps_doubles : Bool) (rs : List ResourceSpans) (fs : List Field) (o q : Read Request) → o ≡ map_read (behind rs) q
    → ((t : Request) → fold_fields (request_step keeps_doubles) (behind rs t) fs ≡ map_read (behind rs) (fold_fields (request_step keeps_doubles) t fs))
    → (o >>= λ t. fold_fields (request_step keeps_doubles) t fs) ≡ map_read (behind rs) (q >>= λ t. fold_fields (request_step keeps_doubles) t fs)
go_behind keeps_doubles rs fs o (Ok t) h more = ap (λ x. x >>= λ t. fold_fields (request_step keeps_doubles) t fs) h ∙ more t
go_behind keeps_doubles rs fs o (Err e) h more = ap (λ x. x >>= λ t. fold_fields (request_step keeps_doubles) t fs) h

fold_behind : (keeps_doubles : Bool) (rs : List ResourceSpans) (p : Request) (fs : List Field)
    → fold_fields (request_step keeps_doubles) (behind rs p) fs ≡ map_read (behind rs) (fold_fields (request_step keeps_doubles) p fs)
unfolding fold_fields
fold_behind keeps_doubles rs p [] = refl
fold_behind keeps_doubles rs p (f ∷ fs) =
    go_behind keeps_doubles rs fs (request_step keeps_doubles (behind rs p) f) (request_step keeps_doubles p f) (by_behind keeps_doubles rs p f.number f.value) (λ t. fold_behind keeps_doubles rs t fs)

-- what is read has fields
has_fields : (keeps_doubles : Bool) (a : List ℕ) (r : Request) (q : Result (List Field) WireFault) → fields_of a ≡ q → request_of keeps_doubles a ≡ Ok r
    → (fs : List Field) × (fields_of a ≡ Ok fs) × (fold_fields (request_step keeps_doubles) no_request fs ≡ Ok r)
has_fields keeps_doubles a r (Ok fs) h e = (fs, h, sym (merged_is_fold (request_step keeps_doubles) no_request a fs h) ∙ e)
has_fields keeps_doubles a r (Err x) h e =
    let P : Read Request → Type 0 = λ o. IsErr o in
    let no : false ≡ true = subst P e (nothing_is_merged (request_step keeps_doubles) no_request a x h) in
    absurd (cc no)

pub concatenated : (keeps_doubles : Bool) (a b : List ℕ) (r q : Request) → request_of keeps_doubles a ≡ Ok r → request_of keeps_doubles b ≡ Ok q
    → request_of keeps_doubles (a ++ b) ≡ Ok (record { resource_spans = r.resource_spans ++ q.resource_spans })
concatenated keeps_doubles a b r q h g =
    let x = has_fields keeps_doubles a r (fields_of a) refl h in
    let y = has_fields keeps_doubles b q (fields_of b) refl g in
    let step : Request → Field → Read Request = request_step keeps_doubles in
    let whole : r ≡ behind r.resource_spans no_request = ap (λ rs. record { resource_spans = rs }) (sym (append-nil r.resource_spans)) in
    merged_is_fold step no_request (a ++ b) (x.0 ++ y.0) (concatenate a b x.0 y.0 x.1 y.1)
    ∙ fold-append step no_request x.0 y.0
    ∙ ap (λ o. o >>= λ t. fold_fields step t y.0) x.2
    ∙ ap (λ t. fold_fields step t y.0) whole
    ∙ fold_behind keeps_doubles r.resource_spans no_request y.0
    ∙ ap (map_read (behind r.resource_spans)) y.2
