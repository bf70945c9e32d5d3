-- The share of a total, and the parts of a composite.
-- For the contracts of `percentage` and `policies_are_of_their_keys`.
use Rattle.std.proofs.Common.{Bool, true, false, ◌≡◌, ℕ, ◌*◌, ◌/◌, ◌≤◌, List, [], ◌∷◌, length, map, arith, refl, sym, ap, ◌∙◌}
use Rattle.std.proofs.Math.Nat.{div-le_of_le-mul, mul-le-mul_left}
use Rattle.std.proofs.lemmas.Slice.Eq.{bytes_eq-Decides}
use Rattle.std.specs.Str.{bytes_eq}
use Rattle.toml.specs.Data.{Items}
use Rattle.policy_tree.specs.declared.policy.Policy.{Policy}
use Rattle.policy_tree.specs.declared.policy.PolicyKind.{PolicyKind}
use Rattle.policy_tree.specs.declared.policy.PolicyKind.TheOpen.{PolicyKind-F}
use Rattle.policy_tree.specs.declared.policy.PolicyKind.TheVariants as kind_is
use Rattle.policy_tree.specs.declared.policy.PolicyKind.TheVariants.{rolls-Joined}
use Rattle.policy_tree.specs.declared.policy.PolicyKind.TheViews.{out-PolicyKind, out-roll-PolicyKind}
use Rattle.policy_tree.specs.declared.policy.Join.TheVariants as join_is
use Rattle.tsc_config.specs.Values.{share_limit, percent_among, limiter_beside, within_share}
use Rattle.tsc_config.specs.PolicyKeys.{first_in, unshared}

-- a percentage of a number is within it
pub within_total : (total percent : ℕ) → percent ≤ 100 → total * percent / 100 ≤ total
within_total total percent h = let m : total * percent ≤ total * 100 = mul-le-mul_left total h in div-le_of_le-mul 100 (omega (arith, m))

-- the parts within their shares are those that were given
pub unshared_are : (total count : ℕ) (allocations : Items) (parts : List Policy) → unshared (map (within_share total count allocations) parts) ≡ parts
unshared_are total count allocations [] = refl
unshared_are total count allocations (part ∷ rest) =
    let limiter = limiter_beside (share_limit total count (percent_among part.name allocations)) part.name in
    let inner = part ∷ limiter ∷ [] in
    let others = unshared (map (within_share total count allocations) rest) in
    let same : out-PolicyKind (kind_is.Joined join_is.Share inner) ≡ PolicyKind-F.Joined join_is.Share inner
    = sym (ap out-PolicyKind (rolls-Joined join_is.Share inner)) ∙ out-roll-PolicyKind (PolicyKind-F.Joined join_is.Share inner) in
    ap (λ (layer : PolicyKind-F PolicyKind Policy). first_in layer others) same ∙ ap (λ (ps : List Policy). part ∷ ps) (unshared_are total count allocations rest)

-- and as many
pub as_many_shares : (total count : ℕ) (allocations : Items) (parts : List Policy) → length (map (within_share total count allocations) parts) ≡ length parts
as_many_shares total count allocations [] = refl
as_many_shares total count allocations (part ∷ rest) = let later = as_many_shares total count allocations rest in omega (arith, later)

-- texts are the same in either order
same : (a b : Bool) → (a ≡ true → b ≡ true) → (b ≡ true → a ≡ true) → a ≡ b
same true b f g = sym (f refl)
same false true f g = g refl
same false false f g = refl

pub turned : (k l : List ℕ) → bytes_eq l k ≡ bytes_eq k l
turned k l = same (bytes_eq l k) (bytes_eq k l) (λ e. (bytes_eq-Decides k l).1 (sym ((bytes_eq-Decides l k).0 e))) (λ e. (bytes_eq-Decides l k).1 (sym ((bytes_eq-Decides k l).0 e)))
