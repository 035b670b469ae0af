-- The metavariables that have names.
use Rattle.std.proofs.Common.{◌≡◌, ℕ, zero, suc, ◌+◌, ◌<◌, ◌≤◌, List, [], ◌∷◌, ◌++◌, length, get_or, map, take, Option, None, Some, refl, ap, ◌∙◌, arith, inl, inr}
use Rattle.lf.specs.Subordination.{Member}
use Rattle.tw_putting.specs.Whole.{AreDistinct}
use Rattle.tw_recon.specs.Names.{named_from}

-- their numbers ascend
named_above : (k m : ℕ) (hs : List (Option (List ℕ))) → Member m (map (λ n. n.0) (named_from k hs)) → k ≤ m
named_above k m [] h = absurd h
named_above k m (None ∷ hs) h = let g = named_above (suc k) m hs h in omega (arith, g)
named_above k m (Some x ∷ hs) (inl e) = omega (arith, e)
named_above k m (Some x ∷ hs) (inr h) = let g = named_above (suc k) m hs h in omega (arith, g)

pub named_distinct : (k : ℕ) (hs : List (Option (List ℕ))) → AreDistinct (map (λ n. n.0) (named_from k hs))
named_distinct k [] = tt
named_distinct k (None ∷ hs) = named_distinct (suc k) hs
named_distinct k (Some x ∷ hs) = (λ h. let g = named_above (suc k) k hs h in absurd (omega (arith, g)), named_distinct (suc k) hs)

-- one more, which has a name or has none
pub named_some : (k i : ℕ) (hs : List (Option (List ℕ))) (x : List ℕ) (d : Option (List ℕ)) → i < length hs → get_or hs i d ≡ Some x → named_from k (take (i + 1) hs) ≡ named_from k (take i hs) ++ (k + i, x) ∷ []
named_some k i [] x d h e = absurd (omega arith)
named_some k zero (None ∷ hs) x d h e = absurd cc
named_some k zero (Some y ∷ hs) x d h e =
    let p : y ≡ x = cc in
    let n : k ≡ k + zero = omega arith in
    ap (λ z. (k, z) ∷ []) p ∙ ap (λ j. (j, x) ∷ []) n
named_some k (suc i) (None ∷ hs) x d h e =
    let n : suc i + 1 ≡ suc (i + 1) = omega arith in
    let l : suc k + i ≡ k + suc i = omega arith in
    ap (λ j. named_from k (take j (None ∷ hs))) n ∙ named_some (suc k) i hs x d (omega arith) e ∙ ap (λ j. named_from (suc k) (take i hs) ++ (j, x) ∷ []) l
named_some k (suc i) (Some y ∷ hs) x d h e =
    let n : suc i + 1 ≡ suc (i + 1) = omega arith in
    let l : suc k + i ≡ k + suc i = omega arith in
    ap (λ j. named_from k (take j (Some y ∷ hs))) n ∙ ap (λ r. (k, y) ∷ r) (named_some (suc k) i hs x d (omega arith) e ∙ ap (λ j. named_from (suc k) (take i hs) ++ (j, x) ∷ []) l)

pub named_first : (i : ℕ) (hs : List (Option (List ℕ))) (x : List ℕ) (d : Option (List ℕ)) → i < length hs → get_or hs i d ≡ Some x → named_from 0 (take (i + 1) hs) ≡ named_from 0 (take i hs) ++ (i, x) ∷ []
named_first i hs x d h e =
    let n : 0 + i ≡ i = omega arith in
    named_some 0 i hs x d h e ∙ ap (λ j. named_from 0 (take i hs) ++ (j, x) ∷ []) n

pub named_none : (k i : ℕ) (hs : List (Option (List ℕ))) (d : Option (List ℕ)) → i < length hs → get_or hs i d ≡ None → named_from k (take (i + 1) hs) ≡ named_from k (take i hs)
named_none k i [] d h e = absurd (omega arith)
named_none k zero (None ∷ hs) d h e = refl
named_none k zero (Some y ∷ hs) d h e = absurd cc
named_none k (suc i) (None ∷ hs) d h e =
    let n : suc i + 1 ≡ suc (i + 1) = omega arith in
    ap (λ j. named_from k (take j (None ∷ hs))) n ∙ named_none (suc k) i hs d (omega arith) e
named_none k (suc i) (Some y ∷ hs) d h e =
    let n : suc i + 1 ≡ suc (i + 1) = omega arith in
    ap (λ j. named_from k (take j (Some y ∷ hs))) n ∙ ap (λ r. (k, y) ∷ r) (named_none (suc k) i hs d (omega arith) e)
