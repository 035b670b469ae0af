-- The quantifiers of types and kinds are those of the theory.
use Rattle.std.proofs.Common.{◌≡◌, ℕ, zero, suc, List, [], ◌∷◌, ◌++◌, map, refl, ap, append_assoc, Contains, ◌<◌, arith, inl, inr, Some, None, Option, subst, sym}
use Rattle.std.proofs.lemmas.List.{flat_map_more}
use Rattle.std.proofs.lemmas.List.Elements.{Contains-append_left, Contains-append_right, Contains-append_cases, Contains-push, Contains-push_cases}
use Rattle.lf.specs.Syntax.{LfType, Kind, pi, atom, kind_pi, star}
use Rattle.lf.specs.Subordination.{Quantifies, KindQuantifies}
use Rattle.lf.specs.Variables.{target}
use Rattle.tw_terms.proofs.Args.{types}
use Rattle.tw_subord.specs.Pairs.{pairs_of, type_pairs, kind_pairs}
use Rattle.tw_subord.specs.declared.pairs.Pair.{Pair}

pub pairs_of-push : (ps : List Pair) (p : Pair) → pairs_of (ps ++ p ∷ []) ≡ pairs_of ps ++ (p.below, p.above) ∷ []
pairs_of-push [] p = refl
pairs_of-push (q ∷ ps) p = ap (λ r. (q.below, q.above) ∷ r) (pairs_of-push ps p)

pub pair_of : {a b c d : ℕ} → a ≡ c → b ≡ d → ◌≡◌ {A = ℕ × ℕ} (a, b) (c, d)
pair_of e f = cc

pub ruleset quantifiers = (types, pairs_of-push, append_assoc, flat_map_more)

-- nothing is in the empty list
pub nothing : {X : Type 0} (x : X) → Contains [] x → ⊥
nothing x (k, l, e) = omega (arith, l)

-- what is the one element of a list
pub single : {X : Type 0} (y x : X) → Contains (y ∷ []) x → y ≡ x
single y x h = elim (Contains-push_cases [] y x h) [ inl g ↦ absurd (nothing x g) | inr e ↦ e ]

-- each pair of a type is a quantifier of it, and each quantifier is a pair
pub quantifies : (a b : ℕ) (A : LfType) → Contains (type_pairs A) (a, b) → Quantifies a b A
quantifies a b (pi A B) h =
    elim (Contains-append_cases (type_pairs A ++ type_pairs B) ((target A, target B) ∷ []) (a, b) h) [
      | inl g ↦ elim (Contains-append_cases (type_pairs A) (type_pairs B) (a, b) g) [ inl i ↦ inr (inl (quantifies a b A i)) | inr i ↦ inr (inr (quantifies a b B i)) ]
      | inr g ↦ let e = single (target A, target B) (a, b) g in inl (ap (λ p. p.0) e, ap (λ p. p.1) e)
    ]
quantifies a b (atom c S) h = nothing (a, b) h

pub quantified : (a b : ℕ) (A : LfType) → Quantifies a b A → Contains (type_pairs A) (a, b)
quantified a b (pi A B) (inl e) = subst (Contains (type_pairs (pi A B))) (pair_of e.0 e.1) (Contains-push (type_pairs A ++ type_pairs B) (target A, target B))
quantified a b (pi A B) (inr (inl h)) = Contains-append_left (type_pairs A ++ type_pairs B) ((target A, target B) ∷ []) (a, b) (Contains-append_left (type_pairs A) (type_pairs B) (a, b) (quantified a b A h))
quantified a b (pi A B) (inr (inr h)) = Contains-append_left (type_pairs A ++ type_pairs B) ((target A, target B) ∷ []) (a, b) (Contains-append_right (type_pairs A) (type_pairs B) (a, b) (quantified a b B h))
quantified a b (atom c S) h = absurd h

pub kind_quantifies : (a b f : ℕ) (K : Kind) → Contains (kind_pairs f K) (a, b) → KindQuantifies f a b K
kind_quantifies a b f (kind_pi A K) h =
    elim (Contains-append_cases (type_pairs A ++ (target A, f) ∷ []) (kind_pairs f K) (a, b) h) [
      | inl g ↦ elim (Contains-append_cases (type_pairs A) ((target A, f) ∷ []) (a, b) g) [
        | inl i ↦ inr (inl (quantifies a b A i))
        | inr i ↦ let e = single (target A, f) (a, b) i in inl (ap (λ p. p.0) e, ap (λ p. p.1) e)
      ]
      | inr g ↦ inr (inr (kind_quantifies a b f K g))
    ]
kind_quantifies a b f star h = nothing (a, b) h

pub kind_quantified : (a b f : ℕ) (K : Kind) → KindQuantifies f a b K → Contains (kind_pairs f K) (a, b)
kind_quantified a b f (kind_pi A K) (inl e) = Contains-append_left (type_pairs A ++ (target A, f) ∷ []) (kind_pairs f K) (a, b) (subst (Contains (type_pairs A ++ (target A, f) ∷ [])) (pair_of e.0 e.1) (Contains-push (type_pairs A) (target A, f)))
kind_quantified a b f (kind_pi A K) (inr (inl h)) = Contains-append_left (type_pairs A ++ (target A, f) ∷ []) (kind_pairs f K) (a, b) (Contains-append_left (type_pairs A) ((target A, f) ∷ []) (a, b) (quantified a b A h))
kind_quantified a b f (kind_pi A K) (inr (inr h)) = Contains-append_right (type_pairs A ++ (target A, f) ∷ []) (kind_pairs f K) (a, b) (kind_quantified a b f K h)
kind_quantified a b f star h = absurd h
