-- Values of a clause in a context: those that are put together from values of its own variables and from what stands outside it there.
use Rattle.std.proofs.Common.{◌≡◌, ℕ, suc, ◌+◌, ◌-◌, List, ◌∷◌, arith, refl, sym, ap, ◌∙◌, subst}
use Rattle.std.specs.Prelude.{Bool, true, false}
use Rattle.lf.specs.Syntax.{Term, LfType, pi, atom, Skeleton, skeleton}
use Rattle.lf.specs.Substitution.{Image, substitute, substitute_type, reduce}
use Rattle.lf.specs.SkeletonTyping.{HeadSkeletons, ImageSkeleton, TermSkeleton, SubstitutionBySkeletons}
use Rattle.lf.specs.Skeletons.{constant_skeletons, context_skeletons}
use Rattle.lf.specs.Typing.{Signature, TypeAt, ImageHasType, IsTypedSubstitution, IsContext, IsSignature}
use Rattle.lf.specs.Entries.{quantifiers}
use Rattle.lf.specs.Variables.{binders, Uses, UsesType, Values, everything}
use Rattle.lf.proofs.Patch.{pick}
use Rattle.lf.proofs.ToSkeletons.{skeleton_has_variable}
use Rattle.lf.proofs.TypeLaws.{skeleton_renamed, skeleton_substituted, substitute_renamed_type}
use Rattle.lf.proofs.Weakening.{declared_is_type}
use Rattle.lf_checks.specs.Clause.{Clause, scope, outside}
use Rattle.lf_checks.specs.Worlded.{IsTerm}
use Rattle.lf_cases.specs.Cover.{AreTerms}
use Rattle.lf_cases.specs.Case.{as_term}
use Rattle.lf_totality.proofs.Core.{out_index, outside_at}
use Rattle.lf_totality.proofs.Theorem.{outside_from}
use Rattle.lf_coverage.proofs.Carried.{like_type, like_term}
use mathlib.Core.Path.{fun_ext}

-- what stands outside a clause, counted from there
pub out_sum : (A : LfType) (k : ℕ) → out_index A k ≡ k + quantifiers A
out_sum (pi A B) k = out_sum B (suc k) ∙ next k (quantifiers B)
  where
    next : (k n : ℕ) → suc k + n ≡ k + suc n
    next k n = omega arith
out_sum (atom a S) k = none k
  where
    none : (k : ℕ) → k ≡ k + 0
    none k = omega arith

pub out_back : (A : LfType) (k : ℕ) → out_index A k - quantifiers A ≡ k
out_back A k = ap (λ i. i - quantifiers A) (out_sum A k) ∙ back k (quantifiers A)
  where
    back : (k n : ℕ) → (k + n) - n ≡ k
    back k n = omega arith

pub out_type : (T : LfType) (O : List LfType) (k : ℕ) (A : LfType) → TypeAt (binders O T) (out_index T k) A → (X : LfType) × TypeAt O k X × (skeleton A ≡ skeleton X) × ((s : ℕ → Image) → substitute_type reduce s A ≡ substitute_type reduce (λ j. s (out_index T j)) X)
out_type (pi B T) O k A h =
    let (Y, (Z, z, q), e, f) = out_type T (B ∷ O) (suc k) A h in
    (Z, z, e ∙ ap skeleton q ∙ skeleton_renamed suc Z, λ s. f s ∙ ap (substitute_type reduce (λ j. s (out_index T j))) q ∙ substitute_renamed_type reduce (λ j. s (out_index T j)) suc Z)
out_type (atom a S) O k A h = (A, h, refl, λ s. refl)

-- ω has skeletons in Δ, and in G the types of the variables in U; what stands outside the clause has its types in G, and is what ω gives there.
module _ (Σ : Signature) (ok : IsSignature Σ) (G : List LfType) (Δ : List Skeleton) (fit : (y : Image) (A : LfType) → ImageHasType Σ G y A → ImageSkeleton (constant_skeletons Σ) Δ y (skeleton A)) (c : Clause) (ct : IsContext Σ (scope c)) (U : ℕ → Bool) (closed : (i : ℕ) (A : LfType) → TypeAt (scope c) i A → U i ≡ true → UsesType U A) (ω : ℕ → Image) (ω_fits : SubstitutionBySkeletons (constant_skeletons Σ) (context_skeletons (scope c)) Δ ω) (ω_typed : (i : ℕ) (A : LfType) → TypeAt (scope c) i A → U i ≡ true → ImageHasType Σ G (ω i) (substitute_type reduce ω A)) (outer : ℕ → Image) (outer_typed : IsTypedSubstitution Σ c.outer G outer) (outer_same : (k : ℕ) (X : LfType) → TypeAt c.outer k X → U (out_index c.type k) ≡ true → as_term (skeleton X) (ω (out_index c.type k)) ≡ as_term (skeleton X) (outer k)) where
  abbrev κ : HeadSkeletons
  κ = constant_skeletons Σ

  abbrev O : List LfType
  O = scope c

  -- the values
  abbrev pub whole_values : ℕ → Image
  whole_values i = pick (outside c.type everything i) (outer (i - quantifiers c.type)) (ω i)

  pub own_value : (i : ℕ) → outside c.type everything i ≡ false → whole_values i ≡ ω i
  own_value i e = ap (λ b. pick b (outer (i - quantifiers c.type)) (ω i)) e

  pub outer_value : (k : ℕ) → whole_values (out_index c.type k) ≡ outer k
  outer_value k = ap (λ b. pick b (outer (out_index c.type k - quantifiers c.type)) (ω (out_index c.type k))) (outside_at c.type everything k) ∙ ap outer (out_back c.type k)

  out_typed : (i : ℕ) (A : LfType) → TypeAt O i A → outside c.type everything i ≡ true → ImageHasType Σ G (whole_values i) (substitute_type reduce whole_values A)
  out_typed i A h e =
      let (k, p, _) = outside_from c.type everything i e in
      let (X, z, _, f) = out_type c.type c.outer k A (subst (λ j. TypeAt O j A) p h) in
      subst (ImageHasType Σ G (whole_values i)) (sym (f whole_values ∙ ap (λ s. substitute_type reduce s X) (fun_ext outer_value))) (subst (λ y. ImageHasType Σ G y (substitute_type reduce outer X)) (sym (ap whole_values p ∙ outer_value k)) (outer_typed k X z))

  whole_fits : SubstitutionBySkeletons κ (context_skeletons O) Δ whole_values
  whole_fits i t s = by (outside c.type everything i) refl
    where
      by : (b : Bool) → outside c.type everything i ≡ b → ImageSkeleton κ Δ (whole_values i) t
      by true e = let (A, h, q) = skeleton_has_variable O i t s in subst (ImageSkeleton κ Δ (whole_values i)) (skeleton_substituted reduce whole_values A ∙ q) (fit (whole_values i) (substitute_type reduce whole_values A) (out_typed i A h e))
      by false e = subst (λ y. ImageSkeleton κ Δ y t) (sym (own_value i e)) (ω_fits i t s)

  same_value : (i : ℕ) (X : LfType) → TypeAt O i X → U i ≡ true → as_term (skeleton X) (ω i) ≡ as_term (skeleton X) (whole_values i)
  same_value i X h u = by (outside c.type everything i) refl
    where
      by : (b : Bool) → outside c.type everything i ≡ b → as_term (skeleton X) (ω i) ≡ as_term (skeleton X) (whole_values i)
      by true e =
          let (k, p, _) = outside_from c.type everything i e in
          let (Y, z, q, _) = out_type c.type c.outer k X (subst (λ j. TypeAt O j X) p h) in
          ap (λ j. as_term (skeleton X) (ω j)) p
          ∙ ap (λ a. as_term a (ω (out_index c.type k))) q
          ∙ outer_same k Y z (ap U (sym p) ∙ u)
          ∙ ap (λ a. as_term a (outer k)) (sym q)
          ∙ ap (as_term (skeleton X)) (sym (ap whole_values p ∙ outer_value k))
      by false e = ap (as_term (skeleton X)) (sym (own_value i e))

  -- They are typed, where the clause's own variables are of U.
  pub whole_typed : (V : ℕ → Bool) → ((i : ℕ) → outside c.type everything i ≡ false → V i ≡ true → U i ≡ true) → ((i : ℕ) (A : LfType) → TypeAt O i A → V i ≡ true → UsesType V A) → Values Σ V O G whole_values
  whole_typed V within all_used = record {
    typed = λ i A h u. by i A h u (outside c.type everything i) refl;
    closed = all_used;
  }
    where
      by : (i : ℕ) (A : LfType) → TypeAt O i A → V i ≡ true → (b : Bool) → outside c.type everything i ≡ b → ImageHasType Σ G (whole_values i) (substitute_type reduce whole_values A)
      by i A h u true e = out_typed i A h e
      by i A h u false e = subst (ImageHasType Σ G (whole_values i)) (like_type Σ O Δ U ω whole_values ω_fits whole_fits same_value A (declared_is_type Σ ok O i A ct h) (closed i A h (within i e u))) (subst (λ y. ImageHasType Σ G y (substitute_type reduce ω A)) (sym (own_value i e)) (ω_typed i A h (within i e u)))

  pub whole_terms : (V : ℕ → Bool) → ((i : ℕ) → outside c.type everything i ≡ false → V i ≡ true → U i ≡ true) → AreTerms c U ω → AreTerms c V whole_values
  whole_terms V within ts i e u = subst IsTerm (sym (own_value i e)) (ts i e (within i e u))

  -- and make what ω makes of a term that uses U only
  pub whole_same : (Q : Term) (t : Skeleton) → TermSkeleton κ (context_skeletons O) Q t → Uses U Q → substitute reduce ω Q ≡ substitute reduce whole_values Q
  whole_same Q t q u = like_term Σ O Δ U ω whole_values ω_fits whole_fits same_value Q t q u
