-- The outputs of a call use only the local variables whose families are below their own; a subgoal without output places is covered.
use Rattle.lf_cases.specs.Raised.{PlacesBelow}
use Rattle.lf_checks.specs.Strict.{strict_at, strict_goal}
use Rattle.lf_checks.specs.Tests.{both, either}
use Rattle.lf_checks.specs.Ground.{UsesGoal, ground_after}
use Rattle.lf_checks.specs.Marks.{SamePlaces, UsesPlaces, Mark, free, input, input_places, output, output_places, AllInputs}
use Rattle.lf_checks.specs.Below.{IsSubordination}
use Rattle.lf_cases.specs.Cover.{CoveredOutputs}
use Rattle.lf_checks.specs.Clause.{Clause, outside, variables}
use Rattle.std.proofs.Common.{◌≡◌, ℕ, suc, List, [], ◌∷◌, refl, sym, ap, ap₂, ◌∙◌, subst}
use Rattle.std.specs.Prelude.{Bool, true, false}
use Rattle.lf.specs.Syntax.{Term, Spine, nil, app, LfType, Kind, pi, atom, kind_pi, star, Skeleton, skeleton}
use Rattle.lf.specs.Substitution.{Image, lift, single, substitute_spine, substitute_type, substitute_kind, reduce}
use Rattle.lf.specs.Typing.{Signature, TypeAt, instantiate_kind, SpineFitsKind}
use Rattle.lf.specs.Variables.{target, target_arguments, with_arguments, FamiliesIn, under, Uses, UsesSpine, UsesType, Within, nothing, hide}
use Rattle.lf.specs.Subordination.{Block, IsDeclared}
use Rattle.lf.specs.Worlds.{World}
use Rattle.lf.specs.Extension.{Extends}
use Rattle.lf.proofs.Agreement.{uses_type_within}
use Rattle.lf_cases.proofs.GroundTypes.{grows}
use Rattle.lf.proofs.Target.{target_of}
use Rattle.lf.proofs.Strength.{families_substituted}
use Rattle.lf.proofs.Strengthening.{strengthening}

module _ (Σ : Signature) (W : List Block) (below : ℕ → ℕ → Bool) (s : IsSubordination Σ W below) where
  pub places_substituted : (a : ℕ) (r : Skeleton → Term → Spine → Term) (σ : ℕ → Image) (K : Kind) → PlacesBelow Σ below a K → PlacesBelow Σ below a (substitute_kind r σ K)
  places_substituted a r σ (kind_pi A K) (d, b, f, k) = (subst (λ o. IsDeclared Σ o) (sym (target_of r σ A)) d, subst (λ o. below a o ≡ true) (sym (target_of r σ A)) b, subst (λ o. FamiliesIn (below o) (substitute_type r σ A)) (sym (target_of r σ A)) (families_substituted (below (target A)) r σ A f), places_substituted a r (lift σ) K k)
  places_substituted a r σ star k = k

  -- each argument uses only variables whose families are below the target of its place's type
  abbrev pub LowArgs : List LfType → Spine → Kind → Type 0
  LowArgs D (app M S) (kind_pi A K) = ((U : ℕ → Bool) → ((i : ℕ) (X : LfType) → TypeAt D i X → below (target A) (target X) ≡ true → U i ≡ true) → Uses U M) × LowArgs D S (instantiate_kind A M K)
  LowArgs D S K = Unit {0}

  pub low_arguments : (a : ℕ) (Σ' : Signature) → Extends (below a) Σ Σ' → (D : List LfType) → World Σ' W (below a) D → (S : Spine) (K : Kind) → PlacesBelow Σ below a K → SpineFitsKind Σ' D S K → LowArgs D S K
  low_arguments a Σ' x D w nil K p t = tt
  low_arguments a Σ' x D w (app M S) star p t = tt
  low_arguments a Σ' x D w (app M S) (kind_pi A K) (d, b, f, k) (m, t) = ((λ U h. strengthening Σ Σ' W (below a) (below (target A)) (s.through a (target A) b) (s.self_contained (target A) d) x D w U h M A f m), low_arguments a Σ' x D w S (instantiate_kind A M K) (places_substituted a reduce (single (skeleton A) M) K k) t)

-- where every place is an input, the same inputs are the same arguments
pub same_all : (m : List Mark) (S T : Spine) → AllInputs m → SamePlaces (input_places m) S T → S ≡ T
same_all [] nil nil a p = refl
same_all [] nil (app N T) a p = absurd p
same_all [] (app M S) T a p = absurd p
same_all (b ∷ m) nil T a p = absurd p
same_all (b ∷ m) (app M S) nil a p = absurd p
same_all (input ∷ m) (app M S) (app N T) a (e, p) = ap₂ app e (same_all m S T a p)
same_all (output ∷ m) (app M S) (app N T) a p = absurd a
same_all (free ∷ m) (app M S) (app N T) a p = absurd a

-- A subgoal without output places is covered.
pub with_own : (P : LfType) → with_arguments P (target_arguments P) ≡ P
with_own (pi A B) = ap (pi A) (with_own B)
with_own (atom a S) = refl

none_strict : (m : List Mark) (B F : ℕ → Bool) (x : ℕ) (S : Spine) → AllInputs m → strict_at (output_places m) B F x S ≡ false
none_strict [] B F x S a = refl
none_strict (input ∷ m) B F x nil a = refl
none_strict (input ∷ m) B F x (app M S) a = none_strict m B F x S a
none_strict (output ∷ m) B F x S a = absurd a
none_strict (free ∷ m) B F x S a = absurd a

none_goal : (m : List Mark) (A : LfType) (B F : ℕ → Bool) (x : ℕ) → AllInputs m → strict_goal (output_places m) B F x A ≡ false
none_goal m (pi X A) B F x a = none_goal m A (under B) (hide F) (suc x) a
none_goal m (atom b S) B F x a = none_strict m B F x S a

no_more : (u v w : Bool) → w ≡ false → either u (both v w) ≡ true → u ≡ true
no_more true v w e h = refl
no_more false true w e h = absurd (let f : false ≡ true = sym e ∙ h in cc)
no_more false false w e h = absurd cc

all_at : (U : ℕ → Bool) (r : Skeleton → Term → Spine → Term) (σ : ℕ → Image) (m : List Mark) (S T : Spine) → AllInputs m → SamePlaces (input_places m) (substitute_spine r σ S) T → UsesPlaces U (input_places m) S → UsesSpine U S
all_at U r σ [] nil T a p u = tt
all_at U r σ [] (app M S) T a p u = absurd p
all_at U r σ (input ∷ m) nil T a p u = tt
all_at U r σ (input ∷ m) (app M S) nil a p u = absurd p
all_at U r σ (input ∷ m) (app M S) (app N T) a p u = (u.0, all_at U r σ m S T a p.1 u.1)
all_at U r σ (output ∷ m) S T a p u = absurd a
all_at U r σ (free ∷ m) S T a p u = absurd a

all_goal : (U : ℕ → Bool) (r : Skeleton → Term → Spine → Term) (σ : ℕ → Image) (m : List Mark) (A : LfType) (T : Spine) → AllInputs m → SamePlaces (input_places m) (target_arguments (substitute_type r σ A)) T → UsesGoal U (input_places m) A → UsesType U A
all_goal U r σ m (pi X A) T a p (u, w) = (u, all_goal (under U) r (lift σ) m A T a p w)
all_goal U r σ m (atom b S) T a p u = all_at U r σ m S T a p u

pub no_outputs : (Σ : Signature) (m : ℕ → List Mark) (W : List Block) (S : ℕ → Bool) (c : Clause) (U : ℕ → Bool) (A : LfType) → AllInputs (m (target A)) → UsesGoal U (input_places (m (target A))) A → CoveredOutputs Σ m W S c U A
no_outputs Σ m W S c U A a u Σ' x G w h θ off σ v o ts T K e p k =
    let back : Within (ground_after m c A U) U = λ i r. no_more (U i) (variables c i) _ (none_goal (m (target A)) A nothing (outside c.type c.fixed) i a) r in
    record {
      values = σ;
      typed = record { typed = λ i X g r. v.typed i X g (back i r); closed = λ i X g r. uses_type_within U (ground_after m c A U) X (grows m c A U) (v.closed i X g (back i r)) };
      same = λ i r. refl;
      terms = λ i q r. ts i q (back i r);
      uses = uses_type_within U (ground_after m c A U) A (grows m c A U) (all_goal U reduce σ (m (target A)) A T a p u);
      is_instance = sym (ap (with_arguments (substitute_type reduce σ A)) (sym (same_all (m (target A)) (target_arguments (substitute_type reduce σ A)) T a p)) ∙ with_own (substitute_type reduce σ A));
    }
