-- A metavariable without arguments that takes the whole other side.
use Rattle.std.proofs.Common.{◌≡◌, ℕ, [], Option, Some, None, refl, sym, ap, ◌∙◌, subst}
use Rattle.lf.specs.SkeletonTyping.{TermSkeleton}
use Rattle.lf.specs.Skeletons.{type_skeleton}
use Rattle.lf.specs.Syntax.{LfType, Skeleton, Term, base, metavariable, nil, rename, root}
use Rattle.lf_unification.specs.Inversion.{IsPattern}
use Rattle.lf_unification.specs.OpenTyping.{skeletons_of}
use Rattle.lf_unification.specs.Patterns.{beyond, lambdas_of, local_skeletons, pattern, pattern_renaming}
use Rattle.lf_unification.specs.Skeletons.{skeleton_or_default}
use Rattle.lf_unification.proofs.Eta.{rename_id}
use Rattle.tw_metas.specs.State.{State}
use Rattle.tw_putting.specs.Fits.{declared_skeletons}
use Rattle.tw_putting.specs.Stores.{bindings_of, types_of}
use Rattle.tw_putting.specs.Unfolding.{HeadStays}
use Rattle.tw_terms.specs.declared.canonical.MetaId.{MetaId}
use Rattle.tw_unify.specs.Flexible.{BindsWhole}
use Rattle.tw_unify.specs.Moving.{HeadsFit}
use Rattle.tw_unify.specs.Reaching.{IsAvoided}

some_same : {A : Type 0} {x y : A} → Some x ≡ Some y → x ≡ y
some_same e = cc

-- the empty pattern at a base
no_pattern : (t : Skeleton) (c : ℕ) → t ≡ base c → IsPattern [] t []
no_pattern t c e = subst (λ u. IsPattern [] u []) (sym e) (record { places = λ Γ. tt; distinct = λ i j h. h })

no_arguments : (t : Skeleton) (c : ℕ) → t ≡ base c → nil ≡ pattern t []
no_arguments t c e = ap (λ u. pattern u []) (sym e)

same_term : (t : Skeleton) (c : ℕ) (N : Term) → t ≡ base c → rename (pattern_renaming t [] (beyond [])) N ≡ N
same_term t c N e = ap (λ u. rename (pattern_renaming u [] (beyond [])) N) e ∙ rename_id N

no_lambdas : (t : Skeleton) (c : ℕ) (N : Term) → t ≡ base c → N ≡ lambdas_of t N
no_lambdas t c N e = ap (λ u. lambdas_of u N) (sym e)

-- the skeleton of a metavariable that has no arguments, and its type
record IsBase (s : State) (m : ℕ) : Type 0 where
  of_type : LfType
  declared : types_of s m ≡ Some of_type
  family : ℕ
  is : skeletons_of (types_of s) m ≡ base family

module _ (s : State) (M N : Term) (f : HeadsFit s [] M N) (m : MetaId) (is : M ≡ root (metavariable m.0) nil) where
  declared_at : (x : (A : LfType) × (types_of s m.0 ≡ Some A)) (t : Skeleton) → type_skeleton (types_of s m.0) ≡ Some t → t ≡ base f.family → IsBase s m.0
  declared_at (A, d) t g e = record {
    of_type = A;
    declared = d;
    family = f.family;
    is = ap skeleton_or_default d ∙ some_same (sym (ap type_skeleton d) ∙ g) ∙ e;
  }

  is_declared : (t : Skeleton) → type_skeleton (types_of s m.0) ≡ Some t → (A : LfType) × (types_of s m.0 ≡ Some A)
  is_declared t g = go (types_of s m.0) refl g
    where
      go : (x : Option LfType) → types_of s m.0 ≡ x → type_skeleton x ≡ Some t → (A : LfType) × (types_of s m.0 ≡ Some A)
      go None q h = cc
      go (Some A) q h = (A, q)

  is_base : IsBase s m.0
  is_base =
      let typed : TermSkeleton (declared_skeletons f.signature (types_of s)) (local_skeletons [] []) (root (metavariable m.0) nil) (base f.family) = subst (λ X. TermSkeleton (declared_skeletons f.signature (types_of s)) (local_skeletons [] []) X (base f.family)) is f.left_typed in
      declared_at (is_declared typed.0 typed.1) typed.0 typed.1 typed.2

  pub binds_whole : IsAvoided (types_of s) (bindings_of s) N m.0 → BindsWhole s M N m
  binds_whole a V e =
      let b = is_base in
      record {
        m = m.0;
        xs = [];
        fits = record {
          signature = f.signature;
          consistent = f.consistent;
          of_type = b.of_type;
          declared = b.declared;
          is_pattern = no_pattern (skeletons_of (types_of s) m.0) b.family b.is;
          unbound = subst (HeadStays s) is f.left_stays;
          family = f.family;
          right_typed = f.right_typed;
        };
        is = is ∙ ap (root (metavariable m.0)) (no_arguments (skeletons_of (types_of s) m.0) b.family b.is);
        move = (
          refl,
          record {
            can = record {
              inverted = record { inversion = N; is = same_term (skeletons_of (types_of s) m.0) b.family N b.is };
              reached = a.reached;
              avoids = a.avoids;
              within = a.within;
            };
            value = e ∙ no_lambdas (skeletons_of (types_of s) m.0) b.family N b.is;
          },
        );
      }
