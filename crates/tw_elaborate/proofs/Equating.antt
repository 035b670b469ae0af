-- Equations between types, kinds and arguments, one after another.
use Rattle.std.proofs.Common.{◌≡◌, ℕ, List, [], Option, Some, None, Result, Ok, Err, OnOk, map, sym, ap, ◌∙◌, subst}
use Rattle.lf.specs.Entries.{Entry, IsCanonicalSignature, signature_of}
use Rattle.lf.specs.SkeletonTyping.{SpineSkeleton}
use Rattle.lf.specs.Skeletons.{family_skeleton, family_skeletons}
use Rattle.lf.specs.Syntax.{Kind, LfType, Skeleton, Spine, atom, base, kind_skeleton}
use Rattle.lf.specs.Typing.{IsSignature, Signature}
use Rattle.lf.proofs.Entries.{canonical_is_signature}
use Rattle.lf_elaboration.specs.Skeletons.{TypeHasSkeletons, heads_of}
use Rattle.lf_elaboration.specs.State.{State, differing, index_equations, with_equations}
use Rattle.lf_elaboration.proofs.Skeletons.{kind_closed}
use Rattle.lf_unification.specs.Lists.{followed}
use Rattle.lf_unification.specs.Offering.{spine_equations}
use Rattle.lf_unification.specs.Patterns.{local_skeletons}
use Rattle.lf_unification.specs.Unifiers.{Equation}
use Rattle.tw_metas.specs.State as metas
use Rattle.tw_metas.specs.View.{equation_of}
use Rattle.tw_metas.specs.declared.equation.Equation.{Equation as TwEquation}
use Rattle.tw_open.specs.Indices.{IndicesFit}
use Rattle.tw_open.specs.View.{made_with}
use Rattle.tw_open.proofs.Arguments.{followed_after, followed_none}

pub equations_twice : (es fs : List Equation) (s : State) → with_equations fs (with_equations es s) ≡ with_equations (followed es fs) s
equations_twice es fs s = ap (λ (l : List Equation). record { metavariables = s.metavariables; next = s.next; equations = l }) (followed_after s.equations es fs)

pub no_equations : (s : State) → with_equations [] s ≡ s
no_equations s = ap (λ (l : List Equation). record { metavariables = s.metavariables; next = s.next; equations = l }) (followed_none s.equations)

-- the arguments of an atom
module _ (es : List Entry) (canonical : IsCanonicalSignature es) where
  abbrev ok : IsSignature (signature_of es)
  ok = canonical_is_signature es canonical

  some_kind : (a : ℕ) (K : Kind) (t : Skeleton) (x : Option Kind) → Some K ≡ x → family_skeleton a x ≡ Some t → t ≡ kind_skeleton a K
  some_kind a K t x e f = (let p : Some t ≡ Some (kind_skeleton a K) = sym f ∙ ap (family_skeleton a) (sym e) in cc)

  pub indices_stand : (s : State) (D : List LfType) (a : ℕ) (S : Spine) (K L : Kind) → Some K ≡ (signature_of es).kinds a → L ≡ K → TypeHasSkeletons (signature_of es) s D (atom a S) → IndicesFit D L S
  indices_stand s D a S K L e l (t, f, r) = subst (λ X. IndicesFit D X S) (sym l) (record {
    families = family_skeletons (signature_of es);
    heads = heads_of (signature_of es) s;
    family = a;
    result = base a;
    kind_typed = kind_closed (signature_of es) ok s D K (ok.kinds_ok a K (sym e));
    spine_typed = subst (λ x. SpineSkeleton (heads_of (signature_of es) s) (local_skeletons D []) S x (base a)) (some_kind a K t ((signature_of es).kinds a) e f) r;
  })

-- the equations that are added to the vector are those of the theory
pub equations_added : (Σ : Signature) (s : metas.State) (D : List LfType) (x : Option Kind) (S T : Spine) (K L : Kind) {X Y : Type 0} (old new : List TwEquation) (r : Result X Y) → Some K ≡ x → L ≡ K
    → OnOk r (map equation_of new ≡ followed (map equation_of old) (differing (spine_equations D L S T))) → OnOk r (made_with (map equation_of new) s ≡ with_equations (index_equations Σ x D S T) (made_with (map equation_of old) s))
equations_added Σ s D x S T K L old new (Ok v) e l q =
    ap (λ (es : List Equation). made_with es s) q ∙ ap (λ k. with_equations (differing (spine_equations D k S T)) (made_with (map equation_of old) s)) l ∙ ap (λ y. with_equations (index_equations Σ y D S T) (made_with (map equation_of old) s)) e
equations_added Σ s D x S T K L old new (Err f) e l q = tt

pub no_index_equations : (Σ : Signature) (s : State) (D : List LfType) (x : Option Kind) (S T : Spine) → None ≡ x → s ≡ with_equations (index_equations Σ x D S T) s
no_index_equations Σ s D x S T e = sym (no_equations s) ∙ ap (λ y. with_equations (index_equations Σ y D S T) s) e
