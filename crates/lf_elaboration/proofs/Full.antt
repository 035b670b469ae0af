-- Where nothing is left out, no metavariable is made, so a completion makes the sides of each equation the same text as they stand: there is no equation.
use Rattle.std.proofs.Common.{◌≡◌, ℕ, suc, List, [], ◌∷◌, Option, None, Some, refl, sym, ap, ap₂, ◌∙◌}
use Rattle.lf.specs.Entries.{Body, Entry, IsCanonicalSignature, declare_constant, declare_definition, declare_family, signature_of}
use Rattle.lf.specs.Syntax.{Kind, LfType, Skeleton, Spine, Term, app, atom, constant, kind_pi, lambda, metavariable, nil, pi, root, star, variable}
use Rattle.lf.specs.Typing.{Signature}
use Rattle.lf.proofs.Entries.{canonical_is_signature}
use Rattle.lf_elaboration.specs.EquationLaws.{EachDiffers, FullHasNoEquation}
use Rattle.lf_elaboration.specs.Kinds.{MetavariablesInKind, fill_kind}
use Rattle.lf_elaboration.specs.Principal.{WrittenBody, written_constant, written_definition, written_definition_of, written_family}
use Rattle.lf_elaboration.specs.PrincipalLaws.{ElaboratesBody}
use Rattle.lf_elaboration.specs.Skeletons.{StateHasSkeletons}
use Rattle.lf_elaboration.specs.State.{State}
use Rattle.lf_unification.specs.Filling.{fill, fill_spine, fill_type, moved}
use Rattle.lf_unification.specs.OpenTyping.{Declares, MetavariablesIn, MetavariablesInSpine, MetavariablesInType, skeletons_of, under_locals}
use Rattle.lf_unification.specs.Scope.{MetavariablesInEquations}
use Rattle.lf_unification.specs.Unifiers.{Equation, SolvesAll}
use Rattle.lf_elaboration.proofs.Differ.{equations_differ}
use Rattle.lf_elaboration.proofs.Made.{equations_declared}
use Rattle.lf_elaboration.proofs.Principal.{found}
use Rattle.lf_elaboration.proofs.Skeletons.{checks_skeletons, frees_skeletons, infers_skeletons, kind_skeletons, nothing_has_skeletons, type_skeletons}

-- where no metavariable stands, a filling changes nothing
module _ (V : ℕ → Type 0) (absent : (m : ℕ) → V m → ⊥) (μ : ℕ → Skeleton) where
  mutual
    pub fill_none : (β : ℕ → Option Term) (M : Term) → MetavariablesIn V M → fill μ β M ≡ M
    fill_none β (lambda M) i = ap lambda (fill_none (moved suc β) M i)
    fill_none β (root (constant c) S) i = ap (root (constant c)) (fill_none_spine β S i)
    fill_none β (root (variable j) S) i = ap (root (variable j)) (fill_none_spine β S i)
    fill_none β (root (metavariable m) S) (v, i) = absurd (absent m v)

    pub fill_none_spine : (β : ℕ → Option Term) (S : Spine) → MetavariablesInSpine V S → fill_spine μ β S ≡ S
    fill_none_spine β nil i = refl
    fill_none_spine β (app M S) (i, j) = ap₂ app (fill_none β M i) (fill_none_spine β S j)

  pub fill_none_type : (β : ℕ → Option Term) (A : LfType) → MetavariablesInType V A → fill_type μ β A ≡ A
  fill_none_type β (pi A B) (i, j) = ap₂ pi (fill_none_type β A i) (fill_none_type (moved suc β) B j)
  fill_none_type β (atom a S) i = ap (atom a) (fill_none_spine β S i)

  pub fill_none_kind : (β : ℕ → Option Term) (K : Kind) → MetavariablesInKind V K → fill_kind μ β K ≡ K
  fill_none_kind β (kind_pi A K) (i, j) = ap₂ kind_pi (fill_none_type β A i) (fill_none_kind (moved suc β) K j)
  fill_none_kind β star i = refl

  -- so equations whose sides differ have no solution
  none_solved : (β : ℕ → Option Term) (es : List Equation) → MetavariablesInEquations V es → EachDiffers es → SolvesAll μ β es → es ≡ []
  none_solved β [] i d h = refl
  none_solved β (e ∷ es) (i, j, is) (n, d) (h, hs) = absurd (n (sym (fill_none (under_locals e.local β) e.left i) ∙ h ∙ fill_none (under_locals e.local β) e.right j))

-- the state behind a body has skeletons
module _ (es : List Entry) (canonical : IsCanonicalSignature es) (frees : List ℕ) where
  body_state : (s s' : State) (w : WrittenBody) (b : Body) → StateHasSkeletons (signature_of es) s → ElaboratesBody es frees w s s' b → StateHasSkeletons (signature_of es) s'
  body_state s s' (written_family k) (declare_family K) h x = (kind_skeletons es canonical frees x h tt).0
  body_state s s' (written_constant U) (declare_constant A) h x = (type_skeletons es canonical frees x h tt).0
  body_state s s' (written_definition M b) (declare_definition R A c) h (e, x) = (infers_skeletons es canonical frees x h tt).0
  body_state s s' (written_definition_of M U b) (declare_definition R A c) h (e, s₁, x, y) = let (t, a) = type_skeletons es canonical frees x h tt in (checks_skeletons es canonical frees y t tt a).0
  body_state s s' (written_family k) (declare_constant A) h x = absurd x
  body_state s s' (written_family k) (declare_definition R A c) h x = absurd x
  body_state s s' (written_constant U) (declare_family K) h x = absurd x
  body_state s s' (written_constant U) (declare_definition R A c) h x = absurd x
  body_state s s' (written_definition M b) (declare_family K) h x = absurd x
  body_state s s' (written_definition M b) (declare_constant A) h x = absurd x
  body_state s s' (written_definition_of M U b) (declare_family K) h x = absurd x
  body_state s s' (written_definition_of M U b) (declare_constant A) h x = absurd x

pub full_no_equation : FullHasNoEquation
full_no_equation es canonical ts frees s s' f w b x none c k =
    let Σ : Signature = signature_of es in
    let h₀ : StateHasSkeletons Σ s = frees_skeletons es canonical f (nothing_has_skeletons Σ (canonical_is_signature es canonical)) in
    let h : StateHasSkeletons Σ s' = body_state es canonical frees s s' w b h₀ x in
    let (β, u, v, e) = found es canonical ts frees s s' f w b c.body x c.quantifiers c.frees k in
    none_solved (Declares s'.metavariables) (λ m (A, d). let clash : None ≡ Some A = sym (none m) ∙ d in absurd cc) (skeletons_of s'.metavariables) β s'.equations (equations_declared Σ s' h s'.equations h.equations) (equations_differ es ts frees s s' f w b x) u.1.1
