-- An exhausted tree: each closed typed unifier of its root, with its inhabitants, is one of a leaf.
use Rattle.std.proofs.Common.{◌≡◌, ℕ, zero, suc, List, [], ◌∷◌, Option, Some, None, inl, inr, refl, sym, ap, ◌∙◌, subst, ◌⊎◌}
use Rattle.lf.specs.SkeletonTyping.{SpineSkeleton, TypeBySkeletons}
use Rattle.lf.specs.Skeletons.{context_skeletons, family_skeletons}
use Rattle.lf.specs.Syntax.{Head, Skeleton, Spine, Term, LfType, app, arrow, atom, base, constant, lambda, metavariable, nil, pi, root, skeleton, variable, weaken}
use Rattle.lf.specs.Typing.{TypeAt, HeadHasType, SpineType, HasType, IsSignature, Signature}
use Rattle.lf.specs.Variables.{onto}
use Rattle.lf_unification.specs.Filling.{fill, fill_spine, fill_type}
use Rattle.lf_unification.specs.OpenTyping.{Declares, IsInstance, MetavariablesInType, ValueHasType, fill_locals, skeletons_of, under_locals}
use Rattle.lf_unification.specs.Patterns.{local_skeletons}
use Rattle.lf_unification.specs.Patterns.{skeleton_target}
use Rattle.lf_unification.specs.Rigid.{Rigid, past_binders}
use Rattle.lf_unification.specs.Offering.{MetavariablesInLocals, lambda_over, pi_over, spine_equations}
use Rattle.lf_unification.specs.Skeletons.{TotalSkeletons, as_head_skeletons, total_skeletons, skeleton_or_default}
use Rattle.lf.specs.Subordination.{Member}
use Rattle.lf_unification.specs.Search.{IsNode, Node, Offer, OfferedHeadHasType, Pending, SearchRun, SearchStep, at_heads, at_node, begin_search, child, constant_heads, local_heads, no_child, no_head, other_target, search_on, take_goal, take_leaf}
use Rattle.lf_unification.specs.Lists.{followed}
use Rattle.lf_unification.specs.Unifiers.{ExtendsFilling, Respects, Solution, SolvesAll, Store}
use Rattle.lf.proofs.Decidability.{variable_type_unique}
use Rattle.lf.proofs.SkeletonTypes.{renaming_keeps_types_by_skeletons}
use Rattle.lf.proofs.Substitution.{constant_type}
use Rattle.lf_unification.proofs.Agree.{fill_agree_spine}
use Rattle.lf_unification.proofs.EquationLemmas.{respects_agree, solves_agree, solves_followed, spine_solves}
use Rattle.lf_unification.proofs.Sound.{AllFrom, from_itself, step_from}
use Rattle.lf_unification.proofs.Filling.{fill_rename_type, skeleton_fill}
use Rattle.lf_unification.proofs.Offer.{Outcome, Ready, offered_met, under_agree}
use Rattle.lf_unification.proofs.OpenSound.{fill_typed_type}
use Rattle.lf_unification.proofs.Raise.{fill_lambda_over, fill_pis, has_body, lambda_over_fill}
use Rattle.lf_unification.proofs.Scope.{in_rename_type, in_typed_type}
use Rattle.lf_unification.proofs.ToSkeletons.{typed_spine_has_skeleton, type_by_skeletons}

-- lists
pub among_left : {A : Type 0} (x : A) (xs ys : List A) → Member x xs → Member x (followed xs ys)
among_left x [] ys i = absurd i
among_left x (z ∷ xs) ys (inl e) = inl e
among_left x (z ∷ xs) ys (inr i) = inr (among_left x xs ys i)

pub among_right : {A : Type 0} (x : A) (xs ys : List A) → Member x ys → Member x (followed xs ys)
among_right x [] ys i = i
among_right x (z ∷ xs) ys i = inr (among_right x xs ys i)

among_local : (D : List LfType) (k i : ℕ) (A : LfType) (f : ℕ → ℕ) → TypeAt (onto D []) i A → Member (variable (Rattle.lf_unification.specs.Rigid.past_binders i k)) (local_heads k D)
among_local [] k i A f g = absurd g
among_local (B ∷ D) k zero A f g = inl refl
among_local (B ∷ D) k (suc i) A f (C, g, e) = inr (among_local D (suc k) i C f g)

among_constant : (cs : List ℕ) (c : ℕ) → Member c cs → Member (constant c) (constant_heads cs)
among_constant [] c i = i
among_constant (d ∷ cs) c (inl e) = inl (ap constant e)
among_constant (d ∷ cs) c (inr i) = inr (among_constant cs c i)

pub past_binders_zero : (i k : ℕ) → Rattle.lf_unification.specs.Rigid.past_binders i (suc k) ≡ suc (Rattle.lf_unification.specs.Rigid.past_binders i k)
past_binders_zero zero k = refl
past_binders_zero (suc i) k = past_binders_zero i (suc k)

past_binders_is : (i : ℕ) → Rattle.lf_unification.specs.Rigid.past_binders i zero ≡ i
past_binders_is zero = refl
past_binders_is (suc i) = past_binders_zero i zero ∙ ap suc (past_binders_is i)

-- types of heads
head_unique : (Σ : Signature) (D : List LfType) (h : Head) (A B : LfType) → OfferedHeadHasType Σ D h A → OfferedHeadHasType Σ D h B → A ≡ B
head_unique Σ D (constant c) A B e f = (let p : Some A ≡ Some B = sym e ∙ f in cc)
head_unique Σ D (variable i) A B e f = variable_type_unique (onto D []) i A B e f
head_unique Σ D (metavariable m) A B e f = absurd e

spine_target_is : (κ : TotalSkeletons) (Γ : List Skeleton) (S : Spine) (t : Skeleton) (a : ℕ) → SpineSkeleton (as_head_skeletons κ) Γ S t (base a) → skeleton_target t ≡ a
spine_target_is κ Γ nil t a e = ap skeleton_target e
spine_target_is κ Γ (app M S) (arrow b c) a (m, s) = spine_target_is κ Γ S c a s
spine_target_is κ Γ (app M S) (base c) a s = absurd s

-- scope and skeletons of a closed type
pub in_pis : (V : ℕ → Type 0) (D : List LfType) (P : LfType) → MetavariablesInType V (pi_over D P) → MetavariablesInLocals V D × MetavariablesInType V P
in_pis V [] P i = (tt, i)
in_pis V (A ∷ D) P i = let (l, q) = in_pis V D (pi A P) i in ((l, q.0), q.1)

pub in_at : (V : ℕ → Type 0) (D : List LfType) (i : ℕ) (A : LfType) → MetavariablesInLocals V D → TypeAt (onto D []) i A → MetavariablesInType V A
in_at V [] i A l g = absurd g
in_at V (B ∷ D) zero A l e = subst (MetavariablesInType V) (sym e) (in_rename_type V suc B l.1)
in_at V (B ∷ D) (suc i) A l (C, g, e) = subst (MetavariablesInType V) (sym e) (in_rename_type V suc C (in_at V D i C l.0 g))

module _ (φ : ℕ → Option Skeleton) (κ : TotalSkeletons) (Γ : List Skeleton) where
  abbrev LocalsBySkeletons : List LfType → Type 0
  LocalsBySkeletons [] = Unit {0}
  LocalsBySkeletons (A ∷ D) = LocalsBySkeletons D × TypeBySkeletons φ (as_head_skeletons κ) (local_skeletons D Γ) A

  skeletons_pis : (D : List LfType) (P : LfType) → TypeBySkeletons φ (as_head_skeletons κ) Γ (pi_over D P) → LocalsBySkeletons D × TypeBySkeletons φ (as_head_skeletons κ) (local_skeletons D Γ) P
  skeletons_pis [] P i = (tt, i)
  skeletons_pis (A ∷ D) P i = let (l, q) = skeletons_pis D (pi A P) i in ((l, q.0), q.1)

  skeletons_at : (D : List LfType) (i : ℕ) (A : LfType) → LocalsBySkeletons D → TypeAt (onto D []) i A → TypeBySkeletons φ (as_head_skeletons κ) (local_skeletons D Γ) A
  skeletons_at [] i A l g = absurd g
  skeletons_at (B ∷ D) zero A l e = subst (TypeBySkeletons φ (as_head_skeletons κ) (local_skeletons (B ∷ D) Γ)) (sym e) (renaming_keeps_types_by_skeletons φ (as_head_skeletons κ) (local_skeletons D Γ) (local_skeletons (B ∷ D) Γ) suc B (λ i t g. g) l.1)
  skeletons_at (B ∷ D) (suc i) A l (C, g, e) = subst (TypeBySkeletons φ (as_head_skeletons κ) (local_skeletons (B ∷ D) Γ)) (sym e) (renaming_keeps_types_by_skeletons φ (as_head_skeletons κ) (local_skeletons D Γ) (local_skeletons (B ∷ D) Γ) suc C (λ i t g. g) (skeletons_at D i C l.0 g))

pub local_skeleton_context : (D F : List LfType) → context_skeletons (onto D F) ≡ local_skeletons D (context_skeletons F)
local_skeleton_context [] F = refl
local_skeleton_context (A ∷ D) F = ap (λ Γ. skeleton A ∷ Γ) (local_skeleton_context D F)

module _ (Σ : Signature) (ok : IsSignature Σ) (cs : List ℕ) (all : (c : ℕ) (A : LfType) → Σ.types c ≡ Some A → Member c cs) where
  -- the head of an inhabitant is one of those that are tried
  head_found : (μ : ℕ → Skeleton) (β : ℕ → Option Term) (D : List LfType) (h : Head) (A₀ : LfType) → HeadHasType Σ (onto (fill_locals μ β D) []) h A₀ → (A : LfType) × OfferedHeadHasType Σ D h A × (A₀ ≡ fill_type μ (under_locals D β) A) × Member h (followed (local_heads zero D) (constant_heads cs))
  head_found μ β D (constant c) A e = (A, e, sym (fill_typed_type Σ μ [] (under_locals D β) A (ok.types_ok c A e)), among_right (constant c) (local_heads zero D) (constant_heads cs) (among_constant cs c (all c A e)))
  head_found μ β D (variable i) A₀ g = let (A, k, e) = find D i A₀ g in (A, k, e, among_left (variable i) (local_heads zero D) (constant_heads cs) (subst (λ j. Member (variable j) (local_heads zero D)) (past_binders_is i) (among_local D zero i A (λ j. j) k)))
    where
      find : (E : List LfType) (j : ℕ) (B : LfType) → TypeAt (onto (fill_locals μ β E) []) j B → (A : LfType) × TypeAt (onto E []) j A × (B ≡ fill_type μ (under_locals E β) A)
      find [] j B g = absurd g
      find (X ∷ E) zero B e = (weaken X, refl, e ∙ fill_rename_type μ suc (under_locals E β) X)
      find (X ∷ E) (suc j) B (C, g, e) = let (A, k, q) = find E j C g in (weaken A, (A, k, refl), e ∙ ap weaken q ∙ fill_rename_type μ suc (under_locals E β) A)
  head_found μ β D (metavariable m) A g = absurd g

  -- an inhabitant of hole g, split at its head
  pub record Inhabited (node : Node) (g : ℕ) (D : List LfType) (a : ℕ) (T : Spine) (β : ℕ → Option Term) (h : Head) : Type 0 where
    pub head_type : LfType
    pub typed : OfferedHeadHasType Σ D h head_type
    pub spine : Spine
    pub is : β g ≡ Some (lambda_over D (root h spine))
    pub spine_ok : SpineType Σ (onto (fill_locals (skeletons_of node.store.metavariables) β D) []) spine (fill_type (skeletons_of node.store.metavariables) (under_locals D β) head_type) (atom a (fill_spine (skeletons_of node.store.metavariables) (under_locals D β) T))

  head_skeletons : (μ : ℕ → Skeleton) (D : List LfType) (h : Head) (A : LfType) → OfferedHeadHasType Σ D h A → LocalsBySkeletons (family_skeletons Σ) (total_skeletons Σ μ) (context_skeletons []) D → TypeBySkeletons (family_skeletons Σ) (as_head_skeletons (total_skeletons Σ μ)) (local_skeletons D (context_skeletons [])) A
  head_skeletons μ D (constant c) A e l = subst (λ Γ. TypeBySkeletons (family_skeletons Σ) (as_head_skeletons (total_skeletons Σ μ)) Γ A) (local_skeleton_context D []) (type_by_skeletons Σ μ (onto D []) A (constant_type Σ ok (onto D []) c A e))
  head_skeletons μ D (variable i) A g l = skeletons_at (family_skeletons Σ) (total_skeletons Σ μ) (context_skeletons []) D i A l g
  head_skeletons μ D (metavariable m) A g l = absurd g

  head_in : (V : ℕ → Type 0) (D : List LfType) (h : Head) (A : LfType) → OfferedHeadHasType Σ D h A → MetavariablesInLocals V D → MetavariablesInType V A
  head_in V D (constant c) A e l = in_typed_type V Σ [] A (ok.types_ok c A e)
  head_in V D (variable i) A g l = in_at V D i A l g
  head_in V D (metavariable m) A g l = absurd g

  fill_head : (μ : ℕ → Skeleton) (β : ℕ → Option Term) (D : List LfType) (h : Head) (A : LfType) (S : Spine) → OfferedHeadHasType Σ D h A → fill μ β (root h S) ≡ root h (fill_spine μ β S)
  fill_head μ β D (constant c) A S e = refl
  fill_head μ β D (variable i) A S e = refl
  fill_head μ β D (metavariable m) A S e = absurd e

  -- THE theorem on a try: where the inhabitant begins with the head offered, it is a unifier of what is offered
  pub offer_met : (node : Node) (g : ℕ) (D : List LfType) (a : ℕ) (T : Spine) (h : Head) (A : LfType) (s : Store) (n : ℕ) → IsNode Σ node → node.store.metavariables g ≡ Some (pi_over D (atom a T)) → Offer Σ node g D a T h A s n → (β : ℕ → Option Term) → Solution Σ [] node.store [] β → Inhabited node g D a T β h →
      (β' : ℕ → Option Term) × ((m : ℕ) → Declares node.store.metavariables m → β m ≡ β' m) × ((m : ℕ) (B : LfType) → node.store.metavariables m ≡ Some B → s.metavariables m ≡ Some B) × Solution Σ [] s [] β'
  offer_met node g D a T h A s n nok e o β (inst, (r, q)) w =
      (out.value, out.same, out.grows, (out.inst, (subst (Respects μ' out.value) (sym o.bindings) (bound, respects_agree V μ μ' skels β out.value out.same node.store.bindings nok.scoped.bindings r), subst (SolvesAll μ' out.value) (sym o.equations) (solves_followed μ' out.value node.store.equations (spine_equations D o.kind T o.indices) (solves_agree V μ μ' skels β out.value out.same node.store.equations nok.scoped.equations q) (spine_solves μ' out.value D o.kind T o.indices new_solved)))))
    where
      Ψ : ℕ → Option LfType
      Ψ = node.store.metavariables

      μ : ℕ → Skeleton
      μ = skeletons_of node.store.metavariables

      μ' : ℕ → Skeleton
      μ' = skeletons_of s.metavariables

      V : ℕ → Type 0
      V = Declares node.store.metavariables

      in_scope : MetavariablesInLocals (Declares node.store.metavariables) D × MetavariablesInType (Declares node.store.metavariables) (atom a T)
      in_scope = in_pis (Declares node.store.metavariables) D (atom a T) (nok.scoped.types g (pi_over D (atom a T)) e)

      same_type : w.head_type ≡ A
      same_type = head_unique Σ D h w.head_type A w.typed o.typed

      ready : Ready Σ ok [] [] D A node.store.metavariables node.next β
      ready = record {
        inst = inst;
        fresh = nok.scoped.fresh;
        scoped = nok.scoped.types;
        outer_scoped = λ i B x. absurd x;
        local_scoped = in_scope.0;
        type_scoped = head_in (Declares node.store.metavariables) D h A o.typed in_scope.0;
        type_skeletons = head_skeletons (skeletons_of node.store.metavariables) D h A o.typed (skeletons_pis (family_skeletons Σ) (total_skeletons Σ (skeletons_of node.store.metavariables)) (context_skeletons []) D (atom a T) (nok.skeletons g (pi_over D (atom a T)) e)).0;
      }

      out : Outcome Σ ok [] [] D node.store.metavariables β s.metavariables o.spine a o.indices w.spine a (fill_spine (skeletons_of node.store.metavariables) (under_locals D β) T)
      out = offered_met Σ ok [] [] o.offered β ready w.spine a (fill_spine (skeletons_of node.store.metavariables) (under_locals D β) T) (subst (λ X. SpineType Σ (onto (fill_locals (skeletons_of node.store.metavariables) β D) []) w.spine (fill_type (skeletons_of node.store.metavariables) (under_locals D β) X) (atom a (fill_spine (skeletons_of node.store.metavariables) (under_locals D β) T))) same_type w.spine_ok)

      skels : (m : ℕ) → Declares node.store.metavariables m → skeletons_of node.store.metavariables m ≡ skeletons_of s.metavariables m
      skels m d = ap skeleton_or_default (d.1 ∙ sym (out.grows m d.0 d.1))

      bound : out.value g ≡ Some (fill (skeletons_of s.metavariables) out.value (lambda_over D (root h o.spine)))
      bound = sym (out.same g (pi_over D (atom a T), e)) ∙ w.is ∙ ap Some (sym (fill_lambda_over (skeletons_of s.metavariables) out.value D (root h o.spine) ∙ ap (lambda_over D) (fill_head (skeletons_of s.metavariables) (under_locals D out.value) D h A o.spine o.typed ∙ ap (root h) out.spine)))

      new_solved : fill_spine (skeletons_of s.metavariables) (under_locals D out.value) T ≡ fill_spine (skeletons_of s.metavariables) (under_locals D out.value) o.indices
      new_solved = sym (fill_agree_spine (Declares node.store.metavariables) (skeletons_of node.store.metavariables) (skeletons_of s.metavariables) skels (under_locals D β) (under_locals D out.value) T (under_agree (Declares node.store.metavariables) D β out.value out.same) in_scope.1) ∙ sym out.indices

  -- the inhabitant of a hole begins with a head that is tried
  record Split (node : Node) (g : ℕ) (D : List LfType) (a : ℕ) (T : Spine) (β : ℕ → Option Term) : Type 0 where
    head : Head
    among : Member head (followed (local_heads zero D) (constant_heads cs))
    inhabited : Inhabited node g D a T β head
    right_target : skeleton_target (skeleton inhabited.head_type) ≡ a

  split : (node : Node) (g : ℕ) (D : List LfType) (a : ℕ) (T : Spine) → node.store.metavariables g ≡ Some (pi_over D (atom a T)) → (β : ℕ → Option Term) → IsInstance Σ [] node.store.metavariables [] β → Split node g D a T β
  split node g D a T e β inst = go (node.store.metavariables g) (β g) e refl (inst.typed g)
    where
      μ : ℕ → Skeleton
      μ = skeletons_of node.store.metavariables

      T' : Spine
      T' = fill_spine (skeletons_of node.store.metavariables) (under_locals D β) T

      E : List LfType
      E = fill_locals (skeletons_of node.store.metavariables) β D

      at_root : (V R : Term) → β g ≡ Some V → V ≡ lambda_over (fill_locals (skeletons_of node.store.metavariables) β D) R → HasType Σ (onto (fill_locals (skeletons_of node.store.metavariables) β D) []) R (atom a (fill_spine (skeletons_of node.store.metavariables) (under_locals D β) T)) → Split node g D a T β
      at_root V (lambda R) f q m = absurd m
      at_root V (root h S) f q (A₀, k, sp) =
          let (A, t, r, i) = head_found (skeletons_of node.store.metavariables) β D h A₀ k in
          let sp' : SpineType Σ (onto (fill_locals (skeletons_of node.store.metavariables) β D) []) S (fill_type (skeletons_of node.store.metavariables) (under_locals D β) A) (atom a (fill_spine (skeletons_of node.store.metavariables) (under_locals D β) T)) = subst (λ X. SpineType Σ (onto (fill_locals (skeletons_of node.store.metavariables) β D) []) S X (atom a (fill_spine (skeletons_of node.store.metavariables) (under_locals D β) T))) r sp in
          record {
            head = h;
            among = i;
            inhabited = record { head_type = A; typed = t; spine = S; is = f ∙ ap Some (q ∙ lambda_over_fill (skeletons_of node.store.metavariables) β D (root h S)); spine_ok = sp' };
            right_target = ap skeleton_target (sym (skeleton_fill (skeletons_of node.store.metavariables) (under_locals D β) A)) ∙ spine_target_is (total_skeletons Σ (skeletons_of node.store.metavariables)) (context_skeletons (onto (fill_locals (skeletons_of node.store.metavariables) β D) [])) S (skeleton (fill_type (skeletons_of node.store.metavariables) (under_locals D β) A)) a (typed_spine_has_skeleton Σ (skeletons_of node.store.metavariables) (onto (fill_locals (skeletons_of node.store.metavariables) β D) []) S (fill_type (skeletons_of node.store.metavariables) (under_locals D β) A) (atom a (fill_spine (skeletons_of node.store.metavariables) (under_locals D β) T)) sp');
          }

      go : (x : Option LfType) (y : Option Term) → x ≡ Some (pi_over D (atom a T)) → β g ≡ y → ValueHasType Σ [] (skeletons_of node.store.metavariables) β x y → Split node g D a T β
      go None None p f t = cc
      go None (Some V) p f t = absurd t
      go (Some A) None p f t = absurd t
      go (Some A) (Some V) p f t =
          let q : A ≡ pi_over D (atom a T) = cc in
          let (R, r, m) = has_body Σ [] (fill_locals (skeletons_of node.store.metavariables) β D) V (atom a (fill_spine (skeletons_of node.store.metavariables) (under_locals D β) T)) (subst (HasType Σ [] V) (ap (fill_type (skeletons_of node.store.metavariables) β) q ∙ fill_pis (skeletons_of node.store.metavariables) β D (atom a T)) t) in
          at_root V R f r m

  -- A closed typed unifier of the root that is one of what is still to be searched.
  abbrev pub AtPending : Node → (ℕ → Option Term) → Pending → Type 0
  AtPending top β (at_node node) = (β' : ℕ → Option Term) × ExtendsFilling top.store.metavariables β β' × Solution Σ [] node.store [] β'
  AtPending top β (at_heads node g gs D a T hs) = (β' : ℕ → Option Term) × ExtendsFilling top.store.metavariables β β' × Solution Σ [] node.store [] β' × (h : Head) × (w : Inhabited node g D a T β' h) × (skeleton_target (skeleton w.head_type) ≡ a) × Member h hs

  abbrev pub AtSome : Node → (ℕ → Option Term) → List Pending → Type 0
  AtSome top β [] = ⊥
  AtSome top β (p ∷ ps) = AtPending top β p ⊎ AtSome top β ps

  -- one that is a typed unifier of a leaf
  pub record Found (top : Node) (β : ℕ → Option Term) (ls : List Node) : Type 0 where
    pub at : Node
    pub among : Member at ls
    pub value : ℕ → Option Term
    pub extends : ExtendsFilling top.store.metavariables β value
    pub solution : Solution Σ [] at.store [] value

  to_left : (ls ls' : List Node) (top : Node) (β : ℕ → Option Term) → Found top β ls → Found top β (followed ls ls')
  to_left ls ls' top β f = record { at = f.at; among = among_left f.at ls ls' f.among; value = f.value; extends = f.extends; solution = f.solution }

  to_right : (ls ls' : List Node) (top : Node) (β : ℕ → Option Term) → Found top β ls' → Found top β (followed ls ls')
  to_right ls ls' top β f = record { at = f.at; among = among_right f.at ls ls' f.among; value = f.value; extends = f.extends; solution = f.solution }

  -- a step loses no closed typed unifier
  step_keeps : {agenda agenda' : List Pending} {ls : List Node} {k : ℕ} → SearchStep Σ cs agenda ls k agenda' → (top : Node) → AllFrom Σ cs top agenda → (β : ℕ → Option Term) → AtSome top β agenda → Found top β ls ⊎ AtSome top β agenda'
  step_keeps (take_leaf {node = node} e) top w β (inl (β', x, s)) = inl (record { at = node; among = inl refl; value = β'; extends = x; solution = s })
  step_keeps (take_leaf e) top w β (inr i) = inr i
  step_keeps (take_goal {node = node} {g = g} {D = D} {a = a} {T = T} e f) top w β (inl (β', x, s)) =
      let v : Split node g D a T β' = split node g D a T f β' s.0 in
      inr (inl (β', x, s, v.head, v.inhabited, v.right_target, v.among))
  step_keeps (take_goal e f) top w β (inr i) = inr (inr i)
  step_keeps no_head top w β (inl (β', x, s, h, v, t, i)) = absurd i
  step_keeps no_head top w β (inr i) = inr i
  step_keeps (other_target {D = D} f) top w β (inl (β', x, s, h, v, t, inl q)) = absurd (f v.head_type (subst (λ y. OfferedHeadHasType Σ D y v.head_type) q v.typed) t)
  step_keeps (other_target f) top w β (inl (β', x, s, h, v, t, inr i)) = inr (inl (β', x, s, h, v, t, i))
  step_keeps (other_target f) top w β (inr i) = inr (inr i)
  step_keeps (no_child {node = node} {g = g} {D = D} {a = a} {T = T} {h = h'} {A = A} {s = s'} {n = n} o dead) top w β (inl (β', x, s, h, v, t, inl q)) =
      let r = offer_met node g D a T h' A s' n w.0.0.is_node w.0.1 o β' s (subst (Inhabited node g D a T β') q v) in
      absurd (dead [] r.0 r.3)
  step_keeps (no_child o dead) top w β (inl (β', x, s, h, v, t, inr i)) = inr (inl (β', x, s, h, v, t, i))
  step_keeps (no_child o dead) top w β (inr i) = inr (inr i)
  step_keeps (child {node = node} {g = g} {D = D} {a = a} {T = T} {h = h'} {A = A} {s = s'} {n = n} {node' = node'} o u ok' gs) top w β (inl (β', x, s, h, v, t, inl q)) =
      let r = offer_met node g D a T h' A s' n w.0.0.is_node w.0.1 o β' s (subst (Inhabited node g D a T β') q v) in
      let (β'', ext, sol) = u.keeps.complete [] r.0 r.3 in
      inr (inl (β'', (λ m B e. (let e₁ : node.store.metavariables m ≡ Some B = w.0.0.grows m B e in ext m B (r.2 m B e₁) ∙ sym (r.1 m (B, e₁)) ∙ x m B e)), sol))
  step_keeps (child o u ok' gs) top w β (inl (β', x, s, h, v, t, inr i)) = inr (inr (inl (β', x, s, h, v, t, i)))
  step_keeps (child o u ok' gs) top w β (inr i) = inr (inr (inr i))

  -- THE theorem: a run loses no closed typed unifier; each is found at a leaf, or is still to be searched
  pub run_keeps : {agenda agenda' : List Pending} {ls : List Node} {k : ℕ} → SearchRun Σ cs agenda ls k agenda' → (top : Node) → AllFrom Σ cs top agenda → (β : ℕ → Option Term) → AtSome top β agenda → Found top β ls ⊎ AtSome top β agenda'
  run_keeps begin_search top w β i = inr i
  run_keeps (search_on {agenda' = ag} {agenda'' = ag'} {leaves = ls} {leaves' = ls'} p r) top w β i = go (step_keeps p top w β i) (λ j. run_keeps r top (step_from Σ cs p top w).1 β j)
    where
      go : Found top β ls ⊎ AtSome top β ag → (AtSome top β ag → Found top β ls' ⊎ AtSome top β ag') → Found top β (followed ls ls') ⊎ AtSome top β ag'
      go (inl f) h = inl (to_left ls ls' top β f)
      go (inr j) h = later (h j)
        where
          later : Found top β ls' ⊎ AtSome top β ag' → Found top β (followed ls ls') ⊎ AtSome top β ag'
          later (inl f) = inl (to_right ls ls' top β f)
          later (inr k) = inr k

  pub exhausted : {node : Node} {ls : List Node} {k : ℕ} → SearchRun Σ cs (at_node node ∷ []) ls k [] → IsNode Σ node → (β : ℕ → Option Term) → Solution Σ [] node.store [] β → Found node β ls
  exhausted {node = node} {ls = ls} r w β s = go (run_keeps r node (from_itself Σ cs node w, tt) β (inl (β, (λ m A e. refl), s)))
    where
      go : Found node β ls ⊎ ⊥ → Found node β ls
      go (inl f) = f
      go (inr i) = absurd i
