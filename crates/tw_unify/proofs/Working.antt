-- The work at one equation, as steps of unification.
use Rattle.std.proofs.Common.{◌≡◌, ℕ, ◌<◌, List, [], ◌∷◌, inl, inr, refl, sym, ap, ◌∙◌, subst, arith}
use Rattle.lf.specs.SkeletonTyping.{HeadSkeletons, TermSkeleton}
use Rattle.lf.specs.Depth.{depth_limit, type_depth}
use Rattle.lf.specs.Subordination.{Member}
use Rattle.lf.specs.Syntax.{Head, LfType, Skeleton, Spine, Term, arrow, atom, base, constant, lambda, metavariable, pi, root, skeleton, variable}
use Rattle.lf.specs.Typing.{IsSignature, Signature}
use Rattle.lf_unification.specs.Lists.{followed}
use Rattle.lf_unification.specs.Offering.{argument_equations}
use Rattle.lf_unification.specs.Outside.{IsLambda}
use Rattle.lf_unification.specs.Patterns.{local_skeletons}
use Rattle.lf_unification.specs.Putting.{IsRigidHead, binders, put_nothing}
use Rattle.lf_unification.specs.DeepEquations.{EquationsReach, IsDeepType, deep_equation, deep_type, from_left, from_right}
use Rattle.lf_unification.specs.ReachedRuns.{ReachedRun}
use Rattle.lf_unification.specs.Steps.{CanRefute, constant_or_variable, constants_differ, equal_heads, no_step, open_lambdas, put_bindings, variables_differ}
use Rattle.lf_unification.specs.Unifiers.{Equation, Store, on_left, on_right}
use Rattle.lf_unification.proofs.Putting.{put_some, put_unbound}
use Rattle.tw_metas.specs.State.{State}
use Rattle.tw_putting.specs.Domains.{most_levels}
use Rattle.tw_putting.specs.Fits.{declared_skeletons}
use Rattle.tw_putting.specs.Stores.{PutsDeepType, bindings_of, types_of}
use Rattle.tw_putting.specs.Unfolding.{HeadStays}
use Rattle.tw_unify.specs.Flexible.{AllowsMove, BlamesReached, BothHeadsFit, FlexibleFits, IsReachedFrom, MoveFits}
use Rattle.tw_unify.specs.Moving.{HeadsFit, SidesFit}
use Rattle.tw_unify.specs.Outcomes.{Advances, Explains}
use Rattle.tw_putting.specs.Ready.{IsReady}
use Rattle.tw_unify.specs.Rigid.{AreLambdas, BlamesArguments, Decomposes, IsPi, LeftFits, Opens}
use Rattle.tw_unify.specs.Sides.{BecomeApart, BlamesDepth, BlamesSide, BlamesUnfolding, EquationFits, HaveShape, HeadsStay, IsFlexibleEquation, PutsAll, PutsBoth, RootsHaveShape, SidesUnbound, UnfoldsBoth, with_sides}
use Rattle.tw_putting.specs.Whole.{IsConsistent, whole}
use Rattle.tw_unify.specs.declared.fault.UnifyFault.{UnifyFault}
use Rattle.tw_unify.specs.declared.fault.UnifyFault.TheVariants.{NoMemory, TooDeep}
use Rattle.tw_unify.specs.declared.moves.Move.{Move}
use Rattle.tw_unify.specs.declared.sides.Shape.TheVariants as shape
use Rattle.tw_unify.specs.declared.work.Advance.{Advance}
use Rattle.tw_unify.specs.declared.work.Advance.TheVariants.{Bound, Postponed, Refuted, Went}
use Rattle.tw_unify.proofs.Orders.{both_reached, both_runs, one_step}
use Rattle.tw_putting.proofs.Readiness.{ready_scoped}
use Rattle.tw_unify.proofs.Fitting.{deep_sides, ready_first}
use Rattle.tw_unify.proofs.Variables.{decomposed, deep_argument, right_arguments}

module _ (Σ : Signature) (s : State) where
  abbrev first_is : List Equation → Equation → Store
  first_is es e = record { metavariables = types_of s; bindings = bindings_of s; equations = e ∷ followed es s.equations }

  -- lambdas are opened
  pub opens_runs : (e : Equation) (old new : List Equation) → Opens e old new → ReachedRun Σ (whole (e ∷ old) s) (whole new s)
  opens_runs e old new o =
      subst (λ fs. ReachedRun Σ (whole (e ∷ old) s) (whole fs s)) (sym o.gives)
      (subst (λ d. ReachedRun Σ (first_is old d) (whole (record { local = o.domain ∷ e.local; left = o.left; right = o.right; of_type = o.range } ∷ old) s)) (sym o.is) (one_step Σ open_lambdas tt))

  function_is : (κ : HeadSkeletons) (Γ : List Skeleton) (M : Term) (C : LfType) → IsLambda M → TermSkeleton κ Γ M (skeleton C) → IsPi C
  function_is κ Γ (lambda M) (pi A B) l m = tt
  function_is κ Γ (lambda M) (atom a I) l m = absurd m
  function_is κ Γ (root h S) C l m = absurd l

  pub are_lambdas : (e : Equation) (es : List Equation) → IsReady Σ (e ∷ es) s → HaveShape e.left e.right shape.Lambdas → AreLambdas e
  are_lambdas e es r (l, k) = record {
    left_is = l;
    right_is = k;
    type_is = function_is (declared_skeletons Σ (types_of s)) (local_skeletons e.local []) e.left e.of_type l (ready_first Σ e es s r).left_typed;
  }

  followed_over : (xs ys zs : List Equation) → followed (followed xs ys) zs ≡ followed xs (followed ys zs)
  followed_over [] ys zs = refl
  followed_over (x ∷ xs) ys zs = ap (λ us. x ∷ us) (followed_over xs ys zs)

  -- equal heads give the equations of the arguments
  pub decomposes_runs : (e : Equation) (old new : List Equation) → Decomposes Σ e old new → ReachedRun Σ (whole (e ∷ old) s) (whole new s)
  decomposes_runs e old new d =
      let args = argument_equations e.local d.head_type d.left d.right in
      let stepped : ReachedRun Σ (first_is old (record { local = e.local; left = root d.head d.left; right = root d.head d.right; of_type = atom d.family d.indices })) (record { metavariables = types_of s; bindings = bindings_of s; equations = followed args (followed old s.equations) }) =
      one_step Σ (equal_heads d.head d.head_type d.typed.0 (d.typed.1 (types_of s))) tt in
      let to : followed args (followed old s.equations) ≡ followed new s.equations = sym (followed_over args old s.equations) ∙ ap (λ fs. followed fs s.equations) (sym d.gives) in
      subst (λ fs. ReachedRun Σ (whole (e ∷ old) s) (record { metavariables = types_of s; bindings = bindings_of s; equations = fs })) to
      (subst (λ f. ReachedRun Σ (first_is old f) (record { metavariables = types_of s; bindings = bindings_of s; equations = followed args (followed old s.equations) })) (sym d.is) stepped)

  -- different rigid heads
  heads_apart : (D : List LfType) (C : LfType) (es : List Equation) (h k : Head) (S T : Spine) → (h ≡ k → ⊥) → IsRigidHead h → IsRigidHead k → CanRefute Σ (first_is es (record { local = D; left = root h S; right = root k T; of_type = C }))
  heads_apart D C es (constant c) (constant d) S T n r q = record { reached = _; run = no_step; refuted = constants_differ (λ e. n (ap constant e)) }
  heads_apart D C es (constant c) (variable j) S T n r q = record { reached = _; run = no_step; refuted = constant_or_variable on_left D c j S T C }
  heads_apart D C es (constant c) (metavariable m) S T n r q = absurd q
  heads_apart D C es (variable i) (constant d) S T n r q = record { reached = _; run = no_step; refuted = constant_or_variable on_right D d i T S C }
  heads_apart D C es (variable i) (variable j) S T n r q = record { reached = _; run = no_step; refuted = variables_differ (λ e. n (ap variable e)) }
  heads_apart D C es (variable i) (metavariable m) S T n r q = absurd q
  heads_apart D C es (metavariable m) k S T n r q = absurd r

  with_both : (e : Equation) (es : List Equation) (M N M' N' : Term) → M ≡ M' → N ≡ N' → CanRefute Σ (first_is es (with_sides e M' N')) → CanRefute Σ (first_is es (with_sides e M N))
  with_both e es M N M' N' p q r = subst (λ X. CanRefute Σ (first_is es (with_sides e X N))) (sym p) (subst (λ X. CanRefute Σ (first_is es (with_sides e M' X))) (sym q) r)

  pub apart_refutes : (e : Equation) (es : List Equation) → RootsHaveShape e.left e.right shape.Apart → CanRefute Σ (whole (e ∷ es) s)
  apart_refutes e es v = with_both e es e.left e.right (root v.head v.left) (root v.other v.right) v.left_is v.right_is (heads_apart e.local e.of_type es v.head v.other v.left v.right v.heads.0 v.heads.1 v.heads.2)

  -- a root's type has a family
  root_family : (Γ : List Skeleton) (M : Term) (h : Head) (S : Spine) (t : Skeleton) → M ≡ root h S → TermSkeleton (declared_skeletons Σ (types_of s)) Γ M t → (c : ℕ) × (t ≡ base c)
  root_family Γ M h S (arrow a b) e m = absurd (subst (λ X. TermSkeleton (declared_skeletons Σ (types_of s)) Γ X (arrow a b)) e m)
  root_family Γ M h S (base c) e m = (c, refl)

  -- the type of a flexible equation has a family
  flexible_family : (e : Equation) → IsFlexibleEquation e → EquationFits Σ s e → (c : ℕ) × (skeleton e.of_type ≡ base c)
  flexible_family e v f = root_family (local_skeletons e.local []) e.left v.head v.left (skeleton e.of_type) v.left_is f.left_typed

  heads_fit : (e : Equation) (c : ℕ) (M N : Term) → skeleton e.of_type ≡ base c → IsConsistent s → HeadStays s M → TermSkeleton (declared_skeletons Σ (types_of s)) (local_skeletons e.local []) M (skeleton e.of_type) → TermSkeleton (declared_skeletons Σ (types_of s)) (local_skeletons e.local []) N (skeleton e.of_type) → HeadsFit s e.local M N
  heads_fit e c M N k o h m n = record {
    signature = Σ;
    consistent = o;
    family = c;
    left_typed = subst (TermSkeleton (declared_skeletons Σ (types_of s)) (local_skeletons e.local []) M) k m;
    right_typed = subst (TermSkeleton (declared_skeletons Σ (types_of s)) (local_skeletons e.local []) N) k n;
    left_stays = h;
  }

  -- the sides of an equation with the bindings put in
  pub sides_fit : (e : Equation) (h : Head) (S : Spine) → e.left ≡ root h S → EquationFits Σ s e → SidesUnbound s e → SidesFit s e.local e.left e.right
  sides_fit e h S is f u =
      let (c, k) = root_family (local_skeletons e.local []) e.left h S (skeleton e.of_type) is f.left_typed in
      record {
        signature = Σ;
        consistent = f.consistent;
        family = c;
        left_typed = subst (TermSkeleton (declared_skeletons Σ (types_of s)) (local_skeletons e.local []) e.left) k f.left_typed;
        right_typed = subst (TermSkeleton (declared_skeletons Σ (types_of s)) (local_skeletons e.local []) e.right) k f.right_typed;
        left_unbound = u.0;
        right_unbound = u.1;
      }

  pub put_sides_unbound : (e : Equation) (M N : Term) → PutsBoth s e M N → SidesUnbound s (with_sides e M N)
  put_sides_unbound e M N (p, q) = (put_unbound p, put_unbound q)

  -- the sides of a flexible equation as they stand
  pub both_heads : (e : Equation) (es : List Equation) → IsFlexibleEquation e → IsReady Σ (e ∷ es) s → HeadsStay s e → BothHeadsFit s e
  both_heads e es v r (h, k) =
      let f = ready_first Σ e es s r in
      let (c, t) = flexible_family e v f in
      record { left = heads_fit e c e.left e.right t f.consistent h f.left_typed f.right_typed; right = heads_fit e c e.right e.left t f.consistent k f.right_typed f.left_typed }

  pub move_fits : (e : Equation) (es : List Equation) (v : Move) → IsReady Σ (e ∷ es) s → AllowsMove s e v → MoveFits s e es v
  move_fits e es v r a = record { consistent = r.consistent; scoped = ready_scoped Σ (e ∷ es) s r; allows = a }

  -- the same with the bindings put in
  pub flexible_fits : (e f : Equation) (es : List Equation) → IsFlexibleEquation e → IsReady Σ (e ∷ es) s → PutsAll s e f → IsReady Σ (f ∷ es) s → FlexibleFits s f es
  flexible_fits e f es v r p q =
      let g = ready_first Σ f es s q in
      let (c, t) = flexible_family e v (ready_first Σ e es s r) in
      let k : skeleton f.of_type ≡ base c = ap (λ (d : Equation). skeleton d.of_type) p.is ∙ t in
      record {
        sides = record {
          signature = Σ;
          consistent = g.consistent;
          family = c;
          left_typed = subst (TermSkeleton (declared_skeletons Σ (types_of s)) (local_skeletons f.local []) f.left) k g.left_typed;
          right_typed = subst (TermSkeleton (declared_skeletons Σ (types_of s)) (local_skeletons f.local []) f.right) k g.right_typed;
          left_unbound = put_unbound p.puts.0;
          right_unbound = put_unbound p.puts.1;
        };
        scoped = ready_scoped Σ (f ∷ es) s q;
      }

  -- typed sides are no lambda and no root
  mixed_sides : (Γ : List Skeleton) (M N : Term) (t : Skeleton) → TermSkeleton (declared_skeletons Σ (types_of s)) Γ M t → TermSkeleton (declared_skeletons Σ (types_of s)) Γ N t → IsLambda M → (IsLambda N → ⊥) → ⊥
  mixed_sides Γ (lambda M) (lambda N) t m n l f = f tt
  mixed_sides Γ (lambda M) (root h S) (arrow a b) m n l f = n
  mixed_sides Γ (lambda M) (root h S) (base c) m n l f = m
  mixed_sides Γ (root h S) N t m n l f = l

  pub never_mixed : (e : Equation) (es : List Equation) → IsReady Σ (e ∷ es) s → HaveShape e.left e.right shape.Mixed → ⊥
  never_mixed e es r v =
      let f = ready_first Σ e es s r in
      elim v [
        | inl (l, n) ↦ mixed_sides (local_skeletons e.local []) e.left e.right (skeleton e.of_type) f.left_typed f.right_typed l n
        | inr (n, l) ↦ mixed_sides (local_skeletons e.local []) e.right e.left (skeleton e.of_type) f.right_typed f.left_typed l n
      ]

  pub left_fits : (e : Equation) (es : List Equation) → IsReady Σ (e ∷ es) s → LeftFits Σ e
  left_fits e es r = let f = ready_first Σ e es s r in record { declared = types_of s; locals = f.locals; left_typed = f.left_typed }

  -- the bindings are put in
  pub put_runs : (e f : Equation) (es : List Equation) → PutsAll s e f → ReachedRun Σ (whole (e ∷ es) s) (whole (f ∷ es) s)
  put_runs e f es p = subst (λ (d : Equation). ReachedRun Σ (whole (e ∷ es) s) (whole (d ∷ es) s)) (sym p.is) (one_step Σ (put_bindings (put_some p.puts.0) (put_some p.puts.1)) tt)

  -- some are, as far as the heads
  pub unfold_runs : (e f : Equation) (es : List Equation) → UnfoldsBoth s e f → ReachedRun Σ (whole (e ∷ es) s) (whole (f ∷ es) s)
  unfold_runs e f es u = subst (λ (d : Equation). ReachedRun Σ (whole (e ∷ es) s) (whole (d ∷ es) s)) (sym u.is) (one_step Σ (put_bindings u.left u.right) tt)

  -- the heads are seen to differ
  pub become_apart : (e : Equation) (es : List Equation) → BecomeApart s e → CanRefute Σ (whole (e ∷ es) s)
  become_apart e es a = record {
    reached = whole (with_sides e (root (constant a.left) a.left_becomes.0) (root (constant a.right) a.right_becomes.0) ∷ es) s;
    run = (one_step Σ (put_bindings a.left_becomes.1 a.right_becomes.1) tt).run;
    refuted = constants_differ a.differ;
  }

  -- what an equation becomes so is deep
  pub explains_unfolding : (f : UnifyFault) (e : Equation) (es : List Equation) → BlamesUnfolding f s e → Explains f Σ (whole (e ∷ es) s)
  explains_unfolding TooDeep e es (inl (N, p, d)) = record {
    reached = whole (with_sides e N e.right ∷ es) s;
    run = (one_step Σ (put_bindings p put_nothing) tt).run;
    deep = deep_equation (with_sides e N e.right) (inl refl) (inl (inl d));
  }
  explains_unfolding TooDeep e es (inr (N, p, d)) = record {
    reached = whole (with_sides e e.left N ∷ es) s;
    run = (one_step Σ (put_bindings put_nothing p) tt).run;
    deep = deep_equation (with_sides e e.left N) (inl refl) (inr (inl (inl d)));
  }
  explains_unfolding NoMemory e es b = tt

  deep_type_of : (es : List Equation) (A : LfType) → PutsDeepType s 0 A → IsDeepType (whole es s) depth_limit 0 A
  deep_type_of es (pi A B) (A', d, h) = inl (inr (A', d, h))
  deep_type_of es (atom a S) (A', d, h) = inl (inr (A', d, h))

  deep_written : (t : Store) (k : ℕ) (A : LfType) → depth_limit < type_depth A → IsDeepType t depth_limit k A
  deep_written t k (pi A B) h = inl (inl h)
  deep_written t k (atom a S) h = inl (inl h)

  -- so is the type of an argument, which is that of an equation of the arguments
  pub explains_arguments : (ok : IsSignature Σ) (f : UnifyFault) (e : Equation) (es : List Equation) → IsReady Σ (e ∷ es) s → BlamesArguments f Σ e → Explains f Σ (whole (e ∷ es) s)
  explains_arguments ok TooDeep e es r (A, g, d) =
      let fits = ready_first Σ e es s r in
      let args = argument_equations e.local A g.left g.right in
      let (l, t) = right_arguments Σ ok e A (record { declared = types_of s; locals = fits.locals; left_typed = fits.left_typed }) g fits.right_typed in
      let (x, i, h) = deep_argument (declared_skeletons Σ (types_of s)) (local_skeletons e.local []) e.local most_levels g.family (followed es s.equations) A g.left g.right l t d in
      record {
        reached = whole (followed args es) s;
        run = (decomposes_runs e es (followed args es) (decomposed Σ e A g.left g.right args es (followed args es) g (g.head, g.left_is) (g.head, g.right_is) refl refl)).run;
        deep = deep_equation x (subst (Member x) (sym (followed_over args es s.equations)) i) (inr (inr (inl (deep_written (whole (followed args es) s) (binders x.local) x.of_type (omega arith)))));
      }
  explains_arguments ok NoMemory e es r b = tt

  -- so is the type of a metavariable that is reached from its sides
  pub explains_reached : (f : UnifyFault) (e : Equation) (es : List Equation) → BlamesReached f s e.left e.right → Explains f Σ (whole (e ∷ es) s)
  explains_reached TooDeep e es (k, A, d, p, inl r) = record { reached = whole (e ∷ es) s; run = no_step; deep = deep_type k A d (from_left e (inl refl) r) (deep_type_of (e ∷ es) A p) }
  explains_reached TooDeep e es (k, A, d, p, inr r) = record { reached = whole (e ∷ es) s; run = no_step; deep = deep_type k A d (from_right e (inl refl) r) (deep_type_of (e ∷ es) A p) }
  explains_reached NoMemory e es b = tt

-- what is reached from the sides of the first equation is reached
pub reached_first : (s : State) (e : Equation) (es : List Equation) (k : ℕ) → IsReachedFrom s e.left e.right k → EquationsReach (whole (e ∷ es) s) k
reached_first s e es k (inl r) = from_left e (inl refl) r
reached_first s e es k (inr r) = from_right e (inl refl) r

-- what comes after a run
pub advances_after : (Σ : Signature) (a : Advance) (s t u : Store) → ReachedRun Σ s t → Advances a Σ t u → Advances a Σ s u
advances_after Σ Went s t u p q = both_reached Σ p q
advances_after Σ (Bound m) s t u p q = both_reached Σ p q
advances_after Σ Postponed s t u p q = both_reached Σ p q
advances_after Σ Refuted s t u p q = record { reached = q.reached; run = both_runs Σ p.run q.run; refuted = q.refuted }

-- a fault of putting the bindings in
pub blames_left : (f : UnifyFault) (s : State) (e : Equation) → BlamesSide f s (binders e.local) e.left → BlamesDepth f s e
blames_left TooDeep s e b = inl b
blames_left NoMemory s e b = tt

pub blames_right : (f : UnifyFault) (s : State) (e : Equation) → BlamesSide f s (binders e.local) e.right → BlamesDepth f s e
blames_right TooDeep s e b = inr b
blames_right NoMemory s e b = tt

pub explains_sides : (Σ : Signature) (f : UnifyFault) (s : State) (e : Equation) (es : List Equation) → BlamesDepth f s e → Explains f Σ (whole (e ∷ es) s)
explains_sides Σ TooDeep s e es b = deep_sides Σ s (e ∷ es) e (inl refl) b
explains_sides Σ NoMemory s e es b = tt
