-- What a run keeps of the equations of a split's store: each is of a family of L, but one at most, of a metavariable on all its local variables and a
-- term with another head.
use Rattle.std.proofs.Common.{◌≡◌, ℕ, ◌⊎◌, List, [], ◌∷◌, inl, inr, sym, ap, ◌∙◌, subst, arith}
use Rattle.std.specs.Prelude.{Bool, true, false, Option, Some, None}
use Rattle.lf.specs.Eta.{eta_long}
use Rattle.lf.specs.SkeletonTyping.{SkeletonAt}
use Rattle.lf.specs.Skeletons.{type_skeleton}
use Rattle.lf.specs.Subordination.{Member}
use Rattle.lf.specs.Substitution.{single, reduce}
use Rattle.lf.specs.Syntax.{Head, constant, variable, metavariable, Term, Spine, root, nil, app, LfType, pi, atom, Skeleton, base, skeleton}
use Rattle.lf.specs.Typing.{Signature, instantiate_type}
use Rattle.lf.specs.Variables.{target}
use Rattle.lf.proofs.TypeLaws.{skeleton_substituted}
use Rattle.lf_unification.specs.Inversion.{IsPattern, MustDrop}
use Rattle.lf_unification.specs.Lists.{followed}
use Rattle.lf_unification.specs.Offering.{argument_equations}
use Rattle.lf_unification.specs.OpenTyping.{OpenHeadHasType, set_at, skeletons_of}
use Rattle.lf_unification.specs.Patterns.{local_skeletons, pattern, skeleton_target}
use Rattle.lf_unification.specs.Pruning.{pruned_type}
use Rattle.lf_unification.specs.Putting.{IsRigidHead, binders}
use Rattle.lf_unification.specs.Steps.{Step, next_equation, put_bindings, drop_equal, open_lambdas, equal_heads, bind, on_pattern, prune_inside, prune_both, renew, Run, no_step, then_run}
use Rattle.lf_unification.specs.Unifiers.{Binding, Equation, Side, Store, equation_on, on_left, on_right}
use Rattle.lf_unification.proofs.ToSkeletons.{SkeletonAt-once}
use Rattle.lf_coverage.specs.PatternStores.{BindingsArePatterns, IsPatternStore, IsPatternTerm, TypesArePatterns}
use Rattle.lf_coverage.proofs.IndicesLow.{AllLayered, Layered, Low, LowMeta, layered_at, low_domain, low_rest, low_term, spine_target}
use Rattle.lf_coverage.proofs.IndicesPlain.{mentioned_in, rigid_is_mentioned}
use Rattle.lf_coverage.proofs.IndicesTests.{never_both}
use Rattle.lf_coverage.proofs.PatternSteps.{step_keeps, step_keeps_types}
use Rattle.lf_coverage.proofs.PatternPruned.{grows}
use Rattle.lf_coverage.proofs.PatternSides.{local_at, of_side, value_at}
use Rattle.lf_coverage.proofs.PatternMoves.{length_local}
use Rattle.lf_coverage.proofs.IndicesOnAll.{IsRigidTerm, OnAll, Unforced, nothing_must_go, puts_on_all, puts_rigid}

module _ (Σ : Signature) (L : ℕ → Bool) (constants : (c : ℕ) (U : LfType) → Σ.types c ≡ Some U → Layered L (skeleton U)) where
  -- equations
  abbrev pub IsLow : Equation → Type 0
  IsLow e = AllLayered L (local_skeletons e.local []) × Low L (skeleton e.of_type)

  abbrev pub IsHigh : Equation → Type 0
  IsHigh e = OnAll (binders e.local) e.left × IsRigidTerm e.right × (L (skeleton_target (skeleton e.of_type)) ≡ false)

  abbrev pub AllLow : List Equation → Type 0
  AllLow [] = Unit {0}
  AllLow (e ∷ es) = IsLow e × AllLow es

  abbrev pub OneHigh : List Equation → Type 0
  OneHigh [] = ⊥
  OneHigh (e ∷ es) = (IsHigh e × AllLow es) ⊎ (IsLow e × OneHigh es)

  low_first : (es fs : List Equation) → AllLow (followed es fs) → AllLow es
  low_first [] fs h = tt
  low_first (e ∷ es) fs (x, h) = (x, low_first es fs h)

  low_second : (es fs : List Equation) → AllLow (followed es fs) → AllLow fs
  low_second [] fs h = h
  low_second (e ∷ es) fs (x, h) = low_second es fs h

  low_both : (es fs : List Equation) → AllLow es → AllLow fs → AllLow (followed es fs)
  low_both [] fs h k = k
  low_both (e ∷ es) fs (x, h) k = (x, low_both es fs h k)

  one_split : (es fs : List Equation) → OneHigh (followed es fs) → (OneHigh es × AllLow fs) ⊎ (AllLow es × OneHigh fs)
  one_split [] fs o = inr (tt, o)
  one_split (e ∷ es) fs (inl (x, a)) = inl (inl (x, low_first es fs a), low_second es fs a)
  one_split (e ∷ es) fs (inr (x, o)) = by (one_split es fs o)
    where
      by : (OneHigh es × AllLow fs) ⊎ (AllLow es × OneHigh fs) → (OneHigh (e ∷ es) × AllLow fs) ⊎ (AllLow (e ∷ es) × OneHigh fs)
      by (inl (p, a)) = inl (inr (x, p), a)
      by (inr (a, p)) = inr ((x, a), p)

  one_first : (es fs : List Equation) → OneHigh es → AllLow fs → OneHigh (followed es fs)
  one_first [] fs o a = absurd o
  one_first (e ∷ es) fs (inl (x, b)) a = inl (x, low_both es fs b a)
  one_first (e ∷ es) fs (inr (x, o)) a = inr (x, one_first es fs o a)

  one_second : (es fs : List Equation) → AllLow es → OneHigh fs → OneHigh (followed es fs)
  one_second [] fs a o = o
  one_second (e ∷ es) fs (x, a) o = inr (x, one_second es fs a o)

  one_next : (es : List Equation) (e : Equation) (fs : List Equation) → OneHigh (followed es (e ∷ fs)) → OneHigh (e ∷ followed es fs)
  one_next es e fs o = by (one_split es (e ∷ fs) o)
    where
      by : (OneHigh es × AllLow (e ∷ fs)) ⊎ (AllLow es × OneHigh (e ∷ fs)) → OneHigh (e ∷ followed es fs)
      by (inl (p, (x, a))) = inr (x, one_first es fs p a)
      by (inr (a, inl (x, b))) = inl (x, low_both es fs a b)
      by (inr (a, inr (x, p))) = inr (x, one_second es fs a p)

  abbrev pub Holds : Store → Type 0
  Holds s = AllLow s.equations ⊎ (OneHigh s.equations × Unforced Σ L s.metavariables s.bindings)

  pub low_or_high : (es : List Equation) → AllLow es ⊎ OneHigh es → (e : Equation) → Member e es → IsLow e ⊎ IsHigh e
  low_or_high [] h e m = absurd m
  low_or_high (f ∷ es) (inl (x, a)) e (inl q) = inl (subst IsLow (sym q) x)
  low_or_high (f ∷ es) (inl (x, a)) e (inr m) = low_or_high es (inl a) e m
  low_or_high (f ∷ es) (inr (inl (x, a))) e (inl q) = inr (subst IsHigh (sym q) x)
  low_or_high (f ∷ es) (inr (inl (x, a))) e (inr m) = low_or_high es (inl a) e m
  low_or_high (f ∷ es) (inr (inr (x, o))) e (inl q) = inl (subst IsLow (sym q) x)
  low_or_high (f ∷ es) (inr (inr (x, o))) e (inr m) = low_or_high es (inr o) e m

  arguments_low : (D : List LfType) (A : LfType) (S T : Spine) → AllLayered L (local_skeletons D []) → Low L (skeleton A) → AllLow (argument_equations D A S T)
  arguments_low D (pi A B) (app M S) (app N T) g l = ((g, low_domain L (skeleton A) (skeleton B) l), arguments_low D (instantiate_type A M B) S T g (subst (Low L) (sym (skeleton_substituted reduce (single (skeleton A) M) B)) (low_rest L (skeleton A) (skeleton B) l)))
  arguments_low D (pi A B) (app M S) nil g l = tt
  arguments_low D (pi A B) nil T g l = tt
  arguments_low D (atom a I) S T g l = tt

  head_low : (Ψ : ℕ → Option LfType) (D : List LfType) (g : Head) (A : LfType) (S : Spine) (a : ℕ) → IsRigidHead g → OpenHeadHasType Σ [] Ψ (λ β. Unit {0}) D g A → AllLayered L (local_skeletons D []) → L a ≡ true → IsPatternTerm Σ Ψ (local_skeletons D []) (root g S) (base a) → Low L (skeleton A)
  head_low Ψ D (metavariable k) A S a r t x l p = absurd r
  head_low Ψ D (constant k) A S a r t x l (u, e, s) = (constants k A t, subst (λ z. L z ≡ true) (sym (ap skeleton_target (one (sym (ap type_skeleton t) ∙ e)) ∙ spine_target Σ Ψ L constants (local_skeletons D []) S u a s)) l)
    where
      one : Some (skeleton A) ≡ Some u → skeleton A ≡ u
      one e = cc
  head_low Ψ D (variable i) A S a r t x l (u, e, s) =
      let g : SkeletonAt (local_skeletons D []) i (skeleton A) = local_at Σ Ψ D i A t in
      (layered_at L (local_skeletons D []) x i (skeleton A) g, subst (λ z. L z ≡ true) (sym (ap skeleton_target (SkeletonAt-once (local_skeletons D []) i (skeleton A) u g e) ∙ spine_target Σ Ψ L constants (local_skeletons D []) S u a s)) l)

  side_low : (side : Side) (D : List LfType) (M N : Term) (C : LfType) → IsLow (equation_on side D M N C) → AllLayered L (local_skeletons D []) × Low L (skeleton C)
  side_low on_left D M N C x = x
  side_low on_right D M N C x = x

  some_one : {A B : LfType} → Some A ≡ Some B → A ≡ B
  some_one e = cc

  -- what is low isn't forced
  pub low_free : (Ψ : ℕ → Option LfType) (m : ℕ) → LowMeta Σ Ψ L constants m → (B : LfType) → Ψ m ≡ Some B → L (target B) ≡ false → ⊥
  low_free Ψ m (A, e, l) B f n = never_both (subst (λ X. L (target X) ≡ true) (some_one (sym e ∙ f)) l) n

  module _ (Ψ : ℕ → Option LfType) (bs : List Binding) (h : BindingsArePatterns Σ Ψ bs) (u : Unforced Σ L Ψ bs) where
    unforced_with : (m : ℕ) (V : Term) → LowMeta Σ Ψ L constants m → Unforced Σ L Ψ (record { of = m; value = V } ∷ bs)
    unforced_with m V l b (inl q) B e f = absurd (low_free Ψ m l B (sym (ap Ψ (ap (λ (y : Binding). y.of) q)) ∙ e) f)
    unforced_with m V l b (inr k) B e f = u b k B e f

    module _ (n : ℕ) (X : LfType) (new : Ψ n ≡ None) where
      old_unforced : (b : Binding) → Member b bs → (B : LfType) → set_at n (Some X) Ψ b.of ≡ Some B → L (target B) ≡ false → (j : ℕ) × (b.value ≡ eta_long (skeleton B) (metavariable j))
      old_unforced b k B e f =
          let (A, g, v) = value_at Σ Ψ bs h b k in
          let q : A ≡ B = some_one (sym (grows Σ Ψ n X new b.of A g) ∙ e) in
          u b k B (g ∙ ap Some q) f

      pruned_unforced : (m : ℕ) (V : Term) → LowMeta Σ Ψ L constants m → Unforced Σ L (set_at n (Some X) Ψ) (record { of = m; value = V } ∷ bs)
      pruned_unforced m V (A, g, l) b (inl q) B e f = absurd (never_both (subst (λ Y. L (target Y) ≡ true) (some_one (sym (grows Σ Ψ n X new m A g) ∙ sym (ap (set_at n (Some X) Ψ) (ap (λ (y : Binding). y.of) q)) ∙ e)) l) f)
      pruned_unforced m V l b (inr k) B e f = old_unforced b k B e f

      renewed_unforced : (m : ℕ) (A : LfType) → Ψ m ≡ Some A → Unforced Σ L (set_at n (Some X) Ψ) (record { of = m; value = eta_long (skeleton A) (metavariable n) } ∷ bs)
      renewed_unforced m A g b (inl q) B e f = (n, ap (λ (y : Binding). y.value) q ∙ ap (λ Y. eta_long (skeleton Y) (metavariable n)) (some_one (sym (grows Σ Ψ n X new m A g) ∙ sym (ap (set_at n (Some X) Ψ) (ap (λ (y : Binding). y.of) q)) ∙ e)))
      renewed_unforced m A g b (inr k) B e f = old_unforced b k B e f

  on_low : (Ψ : ℕ → Option LfType) (side : Side) (D : List LfType) (m : ℕ) (xs : List ℕ) (N : Term) (C : LfType) → IsLow (equation_on side D (on_pattern Ψ m xs) N C) → IsPatternTerm Σ Ψ (local_skeletons D []) (on_pattern Ψ m xs) (skeleton C) → LowMeta Σ Ψ L constants m
  on_low Ψ side D m xs N C x p = let (g, l) = side_low side D (on_pattern Ψ m xs) N C x in (low_term Σ Ψ L constants (local_skeletons D []) g (on_pattern Ψ m xs) (skeleton C) l p).0

  inside_low : (Ψ : ℕ → Option LfType) (side : Side) (D : List LfType) (m : ℕ) (xs : List ℕ) (N : Term) (C : LfType) (t : Skeleton) → IsLow (equation_on side D (on_pattern Ψ m xs) N C) → IsPatternTerm Σ Ψ (local_skeletons D []) N (skeleton C) → (d : MustDrop Ψ D t xs N) → LowMeta Σ Ψ L constants d.m
  inside_low Ψ side D m xs N C t x p d = let (g, l) = side_low side D (on_pattern Ψ m xs) N C x in mentioned_in (LowMeta Σ Ψ L constants) d.m N (low_term Σ Ψ L constants (local_skeletons D []) g N (skeleton C) l p) (rigid_is_mentioned d.depth d.m (pattern (skeletons_of Ψ d.m) d.ys) N d.at)

  high_drops_none : (Ψ : ℕ → Option LfType) (side : Side) (D : List LfType) (m : ℕ) (xs : List ℕ) (N : Term) (C : LfType) → IsPattern D (skeletons_of Ψ m) xs → IsHigh (equation_on side D (on_pattern Ψ m xs) N C) → MustDrop Ψ D (skeletons_of Ψ m) xs N → ⊥
  high_drops_none Ψ on_left D m xs N C i (f, g, z) d = nothing_must_go Ψ D (skeletons_of Ψ m) xs m N i f d
  high_drops_none Ψ on_right D m xs N C i (f, g, z) d = g

  high_differs : (Ψ : ℕ → Option LfType) (side : Side) (D : List LfType) (m : ℕ) (xs : List ℕ) (N : Term) (C : LfType) (S : Spine) → IsHigh (equation_on side D (on_pattern Ψ m xs) N C) → N ≡ root (metavariable m) S → ⊥
  high_differs Ψ on_left D m xs N C S (f, g, z) e = subst IsRigidTerm e g
  high_differs Ψ on_right D m xs N C S (f, g, z) e = g

  not_rigid : (n : ℕ) (g : Head) (S : Spine) → IsRigidHead g → OnAll n (root g S) → ⊥
  not_rigid n (constant c) S r o = o
  not_rigid n (variable i) S r o = o
  not_rigid n (metavariable m) S r o = r

  step_holds : {s s' : Store} → Step Σ s s' → IsPatternStore Σ s → Holds s → Holds s'
  step_holds (next_equation es e fs) h (inl a) = let (x, r) = low_second es (e ∷ fs) a in inl (x, low_both es fs (low_first es (e ∷ fs) a) r)
  step_holds (next_equation es e fs) h (inr (o, u)) = inr (one_next es e fs o, u)
  step_holds (put_bindings p q) h (inl a) = inl a
  step_holds (put_bindings {Ψ = Ψ} {bs = bs} {D = D} {C = C} p q) h (inr (inl ((f, g, z), a), u)) = let ((m, n), r) = h.sides in inr (inl ((puts_on_all Σ L Ψ bs h.bindings u p (local_skeletons D []) (skeleton C) (length_local D) m z (binders D) f, puts_rigid q g, z), a), u)
  step_holds (put_bindings p q) h (inr (inr (x, o), u)) = inr (inr (x, o), u)
  step_holds drop_equal h (inl (x, a)) = inl a
  step_holds drop_equal h (inr (inl (x, a), u)) = inl a
  step_holds drop_equal h (inr (inr (x, o), u)) = inr (o, u)
  step_holds (open_lambdas {A = A} {B = B}) h (inl ((g, l), a)) = inl ((((low_domain L (skeleton A) (skeleton B) l).0, g), low_rest L (skeleton A) (skeleton B) l), a)
  step_holds open_lambdas h (inr (inl (x, a), u)) = inr (inl (x, a), u)
  step_holds (open_lambdas {A = A} {B = B}) h (inr (inr ((g, l), o), u)) = inr (inr ((((low_domain L (skeleton A) (skeleton B) l).0, g), low_rest L (skeleton A) (skeleton B) l), o), u)
  step_holds (equal_heads {Ψ = Ψ} {es = es} {D = D} {S = S} {T = T} {a = c} g A r t) h (inl ((x, l), a)) = let ((m, n), k) = h.sides in inl (low_both (argument_equations D A S T) es (arguments_low D A S T x (head_low Ψ D g A S c r t x l.1 m)) a)
  step_holds (equal_heads {D = D} {S = S} g A r t) h (inr (inl ((f, x, z), a), u)) = absurd (not_rigid (binders D) g S r f)
  step_holds (equal_heads {Ψ = Ψ} {es = es} {D = D} {S = S} {T = T} {a = c} g A r t) h (inr (inr ((x, l), o), u)) = let ((m, n), k) = h.sides in inr (one_second (argument_equations D A S T) es (arguments_low D A S T x (head_low Ψ D g A S c r t x l.1 m)) o, u)
  step_holds (bind side D m xs N C e u p b) h (inl (x, a)) = inl a
  step_holds (bind side D m xs N C e u p b) h (inr (inl (x, a), v)) = inl a
  step_holds (bind {Ψ = Ψ} {bs = bs} {es = es} side D m xs N C e u p b) h (inr (inr (x, o), v)) = let (l, n, r) = of_side Σ Ψ side D (on_pattern Ψ m xs) N C es h.sides in inr (o, unforced_with Ψ bs h.bindings v m _ (on_low Ψ side D m xs N C x l))
  step_holds (prune_inside side D m xs N C e i p u n sc) h (inl a) = inl a
  step_holds (prune_inside {Ψ = Ψ} side D m xs N C e i p u n sc) h (inr (inl (x, a), v)) = absurd (high_drops_none Ψ side D m xs N C i x p.drop)
  step_holds (prune_inside {Ψ = Ψ} {bs = bs} {es = es} side D m xs N C e i p u n sc) h (inr (inr (x, o), v)) = let (l, q, r) = of_side Σ Ψ side D (on_pattern Ψ m xs) N C es h.sides in inr (inr (x, o), pruned_unforced Ψ bs h.bindings v n (pruned_type p.pruned) (sc.fresh n (omega arith)) p.drop.m _ (inside_low Ψ side D m xs N C (skeletons_of Ψ m) x q p.drop))
  step_holds (prune_both side D m xs N C e i p u n sc) h (inl a) = inl a
  step_holds (prune_both {Ψ = Ψ} side D m xs N C e i p u n sc) h (inr (inl (x, a), v)) = absurd (high_differs Ψ side D m xs N C (pattern (skeletons_of Ψ m) p.same.ys) x p.same.is)
  step_holds (prune_both {Ψ = Ψ} {bs = bs} {es = es} side D m xs N C e i p u n sc) h (inr (inr (x, o), v)) = let (l, q, r) = of_side Σ Ψ side D (on_pattern Ψ m xs) N C es h.sides in inr (inr (x, o), pruned_unforced Ψ bs h.bindings v n (pruned_type p.pruned) (sc.fresh n (omega arith)) m _ (on_low Ψ side D m xs N C x l))
  step_holds (renew m A A' e u o p n sc) h (inl a) = inl a
  step_holds (renew {Ψ = Ψ} {bs = bs} m A A' e u o p n sc) h (inr (w, v)) = inr (w, renewed_unforced Ψ bs h.bindings v n A' (sc.fresh n (omega arith)) m A e)

  pub run_holds : {s s' : Store} → Run Σ s s' → IsPatternStore Σ s → TypesArePatterns Σ s.metavariables → Holds s → Holds s'
  run_holds no_step h t x = x
  run_holds (then_run p r) h t x = run_holds r (step_keeps Σ p h) (step_keeps_types Σ p h t) (step_holds p h x)
