-- The values of an answer fit along the type of its goal, under a quantifier for each variable; so each line can be shown.
use Rattle.std.proofs.Common.{◌≡◌, ℕ, zero, suc, List, [], ◌∷◌, ◌++◌, length, reverse, Option, Some, None, refl, sym, ap, ◌∙◌, subst}
use Rattle.std.proofs.lemmas.List.{append-nil, append_assoc, length-reverse, reverse-append, reverse-reverse}
use Rattle.std.specs.List.{slice_get}
use Rattle.lf.specs.Skeletons.{constant_skeletons, context_skeletons, family_skeletons}
use Rattle.lf.specs.SkeletonTyping.{TermSkeleton, TypeBySkeletons}
use Rattle.lf.specs.Substitution.{reduce, single}
use Rattle.lf.specs.Syntax.{LfType, Skeleton, Term, arrow, atom, base, pi, skeleton}
use Rattle.lf.specs.Typing.{IsContext, IsType, Signature, instantiate_type}
use Rattle.lf.proofs.Partial.{type_by_skeletons_beside}
use Rattle.lf.proofs.SkeletonTypes.{single_type_by_skeletons}
use Rattle.lf.proofs.SkeletonTyping.{single_by_skeletons}
use Rattle.lf.proofs.TypeLaws.{skeleton_substituted}
use Rattle.lf.proofs.ToSkeletons.{typed_has_skeleton}
use Rattle.lf_search.specs.Answers.{AreTypedValues, IsAnswerOf, at_values, images}
use Rattle.lf_unification.specs.Offering.{pi_over}
use Rattle.tw_hered.specs.Fits.{TypeFits}
use Rattle.tw_metas.specs.State.{joined}
use Rattle.tw_print.specs.Showable.{HasSkeleton, IsShowableType}
use Rattle.tw_search.specs.Answers.{IsIfRead}
use Rattle.tw_search.specs.Names.{place_of}
use Rattle.tw_signature.specs.Goal.{Goal}
use Rattle.tw_query.specs.Rows.{AreShowable, FitAlong}
use Rattle.tw_query.specs.Text.{Row, at, row_in, rows_for, rows_of, types_along}

module _ (Σ : Signature) (F : List LfType) where
  -- the terms have the skeletons of the arguments of one, and the other one is left
  abbrev pub HaveSkeletons : List Term → Skeleton → Skeleton → Type 0
  HaveSkeletons [] s t = s ≡ t
  HaveSkeletons (M ∷ Ms) (arrow a b) t = TermSkeleton (constant_skeletons Σ) (context_skeletons F) M a × HaveSkeletons Ms b t
  HaveSkeletons (M ∷ Ms) (base c) t = ⊥

  fits_one : (A : LfType) (M : Term) (B : LfType) → HasSkeleton Σ F M (skeleton A) → TypeBySkeletons (family_skeletons Σ) (constant_skeletons Σ) (skeleton A ∷ context_skeletons F) B → TypeFits (single (skeleton A) M) B
  fits_one A M B m b = record {
    families = family_skeletons Σ;
    heads = constant_skeletons Σ;
    context = skeleton A ∷ context_skeletons F;
    target = context_skeletons F;
    substitution_typed = single_by_skeletons (constant_skeletons Σ) (skeleton A) (context_skeletons F) M m;
    type_typed = b;
  }

  -- what is left has that skeleton, once a term is put in
  left_of : (Ms : List Term) (A : LfType) (M : Term) (B : LfType) (t : Skeleton) → HaveSkeletons Ms (skeleton B) t → HaveSkeletons Ms (skeleton (instantiate_type A M B)) t
  left_of Ms A M B t h = subst (λ s. HaveSkeletons Ms s t) (sym (skeleton_substituted reduce (single (skeleton A) M) B)) h

  pub fit_along : (Ms : List Term) (T : LfType) (t : Skeleton) → IsShowableType Σ F T → HaveSkeletons Ms (skeleton T) t → FitAlong Σ F T Ms
  fit_along [] T t w h = w
  fit_along (M ∷ Ms) (pi A B) t (a, b) (m, h) = (
    a,
    m,
    fits_one A M B m b,
    fit_along Ms (instantiate_type A M B) t (single_type_by_skeletons (family_skeletons Σ) (constant_skeletons Σ) (skeleton A) (context_skeletons F) M B m b) (left_of Ms A M B t h),
  )
  fit_along (M ∷ Ms) (atom c S) t w h = absurd h

  -- a term and its type at one place can be shown
  abbrev pub CanBeShown : Term → LfType → Type 0
  CanBeShown M A = IsShowableType Σ F A × HasSkeleton Σ F M (skeleton A)

  pub some_same : {A : Type 0} {x y : A} → Some x ≡ Some y → x ≡ y
  some_same e = cc

  pub shown_at : (Ms : List Term) (T : LfType) → FitAlong Σ F T Ms → (i : ℕ) (M : Term) (A : LfType) → slice_get Ms i ≡ Some M → slice_get (types_along T Ms) i ≡ Some A → CanBeShown M A
  shown_at [] T f i M A e d = absurd cc
  shown_at (N ∷ Ms) (pi B C) (b, n, g, f) zero M A e d = (subst (IsShowableType Σ F) (some_same d) b, subst (λ X. HasSkeleton Σ F X (skeleton A)) (some_same e) (subst (λ X. HasSkeleton Σ F N (skeleton X)) (some_same d) n))
  shown_at (N ∷ Ms) (pi B C) (b, n, g, f) (suc i) M A e d = shown_at Ms (instantiate_type B N C) f i M A e d
  shown_at (N ∷ Ms) (atom c S) f i M A e d = absurd f

  -- the type that is left of a term with its skeleton
  pub shown_behind : (Ms : List Term) (T : LfType) (P : Term) (t : Skeleton) → FitAlong Σ F T Ms → HaveSkeletons Ms (skeleton T) t → HasSkeleton Σ F P t → (A : LfType) → slice_get (types_along T Ms) (length Ms) ≡ Some A → CanBeShown P A
  shown_behind [] T P t f h p A d = (subst (IsShowableType Σ F) (some_same d) f, subst (HasSkeleton Σ F P) (sym h ∙ ap skeleton (some_same d)) p)
  shown_behind (N ∷ Ms) (pi B C) P t (b, n, g, f) (m, h) p A d = shown_behind Ms (instantiate_type B N C) P t f (left_of Ms B N C t h) p A d
  shown_behind (N ∷ Ms) (atom c S) P t f h p A d = absurd f

  -- one value for each variable
  pub values_count : (G : List LfType) (Ms : List Term) → AreTypedValues Σ F G Ms → length Ms ≡ length G
  values_count [] [] v = refl
  values_count [] (M ∷ Ms) v = absurd v
  values_count (A ∷ G) [] v = absurd v
  values_count (A ∷ G) (M ∷ Ms) (v, m) = ap suc (values_count G Ms v)

  -- the values, the outermost variable's first, in front of others
  pub values_have : (G : List LfType) (Ms rest : List Term) (T : LfType) (t : Skeleton) → AreTypedValues Σ F G Ms → HaveSkeletons rest (skeleton T) t → HaveSkeletons (reverse Ms ++ rest) (skeleton (pi_over G T)) t
  values_have [] [] rest T t v h = h
  values_have [] (M ∷ Ms) rest T t v h = absurd v
  values_have (A ∷ G) [] rest T t v h = absurd v
  values_have (A ∷ G) (M ∷ Ms) rest T t (v, m) h =
      subst (λ Ns. HaveSkeletons Ns (skeleton (pi_over G (pi A T))) t) (sym (ap (λ l. l ++ rest) (reverse-append (M ∷ []) Ms) ∙ append_assoc (reverse Ms) (M ∷ []) rest))
      (values_have G Ms (M ∷ rest) (pi A T) t v (subst (TermSkeleton (constant_skeletons Σ) (context_skeletons F) M) (skeleton_substituted reduce (images G Ms) A) (typed_has_skeleton Σ F M (at_values G Ms A) m), h))

  -- the goal under a quantifier for each variable
  closed_goal : (G : List LfType) (A : LfType) → IsContext Σ G → IsType Σ G A → IsType Σ [] (pi_over G A)
  closed_goal [] A w a = a
  closed_goal (B ∷ G) A (w, b) a = closed_goal G (pi B A) w (b, a)

  pub goal_shown : (G : List LfType) (A : LfType) → IsContext Σ G → IsType Σ G A → IsShowableType Σ F (pi_over G A)
  goal_shown G A w a = type_by_skeletons_beside Σ (context_skeletons F) [] (pi_over G A) (closed_goal G A w a)

-- lines of an answer
module _ (Σ : Signature) (g : Goal) (F : List LfType) (Ms : List Term) (P : Term) (context : IsContext Σ g.variables) (goal : IsType Σ g.variables g.goal) (a : IsAnswerOf Σ g.variables g.goal F (reverse Ms) P) where
  have : HaveSkeletons Σ F Ms (skeleton (pi_over g.variables g.goal)) (skeleton g.goal)
  have = subst (λ Ns. HaveSkeletons Σ F Ns (skeleton (pi_over g.variables g.goal)) (skeleton g.goal)) (append-nil (reverse (reverse Ms)) ∙ reverse-reverse Ms)
      (values_have Σ F g.variables (reverse Ms) [] g.goal (skeleton g.goal) a.values_typed refl)

  pub answer_fits : FitAlong Σ F (pi_over g.variables g.goal) Ms
  answer_fits = fit_along Σ F Ms (pi_over g.variables g.goal) (skeleton g.goal) (goal_shown Σ F g.variables g.goal context goal) have

  proof_has : HasSkeleton Σ F P (skeleton g.goal)
  proof_has = subst (HasSkeleton Σ F P) (skeleton_substituted reduce (images g.variables (reverse Ms)) g.goal) (typed_has_skeleton Σ F P (at_values g.variables (reverse Ms) g.goal) a.proves)

  one_row : (x : Option (List ℕ)) (m : Option Term) (t : Option LfType) → ((M : Term) (A : LfType) → m ≡ Some M → t ≡ Some A → CanBeShown Σ F M A) → AreShowable Σ F (row_in x m t)
  one_row (Some x) (Some M) (Some A) h = (h M A refl refl, tt)
  one_row (Some x) (Some M) None h = tt
  one_row (Some x) None t h = tt
  one_row None m t h = tt

  rows_then : (xs ys : List Row) → AreShowable Σ F xs → AreShowable Σ F ys → AreShowable Σ F (xs ++ ys)
  rows_then [] ys h k = k
  rows_then (x ∷ xs) ys (s, h) k = (s, rows_then xs ys h k)

  each_at : (place : Option ℕ) (M : Term) (A : LfType) → at Ms place ≡ Some M → at (types_along (pi_over g.variables g.goal) Ms) place ≡ Some A → CanBeShown Σ F M A
  each_at (Some i) M A e d = shown_at Σ F Ms (pi_over g.variables g.goal) answer_fits i M A e d
  each_at None M A e d = absurd cc

  these : (is : List ℕ) → AreShowable Σ F (rows_for g Ms (types_along (pi_over g.variables g.goal) Ms) is)
  these [] = tt
  these (i ∷ is) = rows_then _ _ (one_row (joined (slice_get g.names i)) (at Ms (place_of g.variables i)) (at (types_along (pi_over g.variables g.goal) Ms) (place_of g.variables i)) (each_at (place_of g.variables i))) (these is)

  count : length Ms ≡ length g.variables
  count = sym (length-reverse Ms) ∙ values_count Σ F g.variables (reverse Ms) a.values_typed

  proof_at : (o : Option Term) → IsIfRead o P → (M : Term) (A : LfType) → o ≡ Some M → slice_get (types_along (pi_over g.variables g.goal) Ms) (length g.variables) ≡ Some A → CanBeShown Σ F M A
  proof_at (Some N) is M A e d =
      subst (λ X. CanBeShown Σ F X A) (sym is ∙ some_same Σ F e)
      (shown_behind Σ F Ms (pi_over g.variables g.goal) P (skeleton g.goal) answer_fits have proof_has A (ap (slice_get (types_along (pi_over g.variables g.goal) Ms)) count ∙ d))
  proof_at None is M A e d = absurd cc

  pub rows_shown : (o : Option Term) → IsIfRead o P → AreShowable Σ F (rows_of g Ms o)
  rows_shown o is = rows_then _ _ (these g.shown) (one_row g.proof o (slice_get (types_along (pi_over g.variables g.goal) Ms) (length g.variables)) (proof_at o is))
