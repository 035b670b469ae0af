-- Terms with values put in as far as their head: each value in the place of a head is a step of putting values in.
use Rattle.std.proofs.Common.{◌≡◌, ℕ, zero, ◌<◌, List, [], ◌∷◌, drop, Option, Some, None, inl, inr, refl, sym, ap, ◌∙◌, subst}
use Rattle.std.specs.Option.{IfSome}
use Rattle.lf.specs.AtOnce.{shift_by}
use Rattle.lf.specs.Depth.{depth, depth_limit}
use Rattle.lf.specs.Rules.{Reduces}
use Rattle.lf.specs.SkeletonTyping.{SpineSkeleton, TermSkeleton}
use Rattle.lf.specs.Skeletons.{type_skeleton}
use Rattle.lf.specs.Subordination.{Member}
use Rattle.lf.specs.Substitution.{reduce}
use Rattle.lf.specs.Syntax.{LfType, Skeleton, Spine, Term, app, arrow, base, constant, metavariable, nil, rename, rename_spine, root, skeleton}
use Rattle.lf.proofs.AtOnce.{drop_by_skeletons, shift_zero}
use Rattle.lf.proofs.Eta.{reduce_nil}
use Rattle.lf.proofs.Renaming.{substitute_identity_spine}
use Rattle.lf.proofs.Rules.{rules_total_reduction}
use Rattle.lf.proofs.SkeletonTyping.{reduction_keeps_skeletons, renaming_keeps_skeletons}
use Rattle.lf_closures.specs.Environments.{Environment, applied_in, move_by, outside, spine_value_in}
use Rattle.lf_closures.specs.Typing.{TakesAll}
use Rattle.lf_closures.proofs.Values.{move_by_fits}
use Rattle.lf_unification.specs.OpenTyping.{skeletons_of}
use Rattle.lf_unification.specs.Putting.{PutsSomeSpine, put_nothing, some_at_bound, some_in_argument, some_nowhere}
use Rattle.lf_unification.specs.Rigid.{past_binders}
use Rattle.lf_unification.specs.Skeletons.{skeleton_or_default}
use Rattle.lf_unification.specs.Unifiers.{Binding}
use Rattle.tw_metas.specs.State.{State, Story, empty_story, value_of}
use Rattle.tw_terms.specs.declared.canonical.ConstId.{ConstId}
use Rattle.tw_putting.specs.Fits.{BindingsBySkeletons, PutFits, declared_skeletons}
use Rattle.tw_putting.specs.Frames.{AppliesInFrame, Enters, WalkFits}
use Rattle.tw_putting.specs.Stores.{bindings_of, types_of}
use Rattle.tw_putting.specs.Unfolding.{AppliesUnder, BecomesConstant, HeadStays, PutsPart, Unfolds, UnfoldsDeep, UnfoldsTo}
use Rattle.tw_putting.specs.Values.{put_value}
use Rattle.tw_putting.proofs.Calls.{empty_value, nothing_there}
use Rattle.tw_putting.proofs.Filled.{declared_at, past_is_shift}
use Rattle.tw_putting.proofs.Frames.{takes_all_in_frame}
use Rattle.tw_putting.proofs.Walks.{member_from, moved_out, unbound_from}

-- Moved over no binder and on no arguments a value is itself.
pub value_alone : (k : ℕ) (a : Skeleton) (N : Term) (S : Spine) → k ≡ zero → S ≡ nil → N ≡ reduce a (rename (shift_by k) N) S
value_alone k a N S none bare =
    sym (shift_zero N) ∙ sym (reduce_nil a (rename (shift_by zero) N)) ∙ ap (λ j. reduce a (rename (shift_by j) N) nil) (sym none) ∙ ap (reduce a (rename (shift_by k) N)) (sym bare)

-- The application of a value under binders.
module _ (k : ℕ) (a : Skeleton) (N : Term) (c : Environment) (S T : Spine) (is : c ≡ outside) (same : S ≡ T) (x : AppliesUnder k a N S) where
  here : AppliesInFrame x.frame a N (move_by k c) T c
  here = subst (λ E. AppliesInFrame x.frame a N (move_by k E) T E) (sym is) (subst (λ X. AppliesInFrame x.frame a N (move_by k outside) X outside) same x.applies)

  pub under_takes : TakesAll a N T
  under_takes = takes_all_in_frame x.frame a N (move_by k c) T c here

  module _ (y : Story) (empty : y ≡ empty_story) (M : Term) (d : Environment) (z : Enters a N (move_by k c) T c M d) where
    pub under_walk : WalkFits y.now 0 d M
    under_walk = subst (λ w. WalkFits w.now 0 d M) (sym empty) (record { frame = x.frame; store_fits = nothing_there x.frame 0; term_fits = z.typed x.frame here })

    pub under_value : put_value y.now 0 d M ≡ reduce a (rename (shift_by k) N) S
    under_value =
        ap (λ w. put_value w.now 0 d M) empty ∙ empty_value 0 d M ∙ z.value x.frame here
        ∙ ap (λ E. applied_in a N (move_by k E) T E) is ∙ sym (ap (λ X. applied_in a N (move_by k outside) X outside) same)
        ∙ ap (λ X. reduce a X (spine_value_in outside S)) (moved_out k N)
        ∙ ap (reduce a (rename (shift_by k) N)) (substitute_identity_spine reduce S)

-- Where the head of a term that fits is bound.
some_same : {A : Type 0} {x y : A} → Some x ≡ Some y → x ≡ y
some_same e = cc

module _ (s : State) (k : ℕ) (m : ℕ) (S : Spine) (A : LfType) (N : Term) (v : value_of s m ≡ Some N) (y : types_of s m ≡ Some A) (f : PutFits s k (root (metavariable m) S)) where
  abbrev b : Binding
  b = record { of = m; value = N }

  is_bound : Member b (bindings_of s)
  is_bound = member_from s.values m N v s.bound (f.store_typed.bound m N v)

  declared_value : (bs : List Binding) → BindingsBySkeletons f.signature (types_of s) (drop k f.context) bs → Member b bs → TermSkeleton (declared_skeletons f.signature (types_of s)) (drop k f.context) N (skeleton A)
  declared_value bs w i = go bs w i
    where
      at : (c : Binding) → b ≡ c → (X : LfType) × (types_of s c.of ≡ Some X) × TermSkeleton (declared_skeletons f.signature (types_of s)) (drop k f.context) c.value (skeleton X) → TermSkeleton (declared_skeletons f.signature (types_of s)) (drop k f.context) N (skeleton A)
      at c e (X, d, t) =
          let value : c.value ≡ N = sym (ap (λ (z : Binding). z.value) e) in
          let ty : X ≡ A = some_same (sym d ∙ sym (ap (λ (z : Binding). types_of s z.of) e) ∙ y) in
          subst (λ Y. TermSkeleton (declared_skeletons f.signature (types_of s)) (drop k f.context) N (skeleton Y)) ty
          (subst (λ Y. TermSkeleton (declared_skeletons f.signature (types_of s)) (drop k f.context) Y (skeleton X)) value t)

      go : (cs : List Binding) → BindingsBySkeletons f.signature (types_of s) (drop k f.context) cs → Member b cs → TermSkeleton (declared_skeletons f.signature (types_of s)) (drop k f.context) N (skeleton A)
      go [] u j = absurd j
      go (c ∷ cs) (t, u, us) (inl e) = at c e t
      go (c ∷ cs) (t, u, us) (inr j) = go cs us j

  value_typed : TermSkeleton (declared_skeletons f.signature (types_of s)) (drop k f.context) N (skeleton A)
  value_typed = declared_value (bindings_of s) f.store_typed.values is_bound

  moved_typed : TermSkeleton (declared_skeletons f.signature (types_of s)) f.context (rename (shift_by k) N) (skeleton A)
  moved_typed = renaming_keeps_skeletons (declared_skeletons f.signature (types_of s)) (drop k f.context) f.context (shift_by k) N (skeleton A) (drop_by_skeletons k f.context) value_typed

  -- the family of the term, and its arguments
  record Arguments : Type 0 where
    family : ℕ
    term_is : f.term_skeleton ≡ base family
    spine_typed : SpineSkeleton (declared_skeletons f.signature (types_of s)) f.context S (skeleton A) (base family)

  arguments : Arguments
  arguments = go f.term_skeleton refl f.term_typed
    where
      head : (t : Skeleton) → type_skeleton (types_of s m) ≡ Some t → t ≡ skeleton A
      head t g = some_same (sym g ∙ ap type_skeleton y)

      go : (t : Skeleton) → f.term_skeleton ≡ t → TermSkeleton (declared_skeletons f.signature (types_of s)) f.context (root (metavariable m) S) t → Arguments
      go (arrow p q) e z = absurd z
      go (base d) e (t, g, z) = record { family = d; term_is = e; spine_typed = subst (λ u. SpineSkeleton (declared_skeletons f.signature (types_of s)) f.context S u (base d)) (head t g) z }

  pub applies_under : AppliesUnder k (skeleton A) N S
  applies_under = record {
    frame = record { heads = declared_skeletons f.signature (types_of s); target = f.context };
    applies = record {
      context = drop k f.context;
      arguments_context = f.context;
      family = arguments.family;
      environment_fits = move_by_fits (declared_skeletons f.signature (types_of s)) k outside (drop k f.context) (drop k f.context) f.context (drop_by_skeletons k f.context) (λ i u j. j);
      term_typed = value_typed;
      arguments_fit = λ i t g. g;
      spine_typed = arguments.spine_typed;
    };
  }

  result_fits : PutFits s k (reduce (skeleton A) (rename (shift_by k) N) S)
  result_fits = record {
    signature = f.signature;
    context = f.context;
    term_skeleton = base arguments.family;
    term_typed = reduction_keeps_skeletons (declared_skeletons f.signature (types_of s)) (skeleton A) f.context (rename (shift_by k) N) S (base arguments.family) moved_typed arguments.spine_typed;
    store_typed = f.store_typed;
  }

  pub unfolds_to : (M R : Term) → M ≡ root (metavariable m) S → R ≡ reduce (skeleton A) (rename (shift_by k) N) S → UnfoldsTo s k M R
  unfolds_to M R e q =
      let shape : skeletons_of (types_of s) m ≡ skeleton A = ap skeleton_or_default y in
      let r : Reduces (skeleton A) (rename (shift_by k) N) S (reduce (skeleton A) (rename (shift_by k) N) S) = rules_total_reduction (declared_skeletons f.signature (types_of s)) (skeleton A) f.context (rename (shift_by k) N) S arguments.family moved_typed arguments.spine_typed in
      record {
        binding = b;
        arguments = S;
        bound = is_bound;
        is = e;
        reduces = subst (Reduces (skeletons_of (types_of s) m) (rename (past_binders k) N) S) (sym q)
            (subst (λ ρ. Reduces (skeletons_of (types_of s) m) (rename ρ N) S (reduce (skeleton A) (rename (shift_by k) N) S)) (sym (past_is_shift k))
            (subst (λ t. Reduces t (rename (shift_by k) N) S (reduce (skeleton A) (rename (shift_by k) N) S)) (sym shape) r));
        fits = subst (PutFits s k) (sym q) result_fits;
      }

pub stays_unbound : (s : State) (M : Term) (m : ℕ) (S : Spine) → M ≡ root (metavariable m) S → value_of s m ≡ None → HeadStays s M
stays_unbound s M m S e v = subst (HeadStays s) (sym e) (unbound_from s.values m v s.bound)

pub stays_by : (s : State) (M N : Term) → M ≡ N → HeadStays s N → HeadStays s M
stays_by s M N e h = subst (HeadStays s) (sym e) h

-- Steps in front of a chain.
same_arguments : (s : State) (k : ℕ) (S : Spine) → PutsSomeSpine (types_of s) (bindings_of s) k S S
same_arguments s k nil = some_nowhere
same_arguments s k (app M S) = some_in_argument put_nothing (same_arguments s k S)

pub step_in_front : (s : State) (k : ℕ) (M R R' : Term) → UnfoldsTo s k M R → PutsPart s k R R' → PutsPart s k M R'
step_in_front s k M R R' u p = subst (λ X. PutsPart s k X R') (sym u.is) (some_at_bound u.binding u.bound (same_arguments s k u.arguments) u.reduces p)

-- what comes of the term here comes of the first one
abbrev pub ComesFrom : State → ℕ → Term → Term → Type 0
ComesFrom s k M N = (R : Term) → PutsPart s k N R → PutsPart s k M R

pub comes_next : (s : State) (k : ℕ) (M N N' : Term) → ComesFrom s k M N → UnfoldsTo s k N N' → ComesFrom s k M N'
comes_next s k M N N' f u R p = f R (step_in_front s k N N' R u p)

pub comes_last : (s : State) (k : ℕ) (M N : Term) → ComesFrom s k M N → HeadStays s N → Unfolds s k M N
comes_last s k M N f h = (f N put_nothing, h)

pub comes_deep : (s : State) (k : ℕ) (M N : Term) → ComesFrom s k M N → UnfoldsDeep s k N → UnfoldsDeep s k M
comes_deep s k M N f (R, p, d) = (R, f R p, d)

pub deep_once : (s : State) (k : ℕ) (M R : Term) → UnfoldsTo s k M R → depth_limit < depth R → UnfoldsDeep s k M
deep_once s k M R u d = (R, step_in_front s k M R R u put_nothing, d)

-- The constant that a metavariable without arguments becomes.
module _ (s : State) (k : ℕ) (m : ℕ) (N : Term) (v : value_of s m ≡ Some N) (f : PutFits s k (root (metavariable m) nil)) where
  -- the metavariable is declared, at a base
  record AtBase : Type 0 where
    of_type : LfType
    declared : types_of s m ≡ Some of_type
    family : ℕ
    is : skeleton of_type ≡ base family

  at_base : AtBase
  at_base =
      let (A, y) = declared_at f.signature (types_of s) (drop k f.context) (bindings_of s) f.store_typed.values (record { of = m; value = N }) (member_from s.values m N v s.bound (f.store_typed.bound m N v)) in
      let z = arguments s k m nil A N v y f in
      record { of_type = A; declared = y; family = z.family; is = z.spine_typed }

  -- its value stands in its place
  pub value_in_place : UnfoldsTo s k (root (metavariable m) nil) (rename (shift_by k) N)
  value_in_place =
      let b = at_base in
      unfolds_to s k m nil b.of_type N v b.declared f (root (metavariable m) nil) (rename (shift_by k) N) refl (ap (λ t. reduce t (rename (shift_by k) N) nil) (sym b.is))

pub constant_at_once : (s : State) (M : Term) (c : ℕ) (S : Spine) → M ≡ root (constant c) S → (k : ℕ) → PutFits s k M → BecomesConstant s k M c
constant_at_once s M c S e k f = (S, subst (λ X. PutsPart s k M X) e put_nothing)

-- what M becomes, where m without arguments is what comes of it
abbrev pub LeadsTo : State → ℕ → ℕ → Type 0
LeadsTo s m n = (k : ℕ) → PutFits s k (root (metavariable m) nil) → PutFits s k (root (metavariable n) nil) × ComesFrom s k (root (metavariable m) nil) (root (metavariable n) nil)

pub leads_nowhere : (s : State) (m : ℕ) → LeadsTo s m m
leads_nowhere s m k f = (f, λ R p. p)

pub leads_further : (s : State) (m n j : ℕ) → LeadsTo s m n → value_of s n ≡ Some (root (metavariable j) nil) → LeadsTo s m j
leads_further s m n j h v k f =
    let (g, p) = h k f in
    let u = value_in_place s k n (root (metavariable j) nil) v g in
    (u.fits, comes_next s k (root (metavariable m) nil) (root (metavariable n) nil) (root (metavariable j) nil) p u)

pub leads_to_constant : (s : State) (m n c : ℕ) (S : Spine) → LeadsTo s m n → value_of s n ≡ Some (root (constant c) S) → (k : ℕ) → PutFits s k (root (metavariable m) nil) → BecomesConstant s k (root (metavariable m) nil) c
leads_to_constant s m n c S h v k f =
    let (g, p) = h k f in
    let u = value_in_place s k n (root (constant c) S) v g in
    (rename_spine (shift_by k) S, p (root (constant c) (rename_spine (shift_by k) S)) (step_in_front s k (root (metavariable n) nil) (root (constant c) (rename_spine (shift_by k) S)) (root (constant c) (rename_spine (shift_by k) S)) u put_nothing))

pub becomes_by : (s : State) (M N : Term) → M ≡ N → (o : Option ConstId) → IfSome o (λ c. (k : ℕ) → PutFits s k N → BecomesConstant s k N c.0) → IfSome o (λ c. (k : ℕ) → PutFits s k M → BecomesConstant s k M c.0)
becomes_by s M N e o h = subst (λ X. IfSome o (λ c. (k : ℕ) → PutFits s k X → BecomesConstant s k X c.0)) (sym e) h
