-- What can be done at a metavariable on a pattern, from what inversion and pruning answer.
use Rattle.std.proofs.Common.{◌≡◌, ℕ, zero, suc, List, [], ◌∷◌, length, Option, Some, None, ◌⊎◌, inl, inr, refl, sym, ap, ◌∙◌, subst}
use Rattle.std.proofs.Common.{Result, Ok, Err, ◌++◌, ◌+◌, ◌<◌, ◌≤◌, map, take, get_or, arith}
use Rattle.std.proofs.lemmas.List.{map-append, take_more}
use Rattle.tw_prune.specs.View.{loss_of}
use Rattle.tw_prune.specs.declared.drops.Loss.{Loss}
use Rattle.std.specs.Option.{IfNone, IfSome, MatchOption}
use Rattle.std.specs.Result.{IfOk}
use Rattle.std.specs.declared.alloc.AllocError.{AllocError}
use Rattle.lf.specs.SkeletonTyping.{SpineSkeleton, TermSkeleton}
use Rattle.lf.specs.Skeletons.{type_skeleton}
use Rattle.lf.specs.Subordination.{Member}
use Rattle.lf.specs.Syntax.{LfType, Skeleton, Spine, Term, base, constant, lambda, metavariable, root, skeleton, variable}
use Rattle.lf.specs.Typing.{Signature}
use Rattle.lf_unification.specs.Inversion.{Inverted, IsPattern, MustDrop, NeverInverted}
use Rattle.lf_unification.specs.OpenTyping.{Declares, MetavariablesIn, MetavariablesInSpine, skeletons_of}
use Rattle.lf_unification.specs.Outside.{IsLambda, IsStuck}
use Rattle.lf_unification.specs.Patterns.{FreeVariablesIn, FreeVariablesInSpine, InImage, LiftedSet, beyond, lambdas_of, local_skeletons, pattern, pattern_renaming}
use Rattle.lf_unification.specs.Pruning.{CanAgree, CanDrop}
use Rattle.lf_unification.specs.Putting.{Unbound}
use Rattle.lf_unification.specs.Reach.{IsReached}
use Rattle.lf_unification.specs.Rigid.{LiftedSetBy, Rigid, RigidInSpine, here, first, later, in_constant, in_lambda, in_variable}
use Rattle.lf_unification.specs.Skeletons.{skeleton_or_default}
use Rattle.lf_unification.specs.Steps.{IsRefuted, occurs_inside, store_at, variable_escapes}
use Rattle.lf_unification.specs.Unifiers.{Equation, Side}
use Rattle.lf_unification.proofs.Inverse.{only_rename}
use Rattle.tw_metas.specs.State.{State}
use Rattle.tw_putting.specs.Fits.{declared_skeletons}
use Rattle.tw_putting.specs.Stores.{bindings_of, types_of}
use Rattle.tw_prune.specs.Losing.{AreDifferences, DropsVariableOfPlace, KeepsArgument, LosesArgument}
use Rattle.tw_prune.specs.Meaning.{AnswerMeans, HasEachLoss, IsHindered, IsInversion, MustLose}
use Rattle.tw_prune.specs.declared.inversion.Inverted.{Inverted as Answer}
use Rattle.tw_prune.specs.declared.inversion.Inverted.TheVariants.{Drop, Outside}
use Rattle.tw_terms.specs.declared.canonical.MetaId.{MetaId}
use Rattle.tw_prune.specs.Occurrence.{OccursInside}
use Rattle.tw_prune.specs.Recognition.{HasEachPattern, IsPatternOf}
use Rattle.tw_prune.specs.Standing.{HasSkeleton, IsVariableOfPlace, StandsIn, skeletons_over}
use Rattle.tw_prune.specs.declared.prune.Pruned.{Pruned}
use Rattle.tw_terms.specs.OpenView.{open_spine_of, open_type_of}
use Rattle.tw_putting.specs.Unfolding.{HeadStays}
use Rattle.tw_unify.specs.Moving.{AgainstFits, AreRenewed, BindsTo, HeadsFit, IsBlocked, IsSame, KeepsIt, LosesInBoth, LosesInside, LosesIt, NoMove, NothingInside, SidesFit, on_pattern}
use Rattle.tw_unify.specs.Reaching.{IsAvoided}
use Rattle.tw_unify.proofs.Reaching.{member_of_both}
use Rattle.tw_putting.proofs.Skeletons.{term_scoped, term_with_more}

some_same : {A : Type 0} {x y : A} → Some x ≡ Some y → x ≡ y
some_same e = cc

-- free variables, at a rigid occurrence
mutual
  rigid_variables : {N : Term} {k : ℕ} {M : Term} (P : ℕ → Type 0) → Rigid N k M → FreeVariablesIn P M → FreeVariablesIn (LiftedSetBy k P) N
  rigid_variables P here f = f
  rigid_variables P (in_lambda r) f = rigid_variables (LiftedSet P) r f
  rigid_variables P (in_constant r) f = rigid_spine_variables P r f
  rigid_variables P (in_variable r) (v, f) = rigid_spine_variables P r f

  rigid_spine_variables : {N : Term} {k : ℕ} {S : Spine} (P : ℕ → Type 0) → RigidInSpine N k S → FreeVariablesInSpine P S → FreeVariablesIn (LiftedSetBy k P) N
  rigid_spine_variables P (first r) (f, g) = rigid_variables P r f
  rigid_spine_variables P (later r) (f, g) = rigid_spine_variables P r g

-- and metavariables
mutual
  rigid_metavariables : {N : Term} {k : ℕ} {M : Term} (V : ℕ → Type 0) → Rigid N k M → MetavariablesIn V M → MetavariablesIn V N
  rigid_metavariables V here f = f
  rigid_metavariables V (in_lambda r) f = rigid_metavariables V r f
  rigid_metavariables V (in_constant r) f = rigid_spine_metavariables V r f
  rigid_metavariables V (in_variable r) f = rigid_spine_metavariables V r f

  rigid_spine_metavariables : {N : Term} {k : ℕ} {S : Spine} (V : ℕ → Type 0) → RigidInSpine N k S → MetavariablesInSpine V S → MetavariablesIn V N
  rigid_spine_metavariables V (first r) (f, g) = rigid_metavariables V r f
  rigid_spine_metavariables V (later r) (f, g) = rigid_spine_metavariables V r g

-- what is inverted has no variable in the way
inverted_not_never : (Ψ : ℕ → Option LfType) (D : List LfType) (t : Skeleton) (xs : List ℕ) (N : Term) → Inverted Ψ D t xs N → NeverInverted Ψ D t xs N → ⊥
inverted_not_never Ψ D t xs N i n =
    n.is_bad (rigid_variables (InImage (pattern_renaming t xs (beyond D))) n.at (subst (FreeVariablesIn (InImage (pattern_renaming t xs (beyond D)))) i.is (only_rename (pattern_renaming t xs (beyond D)) i.inversion))).0

-- the unbound metavariable that is to be pruned
pub dropped_unbound : (V : ℕ → Type 0) (Ψ : ℕ → Option LfType) (D : List LfType) (t : Skeleton) (xs : List ℕ) (N : Term) → MetavariablesIn V N → (d : MustDrop Ψ D t xs N) → V d.m
dropped_unbound V Ψ D t xs N i d = (rigid_metavariables V d.at i).0

-- what must lose an argument is declared
pub loss_declared : (Σ : Signature) (Ψ : ℕ → Option LfType) (D : List LfType) (t u : Skeleton) (xs : List ℕ) (N : Term) (m place : ℕ) → TermSkeleton (declared_skeletons Σ Ψ) (local_skeletons D []) N u → MustLose Ψ D t xs N m place → Declares Ψ m
loss_declared Σ Ψ D t u xs N m place n l = subst (Declares Ψ) l.of (dropped_unbound (Declares Ψ) Ψ D t xs N (term_scoped Σ Ψ (local_skeletons D []) N u n) l.drop)

module _ (Σ : Signature) (Ψ : ℕ → Option LfType) where
  constants_same : (c : ℕ) (t : Skeleton) → type_skeleton (Σ.types c) ≡ Some t → type_skeleton (Σ.types c) ≡ Some t
  constants_same c t e = e

  total : (x : Option LfType) (m : ℕ) (t : Skeleton) → Ψ m ≡ x → type_skeleton x ≡ Some t → Some (skeletons_of Ψ m) ≡ Some t
  total None m t d e = absurd cc
  total (Some A) m t d e = ap (λ y. Some (skeleton_or_default y)) d ∙ e

  pub has_skeleton : (D : List LfType) (N : Term) (t : Skeleton) → TermSkeleton (declared_skeletons Σ Ψ) (local_skeletons D []) N t → HasSkeleton Ψ D N
  has_skeleton D N t n = record {
    constants = λ c. type_skeleton (Σ.types c);
    outer = [];
    of_skeleton = t;
    typed = term_with_more (declared_skeletons Σ Ψ) (skeletons_over (λ c. type_skeleton (Σ.types c)) Ψ) constants_same (λ m u e. total (Ψ m) m u refl e) (local_skeletons D []) N t n;
  }

module _ (s : State) where
  skeleton_declared : (n : ℕ) (X : LfType) → types_of s n ≡ Some X → skeletons_of (types_of s) n ≡ skeleton X
  skeleton_declared n X e = ap skeleton_or_default e

  pub loses_it : (n place : ℕ) (X Y : LfType) (S : Spine) → types_of s n ≡ Some X → LosesArgument X place Y S → LosesIt s n place Y S
  loses_it n place X Y S e l =
      let (p, q, r) = l.pruned (types_of s) n e in
      record { dropped = l.dropped; at = subst (λ t. IsVariableOfPlace t place l.dropped) (sym (skeleton_declared n X e)) l.at; pruned = p; gives = (q, r) }

  pub keeps_it : (n place : ℕ) (X : LfType) → types_of s n ≡ Some X → KeepsArgument X place → KeepsIt s n place
  keeps_it n place X e k dropped at p = k (types_of s) n dropped e (subst (λ t. IsVariableOfPlace t place dropped) (skeleton_declared n X e) at) p

  module _ (D : List LfType) (m : ℕ) (xs : List ℕ) (N : Term) where
    -- a metavariable inside loses an argument
    pub inside_loses : DropsVariableOfPlace → (n place : ℕ) (Y : LfType) (S : Spine) → MetavariablesIn (Unbound (bindings_of s)) N → MustLose (types_of s) D (skeletons_of (types_of s) m) xs N n place → LosesIt s n place Y S → LosesInside s D m xs N n Y S
    inside_loses law n place Y S u d l =
        let there : LosesIt s d.drop.m d.drop.place Y S = subst (λ j. LosesIt s j d.drop.place Y S) (sym d.of) (subst (λ j. LosesIt s n j Y S) (sym d.at) l) in
        record {
          can = record {
            drop = d.drop;
            dropped = there.dropped;
            is_place = (law (types_of s) D (skeletons_of (types_of s) m) xs N d.drop there.dropped).1 there.at;
            pruned = there.pruned;
          };
          unbound = dropped_unbound (Unbound (bindings_of s)) (types_of s) D (skeletons_of (types_of s) m) xs N u d.drop;
          of = d.of;
          gives = there.gives;
        }

    -- none can
    pub none_loses : DropsVariableOfPlace → (inner : ℕ) (losses : List (ℕ × ℕ)) → StandsIn inner D (skeletons_of (types_of s) m) xs → HasEachLoss inner xs N losses → ((n place : ℕ) → Member (n, place) losses → KeepsIt s n place)
        → CanDrop (types_of s) D (skeletons_of (types_of s) m) xs N → ⊥
    none_loses law inner losses i each keeps p =
        keeps p.drop.m p.drop.place (each (types_of s) D (skeletons_of (types_of s) m) i p.drop) p.dropped
        ((law (types_of s) D (skeletons_of (types_of s) m) xs N p.drop p.dropped).0 p.is_place) p.pruned

    -- the metavariable of both sides loses an argument at which the patterns differ
    pub both_lose : IsPattern D (skeletons_of (types_of s) m) xs → (ys places : List ℕ) → IsSame s D m ys N → AreDifferences xs ys places → (place : ℕ) (Y : LfType) (S : Spine) → Member place places → LosesIt s m place Y S → LosesInBoth s D m xs N m Y S
    both_lose i ys places same d place Y S h l = record {
      of = refl;
      can = record {
        same = record { ys = ys; is_pattern = same.is_pattern; is = same.is };
        dropped = l.dropped;
        differ = (d D (skeletons_of (types_of s) m) i same.is_pattern l.dropped).1 (place, h, l.at);
        pruned = l.pruned;
      };
      gives = l.gives;
    }

    -- it can lose none
    pub none_differs : IsPattern D (skeletons_of (types_of s) m) xs → (ys places : List ℕ) → IsSame s D m ys N → AreDifferences xs ys places → ((place : ℕ) → Member place places → KeepsIt s m place) → CanAgree (types_of s) D m xs N → ⊥
    none_differs i ys places same d keeps p =
        let one : ys ≡ p.same.ys = same.only p.same.ys p.same.is_pattern p.same.is in
        let apart : pattern_renaming (skeletons_of (types_of s) m) xs (beyond D) p.dropped ≡ pattern_renaming (skeletons_of (types_of s) m) ys (beyond D) p.dropped → ⊥ =
        λ e. p.differ (e ∙ ap (λ zs. pattern_renaming (skeletons_of (types_of s) m) zs (beyond D) p.dropped) one) in
        let (place, h, at) = (d D (skeletons_of (types_of s) m) i same.is_pattern p.dropped).0 apart in
        keeps place h p.dropped at p.pruned

    -- the sides are no metavariable on two patterns
    pub not_same : ((zs : List ℕ) → IsPattern D (skeletons_of (types_of s) m) zs → N ≡ on_pattern s m zs → ⊥) → CanAgree (types_of s) D m xs N → ⊥
    not_same f p = f p.same.ys p.same.is_pattern p.same.is

    pub binds_to : (inner : ℕ) (B V : Term) → StandsIn inner D (skeletons_of (types_of s) m) xs → IsInversion inner xs N B → IsAvoided (types_of s) (bindings_of s) N m → V ≡ lambdas_of (skeletons_of (types_of s) m) B → BindsTo s D m xs N V
    binds_to inner B V i inversion avoided e = record {
      can = record {
        inverted = record { inversion = B; is = inversion.is D (skeletons_of (types_of s) m) i };
        reached = avoided.reached;
        avoids = avoided.avoids;
        within = avoided.within;
      };
      value = e;
    }

    inverted_by : (inner : ℕ) (B : Term) → StandsIn inner D (skeletons_of (types_of s) m) xs → IsInversion inner xs N B → Inverted (types_of s) D (skeletons_of (types_of s) m) xs N
    inverted_by inner B i inversion = record { inversion = B; is = inversion.is D (skeletons_of (types_of s) m) i }

    -- no step: the binding would be circular
    pub circular_stuck : (inner : ℕ) (B : Term) → StandsIn inner D (skeletons_of (types_of s) m) xs → IsInversion inner xs N B → IsReached (types_of s) (bindings_of s) N m → NothingInside s D m xs N → (CanAgree (types_of s) D m xs N → ⊥)
        → NoMove s D m xs N
    circular_stuck inner B i inversion r n a = record {
      circular = λ v. r;
      invertible = λ v. inverted_not_never (types_of s) D (skeletons_of (types_of s) m) xs N (inverted_by inner B i inversion) v;
      not_inside = n.0;
      no_drop = n.1;
      no_agreement = a;
    }

    -- no step: there is no inversion
    pub hindered_stuck : (Inverted (types_of s) D (skeletons_of (types_of s) m) xs N → ⊥) → (NeverInverted (types_of s) D (skeletons_of (types_of s) m) xs N → ⊥) → NothingInside s D m xs N → (CanAgree (types_of s) D m xs N → ⊥) → NoMove s D m xs N
    hindered_stuck f g n a = record { circular = λ v. absurd (f v); invertible = g; not_inside = n.0; no_drop = n.1; no_agreement = a }

  no_lambda : (Σ : Signature) (Γ : List Skeleton) (N : Term) (c : ℕ) → TermSkeleton (declared_skeletons Σ (types_of s)) Γ N (base c) → IsLambda N → ⊥
  no_lambda Σ Γ (lambda N) c t l = t
  no_lambda Σ Γ (root h S) c t l = l

  module _ (D : List LfType) (m : ℕ) (xs : List ℕ) (N : Term) (f : AgainstFits s D m xs N) where
    pub escape_refutes : NeverInverted (types_of s) D (skeletons_of (types_of s) m) xs N → (side : Side) (es : List Equation) (C : LfType) → IsRefuted (store_at side (types_of s) (bindings_of s) es D (on_pattern s m xs) N C)
    escape_refutes n side es C = variable_escapes side D m xs N C f.declared f.is_pattern n

    pub occurrence_refutes : (inner : ℕ) → length D ≡ inner → OccursInside m inner N → (side : Side) (es : List Equation) (C : LfType) → IsRefuted (store_at side (types_of s) (bindings_of s) es D (on_pattern s m xs) N C)
    occurrence_refutes inner e o side es C =
        occurs_inside side D m xs N C f.declared f.is_pattern (no_lambda f.signature (local_skeletons D []) N f.family f.right_typed)
        (o (types_of s) D xs e (has_skeleton f.signature (types_of s) D N (base f.family) f.right_typed))

    pub stands : (inner : ℕ) → length D ≡ inner → StandsIn inner D (skeletons_of (types_of s) m) xs
    stands inner e = record { count = e; is_pattern = f.is_pattern }

    pub right_skeleton : HasSkeleton (types_of s) D N
    right_skeleton = has_skeleton f.signature (types_of s) D N (base f.family) f.right_typed

  -- with the bindings put in no head is bound
  head_stays : (M : Term) → MetavariablesIn (Unbound (bindings_of s)) M → HeadStays s M
  head_stays (lambda M) u = tt
  head_stays (root (constant c) S) u = tt
  head_stays (root (variable i) S) u = tt
  head_stays (root (metavariable m) S) u = u.0

  pub heads_of : (D : List LfType) (M N : Term) → SidesFit s D M N → HeadsFit s D M N
  heads_of D M N f = record { signature = f.signature; consistent = f.consistent; family = f.family; left_typed = f.left_typed; right_typed = f.right_typed; left_stays = head_stays M f.left_unbound }

  module _ (D : List LfType) (M N : Term) (f : HeadsFit s D M N) (m : ℕ) (S : Spine) (is : M ≡ root (metavariable m) S) where
    declared_at : (x : Option LfType) (t : Skeleton) → type_skeleton x ≡ Some t → (X : LfType) × (x ≡ Some X) × (skeleton X ≡ t)
    declared_at None t e = absurd cc
    declared_at (Some X) t e = (X, refl, (let h : skeleton X ≡ t = cc in h))

    left_here : TermSkeleton (declared_skeletons f.signature (types_of s)) (local_skeletons D []) (root (metavariable m) S) (base f.family)
    left_here = subst (λ X. TermSkeleton (declared_skeletons f.signature (types_of s)) (local_skeletons D []) X (base f.family)) is f.left_typed

    spine_here : SpineSkeleton (declared_skeletons f.signature (types_of s)) (local_skeletons D []) S (skeletons_of (types_of s) m) (base f.family)
    spine_here =
        let (X, d, e) = declared_at (types_of s m) left_here.0 left_here.1 in
        subst (λ t. SpineSkeleton (declared_skeletons f.signature (types_of s)) (local_skeletons D []) S t (base f.family)) (sym e ∙ sym (skeleton_declared m X d)) left_here.2

    -- the spine is a pattern
    pub against : (inner : ℕ) (xs : List ℕ) → length D ≡ inner → IsPatternOf inner S xs → AgainstFits s D m xs N × (M ≡ on_pattern s m xs)
    against inner xs e p =
        let (X, d, _) = declared_at (types_of s m) left_here.0 left_here.1 in
        let (q, i) = p (declared_skeletons f.signature (types_of s)) D [] (skeletons_of (types_of s) m) f.family e spine_here in (
          record {
            signature = f.signature;
            consistent = f.consistent;
            of_type = X;
            declared = d;
            is_pattern = i.is_pattern;
            unbound = subst (HeadStays s) is f.left_stays;
            family = f.family;
            right_typed = f.right_typed;
          },
          is ∙ ap (root (metavariable m)) q,
        )

    same_spine : (n : ℕ) (T : Spine) → M ≡ root (metavariable n) T → (m ≡ n) × (S ≡ T)
    same_spine n T e = let h : root (metavariable m) S ≡ root (metavariable n) T = sym is ∙ e in ((let p : m ≡ n = cc in p), (let q : S ≡ T = cc in q))

    -- it is none
    pub no_pattern_stuck : (inner : ℕ) → length D ≡ inner → HasEachPattern inner S None → IsBlocked s D M N
    no_pattern_stuck inner e h n ys p i =
        let (a, b) = same_spine n (pattern (skeletons_of (types_of s) n) ys) i in
        let no : None ≡ Some ys = h D (skeletons_of (types_of s) n) ys (record { count = e; is_pattern = p }) b in
        absurd cc

    -- no step is possible for the pattern that it is
    pub pattern_stuck : (inner : ℕ) (xs : List ℕ) → length D ≡ inner → HasEachPattern inner S (Some xs) → NoMove s D m xs N → IsBlocked s D M N
    pattern_stuck inner xs e h step n ys p i =
        let (a, b) = same_spine n (pattern (skeletons_of (types_of s) n) ys) i in
        let one : Some xs ≡ Some ys = h D (skeletons_of (types_of s) n) ys (record { count = e; is_pattern = p }) b in
        let two : xs ≡ ys = cc in
        subst (λ zs. NoMove s D n zs N) two (subst (λ j. NoMove s D j xs N) a step)

  -- nothing can be done, and nothing that is reached needs to be renewed
  pub blocked_stuck : (D : List LfType) (M N : Term) → IsBlocked s D M N → AreRenewed s N → IsStuck (types_of s) (bindings_of s) D M N
  blocked_stuck D M N b r m xs p e =
      let n = b m xs p e in
      record { circular = n.circular; invertible = n.invertible; not_inside = n.not_inside; no_drop = n.no_drop; no_agreement = n.no_agreement; renewed = r }

  -- the other side is m on a pattern, if its arguments are one
  pub is_same : (D : List LfType) (m : ℕ) (xs : List ℕ) (N : Term) (f : AgainstFits s D m xs N) (S : Spine) → N ≡ root (metavariable m) S → (inner : ℕ) (ys : List ℕ) → length D ≡ inner → IsPatternOf inner S ys → HasEachPattern inner S (Some ys) → IsSame s D m ys N
  is_same D m xs N f S is inner ys e p h =
      let typed : TermSkeleton (declared_skeletons f.signature (types_of s)) (local_skeletons D []) (root (metavariable m) S) (base f.family) = subst (λ X. TermSkeleton (declared_skeletons f.signature (types_of s)) (local_skeletons D []) X (base f.family)) is f.right_typed in
      let at : skeleton f.of_type ≡ typed.0 = some_same (sym (ap type_skeleton f.declared) ∙ typed.1) in
      let spine : SpineSkeleton (declared_skeletons f.signature (types_of s)) (local_skeletons D []) S (skeletons_of (types_of s) m) (base f.family) =
      subst (λ t. SpineSkeleton (declared_skeletons f.signature (types_of s)) (local_skeletons D []) S t (base f.family)) (sym at ∙ sym (skeleton_declared m f.of_type f.declared)) typed.2 in
      let (q, i) = p (declared_skeletons f.signature (types_of s)) D [] (skeletons_of (types_of s) m) f.family e spine in
      record {
        is_pattern = i.is_pattern;
        is = is ∙ ap (root (metavariable m)) q;
        only = λ zs z n.
            let b : root (metavariable m) S ≡ on_pattern s m zs = sym is ∙ n in
            let c : S ≡ pattern (skeletons_of (types_of s) m) zs = cc in
            let one : Some ys ≡ Some zs = h D (skeletons_of (types_of s) m) zs (record { count = e; is_pattern = z }) c in
            let two : ys ≡ zs = cc in two;
      }

-- each of these is kept
abbrev pub AllKept : State → List (ℕ × ℕ) → Type 0
AllKept s ls = (n place : ℕ) → Member (n, place) ls → KeepsIt s n place

abbrev pub PlacesKept : State → ℕ → List ℕ → Type 0
PlacesKept s n ps = (place : ℕ) → Member place ps → KeepsIt s n place

pub lost_or_kept : (s : State) (n place : ℕ) (X : LfType) (r : Result (Option Pruned) AllocError) → types_of s n ≡ Some X
    → IfOk r (λ o. IfSome o (λ p. LosesArgument X place (open_type_of p.ty) (open_spine_of p.spine)))
    → IfOk r (λ o. IfNone o (KeepsArgument X place))
    → IfOk r (λ o. MatchOption o (KeepsIt s n place) (λ p. LosesIt s n place (open_type_of p.ty) (open_spine_of p.spine)))
lost_or_kept s n place X (Ok None) d l k = keeps_it s n place X d k
lost_or_kept s n place X (Ok (Some p)) d l k = loses_it s n place X (open_type_of p.ty) (open_spine_of p.spine) d l
lost_or_kept s n place X (Err e) d l k = tt

pub all_kept_more : (s : State) (ls : List (ℕ × ℕ)) (n place : ℕ) → AllKept s ls → KeepsIt s n place → AllKept s (ls ++ (n, place) ∷ [])
all_kept_more s ls n place a k j p h = elim (member_of_both (j, p) ls ((n, place) ∷ []) h) [
  | inl g ↦ a j p g
  | inr (inl e) ↦ subst (λ (q : ℕ × ℕ). KeepsIt s q.0 q.1) (sym e) k
  | inr (inr z) ↦ absurd z
]

pub places_kept_more : (s : State) (n : ℕ) (ps : List ℕ) (place : ℕ) → PlacesKept s n ps → KeepsIt s n place → PlacesKept s n (ps ++ place ∷ [])
places_kept_more s n ps place a k p h = elim (member_of_both p ps (place ∷ []) h) [
  | inl g ↦ a p g
  | inr (inl e) ↦ subst (KeepsIt s n) (sym e) k
  | inr (inr z) ↦ absurd z
]

pub option_weaker : {A P Q : Type 0} (R : A → Type 0) (o : Option A) → (P → Q) → MatchOption o P R → MatchOption o Q R
option_weaker R None f p = f p
option_weaker R (Some x) f r = r

pub element_of : {A : Type 0} (xs : List A) (i : ℕ) (d : A) → i < length xs → Member (get_or xs i d) xs
element_of [] i d h = absurd (omega arith)
element_of (x ∷ xs) zero d h = inl refl
element_of (x ∷ xs) (suc i) d h = inr (element_of xs i d (omega arith))

pub image_of : {A B : Type 0} (f : A → B) (xs : List A) (x : A) → Member x xs → Member (f x) (map f xs)
image_of f [] x h = h
image_of f (y ∷ xs) x (inl e) = inl (ap f e)
image_of f (y ∷ xs) x (inr h) = inr (image_of f xs x h)

-- one more
pub places_kept_next : (s : State) (n : ℕ) (ps : List ℕ) (i d : ℕ) → i < length ps → PlacesKept s n (take i ps) → KeepsIt s n (get_or ps i d) → PlacesKept s n (take (i + 1) ps)
places_kept_next s n ps i d h a k = subst (PlacesKept s n) (sym (take_more ps i d h)) (places_kept_more s n (take i ps) (get_or ps i d) a k)

pub all_kept_next : (s : State) (ls : List Loss) (i : ℕ) (d : Loss) → i < length ls → AllKept s (map loss_of (take i ls)) → KeepsIt s (get_or ls i d).meta.0 (get_or ls i d).place → AllKept s (map loss_of (take (i + 1) ls))
all_kept_next s ls i d h a k =
    let l = get_or ls i d in
    subst (λ xs. AllKept s (map loss_of xs)) (sym (take_more ls i d h))
    (subst (AllKept s) (sym (map-append loss_of (take i ls) (l ∷ []))) (all_kept_more s (map loss_of (take i ls)) l.meta.0 l.place a k))

-- all of them
pub took_all : {A : Type 0} (xs : List A) (i : ℕ) → length xs ≤ i → take i xs ≡ xs
took_all [] zero h = refl
took_all [] (suc i) h = refl
took_all (x ∷ xs) zero h = absurd (omega arith)
took_all (x ∷ xs) (suc i) h = ap (λ ys. x ∷ ys) (took_all xs i (omega arith))

-- inversion fails, but not because of a variable
pub hindered_by : (inner : ℕ) (xs : List ℕ) (N : Term) (r : Answer) → AnswerMeans inner xs N r → ((k : MetaId) × (place : ℕ) × (r ≡ Drop k place)) ⊎ (r ≡ Outside) → IsHindered inner xs N
hindered_by inner xs N r a (inl (k, place, e)) = let h : AnswerMeans inner xs N (Drop k place) = subst (AnswerMeans inner xs N) e a in h.0
hindered_by inner xs N r a (inr e) = let h : AnswerMeans inner xs N Outside = subst (AnswerMeans inner xs N) e a in h.0

pub nil_of : {A : Type 0} (xs : List A) → length xs ≡ 0 → xs ≡ []
nil_of [] e = refl
nil_of (x ∷ xs) e = absurd (omega arith)
