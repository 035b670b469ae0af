-- What the public calls owe to the walks, and what the walks' results are.
use Rattle.std.proofs.Common.{◌≡◌, ℕ, ◌<◌, drop, Some, None, Result, Ok, Err, IfOk, refl, sym, ap, ◌∙◌, subst}
use Rattle.lf.specs.Deep.{DeepReduction, DeepSubstitution, DeepTypeSubstitution}
use Rattle.lf.specs.Depth.{depth, depth_limit, spine_depth, type_depth}
use Rattle.lf.specs.SkeletonTyping.{SpineSkeleton}
use Rattle.lf.specs.Substitution.{reduce, single, substitute, substitute_type}
use Rattle.lf.specs.Syntax.{Skeleton, Spine, Term, LfType, base}
use Rattle.lf.proofs.AtOnce.{drop_by_skeletons}
use Rattle.lf.proofs.Deep.{deep_reduct, deep_result, deep_type_result}
use Rattle.lf.proofs.Renaming.{substitute_identity, substitute_identity_spine}
use Rattle.lf.proofs.TypeLaws.{substitute_identity_type}
use Rattle.lf_closures.specs.Environments.{Environment, outside, move_by, applied_in, type_value_in, value_in}
use Rattle.lf_closures.specs.Typing.{TakesAll}
use Rattle.lf_closures.proofs.Steps.{put_alone, put_alone_fits, put_alone_value, outside_value}
use Rattle.lf_unification.specs.Filling.{fill, fill_spine, fill_type}
use Rattle.lf_unification.specs.OpenTyping.{skeletons_of}
use Rattle.lf_unification.specs.Skeletons.{as_head_skeletons, total_skeletons}
use Rattle.tw_hered.specs.Fits.{Applies, TermFits, TypeFits, put_at}
use Rattle.tw_metas.specs.State.{State, Story, empty_state, empty_story, value_of}
use Rattle.tw_putting.specs.Fits.{PutFits, PutSpineFits, PutTypeFits, declared_skeletons}
use Rattle.tw_putting.specs.Frames.{AppliesInFrame, Enters, Frame, StoreInFrame, WalkFits, WalkSpineFits, WalkTypeFits}
use Rattle.tw_putting.specs.Stores.{Puts, PutsDeep, PutsDeepSpine, PutsDeepType, PutsSpine, PutsType, bindings_of, types_of}
use Rattle.tw_putting.specs.Values.{put_spine_value, put_type_value, put_value, values_to, values_under}
use Rattle.tw_putting.proofs.Filled.{declared_heads, fill_none, fill_none_type, more_heads, more_heads_spine, more_heads_type}
use Rattle.tw_putting.proofs.Frames.{takes_all_in_frame}
use Rattle.tw_putting.proofs.PutTotal.{puts_once, puts_spine_total, puts_total, puts_type_total}

-- what is known of a result, further on
pub if_ok : {T E : Type 0} {P Q : T → Type 0} (r : Result T E) → ((x : T) → P x → Q x) → IfOk r P → IfOk r Q
if_ok (Ok x) f p = f x p
if_ok (Err e) f p = p

-- A store that holds nothing.
pub nothing_there : (f : Frame) (k : ℕ) (m : ℕ) (N : Term) → value_of empty_state m ≡ Some N → StoreInFrame empty_state k f
nothing_there f k m N e = absurd (let q : None ≡ Some N = e in cc)

pub empty_value : (k : ℕ) (e : Environment) (M : Term) → put_value empty_state k e M ≡ value_in e M
unfolding put_value values_under values_to
empty_value k e M = fill_none (skeletons_of (types_of empty_state)) (value_in e M)

pub empty_type_value : (k : ℕ) (e : Environment) (A : LfType) → put_type_value empty_state k e A ≡ type_value_in e A
unfolding put_type_value values_under values_to
empty_type_value k e A = fill_none_type (skeletons_of (types_of empty_state)) (type_value_in e A)

-- Substitution for one variable.
module _ (y : Story) (empty : y ≡ empty_story) (n : ℕ) (a : Skeleton) (N : Term) (e : Environment) (is : e ≡ put_alone n a N) where
  pub term_walk : (M : Term) → TermFits (put_at n a N) M → WalkFits y.now 0 e M
  term_walk M f = subst (λ z. WalkFits z.now 0 e M) (sym empty) (subst (λ E. WalkFits empty_state 0 E M) (sym is) (record {
    frame = record { heads = f.heads; target = f.target };
    store_fits = nothing_there (record { heads = f.heads; target = f.target }) 0;
    term_fits = record {
      context = f.context;
      term_skeleton = f.term_skeleton;
      environment_fits = put_alone_fits f.heads f.context f.target n a N f.substitution_typed;
      term_typed = f.term_typed;
    };
  }))

  pub type_walk : (A : LfType) → TypeFits (put_at n a N) A → WalkTypeFits y.now 0 e A
  type_walk A f = subst (λ z. WalkTypeFits z.now 0 e A) (sym empty) (subst (λ E. WalkTypeFits empty_state 0 E A) (sym is) (record {
    frame = record { heads = f.heads; target = f.target };
    store_fits = nothing_there (record { heads = f.heads; target = f.target }) 0;
    type_fits = record {
      families = f.families;
      context = f.context;
      environment_fits = put_alone_fits f.heads f.context f.target n a N f.substitution_typed;
      type_typed = f.type_typed;
    };
  }))

  pub term_substituted : (M : Term) → put_value y.now 0 e M ≡ substitute reduce (put_at n a N) M
  term_substituted M = ap (λ z. put_value z.now 0 e M) empty ∙ empty_value 0 e M ∙ ap (λ E. value_in E M) is ∙ ap (λ σ. substitute reduce σ M) (put_alone_value n a N)

  pub type_substituted : (A : LfType) → put_type_value y.now 0 e A ≡ substitute_type reduce (put_at n a N) A
  type_substituted A = ap (λ z. put_type_value z.now 0 e A) empty ∙ empty_type_value 0 e A ∙ ap (λ E. type_value_in E A) is ∙ ap (λ σ. substitute_type reduce σ A) (put_alone_value n a N)

  -- a result that is too deep stands in a derivation
  pub deep_term : (k : ℕ) (M : Term) → TermFits (put_at n a N) M → k < depth (put_value y.now 0 e M) → DeepSubstitution k (put_at n a N) M
  deep_term k M f h = deep_result f.heads k f.context f.target (put_at n a N) f.substitution_typed M f.term_skeleton f.term_typed (subst (λ X. k < depth X) (term_substituted M) h)

  pub deep_type : (k : ℕ) (A : LfType) → TypeFits (put_at n a N) A → k < type_depth (put_type_value y.now 0 e A) → DeepTypeSubstitution k (put_at n a N) A
  deep_type k A f h = deep_type_result f.heads k f.context f.target (put_at n a N) f.substitution_typed f.families A f.type_typed (subst (λ X. k < type_depth X) (type_substituted A) h)

-- the newest variable
pub newest_type_walk : (y : Story) (a : Skeleton) (N : Term) (e : Environment) (A : LfType) → y ≡ empty_story → e ≡ put_alone 0 a N → TypeFits (single a N) A → WalkTypeFits y.now 0 e A
newest_type_walk y a N e A empty is f = type_walk y empty 0 a N e is A f

pub newest_type_value : (y : Story) (a : Skeleton) (N : Term) (e : Environment) (A : LfType) → y ≡ empty_story → e ≡ put_alone 0 a N → put_type_value y.now 0 e A ≡ substitute_type reduce (single a N) A
newest_type_value y a N e A empty is = type_substituted y empty 0 a N e is A

-- A term on a spine.
module _ (a : Skeleton) (N : Term) (c : Environment) (S T : Spine) (is : c ≡ outside) (same : S ≡ T) where
  applied_frame : (x : Applies a N S) → AppliesInFrame (record { heads = x.heads; target = x.context }) a N (move_by 0 c) T c
  applied_frame x = subst (λ E. AppliesInFrame (record { heads = x.heads; target = x.context }) a N (move_by 0 E) T E) (sym is) (record {
    context = x.context;
    arguments_context = x.context;
    family = x.family;
    environment_fits = λ i t g. g;
    term_typed = x.term_typed;
    arguments_fit = λ i t g. g;
    spine_typed = subst (λ X. SpineSkeleton x.heads x.context X a (base x.family)) same x.spine_typed;
  })

  pub applied_takes : Applies a N S → TakesAll a N T
  applied_takes x = takes_all_in_frame (record { heads = x.heads; target = x.context }) a N (move_by 0 c) T c (applied_frame x)

  pub applied_walk : (y : Story) → y ≡ empty_story → (M : Term) (d : Environment) → Applies a N S → Enters a N (move_by 0 c) T c M d → WalkFits y.now 0 d M
  applied_walk y empty M d x z = subst (λ w. WalkFits w.now 0 d M) (sym empty) (record {
    frame = record { heads = x.heads; target = x.context };
    store_fits = nothing_there (record { heads = x.heads; target = x.context }) 0;
    term_fits = z.typed (record { heads = x.heads; target = x.context }) (applied_frame x);
  })

  pub applied_value : (y : Story) → y ≡ empty_story → (M : Term) (d : Environment) → Applies a N S → Enters a N (move_by 0 c) T c M d → put_value y.now 0 d M ≡ reduce a N S
  applied_value y empty M d x z =
      ap (λ w. put_value w.now 0 d M) empty ∙ empty_value 0 d M ∙ z.value (record { heads = x.heads; target = x.context }) (applied_frame x)
      ∙ ap (λ E. applied_in a N (move_by 0 E) T E) is ∙ sym (ap (λ X. applied_in a N outside X outside) same) ∙ outside_value a N S

  pub deep_applied : (y : Story) → y ≡ empty_story → (k : ℕ) (M : Term) (d : Environment) → Applies a N S → Enters a N (move_by 0 c) T c M d → k < depth (put_value y.now 0 d M) → DeepReduction k a N S
  deep_applied y empty k M d x z h = deep_reduct x.heads k x.context a N S x.family x.term_typed x.spine_typed (subst (λ X. k < depth X) (applied_value y empty M d x z) h)

-- The values of the store put in.
module _ (s : State) (k : ℕ) (e : Environment) (is : e ≡ outside) where
  pub put_walk : (M : Term) → PutFits s k M → WalkFits s k e M
  put_walk M f = subst (λ E. WalkFits s k E M) (sym is) (record {
    frame = record { heads = as_head_skeletons (total_skeletons f.signature (skeletons_of (types_of s))); target = f.context };
    store_fits = λ m N v. record { signature = f.signature; same_heads = refl; store_typed = f.store_typed };
    term_fits = record {
      context = f.context;
      term_skeleton = f.term_skeleton;
      environment_fits = λ i t g. g;
      term_typed = more_heads (declared_skeletons f.signature (types_of s)) (as_head_skeletons (total_skeletons f.signature (skeletons_of (types_of s)))) (declared_heads f.signature (types_of s)) f.context M f.term_skeleton f.term_typed;
    };
  })

  pub put_spine_walk : (S : Spine) → PutSpineFits s k S → WalkSpineFits s k e S
  put_spine_walk S f = subst (λ E. WalkSpineFits s k E S) (sym is) (record {
    frame = record { heads = as_head_skeletons (total_skeletons f.signature (skeletons_of (types_of s))); target = f.context };
    store_fits = λ m N v. record { signature = f.signature; same_heads = refl; store_typed = f.store_typed };
    spine_fits = record {
      context = f.context;
      head_skeleton = f.head_skeleton;
      result_skeleton = f.result_skeleton;
      environment_fits = λ i t g. g;
      spine_typed = more_heads_spine (declared_skeletons f.signature (types_of s)) (as_head_skeletons (total_skeletons f.signature (skeletons_of (types_of s)))) (declared_heads f.signature (types_of s)) f.context S f.head_skeleton f.result_skeleton f.spine_typed;
    };
  })

  pub put_type_walk : (A : LfType) → PutTypeFits s k A → WalkTypeFits s k e A
  put_type_walk A f = subst (λ E. WalkTypeFits s k E A) (sym is) (record {
    frame = record { heads = as_head_skeletons (total_skeletons f.signature (skeletons_of (types_of s))); target = f.context };
    store_fits = λ m N v. record { signature = f.signature; same_heads = refl; store_typed = f.store_typed };
    type_fits = record {
      families = f.families;
      context = f.context;
      environment_fits = λ i t g. g;
      type_typed = more_heads_type f.families (declared_skeletons f.signature (types_of s)) (as_head_skeletons (total_skeletons f.signature (skeletons_of (types_of s)))) (declared_heads f.signature (types_of s)) f.context A f.type_typed;
    };
  })

  term_put : (M : Term) → PutFits s k M → Puts s k M (put_value s k outside M)
  unfolding put_value values_under
  term_put M f = subst (λ X. Puts s k M (fill (skeletons_of (types_of s)) (values_under s k) X)) (sym (substitute_identity reduce M))
      (puts_total f.signature (types_of s) (drop k f.context) (bindings_of s) f.store_typed.values f.store_typed.ordered k f.context M f.term_skeleton (drop_by_skeletons k f.context)
      (more_heads (declared_skeletons f.signature (types_of s)) (as_head_skeletons (total_skeletons f.signature (skeletons_of (types_of s)))) (declared_heads f.signature (types_of s)) f.context M f.term_skeleton f.term_typed))

  spine_put : (S : Spine) → PutSpineFits s k S → PutsSpine s k S (put_spine_value s k outside S)
  unfolding put_spine_value values_under
  spine_put S f = subst (λ X. PutsSpine s k S (fill_spine (skeletons_of (types_of s)) (values_under s k) X)) (sym (substitute_identity_spine reduce S))
      (puts_spine_total f.signature (types_of s) (drop k f.context) (bindings_of s) f.store_typed.values f.store_typed.ordered k f.context S f.head_skeleton f.result_skeleton (drop_by_skeletons k f.context)
      (more_heads_spine (declared_skeletons f.signature (types_of s)) (as_head_skeletons (total_skeletons f.signature (skeletons_of (types_of s)))) (declared_heads f.signature (types_of s)) f.context S f.head_skeleton f.result_skeleton f.spine_typed))

  type_put : (A : LfType) → PutTypeFits s k A → PutsType s k A (put_type_value s k outside A)
  unfolding put_type_value values_under
  type_put A f = subst (λ X. PutsType s k A (fill_type (skeletons_of (types_of s)) (values_under s k) X)) (sym (substitute_identity_type reduce A))
      (puts_type_total f.signature (types_of s) (drop k f.context) (bindings_of s) f.store_typed.values f.store_typed.ordered f.families k f.context A (drop_by_skeletons k f.context)
      (more_heads_type f.families (declared_skeletons f.signature (types_of s)) (as_head_skeletons (total_skeletons f.signature (skeletons_of (types_of s)))) (declared_heads f.signature (types_of s)) f.context A f.type_typed))

  pub put_result : (M R : Term) → PutFits s k M → R ≡ put_value s k e M → Puts s k M R
  put_result M R f q = subst (Puts s k M) (sym (q ∙ ap (λ E. put_value s k E M) is)) (term_put M f)

  pub put_spine_result : (S R : Spine) → PutSpineFits s k S → R ≡ put_spine_value s k e S → PutsSpine s k S R
  put_spine_result S R f q = subst (PutsSpine s k S) (sym (q ∙ ap (λ E. put_spine_value s k E S) is)) (spine_put S f)

  pub put_type_result : (A R : LfType) → PutTypeFits s k A → R ≡ put_type_value s k e A → PutsType s k A R
  put_type_result A R f q = subst (PutsType s k A) (sym (q ∙ ap (λ E. put_type_value s k E A) is)) (type_put A f)

  pub put_deep : (M : Term) → PutFits s k M → depth_limit < depth (put_value s k e M) → PutsDeep s k M
  put_deep M f h = (put_value s k e M, put_result M (put_value s k e M) f refl, h)

  pub put_spine_deep : (S : Spine) → PutSpineFits s k S → depth_limit < spine_depth (put_spine_value s k e S) → PutsDeepSpine s k S
  put_spine_deep S f h = (put_spine_value s k e S, put_spine_result S (put_spine_value s k e S) f refl, h)

  pub put_type_deep : (A : LfType) → PutTypeFits s k A → depth_limit < type_depth (put_type_value s k e A) → PutsDeepType s k A
  put_type_deep A f h = (put_type_value s k e A, put_type_result A (put_type_value s k e A) f refl, h)

-- there is one result
pub one_result : (s : State) (k : ℕ) (M : Term) → PutFits s k M → (R : Term) × Puts s k M R × ((R' : Term) → Puts s k M R' → R' ≡ R)
unfolding put_value values_under
one_result s k M f =
    let typed = more_heads (declared_skeletons f.signature (types_of s)) (as_head_skeletons (total_skeletons f.signature (skeletons_of (types_of s)))) (declared_heads f.signature (types_of s)) f.context M f.term_skeleton f.term_typed in
    let once : (R : Term) → Puts s k M R → R ≡ fill (skeletons_of (types_of s)) (values_under s k) M = λ R d. puts_once f.signature (types_of s) (drop k f.context) (bindings_of s) f.store_typed.values f.store_typed.ordered k f.context M f.term_skeleton (drop_by_skeletons k f.context) typed R d in
    (fill (skeletons_of (types_of s)) (values_under s k) M, puts_total f.signature (types_of s) (drop k f.context) (bindings_of s) f.store_typed.values f.store_typed.ordered k f.context M f.term_skeleton (drop_by_skeletons k f.context) typed, once)
