-- The steps of a walk in an environment, in a frame.
use Rattle.std.proofs.Common.{◌≡◌, ℕ, suc, ◌+◌, List, ◌∷◌, refl, sym, ap, ◌∙◌, subst, add-one}
use Rattle.lf.specs.SkeletonTyping.{TermSkeleton, SpineSkeleton}
use Rattle.lf.specs.Syntax.{Head, variable, Term, Spine, lambda, root, nil, app, LfType, pi, atom, Skeleton, base, arrow, skeleton}
use Rattle.lf_closures.specs.Environments.{Environment, extended, under_one_more, move_by, closure, found, applied_in}
use Rattle.lf_closures.specs.Typing.{FoundFits, ClosureApplies, TakesAll}
use Rattle.lf_closures.proofs.Steps.{argument_value, nothing_value}
use Rattle.lf_closures.proofs.Values.{found_fits, move_by_fits, under_one_more_fits}
use Rattle.tw_metas.specs.State.{State}
use Rattle.tw_putting.specs.Frames.{Frame, InFrame, SpineInFrame, AppliesInFrame, Enters, StoreInFrame, WalkFits, WalkSpineFits, WalkTypeFits}

-- the frame under one more variable
abbrev pub frame_under : Skeleton → Frame → Frame
frame_under a f = record { heads = f.heads; target = a ∷ f.target }

body_in_frame : (f : Frame) (a b : Skeleton) (e : Environment) (M : Term) (x : InFrame f e (lambda M)) → x.term_skeleton ≡ arrow a b → InFrame (frame_under a f) (under_one_more e) M
body_in_frame f a b e M x q = record {
  context = a ∷ x.context;
  term_skeleton = b;
  environment_fits = under_one_more_fits f.heads e a x.context f.target x.environment_fits;
  term_typed = subst (TermSkeleton f.heads x.context (lambda M)) q x.term_typed;
}

-- the values stand outside one binder more
store_under : (s : State) (k : ℕ) (a : Skeleton) (f : Frame) → StoreInFrame s k f → StoreInFrame s (suc k) (frame_under a f)
store_under s k a f x = record { signature = x.signature; same_heads = x.same_heads; store_typed = x.store_typed }

module _ (s : State) where
  -- Under a lambda.
  body_walk : (k : ℕ) (e : Environment) (M : Term) → WalkFits s k e (lambda M) → WalkFits s (suc k) (under_one_more e) M
  body_walk k e M w = go w.term_fits.term_skeleton refl w.term_fits.term_typed
    where
      go : (t : Skeleton) → w.term_fits.term_skeleton ≡ t → TermSkeleton w.frame.heads w.term_fits.context (lambda M) w.term_fits.term_skeleton → WalkFits s (suc k) (under_one_more e) M
      go (base c) q m = absurd (subst (TermSkeleton w.frame.heads w.term_fits.context (lambda M)) q m)
      go (arrow a b) q m = record {
        frame = frame_under a w.frame;
        store_fits = λ m N x. store_under s k a w.frame (w.store_fits m N x);
        term_fits = body_in_frame w.frame a b e M w.term_fits q;
      }

  pub body_walk_by : (k n : ℕ) (e e' : Environment) (M N : Term) → M ≡ lambda N → e' ≡ under_one_more e → n ≡ k + 1 → WalkFits s k e M → WalkFits s n e' N
  body_walk_by k n e e' M N p q r w = subst (λ j. WalkFits s j e' N) (sym (r ∙ add-one k)) (subst (λ E. WalkFits s (suc k) E N) (sym q) (body_walk k e N (subst (WalkFits s k e) p w)))

  -- The arguments of a head.
  spine_walk : (k : ℕ) (e : Environment) (h : Head) (S : Spine) → WalkFits s k e (root h S) → WalkSpineFits s k e S
  spine_walk k e h S w = record { frame = w.frame; store_fits = w.store_fits; spine_fits = go w.term_fits.term_skeleton w.term_fits.term_typed }
    where
      go : (t : Skeleton) → TermSkeleton w.frame.heads w.term_fits.context (root h S) t → SpineInFrame w.frame e S
      go (arrow a b) m = absurd m
      go (base c) (t, g, m) = record { context = w.term_fits.context; head_skeleton = t; result_skeleton = base c; environment_fits = w.term_fits.environment_fits; spine_typed = m }

  pub spine_walk_by : (k : ℕ) (e : Environment) (M : Term) (h : Head) (S : Spine) → M ≡ root h S → WalkFits s k e M → WalkSpineFits s k e S
  spine_walk_by k e M h S p w = spine_walk k e h S (subst (WalkFits s k e) p w)

  pub first_walk : (k : ℕ) (e : Environment) (M : Term) (S : Spine) → WalkSpineFits s k e (app M S) → WalkFits s k e M
  first_walk k e M S w = record { frame = w.frame; store_fits = w.store_fits; term_fits = go w.spine_fits.head_skeleton w.spine_fits.spine_typed }
    where
      go : (t : Skeleton) → SpineSkeleton w.frame.heads w.spine_fits.context (app M S) t w.spine_fits.result_skeleton → InFrame w.frame e M
      go (base c) m = absurd m
      go (arrow a b) (m, r) = record { context = w.spine_fits.context; term_skeleton = a; environment_fits = w.spine_fits.environment_fits; term_typed = m }

  pub rest_walk : (k : ℕ) (e : Environment) (M : Term) (S : Spine) → WalkSpineFits s k e (app M S) → WalkSpineFits s k e S
  rest_walk k e M S w = record { frame = w.frame; store_fits = w.store_fits; spine_fits = go w.spine_fits.head_skeleton w.spine_fits.spine_typed }
    where
      go : (t : Skeleton) → SpineSkeleton w.frame.heads w.spine_fits.context (app M S) t w.spine_fits.result_skeleton → SpineInFrame w.frame e S
      go (base c) m = absurd m
      go (arrow a b) (m, r) = record { context = w.spine_fits.context; head_skeleton = b; result_skeleton = w.spine_fits.result_skeleton; environment_fits = w.spine_fits.environment_fits; spine_typed = r }

  -- Types.
  pub domain_walk : (k : ℕ) (e : Environment) (C A B : LfType) → C ≡ pi A B → WalkTypeFits s k e C → WalkTypeFits s k e A
  domain_walk k e C A B p v = parts (subst (WalkTypeFits s k e) p v)
    where
      parts : WalkTypeFits s k e (pi A B) → WalkTypeFits s k e A
      parts w = record {
        frame = w.frame;
        store_fits = w.store_fits;
        type_fits = record { families = w.type_fits.families; context = w.type_fits.context; environment_fits = w.type_fits.environment_fits; type_typed = w.type_fits.type_typed.0 };
      }

  pub range_walk : (k n : ℕ) (e e' : Environment) (C A B : LfType) → C ≡ pi A B → e' ≡ under_one_more e → n ≡ k + 1 → WalkTypeFits s k e C → WalkTypeFits s n e' B
  range_walk k n e e' C A B p q r v = subst (λ j. WalkTypeFits s j e' B) (sym (r ∙ add-one k)) (subst (λ E. WalkTypeFits s (suc k) E B) (sym q) (parts (subst (WalkTypeFits s k e) p v)))
    where
      parts : WalkTypeFits s k e (pi A B) → WalkTypeFits s (suc k) (under_one_more e) B
      parts w = record {
        frame = frame_under (skeleton A) w.frame;
        store_fits = λ m N x. store_under s k (skeleton A) w.frame (w.store_fits m N x);
        type_fits = record {
          families = w.type_fits.families;
          context = skeleton A ∷ w.type_fits.context;
          environment_fits = under_one_more_fits w.frame.heads e (skeleton A) w.type_fits.context w.frame.target w.type_fits.environment_fits;
          type_typed = w.type_fits.type_typed.1;
        };
      }

  pub family_walk : (k : ℕ) (e : Environment) (C : LfType) (a : ℕ) (S : Spine) → C ≡ atom a S → WalkTypeFits s k e C → WalkSpineFits s k e S
  family_walk k e C a S p v = parts (subst (WalkTypeFits s k e) p v)
    where
      parts : WalkTypeFits s k e (atom a S) → WalkSpineFits s k e S
      parts w = record {
        frame = w.frame;
        store_fits = w.store_fits;
        spine_fits = record { context = w.type_fits.context; head_skeleton = w.type_fits.type_typed.0; result_skeleton = base a; environment_fits = w.type_fits.environment_fits; spine_typed = w.type_fits.type_typed.2 };
      }

-- Entering a closure.
pub closure_in_frame : (f : Frame) (e : Environment) (i : ℕ) (S : Spine) (a : Skeleton) (N : Term) (c : Environment) (n : ℕ) → found e i ≡ closure a N c n → InFrame f e (root (variable i) S) → AppliesInFrame f a N (move_by n c) S e
closure_in_frame f e i S a N c n q x = go x.term_skeleton x.term_typed
  where
    go : (t : Skeleton) → TermSkeleton f.heads x.context (root (variable i) S) t → AppliesInFrame f a N (move_by n c) S e
    go (arrow b d) m = absurd m
    go (base d) (t, g, m) =
        let (p, (Ξ, r, (Γ, h, y))) = subst (λ z. FoundFits f.heads z f.target t) q (found_fits f.heads e x.context f.target i t x.environment_fits g) in
        record {
          context = Γ;
          arguments_context = x.context;
          family = d;
          environment_fits = move_by_fits f.heads n c Γ Ξ f.target r h;
          term_typed = y;
          arguments_fit = x.environment_fits;
          spine_typed = subst (λ b. SpineSkeleton f.heads x.context S b (base d)) (sym p) m;
        }

closure_of : (f : Frame) (a : Skeleton) (N : Term) (e : Environment) (S : Spine) (c : Environment) → AppliesInFrame f a N e S c → ClosureApplies a N e S c
closure_of f a N e S c x = record {
  heads = f.heads;
  context = x.context;
  arguments_context = x.arguments_context;
  target = f.target;
  family = x.family;
  environment_fits = x.environment_fits;
  term_typed = x.term_typed;
  arguments_fit = x.arguments_fit;
  spine_typed = x.spine_typed;
}

argument_in_frame : (f : Frame) (a b : Skeleton) (M N : Term) (e : Environment) (S : Spine) (c : Environment) → AppliesInFrame f (arrow a b) (lambda M) e (app N S) c → AppliesInFrame f b M (extended a N c e) S c
argument_in_frame f a b M N e S c x = record {
  context = a ∷ x.context;
  arguments_context = x.arguments_context;
  family = x.family;
  environment_fits = (refl, (x.arguments_context, x.arguments_fit, x.spine_typed.0), x.environment_fits);
  term_typed = x.term_typed;
  arguments_fit = x.arguments_fit;
  spine_typed = x.spine_typed.1;
}

-- a closure that is applied takes all its arguments
pub takes_all_in_frame : (f : Frame) (a : Skeleton) (N : Term) (e : Environment) (S : Spine) (c : Environment) → AppliesInFrame f a N e S c → TakesAll a N S
takes_all_in_frame f a N e S c x = check x.context a N S x.term_typed x.spine_typed
  where
    check : (Γ : List Skeleton) (t : Skeleton) (M : Term) (T : Spine) → TermSkeleton f.heads Γ M t → SpineSkeleton f.heads x.arguments_context T t (base x.family) → TakesAll t M T
    check Γ t M nil m r = tt
    check Γ (base d) M (app L T) m r = absurd r
    check Γ (arrow y z) (root h U) (app L T) m r = absurd m
    check Γ (arrow y z) (lambda M) (app L T) m (l, r) = check (y ∷ Γ) z M T m r

-- where N in e applies to S, what is left applies to the arguments that are left, and gives the same
pub record StillApplies (a : Skeleton) (N : Term) (e : Environment) (S : Spine) (c : Environment) (b : Skeleton) (M : Term) (d : Environment) (T : Spine) : Type 0 where
  pub typed : (f : Frame) → AppliesInFrame f a N e S c → AppliesInFrame f b M d T c
  pub value : (f : Frame) → AppliesInFrame f a N e S c → applied_in b M d T c ≡ applied_in a N e S c

module _ (a : Skeleton) (N : Term) (e : Environment) (S : Spine) (c : Environment) where
  pub applies_at_first : (e' : Environment) (T : Spine) → e' ≡ e → T ≡ S → StillApplies a N e S c a N e' T
  applies_at_first e' T q r = record {
    typed = λ f x. subst (λ E. AppliesInFrame f a N E T c) (sym q) (subst (λ X. AppliesInFrame f a N e X c) (sym r) x);
    value = λ f x. ap (λ E. applied_in a N E T c) q ∙ ap (λ X. applied_in a N e X c) r;
  }

  applies_step : (x y : Skeleton) (M L : Term) (d : Environment) (T : Spine) → StillApplies a N e S c (arrow x y) (lambda M) d (app L T) → StillApplies a N e S c y M (extended x L c d) T
  applies_step x y M L d T w = record {
    typed = λ f z. argument_in_frame f x y M L d T c (w.typed f z);
    value = λ f z. argument_value x y M L d T c (closure_of f (arrow x y) (lambda M) d (app L T) c (w.typed f z)) ∙ w.value f z;
  }

  pub applies_next : (t x y : Skeleton) (K M L : Term) (d d' : Environment) (U T : Spine) → t ≡ arrow x y → K ≡ lambda M → U ≡ app L T → d' ≡ extended x L c d → StillApplies a N e S c t K d U → StillApplies a N e S c y M d' T
  applies_next t x y K M L d d' U T p q r v w =
      subst (λ E. StillApplies a N e S c y M E T) (sym v) (applies_step x y M L d T
      (subst (λ X. StillApplies a N e S c (arrow x y) (lambda M) d X) r (subst (λ X. StillApplies a N e S c (arrow x y) X d U) q (subst (λ z. StillApplies a N e S c z K d U) p w))))

  nothing_in_frame : (f : Frame) (b : Skeleton) (M : Term) (d : Environment) → AppliesInFrame f b M d nil c → InFrame f d M
  nothing_in_frame f b M d x = record { context = x.context; term_skeleton = b; environment_fits = x.environment_fits; term_typed = x.term_typed }

  pub applies_at_last : (b : Skeleton) (M : Term) (d : Environment) (T : Spine) → T ≡ nil → StillApplies a N e S c b M d T → Enters a N e S c M d
  applies_at_last b M d T q v = go (subst (StillApplies a N e S c b M d) q v)
    where
      go : StillApplies a N e S c b M d nil → Enters a N e S c M d
      go w = record {
        typed = λ f x. nothing_in_frame f b M d (w.typed f x);
        value = λ f x. sym (nothing_value b M d c) ∙ w.value f x;
      }

pub takes_next : (t x y : Skeleton) (K M L : Term) (U T : Spine) → t ≡ arrow x y → K ≡ lambda M → U ≡ app L T → TakesAll t K U → TakesAll y M T
takes_next t x y K M L U T p q r w = subst (TakesAll (arrow x y) (lambda M)) r (subst (λ X. TakesAll (arrow x y) X U) q (subst (λ z. TakesAll z K U) p w))
