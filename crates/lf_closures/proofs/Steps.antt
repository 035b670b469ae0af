-- The steps of a walk in an environment.
use Rattle.std.proofs.Common.{◌≡◌, ℕ, zero, suc, ◌+◌, ◌-◌, ◌<◌, ◌≤◌, List, [], ◌∷◌, drop, refl, sym, ap, ap₂, ◌∙◌, subst, arith}
use Rattle.std.proofs.lemmas.Grind.{common_steps}
use mathlib.Core.Path.{fun_ext}
use Rattle.lf.specs.Syntax.{Head, constant, variable, metavariable, Term, Spine, lambda, root, nil, app, LfType, pi, atom, Skeleton, base, arrow, skeleton, lift_renaming, rename_head, rename, rename_spine}
use Rattle.lf.specs.Substitution.{Image, keep, put, rename_image, lift, single, apply_image, substitute, substitute_spine, substitute_type, reduce}
use Rattle.lf.specs.AtOnce.{shift_by, in_front, lift_by}
use Rattle.lf.specs.Depth.{depth, type_depth}
use Rattle.lf.specs.SkeletonTyping.{HeadSkeletons, SkeletonAt, HeadSkeleton, TermSkeleton, SpineSkeleton, ImageSkeleton, SubstitutionBySkeletons}
use Rattle.lf.proofs.Renaming.{rename_substituted, reduction_is_natural, substitute_identity, substitute_identity_spine}
use Rattle.lf.proofs.SkeletonTyping.{substitution_keeps_skeletons, substitution_keeps_spine_skeletons}
use Rattle.lf.proofs.Eta.{reduce_nil}
use Rattle.lf.proofs.AtOnce.{argument_at_once, lift_by_bound, lift_by_free, drop_by_skeletons}
use Rattle.lf_closures.specs.Environments.{Environment, outside, under, moved, extended, substitution_in, under_one_more, move_by, Found, stays, closure, found, image_of_found, value_in, spine_value_in, type_value_in, applied_in}
use Rattle.lf_closures.specs.Typing.{EnvironmentFits, FoundFits, SameNewest, ClosureFits, SpineClosureFits, TypeClosureFits, ClosureApplies, TakesAll}
use Rattle.lf_closures.proofs.Values.{image_found, under_one_more_lifts, move_by_moves, move_by_fits, under_one_more_fits, found_fits, environment_by_skeletons, drop_reflects}

-- Under a lambda.
pub body_fits : (e : Environment) (M : Term) → ClosureFits e (lambda M) → ClosureFits (under_one_more e) M
body_fits e M f = under_it f.term_skeleton f.term_typed
  where
    under_it : (t : Skeleton) → TermSkeleton f.heads f.context (lambda M) t → ClosureFits (under_one_more e) M
    under_it (base c) m = absurd m
    under_it (arrow a b) m = record {
      heads = f.heads;
      context = a ∷ f.context;
      target = a ∷ f.target;
      term_skeleton = b;
      environment_fits = under_one_more_fits f.heads e a f.context f.target f.environment_fits;
      term_typed = m;
    }

pub body_value : (e : Environment) (M : Term) → lambda (value_in (under_one_more e) M) ≡ value_in e (lambda M)
body_value e M = ap (λ σ. lambda (substitute reduce σ M)) (under_one_more_lifts e)

-- The arguments of a head.
pub spine_fits : (e : Environment) (h : Head) (S : Spine) → ClosureFits e (root h S) → SpineClosureFits e S
spine_fits e h S f = under_it f.term_skeleton f.term_typed
  where
    under_it : (t : Skeleton) → TermSkeleton f.heads f.context (root h S) t → SpineClosureFits e S
    under_it (arrow a b) m = absurd m
    under_it (base c) (t, k, s) = record {
      heads = f.heads;
      context = f.context;
      target = f.target;
      head_skeleton = t;
      result_skeleton = base c;
      environment_fits = f.environment_fits;
      spine_typed = s;
    }

pub first_fits : (e : Environment) (M : Term) (S : Spine) → SpineClosureFits e (app M S) → ClosureFits e M
first_fits e M S f = under_it f.head_skeleton f.spine_typed
  where
    under_it : (t : Skeleton) → SpineSkeleton f.heads f.context (app M S) t f.result_skeleton → ClosureFits e M
    under_it (base c) s = absurd s
    under_it (arrow a b) (m, s) = record {
      heads = f.heads;
      context = f.context;
      target = f.target;
      term_skeleton = a;
      environment_fits = f.environment_fits;
      term_typed = m;
    }

pub rest_fits : (e : Environment) (M : Term) (S : Spine) → SpineClosureFits e (app M S) → SpineClosureFits e S
rest_fits e M S f = under_it f.head_skeleton f.spine_typed
  where
    under_it : (t : Skeleton) → SpineSkeleton f.heads f.context (app M S) t f.result_skeleton → SpineClosureFits e S
    under_it (base c) s = absurd s
    under_it (arrow a b) (m, s) = record {
      heads = f.heads;
      context = f.context;
      target = f.target;
      head_skeleton = b;
      result_skeleton = f.result_skeleton;
      environment_fits = f.environment_fits;
      spine_typed = s;
    }

-- A closure, moved over n binders, is a closure in the moved environment.
pub moved_value : (n : ℕ) (e : Environment) (N : Term) → rename (shift_by n) (value_in e N) ≡ value_in (move_by n e) N
moved_value n e N = rename_substituted reduce reduction_is_natural (shift_by n) (substitution_in e) N ∙ ap (λ σ. substitute reduce σ N) (sym (move_by_moves n e))

-- A variable that has a closure: the closure applied to the variable's arguments.
pub closure_applies : (e : Environment) (i : ℕ) (S : Spine) (a : Skeleton) (N : Term) (c : Environment) (n : ℕ) → found e i ≡ closure a N c n → ClosureFits e (root (variable i) S) → ClosureApplies a N (move_by n c) S e
closure_applies e i S a N c n q f = under_it f.term_skeleton f.term_typed
  where
    under_it : (t : Skeleton) → TermSkeleton f.heads f.context (root (variable i) S) t → ClosureApplies a N (move_by n c) S e
    under_it (arrow b d) m = absurd m
    under_it (base d) (t, k, s) =
        let (p, (Ξ, r, (Γ, g, m))) = subst (λ x. FoundFits f.heads x f.target t) q (found_fits f.heads e f.context f.target i t f.environment_fits k) in
        record {
          heads = f.heads;
          context = Γ;
          arguments_context = f.context;
          target = f.target;
          family = d;
          environment_fits = move_by_fits f.heads n c Γ Ξ f.target r g;
          term_typed = m;
          arguments_fit = f.environment_fits;
          spine_typed = subst (λ b. SpineSkeleton f.heads f.context S b (base d)) (sym p) s;
        }

pub closure_value : (e : Environment) (i : ℕ) (S : Spine) (a : Skeleton) (N : Term) (c : Environment) (n : ℕ) → found e i ≡ closure a N c n → applied_in a N (move_by n c) S e ≡ value_in e (root (variable i) S)
closure_value e i S a N c n q =
    ap (λ X. reduce a X (spine_value_in e S)) (sym (moved_value n c N))
    ∙ sym (ap (λ x. apply_image reduce x (spine_value_in e S)) (image_found e i ∙ ap image_of_found q))

-- A variable that has a variable.
pub variable_value : (e : Environment) (i : ℕ) (S : Spine) (j : ℕ) → found e i ≡ stays j → root (variable j) (spine_value_in e S) ≡ value_in e (root (variable i) S)
variable_value e i S j q = sym (ap (λ x. apply_image reduce x (spine_value_in e S)) (image_found e i ∙ ap image_of_found q))

-- One argument goes into the environment.
pub argument_applies : (a b : Skeleton) (M N : Term) (e : Environment) (S : Spine) (c : Environment) → ClosureApplies (arrow a b) (lambda M) e (app N S) c → ClosureApplies b M (extended a N c e) S c
argument_applies a b M N e S c f = record {
  heads = f.heads;
  context = a ∷ f.context;
  arguments_context = f.arguments_context;
  target = f.target;
  family = f.family;
  environment_fits = (refl, (f.arguments_context, f.arguments_fit, f.spine_typed.0), f.environment_fits);
  term_typed = f.term_typed;
  arguments_fit = f.arguments_fit;
  spine_typed = f.spine_typed.1;
}

pub argument_value : (a b : Skeleton) (M N : Term) (e : Environment) (S : Spine) (c : Environment) → ClosureApplies (arrow a b) (lambda M) e (app N S) c → applied_in b M (extended a N c e) S c ≡ applied_in (arrow a b) (lambda M) e (app N S) c
argument_value a b M N e S c f =
    let σ = environment_by_skeletons f.heads e f.context f.target f.environment_fits in
    let τ = environment_by_skeletons f.heads c f.arguments_context f.target f.arguments_fit in
    sym (argument_at_once f.heads f.context f.target (substitution_in e) a b M (value_in c N) (spine_value_in c S) σ f.term_typed (substitution_keeps_skeletons f.heads f.arguments_context f.target (substitution_in c) N a τ f.spine_typed.0))

-- With all arguments in it, what is left is the body.
pub nothing_applies : (a : Skeleton) (N : Term) (e c : Environment) → ClosureApplies a N e nil c → ClosureFits e N
nothing_applies a N e c f = record {
  heads = f.heads;
  context = f.context;
  target = f.target;
  term_skeleton = a;
  environment_fits = f.environment_fits;
  term_typed = f.term_typed;
}

pub nothing_value : (a : Skeleton) (N : Term) (e c : Environment) → applied_in a N e nil c ≡ value_in e N
nothing_value a N e c = reduce_nil a (value_in e N)

-- A closure that is applied takes all its arguments.
pub takes_all : (a : Skeleton) (N : Term) (e : Environment) (S : Spine) (c : Environment) → ClosureApplies a N e S c → TakesAll a N S
takes_all a N e S c f = check f.context a N S f.term_typed f.spine_typed
  where
    check : (Γ : List Skeleton) (t : Skeleton) (M : Term) (T : Spine) → TermSkeleton f.heads Γ M t → SpineSkeleton f.heads f.arguments_context T t (base f.family) → TakesAll t M T
    check Γ t M nil m s = tt
    check Γ (base d) M (app L T) m s = absurd s
    check Γ (arrow x y) (root h U) (app L T) m s = absurd m
    check Γ (arrow x y) (lambda M) (app L T) m (l, s) = check (x ∷ Γ) y M T m s

-- The same lemmas, up to equations.
pub record Taken (b : Skeleton) (M : Term) (e : Environment) (S : Spine) (c : Environment) (R : Term) : Type 0 where
  pub applies : ClosureApplies b M e S c
  pub value : applied_in b M e S c ≡ R

pub argument_taken : (t a b : Skeleton) (M N L : Term) (e e' : Environment) (S T : Spine) (c : Environment) → t ≡ arrow a b → N ≡ lambda M → S ≡ app L T → e' ≡ extended a L c e → ClosureApplies t N e S c → Taken b M e' T c (applied_in t N e S c)
argument_taken t a b M N L e e' S T c p q r u f =
    let g : ClosureApplies (arrow a b) (lambda M) e (app L T) c = subst (λ X. ClosureApplies (arrow a b) (lambda M) e X c) r (subst (λ X. ClosureApplies (arrow a b) X e S c) q (subst (λ x. ClosureApplies x N e S c) p f)) in
    let v : applied_in (arrow a b) (lambda M) e (app L T) c ≡ applied_in t N e S c = sym (ap (λ X. applied_in (arrow a b) (lambda M) e X c) r) ∙ sym (ap (λ X. applied_in (arrow a b) X e S c) q) ∙ sym (ap (λ x. applied_in x N e S c) p) in
    subst (λ E. Taken b M E T c (applied_in t N e S c)) (sym u) (record {
      applies = argument_applies a b M L e T c g;
      value = argument_value a b M L e T c g ∙ v;
    })

pub closure_applies_by : (e : Environment) (M : Term) (i : ℕ) (S T : Spine) (a : Skeleton) (N : Term) (c : Environment) (n : ℕ) → M ≡ root (variable i) S → S ≡ T → found e i ≡ closure a N c n → ClosureFits e M → ClosureApplies a N (move_by n c) T e
closure_applies_by e M i S T a N c n p q r f = subst (λ X. ClosureApplies a N (move_by n c) X e) q (closure_applies e i S a N c n r (subst (ClosureFits e) p f))

pub closure_value_by : (e : Environment) (M : Term) (i : ℕ) (S T : Spine) (a : Skeleton) (N : Term) (c : Environment) (n : ℕ) → M ≡ root (variable i) S → S ≡ T → found e i ≡ closure a N c n → applied_in a N (move_by n c) T e ≡ value_in e M
closure_value_by e M i S T a N c n p q r = sym (ap (λ X. applied_in a N (move_by n c) X e) q) ∙ closure_value e i S a N c n r ∙ sym (ap (value_in e) p)

pub variable_value_by : (e : Environment) (M : Term) (i : ℕ) (S : Spine) (j : ℕ) → M ≡ root (variable i) S → found e i ≡ stays j → root (variable j) (spine_value_in e S) ≡ value_in e M
variable_value_by e M i S j p r = variable_value e i S j r ∙ sym (ap (value_in e) p)

pub nothing_applies_by : (a : Skeleton) (N : Term) (e : Environment) (S : Spine) (c : Environment) → S ≡ nil → ClosureApplies a N e S c → ClosureFits e N
nothing_applies_by a N e S c p f = nothing_applies a N e c (subst (λ X. ClosureApplies a N e X c) p f)

pub nothing_value_by : (a : Skeleton) (N : Term) (e : Environment) (S : Spine) (c : Environment) → S ≡ nil → value_in e N ≡ applied_in a N e S c
nothing_value_by a N e S c p = sym (ap (λ X. applied_in a N e X c) p ∙ nothing_value a N e c)

pub body_fits_by : (e e' : Environment) (M N : Term) → M ≡ lambda N → e' ≡ under_one_more e → ClosureFits e M → ClosureFits e' N
body_fits_by e e' M N p q f = subst (λ E. ClosureFits E N) (sym q) (body_fits e N (subst (ClosureFits e) p f))

pub body_value_by : (e e' : Environment) (M N R : Term) → M ≡ lambda N → e' ≡ under_one_more e → R ≡ value_in e' N → lambda R ≡ value_in e M
body_value_by e e' M N R p q r = ap lambda (r ∙ ap (λ E. value_in E N) q) ∙ body_value e N ∙ sym (ap (value_in e) p)

pub spine_fits_by : (e : Environment) (M : Term) (h : Head) (S : Spine) → M ≡ root h S → ClosureFits e M → SpineClosureFits e S
spine_fits_by e M h S p f = spine_fits e h S (subst (ClosureFits e) p f)

-- Types.
pub domain_fits : (e : Environment) (C A B : LfType) → C ≡ pi A B → TypeClosureFits e C → TypeClosureFits e A
domain_fits e C A B p f = parts (subst (TypeClosureFits e) p f)
  where
    parts : TypeClosureFits e (pi A B) → TypeClosureFits e A
    parts g = record { families = g.families; heads = g.heads; context = g.context; target = g.target; environment_fits = g.environment_fits; type_typed = g.type_typed.0 }

pub range_fits : (e e' : Environment) (C A B : LfType) → C ≡ pi A B → e' ≡ under_one_more e → TypeClosureFits e C → TypeClosureFits e' B
range_fits e e' C A B p q f = subst (λ E. TypeClosureFits E B) (sym q) (parts (subst (TypeClosureFits e) p f))
  where
    parts : TypeClosureFits e (pi A B) → TypeClosureFits (under_one_more e) B
    parts g = record { families = g.families; heads = g.heads; context = skeleton A ∷ g.context; target = skeleton A ∷ g.target; environment_fits = under_one_more_fits g.heads e (skeleton A) g.context g.target g.environment_fits; type_typed = g.type_typed.1 }

pub family_spine_fits : (e : Environment) (C : LfType) (a : ℕ) (S : Spine) → C ≡ atom a S → TypeClosureFits e C → SpineClosureFits e S
family_spine_fits e C a S p f = parts (subst (TypeClosureFits e) p f)
  where
    parts : TypeClosureFits e (atom a S) → SpineClosureFits e S
    parts g = record { heads = g.heads; context = g.context; target = g.target; head_skeleton = g.type_typed.0; result_skeleton = base a; environment_fits = g.environment_fits; spine_typed = g.type_typed.2 }

pub range_value : (e e' : Environment) (B : LfType) → e' ≡ under_one_more e → type_value_in e' B ≡ substitute_type reduce (lift (substitution_in e)) B
range_value e e' B q = ap (λ E. type_value_in E B) q ∙ ap (λ σ. substitute_type reduce σ B) (under_one_more_lifts e)

-- What the public calls begin with: a substitution for one variable.
head_unrenamed : (κ : HeadSkeletons) (Γ Δ : List Skeleton) (ρ : ℕ → ℕ) (h : Head) (t : Skeleton) → ((i : ℕ) (u : Skeleton) → SkeletonAt Δ (ρ i) u → SkeletonAt Γ i u) → HeadSkeleton κ Δ (rename_head ρ h) t → HeadSkeleton κ Γ h t
head_unrenamed κ Γ Δ ρ (constant c) t g k = k
head_unrenamed κ Γ Δ ρ (metavariable c) t g k = k
head_unrenamed κ Γ Δ ρ (variable i) t g k = g i t k

reflects_under_binder : (Γ Δ : List Skeleton) (ρ : ℕ → ℕ) (a : Skeleton) → ((i : ℕ) (u : Skeleton) → SkeletonAt Δ (ρ i) u → SkeletonAt Γ i u) → (i : ℕ) (u : Skeleton) → SkeletonAt (a ∷ Δ) (lift_renaming ρ i) u → SkeletonAt (a ∷ Γ) i u
reflects_under_binder Γ Δ ρ a h zero t g = g
reflects_under_binder Γ Δ ρ a h (suc i) t g = h i t g

-- what is typed behind a renaming that goes back was typed before it
mutual
  unrenamed : (κ : HeadSkeletons) (Γ Δ : List Skeleton) (ρ : ℕ → ℕ) (M : Term) (t : Skeleton) → ((i : ℕ) (u : Skeleton) → SkeletonAt Δ (ρ i) u → SkeletonAt Γ i u) → TermSkeleton κ Δ (rename ρ M) t → TermSkeleton κ Γ M t
  unrenamed κ Γ Δ ρ (lambda M) (arrow a b) g m = unrenamed κ (a ∷ Γ) (a ∷ Δ) (lift_renaming ρ) M b (reflects_under_binder Γ Δ ρ a g) m
  unrenamed κ Γ Δ ρ (lambda M) (base c) g m = m
  unrenamed κ Γ Δ ρ (root h S) (arrow a b) g m = m
  unrenamed κ Γ Δ ρ (root h S) (base c) g (t, k, s) = (t, head_unrenamed κ Γ Δ ρ h t g k, unrenamed_spine κ Γ Δ ρ S t (base c) g s)

  unrenamed_spine : (κ : HeadSkeletons) (Γ Δ : List Skeleton) (ρ : ℕ → ℕ) (S : Spine) (t u : Skeleton) → ((i : ℕ) (u : Skeleton) → SkeletonAt Δ (ρ i) u → SkeletonAt Γ i u) → SpineSkeleton κ Δ (rename_spine ρ S) t u → SpineSkeleton κ Γ S t u
  unrenamed_spine κ Γ Δ ρ nil t u g m = m
  unrenamed_spine κ Γ Δ ρ (app M S) (arrow a b) u g (m, s) = (unrenamed κ Γ Δ ρ M a g m, unrenamed_spine κ Γ Δ ρ S b u g s)
  unrenamed_spine κ Γ Δ ρ (app M S) (base c) u g m = m

-- the environment that gives variable n the term N alone
abbrev pub put_alone : ℕ → Skeleton → Term → Environment
put_alone n a N = under n (extended a N outside outside)

pub put_alone_value : (n : ℕ) (a : Skeleton) (N : Term) → substitution_in (put_alone n a N) ≡ lift_by n (single a N)
put_alone_value n a N = ap (lift_by n) (fun_ext same)
  where
    same : (i : ℕ) → substitution_in (extended a N outside outside) i ≡ single a N i
    same zero = ap (put a) (substitute_identity reduce N)
    same (suc i) = refl

pub put_alone_fits : (κ : HeadSkeletons) (Γ Δ : List Skeleton) (n : ℕ) (a : Skeleton) (N : Term) → SubstitutionBySkeletons κ Γ Δ (lift_by n (single a N)) → EnvironmentFits κ (put_alone n a N) Γ Δ
put_alone_fits κ Γ Δ n a N w = (newest, others (drop n Γ) (λ i t g. w (i + n) t (drop_by_skeletons n Γ i t g)))
  where
    newest : SameNewest n Γ Δ
    newest i t l g = subst (λ x. ImageSkeleton κ Δ x t) (lift_by_bound n i (single a N) l) (w i t g)

    at : (i : ℕ) → lift_by n (single a N) (i + n) ≡ rename_image (shift_by n) (single a N i)
    at i = let l : n ≤ i + n = omega arith in let e : i + n - n ≡ i = omega arith in lift_by_free n (i + n) (single a N) l ∙ ap (λ j. rename_image (shift_by n) (single a N j)) e

    others : (Ξ : List Skeleton) → ((i : ℕ) (t : Skeleton) → SkeletonAt Ξ i t → ImageSkeleton κ Δ (lift_by n (single a N) (i + n)) t) → EnvironmentFits κ (extended a N outside outside) Ξ (drop n Δ)
    others [] v = tt
    others (b ∷ Ξ) v =
        let (q, m) = subst (λ x. ImageSkeleton κ Δ x b) (at 0) (v 0 b refl) in
        (q, (drop n Δ, (λ i t g. g), unrenamed κ (drop n Δ) Δ (shift_by n) N a (drop_reflects n Δ) m), (λ i t g. drop_reflects n Δ i t (subst (λ x. ImageSkeleton κ Δ x t) (at (suc i)) (v (suc i) t g))))

-- the same for the call of a term on a spine
pub outside_fits : (κ : HeadSkeletons) (Γ : List Skeleton) → EnvironmentFits κ outside Γ Γ
outside_fits κ Γ = λ i t g. g

pub outside_applies : (κ : HeadSkeletons) (Γ : List Skeleton) (a : Skeleton) (N : Term) (S : Spine) (c : ℕ) → TermSkeleton κ Γ N a → SpineSkeleton κ Γ S a (base c) → ClosureApplies a N outside S outside
outside_applies κ Γ a N S c n s = record {
  heads = κ;
  context = Γ;
  arguments_context = Γ;
  target = Γ;
  family = c;
  environment_fits = outside_fits κ Γ;
  term_typed = n;
  arguments_fit = outside_fits κ Γ;
  spine_typed = s;
}

pub outside_value : (a : Skeleton) (N : Term) (S : Spine) → applied_in a N outside S outside ≡ reduce a N S
outside_value a N S = ap₂ (reduce a) (substitute_identity reduce N) (substitute_identity_spine reduce S)

-- An argument may be taken in its canonical form, which stands outside all binders of the closure.
pub made_argument_taken : (t a b : Skeleton) (M N L K : Term) (e e' : Environment) (S T : Spine) (c : Environment) → t ≡ arrow a b → N ≡ lambda M → S ≡ app L T → K ≡ value_in c L → e' ≡ extended a K outside e → ClosureApplies t N e S c → Taken b M e' T c (applied_in t N e S c)
made_argument_taken t a b M N L K e e' S T c p q r k u f =
    let taken = argument_taken t a b M N L e (extended a L c e) S T c p q r refl f in
    let same : value_in outside K ≡ value_in c L = substitute_identity reduce K ∙ k in
    subst (λ E. Taken b M E T c (applied_in t N e S c)) (sym u) (record {
      applies = made_applies f;
      value = ap (λ X. reduce b (substitute reduce (in_front (put a X) (substitution_in e)) M) (spine_value_in c T)) same ∙ taken.value;
    })
  where
    made_applies : ClosureApplies t N e S c → ClosureApplies b M (extended a K outside e) T c
    made_applies f =
        let g : ClosureApplies (arrow a b) (lambda M) e (app L T) c = subst (λ X. ClosureApplies (arrow a b) (lambda M) e X c) r (subst (λ X. ClosureApplies (arrow a b) X e S c) q (subst (λ x. ClosureApplies x N e S c) p f)) in
        let τ = environment_by_skeletons g.heads c g.arguments_context g.target g.arguments_fit in
        let typed : TermSkeleton g.heads g.target K a = subst (λ X. TermSkeleton g.heads g.target X a) (sym k) (substitution_keeps_skeletons g.heads g.arguments_context g.target (substitution_in c) L a τ g.spine_typed.0) in
        record {
          heads = g.heads;
          context = a ∷ g.context;
          arguments_context = g.arguments_context;
          target = g.target;
          family = g.family;
          environment_fits = (refl, (g.target, outside_fits g.heads g.target, typed), g.environment_fits);
          term_typed = g.term_typed;
          arguments_fit = g.arguments_fit;
          spine_typed = g.spine_typed.1;
        }

-- the arguments of a closure fit
pub applied_spine_fits : (a : Skeleton) (N : Term) (e : Environment) (S : Spine) (c : Environment) → ClosureApplies a N e S c → SpineClosureFits c S
applied_spine_fits a N e S c f = record {
  heads = f.heads;
  context = f.arguments_context;
  target = f.target;
  head_skeleton = a;
  result_skeleton = base f.family;
  environment_fits = f.arguments_fit;
  spine_typed = f.spine_typed;
}

-- A closure does not meet an argument that it does not take.
pub not_at_base : (t : Skeleton) (d : ℕ) (N L : Term) (S T : Spine) → t ≡ base d → S ≡ app L T → TakesAll t N S → ⊥
not_at_base t d N L S T p q f = subst (TakesAll (base d) N) q (subst (λ x. TakesAll x N S) p f)

pub not_at_root : (t a b : Skeleton) (N : Term) (h : Head) (U : Spine) (L : Term) (S T : Spine) → t ≡ arrow a b → N ≡ root h U → S ≡ app L T → TakesAll t N S → ⊥
not_at_root t a b N h U L S T p q r f = subst (TakesAll (arrow a b) (root h U)) r (subst (λ X. TakesAll (arrow a b) X S) q (subst (λ x. TakesAll x N S) p f))

-- Depths.
pub depth_positive : (M : Term) → 0 < depth M
depth_positive (lambda M) = omega arith
depth_positive (root h S) = omega arith

pub type_depth_positive : (A : LfType) → 0 < type_depth A
type_depth_positive (pi A B) = omega arith
type_depth_positive (atom a S) = omega arith

pub body_deep : (k : ℕ) (e e' : Environment) (M N : Term) → M ≡ lambda N → e' ≡ under_one_more e → k - 1 < depth (value_in e' N) → k < depth (value_in e M)
body_deep k e e' M N p q h =
    let l : k < depth (lambda (value_in e' N)) = omega arith in
    subst (λ X. k < depth X) (body_value_by e e' M N (value_in e' N) p q refl) l

pub range_deep : (k : ℕ) (e e' : Environment) (C A B : LfType) → C ≡ pi A B → e' ≡ under_one_more e → k - 1 < type_depth (type_value_in e' B) → k < type_depth (type_value_in e C)
range_deep k e e' C A B p q h =
    let l : k < type_depth (pi (type_value_in e A) (type_value_in e' B)) = above_range k (type_value_in e A) (type_value_in e' B) h in
    let v : pi (type_value_in e A) (type_value_in e' B) ≡ type_value_in e C = ap (pi (type_value_in e A)) (range_value e e' B q) ∙ sym (ap (type_value_in e) p) in
    subst (λ X. k < type_depth X) v l
  where
    above_range : (n : ℕ) (X Y : LfType) → n - 1 < type_depth Y → n < type_depth (pi X Y)
    above_range n X Y l = grind (arith, common_steps)
