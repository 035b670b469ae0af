-- A type goes along its arguments in an environment.
use Rattle.std.proofs.Common.{◌≡◌, ℕ, zero, suc, ◌<◌, inl, inr, List, [], ◌∷◌, ◌++◌, Option, refl, sym, ap, ◌∙◌, subst, append_assoc, append-nil}
use mathlib.Core.Path.{fun_ext}
use Rattle.lf.specs.AtOnce.{in_front}
use Rattle.lf.specs.Depth.{type_depth}
use Rattle.lf.specs.SkeletonTyping.{HeadSkeletons, SpineSkeleton, SubstitutionBySkeletons, TermSkeleton, TypeBySkeletons}
use Rattle.lf.specs.Substitution.{Image, after, keep, lift, put, reduce, single, substitute, substitute_type}
use Rattle.lf.specs.Syntax.{LfType, Skeleton, Spine, Term, app, atom, nil, pi, skeleton}
use Rattle.lf.specs.Typing.{instantiate_type}
use Rattle.lf.proofs.Composition.{around_image}
use Rattle.lf.proofs.Renaming.{substitute_identity}
use Rattle.lf.proofs.SkeletonTyping.{lift_by_skeletons, single_by_skeletons}
use Rattle.lf.proofs.SkeletonTypes.{substitutions_compose_type}
use Rattle.lf.proofs.TypeLaws.{skeleton_substituted, substitute_identity_type}
use Rattle.lf_closures.specs.Environments.{Environment, extended, outside, substitution_in, type_value_in}
use Rattle.lf_closures.specs.Typing.{EnvironmentFits}
use Rattle.lf_closures.proofs.Values.{environment_by_skeletons}
use Rattle.tw_metas.specs.State.{Story, empty_story}
use Rattle.tw_putting.specs.Domains.{AnyDeep, TakesArguments, domains}
use Rattle.tw_putting.specs.Frames.{WalkTypeFits}
use Rattle.tw_putting.specs.Values.{put_type_value}
use Rattle.tw_putting.proofs.Calls.{empty_type_value, nothing_there}

-- skeletons type what is left of the type, in an environment, and the arguments that are left
pub record TakesIn (e : Environment) (A : LfType) (S : Spine) : Type 0 where
  pub families : ℕ → Option Skeleton
  pub heads : HeadSkeletons
  pub context : List Skeleton
  pub target : List Skeleton
  pub result : Skeleton
  pub environment_fits : EnvironmentFits heads e context target
  pub type_typed : TypeBySkeletons families heads context A
  pub spine_typed : SpineSkeleton heads target S (skeleton A) result

pub takes_at_first : (e : Environment) (A : LfType) (S : Spine) → e ≡ outside → TakesArguments A S → TakesIn e A S
takes_at_first e A S p t = subst (λ E. TakesIn E A S) (sym p) (record {
  families = t.families;
  heads = t.heads;
  context = t.context;
  target = t.context;
  result = t.result;
  environment_fits = λ i u g. g;
  type_typed = t.type_typed;
  spine_typed = t.spine_typed;
})

pub no_atom_takes : (e : Environment) (C : LfType) (a : ℕ) (T : Spine) (M : Term) (S U : Spine) → C ≡ atom a T → U ≡ app M S → TakesIn e C U → ⊥
no_atom_takes e C a T M S U p q t = (subst (λ V. TakesIn e (atom a T) V) q (subst (λ X. TakesIn e X U) p t)).spine_typed

-- the parts of a type and of a spine
as_pi : (e : Environment) (C A B : LfType) (M : Term) (S U : Spine) → C ≡ pi A B → U ≡ app M S → TakesIn e C U → TakesIn e (pi A B) (app M S)
as_pi e C A B M S U p q t = subst (TakesIn e (pi A B)) q (subst (λ X. TakesIn e X U) p t)

pub domain_is_walked : (y : Story) (e : Environment) (C A B : LfType) (U : Spine) → y ≡ empty_story → C ≡ pi A B → TakesIn e C U → WalkTypeFits y.now 0 e A
domain_is_walked y e C A B U n p t =
    let g : TakesIn e (pi A B) U = subst (λ X. TakesIn e X U) p t in
    subst (λ z. WalkTypeFits z.now 0 e A) (sym n) (record {
      frame = record { heads = g.heads; target = g.target };
      store_fits = nothing_there (record { heads = g.heads; target = g.target }) 0;
      type_fits = record { families = g.families; context = g.context; environment_fits = g.environment_fits; type_typed = g.type_typed.0 };
    })

pub takes_next : (e e' : Environment) (C A B : LfType) (M : Term) (S U : Spine) → C ≡ pi A B → U ≡ app M S → e' ≡ extended (skeleton A) M outside e → TakesIn e C U → TakesIn e' B S
takes_next e e' C A B M S U p q r t =
    let g = as_pi e C A B M S U p q t in
    subst (λ E. TakesIn E B S) (sym r) (record {
      families = g.families;
      heads = g.heads;
      context = skeleton A ∷ g.context;
      target = g.target;
      result = g.result;
      environment_fits = (refl, (g.target, (λ i u h. h), g.spine_typed.0), g.environment_fits);
      type_typed = g.type_typed.1;
      spine_typed = g.spine_typed.1;
    })

-- the argument put into the range, which stands in the environment
module _ (φ : ℕ → Option Skeleton) (κ : HeadSkeletons) (Γ Δ : List Skeleton) (σ : ℕ → Image) (a : Skeleton) (M : Term) (B : LfType) where
  joined : (i : ℕ) → after (single a M) (lift σ) i ≡ in_front (put a (substitute reduce keep M)) σ i
  joined zero = ap (put a) (sym (substitute_identity reduce M))
  joined (suc i) = sym (around_image a M (σ i))

  type_at_once : SubstitutionBySkeletons κ Γ Δ σ → TypeBySkeletons φ κ (a ∷ Γ) B → TermSkeleton κ Δ M a → substitute_type reduce (single a M) (substitute_type reduce (lift σ) B) ≡ substitute_type reduce (in_front (put a (substitute reduce keep M)) σ) B
  type_at_once w b m =
      substitutions_compose_type φ κ (a ∷ Γ) (a ∷ Δ) Δ (lift σ) (single a M) B (lift_by_skeletons κ a Γ Δ σ w) (single_by_skeletons κ a Δ M m) b
      ∙ ap (λ f. substitute_type reduce f B) (fun_ext joined)

range_in : (e : Environment) (A B : LfType) (M : Term) (S : Spine) → TakesIn e (pi A B) (app M S) → instantiate_type (type_value_in e A) M (substitute_type reduce (lift (substitution_in e)) B) ≡ type_value_in (extended (skeleton A) M outside e) B
range_in e A B M S g =
    ap (λ a. substitute_type reduce (single a M) (substitute_type reduce (lift (substitution_in e)) B)) (skeleton_substituted reduce (substitution_in e) A)
    ∙ type_at_once g.families g.heads g.context g.target (substitution_in e) (skeleton A) M B (environment_by_skeletons g.heads e g.context g.target g.environment_fits) g.type_typed.1 g.spine_typed.0

-- the domains that were read off, and those of what is left
pub record ReadOff (X : LfType) (V : Spine) (found : List LfType) (e : Environment) (A : LfType) (S : Spine) : Type 0 where
  pub takes : TakesIn e A S
  pub so_far : domains X V ≡ found ++ domains (type_value_in e A) S

pub nothing_read : (e : Environment) (A : LfType) (S : Spine) → e ≡ outside → TakesArguments A S → ReadOff A S [] e A S
nothing_read e A S p t = record {
  takes = takes_at_first e A S p t;
  so_far = ap (λ X. domains X S) (sym (substitute_identity_type reduce A) ∙ ap (λ E. type_value_in E A) (sym p));
}

pub one_more_read : (X : LfType) (V : Spine) (old new : List LfType) (y : Story) (e e' : Environment) (C A B D : LfType) (M : Term) (S U : Spine) →
    y ≡ empty_story → C ≡ pi A B → U ≡ app M S → e' ≡ extended (skeleton A) M outside e → D ≡ put_type_value y.now 0 e A → new ≡ old ++ D ∷ [] → ReadOff X V old e C U → ReadOff X V new e' B S
one_more_read X V old new y e e' C A B D M S U n p q r d w t =
    let g = as_pi e C A B M S U p q t.takes in
    let due : D ≡ type_value_in e A = d ∙ ap (λ z. put_type_value z.now 0 e A) n ∙ empty_type_value 0 e A in
    let rest : domains (instantiate_type (type_value_in e A) M (substitute_type reduce (lift (substitution_in e)) B)) S ≡ domains (type_value_in e' B) S =
    ap (λ Y. domains Y S) (range_in e A B M S g ∙ ap (λ E. type_value_in E B) (sym r)) in
    let next : domains (type_value_in e C) U ≡ D ∷ domains (type_value_in e' B) S =
    ap (λ Y. domains (type_value_in e Y) U) p ∙ ap (domains (type_value_in e (pi A B))) q ∙ ap (λ Ys. type_value_in e A ∷ Ys) rest ∙ ap (λ Y. Y ∷ domains (type_value_in e' B) S) (sym due) in
    record {
      takes = takes_next e e' C A B M S U p q r t.takes;
      so_far = t.so_far ∙ ap (λ Ys. old ++ Ys) next ∙ sym (append_assoc old (D ∷ []) (domains (type_value_in e' B) S)) ∙ ap (λ Ys. Ys ++ domains (type_value_in e' B) S) (sym w);
    }

-- a domain that is too deep is one of the types
deep_among : (k : ℕ) (found : List LfType) (D : LfType) (rest : List LfType) → k < type_depth D → AnyDeep k (found ++ D ∷ rest)
deep_among k [] D rest h = inl h
deep_among k (A ∷ found) D rest h = inr (deep_among k found D rest h)

pub deep_domain : (k : ℕ) (X : LfType) (V : Spine) (old : List LfType) (y : Story) (e : Environment) (C A B : LfType) (M : Term) (S U : Spine) → y ≡ empty_story → C ≡ pi A B → U ≡ app M S → ReadOff X V old e C U → k < type_depth (put_type_value y.now 0 e A) → AnyDeep k (domains X V)
deep_domain k X V old y e C A B M S U n p q t h =
    let due : put_type_value y.now 0 e A ≡ type_value_in e A = ap (λ z. put_type_value z.now 0 e A) n ∙ empty_type_value 0 e A in
    let R : List LfType = domains (instantiate_type (type_value_in e A) M (substitute_type reduce (lift (substitution_in e)) B)) S in
    let next : domains (type_value_in e C) U ≡ type_value_in e A ∷ R = ap (λ Y. domains (type_value_in e Y) U) p ∙ ap (domains (type_value_in e (pi A B))) q in
    subst (AnyDeep k) (sym (t.so_far ∙ ap (λ Ys. old ++ Ys) next)) (deep_among k old (type_value_in e A) R (subst (λ Y. k < type_depth Y) due h))

no_domain : (X : LfType) → domains X nil ≡ []
no_domain (pi A B) = refl
no_domain (atom a T) = refl

pub all_read : (X : LfType) (V : Spine) (found : List LfType) (e : Environment) (A : LfType) (S : Spine) → S ≡ nil → ReadOff X V found e A S → found ≡ domains X V
all_read X V found e A S p t = sym (t.so_far ∙ ap (λ T. found ++ domains (type_value_in e A) T) p ∙ ap (λ Ys. found ++ Ys) (no_domain (type_value_in e A)) ∙ append-nil found)
