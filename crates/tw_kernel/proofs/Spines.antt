-- A spine against the type of its head, one argument after the other.
use Rattle.std.proofs.Common.{◌≡◌, ℕ, suc, ◌+◌, ◌<◌, ◌↔◌, List, ◌∷◌, length, get_or, drop, Result, Err, MatchResult, inl, inr, refl, sym, ap, subst, add-one, drop-cons}
use Rattle.lf.specs.Syntax.{Term, Spine, nil, app, LfType, pi, atom, Skeleton, skeleton}
use Rattle.lf.specs.Depth.{depth_limit}
use Rattle.lf.specs.Deep.{DeepTypeSubstitution}
use Rattle.lf.specs.DeepTyping.{TypingReachesDeep, SpineReachesDeep}
use Rattle.lf.specs.Skeletons.{constant_skeletons, family_skeletons, context_skeletons}
use Rattle.lf.specs.Typing.{Signature, instantiate_type, HasType, SpineType, IsType, IsContext, IsSignature}
use Rattle.lf.proofs.SkeletonTyping.{single_by_skeletons}
use Rattle.lf.proofs.Substitution.{instance_is_type}
use Rattle.lf.proofs.ToSkeletons.{typed_has_skeleton, type_by_skeletons}
use Rattle.tw_terms.specs.View.{term_of, args_of}
use Rattle.tw_terms.specs.declared.canonical.Term.{Term as RustTerm}
use Rattle.tw_hered.specs.Fits.{TypeFits, put_at}
use Rattle.tw_hered.specs.declared.fault.HeredFault.{HeredFault}
use Rattle.tw_hered.specs.declared.fault.HeredFault.TheVariants as hered
use Rattle.tw_kernel.specs.Outcome.{Blames, TakesArgument, fault_of}
use Rattle.tw_kernel.specs.declared.fault.Fault.{Fault}
use Rattle.tw_kernel.specs.declared.fault.Fault.TheVariants.{IllTyped, TooDeep, NoMemory}

-- a fault of one judgement is one of another that implies it and reaches what it reaches
pub blames_map : (f : Fault) (P Q D E : Type 0) → (Q → P) → (D → E) → Blames f P D → Blames f Q E
blames_map IllTyped P Q D E g h b = λ q. b (g q)
blames_map TooDeep P Q D E g h b = h b
blames_map NoMemory P Q D E g h b = b

-- The spine S against A has come so far that T is left against B.
pub record Progress (Σ : Signature) (G : List LfType) (S : Spine) (A : LfType) (T : Spine) (B : LfType) : Type 0 where
  pub is_type : IsType Σ G B
  pub onward : (C : LfType) → SpineType Σ G S A C → SpineType Σ G T B C
  pub back : (C : LfType) → SpineType Σ G T B C → SpineType Σ G S A C
  pub deep : SpineReachesDeep depth_limit Σ G T B → SpineReachesDeep depth_limit Σ G S A

module _ (Σ : Signature) (G : List LfType) where
  pub start : (S : Spine) (A : LfType) → IsType Σ G A → Progress Σ G S A S A
  start S A a = record { is_type = a; onward = λ C s. s; back = λ C s. s; deep = λ d. d }

  pub step : IsSignature Σ → IsContext Σ G → (S T : Spine) (A B C : LfType) (M : Term) → Progress Σ G S A (app M T) B → TakesArgument Σ G B M C → Progress Σ G S A T C
  step ok g S T A (atom c U) C M p t = absurd t
  step ok g S T A (pi D B) C M p (m, e) = record {
    is_type = subst (IsType Σ G) (sym e) (instance_is_type Σ ok G D M B g p.is_type.0 p.is_type.1 m);
    onward = λ X s. subst (λ Y. SpineType Σ G T Y X) (sym e) (p.onward X s).1;
    back = λ X s. p.back X (m, subst (λ Y. SpineType Σ G T Y X) e s);
    deep = λ d. p.deep (inr (inr (m, inr (subst (SpineReachesDeep depth_limit Σ G T) e d))));
  }

  takes : (T : Spine) (B C : LfType) (M : Term) → SpineType Σ G (app M T) B C → (D : LfType) × TakesArgument Σ G B M D
  takes T (pi A B) C M (m, s) = (instantiate_type A M B, (m, refl))
  takes T (atom c U) C M s = absurd s

  pub stop : (f : Fault) (S T : Spine) (A B : LfType) (M : Term) → Progress Σ G S A (app M T) B
      → Blames f ((C : LfType) × TakesArgument Σ G B M C) ((U : Spine) → SpineReachesDeep depth_limit Σ G (app M U) B)
      → Blames f ((C : LfType) × SpineType Σ G S A C) (SpineReachesDeep depth_limit Σ G S A)
  stop f S T A B M p = blames_map f _ _ _ _ (λ (C, s). takes T B C M (p.onward C s)) (λ d. p.deep (d T))

  pub done : (S : Spine) (A B : LfType) → Progress Σ G S A nil B → (C : LfType) → SpineType Σ G S A C ↔ (B ≡ C)
  done S A B p C = (p.onward C, p.back C)

  -- one argument
  pub argument_refused : (f : Fault) (M : Term) (A B : LfType) → Blames f (HasType Σ G M A) (TypingReachesDeep depth_limit Σ G M A)
      → Blames f ((C : LfType) × TakesArgument Σ G (pi A B) M C) ((U : Spine) → SpineReachesDeep depth_limit Σ G (app M U) (pi A B))
  argument_refused f M A B = blames_map f _ _ _ _ (λ (C, t). t.0) (λ d U. inr (inl d))

  pub deep_substitution : (M : Term) (A B : LfType) → HasType Σ G M A → DeepTypeSubstitution depth_limit (put_at 0 (skeleton A) M) B → (U : Spine) → SpineReachesDeep depth_limit Σ G (app M U) (pi A B)
  deep_substitution M A B m d U = inr (inr (m, inl d))

  pub argument_fits : (M : Term) (A B : LfType) → IsType Σ G (pi A B) → HasType Σ G M A → TypeFits (put_at 0 (skeleton A) M) B
  argument_fits M A B (a, b) m = record {
    families = family_skeletons Σ;
    heads = constant_skeletons Σ;
    context = skeleton A ∷ context_skeletons G;
    target = context_skeletons G;
    substitution_typed = single_by_skeletons (constant_skeletons Σ) (skeleton A) (context_skeletons G) M (typed_has_skeleton Σ G M A m);
    type_typed = type_by_skeletons Σ (A ∷ G) B b;
  }

-- The same where the argument was checked in a context that is this one.
module _ (Σ : Signature) (G H : List LfType) (same : H ≡ G) where
  pub step_in : IsSignature Σ → IsContext Σ G → (S T R : Spine) (A B C : LfType) (M : Term) → R ≡ app M T → Progress Σ G S A R B → TakesArgument Σ H B M C → Progress Σ G S A T C
  step_in ok g S T R A B C M e p t = step Σ G ok g S T A B C M (subst (λ X. Progress Σ G S A X B) e p) (subst (λ X. TakesArgument Σ X B M C) same t)

  pub stop_in : (f : Fault) (S T R : Spine) (A B : LfType) (M : Term) → R ≡ app M T → Progress Σ G S A R B
      → Blames f ((C : LfType) × TakesArgument Σ H B M C) ((U : Spine) → SpineReachesDeep depth_limit Σ H (app M U) B)
      → Blames f ((C : LfType) × SpineType Σ G S A C) (SpineReachesDeep depth_limit Σ G S A)
  stop_in f S T R A B M e p b =
      stop Σ G f S T A B M (subst (λ X. Progress Σ G S A X B) e p)
      (subst (λ X. Blames f ((C : LfType) × TakesArgument Σ X B M C) ((U : Spine) → SpineReachesDeep depth_limit Σ X (app M U) B)) same b)

-- an outcome that is a fault
pub failed : {T : Type 0} (r : Result T Fault) (f : Fault) (P : T → Type 0) (Q : Fault → Type 0) → r ≡ Err f → Q f → MatchResult r P Q
failed r f P Q e q = subst (λ x. MatchResult x P Q) (sym e) q

-- a fault of hereditary substitution
pub blames_substitution : (f : HeredFault) (P D : Type 0) → (f ≡ hered.TooDeep → D) → Blames (fault_of f) P D
blames_substitution hered.TooDeep P D h = h refl
blames_substitution hered.NoMemory P D h = tt

-- the first of the arguments that are left
pub args_at : (ts : List RustTerm) (i : ℕ) (x : RustTerm) → i < length ts → x ≡ get_or ts i x → args_of (drop i ts) ≡ app (term_of x) (args_of (drop (i + 1) ts))
args_at ts i x h e = rw (add-one, drop-cons ts i x) (ap (λ y. app (term_of y) (args_of (drop (suc i) ts))) (sym e))

-- The same in the code's terms: `a` is the skeleton of the domain, and B' the codomain.
module _ (Σ : Signature) (G : List LfType) (M : Term) (a : Skeleton) (A B B' : LfType) (shape : a ≡ skeleton A) (range : B' ≡ B) where
  pub fits_at : IsType Σ G (pi A B) → HasType Σ G M A → TypeFits (put_at 0 a M) B'
  fits_at t m = subst (λ x. TypeFits (put_at 0 x M) B') (sym shape) (subst (TypeFits (put_at 0 (skeleton A) M)) (sym range) (argument_fits Σ G M A B t m))

  pub deep_at : HasType Σ G M A → DeepTypeSubstitution depth_limit (put_at 0 a M) B' → (U : Spine) → SpineReachesDeep depth_limit Σ G (app M U) (pi A B)
  deep_at m d = deep_substitution Σ G M A B m (subst (λ x. DeepTypeSubstitution depth_limit (put_at 0 x M) B) shape (subst (DeepTypeSubstitution depth_limit (put_at 0 a M)) range d))
