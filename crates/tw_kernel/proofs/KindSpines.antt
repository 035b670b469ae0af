-- A spine against the kind of a family, one argument after the other.
use Rattle.std.proofs.Common.{◌≡◌, ℕ, List, ◌∷◌, inl, inr, refl, sym, ap, ◌∙◌, subst}
use Rattle.lf.specs.Syntax.{Term, Spine, app, LfType, Kind, kind_pi, star, Skeleton, skeleton}
use Rattle.lf.specs.AtOnce.{lift_by}
use Rattle.lf.specs.Deep.{DeepTypeSubstitution, DeepKindSubstitution}
use Rattle.lf.specs.DeepTyping.{TypingReachesDeep, KindSpineReachesDeep}
use Rattle.lf.specs.Depth.{depth_limit}
use Rattle.lf.specs.Rules.{inside_kind_pi}
use Rattle.lf.specs.Skeletons.{constant_skeletons, family_skeletons, context_skeletons}
use Rattle.lf.specs.Substitution.{Image, lift, single, substitute_type, substitute_kind, reduce}
use Rattle.lf.specs.Typing.{Signature, instantiate_kind, HasType, SpineFitsKind, IsKind, IsContext, IsSignature}
use Rattle.lf.proofs.Regular.{substitution_keeps_kinds}
use Rattle.lf.proofs.Rules.{rules_total_type, rules_total_kind}
use Rattle.lf.proofs.SkeletonTyping.{single_by_skeletons, lift_by_skeletons}
use Rattle.lf.proofs.Substitution.{skeleton_context_of, single_substitution_typed}
use Rattle.lf.proofs.ToSkeletons.{typed_has_skeleton, type_by_skeletons, kind_by_skeletons}
use Rattle.tw_hered.specs.Fits.{KindFits, TypeFits}
use Rattle.tw_kernel.specs.Outcome.{Blames, KindTakesArgument}
use Rattle.tw_kernel.specs.declared.fault.Fault.{Fault}
use Rattle.tw_kernel.proofs.Spines.{blames_map}

-- The spine S against K has come so far that T is left against L.
pub record KindProgress (Σ : Signature) (G : List LfType) (S : Spine) (K : Kind) (T : Spine) (L : Kind) : Type 0 where
  pub is_kind : IsKind Σ G L
  pub onward : SpineFitsKind Σ G S K → SpineFitsKind Σ G T L
  pub back : SpineFitsKind Σ G T L → SpineFitsKind Σ G S K
  pub deep : KindSpineReachesDeep depth_limit Σ G T L → KindSpineReachesDeep depth_limit Σ G S K

module _ (Σ : Signature) (G : List LfType) where
  pub start : (S : Spine) (K : Kind) → IsKind Σ G K → KindProgress Σ G S K S K
  start S K k = record { is_kind = k; onward = λ s. s; back = λ s. s; deep = λ d. d }

  instance_is_kind : (ok : IsSignature Σ) (A : LfType) (M : Term) (K : Kind) → IsContext Σ G → IsKind Σ G (kind_pi A K) → HasType Σ G M A → IsKind Σ G (instantiate_kind A M K)
  instance_is_kind ok A M K g (a, k) m = substitution_keeps_kinds Σ ok (A ∷ G) G (single (skeleton A) M) K (single_substitution_typed Σ ok G A M (skeleton_context_of Σ ok G g) (type_by_skeletons Σ G A a) m) k

  pub step : IsSignature Σ → IsContext Σ G → (S T : Spine) (K L N : Kind) (M : Term) → KindProgress Σ G S K (app M T) L → KindTakesArgument Σ G L M N → KindProgress Σ G S K T N
  step ok g S T K star N M p t = absurd t
  step ok g S T K (kind_pi A L) N M p (m, e) = record {
    is_kind = subst (IsKind Σ G) (sym e) (instance_is_kind ok A M L g p.is_kind m);
    onward = λ s. subst (SpineFitsKind Σ G T) (sym e) (p.onward s).1;
    back = λ s. p.back (m, subst (SpineFitsKind Σ G T) e s);
    deep = λ d. p.deep (inr (inr (m, inr (subst (KindSpineReachesDeep depth_limit Σ G T) e d))));
  }

  takes : (T : Spine) (L : Kind) (M : Term) → SpineFitsKind Σ G (app M T) L → (N : Kind) × KindTakesArgument Σ G L M N
  takes T (kind_pi A L) M (m, s) = (instantiate_kind A M L, (m, refl))
  takes T star M s = absurd s

  pub stop : (f : Fault) (S T : Spine) (K L : Kind) (M : Term) → KindProgress Σ G S K (app M T) L
      → Blames f ((N : Kind) × KindTakesArgument Σ G L M N) ((U : Spine) → KindSpineReachesDeep depth_limit Σ G (app M U) L)
      → Blames f (SpineFitsKind Σ G S K) (KindSpineReachesDeep depth_limit Σ G S K)
  stop f S T K L M p = blames_map f _ _ _ _ (λ s. takes T L M (p.onward s)) (λ d. p.deep (d T))

  pub argument_refused : (f : Fault) (M : Term) (A : LfType) (K : Kind) → Blames f (HasType Σ G M A) (TypingReachesDeep depth_limit Σ G M A)
      → Blames f ((N : Kind) × KindTakesArgument Σ G (kind_pi A K) M N) ((U : Spine) → KindSpineReachesDeep depth_limit Σ G (app M U) (kind_pi A K))
  argument_refused f M A K = blames_map f _ _ _ _ (λ (N, t). t.0) (λ d U. inr (inl d))

  pub deep_substitution : (M : Term) (A : LfType) (K : Kind) → HasType Σ G M A → DeepKindSubstitution depth_limit (lift_by 0 (single (skeleton A) M)) K → (U : Spine) → KindSpineReachesDeep depth_limit Σ G (app M U) (kind_pi A K)
  deep_substitution M A K m d U = inr (inr (m, inl d))

  pub argument_fits : (M : Term) (A : LfType) (K : Kind) → IsKind Σ G (kind_pi A K) → HasType Σ G M A → KindFits (lift_by 0 (single (skeleton A) M)) K
  argument_fits M A K (a, k) m = record {
    families = family_skeletons Σ;
    heads = constant_skeletons Σ;
    context = skeleton A ∷ context_skeletons G;
    target = context_skeletons G;
    substitution_typed = single_by_skeletons (constant_skeletons Σ) (skeleton A) (context_skeletons G) M (typed_has_skeleton Σ G M A m);
    kind_typed = kind_by_skeletons Σ (A ∷ G) K k;
  }

-- The parts of a kind in which a term is put in.
pub domain_fits : (σ : ℕ → Image) (A : LfType) (K : Kind) → KindFits σ (kind_pi A K) → TypeFits σ A
domain_fits σ A K f = record { families = f.families; heads = f.heads; context = f.context; target = f.target; substitution_typed = f.substitution_typed; type_typed = f.kind_typed.0 }

pub rest_fits : (σ : ℕ → Image) (A : LfType) (K : Kind) → KindFits σ (kind_pi A K) → KindFits (lift σ) K
rest_fits σ A K f = record {
  families = f.families;
  heads = f.heads;
  context = skeleton A ∷ f.context;
  target = skeleton A ∷ f.target;
  substitution_typed = lift_by_skeletons f.heads (skeleton A) f.context f.target σ f.substitution_typed;
  kind_typed = f.kind_typed.1;
}

pub deep_in_kind_domain : (k : ℕ) (σ : ℕ → Image) (A : LfType) (K : Kind) → KindFits σ (kind_pi A K) → DeepTypeSubstitution k σ A → DeepKindSubstitution k σ (kind_pi A K)
deep_in_kind_domain k σ A K f (R, d, h) =
    let r = rest_fits σ A K f in
    (kind_pi R (substitute_kind reduce (lift σ) K), inside_kind_pi d (rules_total_kind r.heads r.families r.context r.target (lift σ) K r.substitution_typed r.kind_typed), inr (inr (inr (inl h))))

pub deep_in_kind_rest : (k : ℕ) (σ : ℕ → Image) (A : LfType) (K : Kind) → KindFits σ (kind_pi A K) → DeepKindSubstitution k (lift σ) K → DeepKindSubstitution k σ (kind_pi A K)
deep_in_kind_rest k σ A K f (R, d, h) =
    (kind_pi (substitute_type reduce σ A) R, inside_kind_pi (rules_total_type f.heads f.families f.context f.target σ A f.substitution_typed f.kind_typed.0) d, inr (inr (inr (inr h))))

-- The same where the argument was checked in a context that is this one.
module _ (Σ : Signature) (G H : List LfType) (same : H ≡ G) where
  pub step_in : IsSignature Σ → IsContext Σ G → (S T R : Spine) (K L N : Kind) (M : Term) → R ≡ app M T → KindProgress Σ G S K R L → KindTakesArgument Σ H L M N → KindProgress Σ G S K T N
  step_in ok g S T R K L N M e p t = step Σ G ok g S T K L N M (subst (λ X. KindProgress Σ G S K X L) e p) (subst (λ X. KindTakesArgument Σ X L M N) same t)

  pub stop_in : (f : Fault) (S T R : Spine) (K L : Kind) (M : Term) → R ≡ app M T → KindProgress Σ G S K R L
      → Blames f ((N : Kind) × KindTakesArgument Σ H L M N) ((U : Spine) → KindSpineReachesDeep depth_limit Σ H (app M U) L)
      → Blames f (SpineFitsKind Σ G S K) (KindSpineReachesDeep depth_limit Σ G S K)
  stop_in f S T R K L M e p b =
      stop Σ G f S T K L M (subst (λ X. KindProgress Σ G S K X L) e p)
      (subst (λ X. Blames f ((N : Kind) × KindTakesArgument Σ X L M N) ((U : Spine) → KindSpineReachesDeep depth_limit Σ X (app M U) L)) same b)

-- The same in the code's terms: `a` is the skeleton of the domain, and K' the rest.
module _ (Σ : Signature) (G : List LfType) (M : Term) (a : Skeleton) (A : LfType) (K K' : Kind) (shape : a ≡ skeleton A) (rest : K' ≡ K) where
  pub fits_at : IsKind Σ G (kind_pi A K) → HasType Σ G M A → KindFits (lift_by 0 (single a M)) K'
  fits_at t m = subst (λ x. KindFits (lift_by 0 (single x M)) K') (sym shape) (subst (KindFits (lift_by 0 (single (skeleton A) M))) (sym rest) (argument_fits Σ G M A K t m))

  pub deep_at : HasType Σ G M A → DeepKindSubstitution depth_limit (lift_by 0 (single a M)) K' → (U : Spine) → KindSpineReachesDeep depth_limit Σ G (app M U) (kind_pi A K)
  deep_at m d = deep_substitution Σ G M A K m (subst (λ x. DeepKindSubstitution depth_limit (lift_by 0 (single x M)) K) shape (subst (DeepKindSubstitution depth_limit (lift_by 0 (single a M))) rest d))

  pub taken_at : (L : Kind) → HasType Σ G M A → L ≡ substitute_kind reduce (lift_by 0 (single a M)) K' → KindTakesArgument Σ G (kind_pi A K) M L
  taken_at L m e = (m, e ∙ ap (λ x. substitute_kind reduce (lift_by 0 (single x M)) K') shape ∙ ap (substitute_kind reduce (single (skeleton A) M)) rest)
