-- A kind as a type, along arguments, and the equations of arguments of known types.
use Rattle.std.proofs.Common.{◌≡◌, ℕ, suc, ◌+◌, ◌<◌, inl, inr, List, [], ◌∷◌, Option, length, min, take, refl, sym, ap, ap₂, ◌∙◌, subst, arith}
use Rattle.lf.specs.AtOnce.{shift_by}
use Rattle.lf.specs.Depth.{depth_limit, type_depth}
use Rattle.lf.specs.SkeletonTyping.{HeadSkeletons, KindBySkeletons, RenamingBySkeletons, SkeletonAt, SpineSkeleton, TermSkeleton, TypeBySkeletons}
use Rattle.lf.specs.Substitution.{Image, lift, reduce, single, substitute_kind, substitute_type}
use Rattle.lf.specs.Syntax.{Kind, LfType, Skeleton, Spine, Term, app, atom, kind_pi, kind_skeleton, nil, pi, skeleton, star}
use Rattle.lf.specs.Typing.{instantiate_kind, instantiate_type}
use Rattle.lf.proofs.SkeletonTypes.{renaming_keeps_types_by_skeletons}
use Rattle.lf_unification.specs.Lists.{followed}
use Rattle.lf_unification.specs.Offering.{spine_equations}
use Rattle.lf_unification.specs.Patterns.{local_skeletons}
use Rattle.lf_unification.specs.Unifiers.{Equation}
use Rattle.tw_putting.specs.Domains.{AnyDeep, TakesArguments, domains, most_levels}
use Rattle.tw_terms.specs.OpenView.{open_args_of, open_term_of}
use Rattle.tw_terms.specs.declared.open_terms.Open.{Open}
use Rattle.tw_open.specs.Deep.{HasDeepType}
use Rattle.tw_open.specs.Indices.{IndicesFit}
use Rattle.tw_open.specs.Telescope.{as_type, equations_of}
use Rattle.tw_open.proofs.Arguments.{followed_none}

-- the type takes at first what the kind takes
abbrev HasDomains : Kind → LfType → Type 0
HasDomains (kind_pi A K) (pi B C) = (B ≡ A) × HasDomains K C
HasDomains (kind_pi A K) (atom a S) = ⊥
HasDomains star C = Unit {0}

as_type_has : (A : LfType) (K : Kind) → HasDomains (kind_pi A K) (as_type A K)
as_type_has A (kind_pi B K) = (refl, as_type_has B K)
as_type_has A star = (refl, tt)

has_substituted : (σ : ℕ → Image) (K : Kind) (C : LfType) → HasDomains K C → HasDomains (substitute_kind reduce σ K) (substitute_type reduce σ C)
has_substituted σ (kind_pi A K) (pi B C) (e, h) = (ap (substitute_type reduce σ) e, has_substituted (lift σ) K C h)
has_substituted σ (kind_pi A K) (atom a S) h = absurd h
has_substituted σ star C h = tt

has_next : (A B : LfType) (K : Kind) (C : LfType) (M : Term) → B ≡ A → HasDomains K C → HasDomains (instantiate_kind A M K) (instantiate_type B M C)
has_next A B K C M e h = subst (λ X. HasDomains (instantiate_kind X M K) (instantiate_type B M C)) e (has_substituted (single (skeleton B) M) K C h)

-- the spine is no longer than the kind
abbrev IsTaken : Kind → Spine → Type 0
IsTaken (kind_pi A K) (app M S) = IsTaken K S
IsTaken star (app M S) = ⊥
IsTaken K nil = Unit {0}

taken_substituted : (σ : ℕ → Image) (K : Kind) (S : Spine) → IsTaken K S → IsTaken (substitute_kind reduce σ K) S
taken_substituted σ (kind_pi A K) (app M S) t = taken_substituted (lift σ) K S t
taken_substituted σ (kind_pi A K) nil t = tt
taken_substituted σ star (app M S) t = absurd t
taken_substituted σ star nil t = tt

typed_is_taken : (κ : HeadSkeletons) (Γ : List Skeleton) (a : ℕ) (K : Kind) (S : Spine) (t : Skeleton) → SpineSkeleton κ Γ S (kind_skeleton a K) t → IsTaken K S
typed_is_taken κ Γ a (kind_pi A K) (app M S) t s = typed_is_taken κ Γ a K S t s.1
typed_is_taken κ Γ a (kind_pi A K) nil t s = tt
typed_is_taken κ Γ a star (app M S) t s = absurd s
typed_is_taken κ Γ a star nil t s = tt

-- as many of the arguments as there are others
abbrev pub cut : Spine → Spine → Spine
cut (app M S) (app N T) = app M (cut S T)
cut (app M S) nil = nil
cut nil T = nil

first_args : (ts us : List Open) → open_args_of (take (min (length ts) (length us)) ts) ≡ cut (open_args_of ts) (open_args_of us)
first_args [] us = let e : min 0 (length us) ≡ 0 = omega arith in ap (λ n. open_args_of (take n [])) e
first_args (t ∷ ts) [] = let e : min (length (t ∷ ts)) 0 ≡ 0 = omega arith in ap (λ n. open_args_of (take n (t ∷ ts))) e
first_args (t ∷ ts) (u ∷ us) =
    let e : min (length (t ∷ ts)) (length (u ∷ us)) ≡ suc (min (length ts) (length us)) = omega arith in
    ap (λ n. open_args_of (take n (t ∷ ts))) e ∙ ap (app (open_term_of t)) (first_args ts us)

pub cut_args : (n : ℕ) (vs ts us : List Open) (S T : Spine) → n ≡ min (length ts) (length us) → vs ≡ ts → S ≡ open_args_of ts → T ≡ open_args_of us → open_args_of (take n vs) ≡ cut S T
cut_args n vs ts us S T e v s t = ap₂ (λ (m : ℕ) (ws : List Open). open_args_of (take m ws)) e v ∙ first_args ts us ∙ ap₂ cut (sym s) (sym t)

no_domain : (C : LfType) → domains C nil ≡ []
no_domain (pi A B) = refl
no_domain (atom a S) = refl

-- skeletons type the type, and what it takes
moved : (a : Skeleton) (Γ : List Skeleton) → RenamingBySkeletons Γ (a ∷ Γ) (shift_by 1)
moved a Γ i t s = let e : i + 1 ≡ suc i = omega arith in subst (λ j. SkeletonAt (a ∷ Γ) j t) (sym e) s

as_type_typed : (φ : ℕ → Option Skeleton) (κ : HeadSkeletons) (Γ : List Skeleton) (A : LfType) (K : Kind) → KindBySkeletons φ κ Γ (kind_pi A K) → TypeBySkeletons φ κ Γ (as_type A K)
as_type_typed φ κ Γ A (kind_pi B K) (a, k) = (a, as_type_typed φ κ (skeleton A ∷ Γ) B K k)
as_type_typed φ κ Γ A star (a, k) = (a, renaming_keeps_types_by_skeletons φ κ Γ (skeleton A ∷ Γ) (shift_by 1) A (moved (skeleton A) Γ) a)

cut_typed : (κ : HeadSkeletons) (Γ : List Skeleton) (a : ℕ) (K : Kind) (C : LfType) (S T : Spine) (t : Skeleton) → HasDomains K C → SpineSkeleton κ Γ S (kind_skeleton a K) t → (u : Skeleton) × SpineSkeleton κ Γ (cut S T) (skeleton C) u
cut_typed κ Γ a (kind_pi A K) (pi B C) (app M S) (app N T) t (e, h) (m, s) =
    let (u, v) = cut_typed κ Γ a K C S T t h s in
    (u, (subst (λ X. TermSkeleton κ Γ M (skeleton X)) (sym e) m, v))
cut_typed κ Γ a (kind_pi A K) (atom b U) (app M S) (app N T) t h s = absurd h
cut_typed κ Γ a star C (app M S) (app N T) t h s = absurd s
cut_typed κ Γ a K C (app M S) nil t h s = (skeleton C, refl)
cut_typed κ Γ a K C nil T t h s = (skeleton C, refl)

pub takes_cut : (D : List LfType) (K L : Kind) (A X : LfType) (S T V : Spine) → K ≡ kind_pi A L → X ≡ as_type A L → V ≡ cut S T → IndicesFit D K S → TakesArguments X V
takes_cut D K L A X S T V e x v f =
    let g : IndicesFit D (kind_pi A L) S = subst (λ Y. IndicesFit D Y S) e f in
    let c = cut_typed g.heads (local_skeletons D []) g.family (kind_pi A L) (as_type A L) S T g.result (as_type_has A L) g.spine_typed in
    subst (λ Y. TakesArguments Y V) (sym x) (subst (TakesArguments (as_type A L)) (sym v) (record {
      families = g.families;
      heads = g.heads;
      context = local_skeletons D [];
      result = c.0;
      type_typed = as_type_typed g.families g.heads (local_skeletons D []) A L g.kind_typed;
      spine_typed = c.1;
    }))

-- the equations by the domains
by_domains : (D : List LfType) (K : Kind) (C : LfType) (S T : Spine) → HasDomains K C → IsTaken K S → equations_of D (domains C (cut S T)) S T ≡ spine_equations D K S T
by_domains D (kind_pi A K) (pi B C) (app M S) (app N T) (e, h) t =
    ap₂ (λ (X : LfType) (es : List Equation). record { local = D; left = M; right = N; of_type = X } ∷ es) e
    (by_domains D (instantiate_kind A M K) (instantiate_type B M C) S T (has_next A B K C M e h) (taken_substituted (single (skeleton A) M) K S t))
by_domains D (kind_pi A K) (atom a U) (app M S) (app N T) h t = absurd h
by_domains D (kind_pi A K) C (app M S) nil h t = ap (λ As. equations_of D As (app M S) nil) (no_domain C)
by_domains D (kind_pi A K) C nil T h t = ap (λ As. equations_of D As nil T) (no_domain C)
by_domains D star C (app M S) T h t = absurd t
by_domains D star C nil T h t = ap (λ As. equations_of D As nil T) (no_domain C)

indices_taken : (D : List LfType) (K : Kind) (S : Spine) → IndicesFit D K S → IsTaken K S
indices_taken D K S f = typed_is_taken f.heads (local_skeletons D []) f.family K S f.result f.spine_typed

pub kind_equations_are : (D : List LfType) (K L : Kind) (A X : LfType) (S T V : Spine) (As : List LfType) → K ≡ kind_pi A L → X ≡ as_type A L → V ≡ cut S T → IndicesFit D K S → As ≡ domains X V → equations_of D As S T ≡ spine_equations D K S T
kind_equations_are D K L A X S T V As e x v f d =
    ap (λ Bs. equations_of D Bs S T) (d ∙ ap₂ domains x v)
    ∙ by_domains D (kind_pi A L) (as_type A L) S T (as_type_has A L) (subst (λ Y. IsTaken Y S) e (indices_taken D K S f))
    ∙ ap (λ Y. spine_equations D Y S T) (sym e)

-- a domain that is too deep is the type of an equation
deep_among : (k : ℕ) (D : List LfType) (K : Kind) (C : LfType) (S T : Spine) → HasDomains K C → IsTaken K S → AnyDeep k (domains C (cut S T)) → HasDeepType k (spine_equations D K S T)
deep_among k D (kind_pi A K) (pi B C) (app M S) (app N T) (e, h) t (inl d) = (record { local = D; left = M; right = N; of_type = A }, inl refl, subst (λ X. k < type_depth X) e d)
deep_among k D (kind_pi A K) (pi B C) (app M S) (app N T) (e, h) t (inr d) =
    let (q, m, deep) = deep_among k D (instantiate_kind A M K) (instantiate_type B M C) S T (has_next A B K C M e h) (taken_substituted (single (skeleton A) M) K S t) d in
    (q, inr m, deep)
deep_among k D (kind_pi A K) (atom a U) (app M S) (app N T) h t d = absurd h
deep_among k D (kind_pi A K) C (app M S) nil h t d = absurd (subst (AnyDeep k) (no_domain C) d)
deep_among k D (kind_pi A K) C nil T h t d = absurd (subst (AnyDeep k) (no_domain C) d)
deep_among k D star C (app M S) T h t d = absurd t
deep_among k D star C nil T h t d = absurd (subst (AnyDeep k) (no_domain C) d)

deeper : (es : List Equation) → HasDeepType most_levels es → HasDeepType depth_limit es
deeper es (q, m, deep) = (q, m, omega (arith, deep))

pub kind_equations_deep : (D : List LfType) (K L : Kind) (A X : LfType) (S T V : Spine) → K ≡ kind_pi A L → X ≡ as_type A L → V ≡ cut S T → IndicesFit D K S → AnyDeep most_levels (domains X V) → HasDeepType depth_limit (spine_equations D K S T)
kind_equations_deep D K L A X S T V e x v f d =
    let t : IsTaken (kind_pi A L) S = subst (λ Y. IsTaken Y S) e (indices_taken D K S f) in
    let h = deep_among most_levels D (kind_pi A L) (as_type A L) S T (as_type_has A L) t (subst (AnyDeep most_levels) (ap₂ domains x v) d) in
    subst (λ Y. HasDeepType depth_limit (spine_equations D Y S T)) (sym e) (deeper (spine_equations D (kind_pi A L) S T) h)

-- no argument is left
no_left : (D As : List LfType) (S T : Spine) → S ≡ nil → equations_of D As S T ≡ []
no_left D [] S T e = refl
no_left D (A ∷ As) S T e = ap (λ W. equations_of D (A ∷ As) W T) e

pub lefts_end : (D As : List LfType) (S T : Spine) (found whole : List Equation) → S ≡ nil → whole ≡ followed found (equations_of D As S T) → found ≡ whole
lefts_end D As S T found whole e w = sym (w ∙ ap (followed found) (no_left D As S T e) ∙ followed_none found)
