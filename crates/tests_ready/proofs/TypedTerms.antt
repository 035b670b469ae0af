-- Terms and spines against types.
use Rattle.std.proofs.Common.{◌≡◌, ◌<◌, ℕ, zero, suc, List, [], ◌∷◌, Option, Some, drop, refl, sym, ap, ◌∙◌, subst}
use Rattle.std.specs.Bool.{OnTrue}
use Rattle.std.specs.Prelude.{Bool, true, false, slice_get}
use Rattle.lf.specs.Skeletons.{family_skeletons, type_skeleton}
use Rattle.lf.specs.Substitution.{reduce, single}
use Rattle.lf.specs.Syntax.{Head, Kind, LfType, Spine, Term, app, atom, constant, kind_pi, lambda, metavariable, nil, pi, root, skeleton, star, variable}
use Rattle.lf.specs.Typing.{IsKind, IsSignature, IsType, Signature, instantiate_type}
use Rattle.lf.proofs.SkeletonTyping.{single_by_skeletons}
use Rattle.lf.proofs.SkeletonTypes.{renaming_keeps_types_by_skeletons, single_type_by_skeletons}
use Rattle.lf.proofs.ToSkeletons.{type_by_skeletons_with}
use Rattle.lf_unification.specs.Filling.{fill_type}
use Rattle.lf_unification.specs.OpenTyping.{MetavariablesIn, MetavariablesInSpine, OpenHasType, OpenIsContext, OpenIsType, skeletons_of, under_locals}
use Rattle.lf_unification.specs.Patterns.{local_skeletons}
use Rattle.lf_unification.proofs.Eta.{rename_id_type}
use Rattle.tw_hered.specs.Fits.{TypeFits}
use Rattle.tw_putting.specs.Fits.{declared_skeletons}
use Rattle.tw_putting.specs.Ready.{LocalsBySkeletons}
use Rattle.tw_putting.proofs.Skeletons.{term_declared, type_declared}
use Rattle.tests_ready.specs.Checked.{FitsKind, HasSkeletons, HeadBelow, HeadIsTyped, IsTypeTyped, IsKindOf, IsTyped, SpineIsTyped, Stands, TypedBelow, all}

-- the type of a variable, in front of those outside it
pub drop_at : (D : List LfType) (n : ℕ) (A : LfType) → slice_get D n ≡ Some A → drop n D ≡ A ∷ drop (suc n) D
drop_at [] n A e = absurd cc
drop_at (B ∷ D) zero A e = ap (λ X. X ∷ D) (some_is e)
  where
    some_is : {X Y : LfType} → Some X ≡ Some Y → X ≡ Y
    some_is e = cc
drop_at (B ∷ D) (suc n) A e = drop_at D n A e

module _ (Σ : Signature) (Ψ : ℕ → Option LfType) where
  pub inside_stands : (n : ℕ) (D E : List LfType) (A : LfType) → Stands Σ Ψ n D → HasSkeletons Σ Ψ D A → E ≡ A ∷ D → Stands Σ Ψ n E
  inside_stands n D E A f a e = subst (Stands Σ Ψ n) (sym e) (record { below = f.below; locals = (f.locals, a) })

  -- the two parts of a function type
  pub domain_skeletons : (D : List LfType) (C A B : LfType) → HasSkeletons Σ Ψ D C → C ≡ pi A B → HasSkeletons Σ Ψ D A
  domain_skeletons D C A B f e = (subst (HasSkeletons Σ Ψ D) e f).0

  pub range_skeletons : (D E : List LfType) (C A B : LfType) → HasSkeletons Σ Ψ D C → C ≡ pi A B → E ≡ A ∷ D → HasSkeletons Σ Ψ E B
  range_skeletons D E C A B f e g = subst (λ F. HasSkeletons Σ Ψ F B) (sym g) (subst (HasSkeletons Σ Ψ D) e f).1

  pub lambda_typed : (n : ℕ) (D E : List LfType) (M N : Term) (C A B : LfType) → M ≡ lambda N → C ≡ pi A B → E ≡ A ∷ D → IsTyped Σ Ψ n E N B → IsTyped Σ Ψ n D M C
  lambda_typed n D E M N C A B m c e t = subst (λ X. IsTyped Σ Ψ n D X C) (sym m) (subst (IsTyped Σ Ψ n D (lambda N)) (sym c) (subst (λ F. IsTyped Σ Ψ n F N B) e t))

  root_below : (n : ℕ) (h : Head) (S : Spine) → HeadBelow Σ Ψ n h → MetavariablesInSpine (λ m. m < n) S → MetavariablesIn (λ m. m < n) (root h S)
  root_below n (constant c) S h s = s
  root_below n (variable i) S h s = s
  root_below n (metavariable m) S h s = (h, s)

  pub root_typed : (n : ℕ) (D : List LfType) (M : Term) (h : Head) (S T : Spine) (C A : LfType) (a : ℕ) → M ≡ root h S → C ≡ atom a T → HeadIsTyped Σ Ψ n D h A → SpineIsTyped Σ Ψ n D S A C → IsTyped Σ Ψ n D M C
  root_typed n D M h S T C A a m c g s =
      let t : SpineIsTyped Σ Ψ n D S A (atom a T) = subst (SpineIsTyped Σ Ψ n D S A) c s in
      subst (λ X. IsTyped Σ Ψ n D X C) (sym m) (subst (IsTyped Σ Ψ n D (root h S)) (sym c) ((A, g.typed, t.0), root_below n h S g.below t.1))

  -- where what is left takes Y to a type, the whole spine takes X to it
  abbrev pub Continues : ℕ → List LfType → Spine → LfType → Spine → LfType → Type 0
  Continues n D S X T Y = (C : LfType) → SpineIsTyped Σ Ψ n D T Y C → SpineIsTyped Σ Ψ n D S X C

  pub argument_fits : (n : ℕ) (D : List LfType) (X A B : LfType) (M : Term) → HasSkeletons Σ Ψ D X → X ≡ pi A B → IsTyped Σ Ψ n D M A → TypeFits (single (skeleton A) M) B
  argument_fits n D X A B M f e t = record {
    families = family_skeletons Σ;
    heads = declared_skeletons Σ Ψ;
    context = skeleton A ∷ local_skeletons D [];
    target = local_skeletons D [];
    substitution_typed = single_by_skeletons (declared_skeletons Σ Ψ) (skeleton A) (local_skeletons D []) M (term_declared Σ Ψ all D M A t.0);
    type_typed = (subst (HasSkeletons Σ Ψ D) e f).1;
  }

  pub next_skeletons : (n : ℕ) (D : List LfType) (X Y A B : LfType) (M : Term) → HasSkeletons Σ Ψ D X → X ≡ pi A B → IsTyped Σ Ψ n D M A → Y ≡ instantiate_type A M B → HasSkeletons Σ Ψ D Y
  next_skeletons n D X Y A B M f e t y = subst (HasSkeletons Σ Ψ D) (sym y) (single_type_by_skeletons (family_skeletons Σ) (declared_skeletons Σ Ψ) (skeleton A) (local_skeletons D []) M B (term_declared Σ Ψ all D M A t.0) (subst (HasSkeletons Σ Ψ D) e f).1)

  pub continues_next : (n : ℕ) (D : List LfType) (S T U : Spine) (X Y Z A B : LfType) (M : Term) → T ≡ app M U → Y ≡ pi A B → IsTyped Σ Ψ n D M A → Z ≡ instantiate_type A M B → Continues n D S X T Y → Continues n D S X U Z
  continues_next n D S T U X Y Z A B M t y m z k C s =
      let s' : SpineIsTyped Σ Ψ n D U (instantiate_type A M B) C = subst (λ W. SpineIsTyped Σ Ψ n D U W C) z s in
      k C (subst (λ W. SpineIsTyped Σ Ψ n D W Y C) (sym t) (subst (λ W. SpineIsTyped Σ Ψ n D (app M U) W C) (sym y) ((m.0, s'.0), (m.1, s'.1))))

  pub continues_to : (n : ℕ) (D : List LfType) (S T : Spine) (X Y C : LfType) → T ≡ nil → Continues n D S X T Y → Y ≡ C → SpineIsTyped Σ Ψ n D S X C
  continues_to n D S T X Y C t k e =
      k C (subst (λ W. SpineIsTyped Σ Ψ n D W Y C) (sym t) ((ap skeleton e, λ β u. ap (fill_type (skeletons_of Ψ) (under_locals D β)) e), tt))

  -- types
  pub pi_typed : (n : ℕ) (D E : List LfType) (C A B : LfType) → C ≡ pi A B → E ≡ A ∷ D → IsTypeTyped Σ Ψ n D A → IsTypeTyped Σ Ψ n E B → IsTypeTyped Σ Ψ n D C
  pi_typed n D E C A B c e a b =
      let b' : IsTypeTyped Σ Ψ n (A ∷ D) B = subst (λ F. IsTypeTyped Σ Ψ n F B) e b in
      subst (IsTypeTyped Σ Ψ n D) (sym c) ((a.0, b'.0), (a.1, b'.1))

  pub atom_typed : (n : ℕ) (D : List LfType) (C : LfType) (a : ℕ) (S : Spine) (K : Kind) → C ≡ atom a S → Some K ≡ Σ.kinds a → FitsKind Σ Ψ n D S K → IsTypeTyped Σ Ψ n D C
  atom_typed n D C a S K c k f = subst (IsTypeTyped Σ Ψ n D) (sym c) ((K, sym k, f.0), f.1)

  pub no_index : (n : ℕ) (D : List LfType) (S : Spine) (K : Kind) → K ≡ star → S ≡ nil → FitsKind Σ Ψ n D S K
  no_index n D S K k s = subst (FitsKind Σ Ψ n D S) (sym k) (subst (λ T. FitsKind Σ Ψ n D T star) (sym s) (tt, tt))

  pub one_index : (n : ℕ) (D : List LfType) (S : Spine) (K : Kind) (A : LfType) (M : Term) → K ≡ kind_pi A star → S ≡ app M nil → IsTyped Σ Ψ n D M A → FitsKind Σ Ψ n D S K
  one_index n D S K A M k s m = subst (FitsKind Σ Ψ n D S) (sym k) (subst (λ T. FitsKind Σ Ψ n D T (kind_pi A star)) (sym s) ((m.0, tt), (m.1, tt)))

  pub typed_skeletons : (n : ℕ) (D : List LfType) (A : LfType) → IsTypeTyped Σ Ψ n D A → HasSkeletons Σ Ψ D A
  typed_skeletons n D A a = type_declared Σ Ψ all D A a.0

  pub locals_declared : (D : List LfType) → OpenIsContext Σ [] Ψ all D → LocalsBySkeletons Σ Ψ D
  locals_declared [] d = tt
  locals_declared (A ∷ D) (d, a) = (locals_declared D d, type_declared Σ Ψ all D A a)

  pub context_stands : (n : ℕ) (D : List LfType) → TypedBelow Σ Ψ n → OpenIsContext Σ [] Ψ all D → Stands Σ Ψ n D
  context_stands n D b d = record { below = b; locals = locals_declared D d }

  -- one type more
  pub context_next : (n : ℕ) (D E : List LfType) (A B : LfType) → E ≡ B ∷ D → B ≡ A → OpenIsContext Σ [] Ψ all D → IsTypeTyped Σ Ψ n D A → OpenIsContext Σ [] Ψ all E
  context_next n D E A B e b d a = subst (OpenIsContext Σ [] Ψ all) (sym (e ∙ ap (λ X. X ∷ D) b)) (d, a.0)

  -- what a family takes has a type of the empty context
  pub kind_domain : IsSignature Σ → (D : List LfType) (K L : Kind) (A B : LfType) → IsKindOf Σ K → K ≡ kind_pi A L → B ≡ A → HasSkeletons Σ Ψ D B
  kind_domain ok D K L A B (a, e) k b =
      let t : IsType Σ [] A = (subst (IsKind Σ []) k (ok.kinds_ok a K e)).0 in
      subst (HasSkeletons Σ Ψ D) (sym b) (subst (HasSkeletons Σ Ψ D) (rename_id_type A)
      (renaming_keeps_types_by_skeletons (family_skeletons Σ) (declared_skeletons Σ Ψ) [] (local_skeletons D []) (λ i. i) A (λ j t h. absurd h) (type_by_skeletons_with Σ (λ m. type_skeleton (Ψ m)) [] A t)))

  pub family_is_kind : (a : ℕ) (K : Kind) → Some K ≡ Σ.kinds a → IsKindOf Σ K
  family_is_kind a K e = (a, sym e)

pub at_true : (b : Bool) (P : Type 0) → b ≡ true → OnTrue b P → P
at_true true P e p = p
at_true false P e p = absurd cc

pub on_true : (b : Bool) (P : Type 0) → (b ≡ true → P) → OnTrue b P
on_true true P f = f refl
on_true false P f = tt
