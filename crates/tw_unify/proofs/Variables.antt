-- The types of variables and constants, and of what a type takes.
use Rattle.std.proofs.Common.{◌≡◌, ℕ, zero, suc, ◌<◌, List, [], ◌∷◌, ◌++◌, length, Some, None, inl, inr, refl, sym, ap, ◌∙◌, subst, arith}
use Rattle.std.specs.List.{slice_get}
use mathlib.Core.Path.{fun_ext}
use Rattle.lf.specs.AtOnce.{shift_by}
use Rattle.lf.specs.Depth.{type_depth}
use Rattle.lf.specs.SkeletonTyping.{HeadSkeleton, HeadSkeletons, SkeletonAt, SpineSkeleton, TermSkeleton}
use Rattle.lf.specs.Skeletons.{family_skeletons, type_skeleton}
use Rattle.lf.specs.Subordination.{Member}
use Rattle.lf.specs.Substitution.{reduce, single}
use Rattle.lf.specs.Syntax.{Head, LfType, Skeleton, Spine, Term, app, atom, base, constant, metavariable, nil, pi, rename_type, root, skeleton, variable, weaken}
use Rattle.lf.specs.Typing.{IsSignature, Signature, TypeAt, instantiate_type}
use Rattle.lf.specs.Variables.{onto}
use Rattle.lf.proofs.TypeLaws.{renamings_compose_type, skeleton_substituted}
use Rattle.lf_unification.specs.Lists.{followed}
use Rattle.lf_unification.specs.Offering.{argument_equations}
use Rattle.lf_unification.specs.Unifiers.{Equation}
use Rattle.lf_unification.specs.Patterns.{local_skeletons}
use Rattle.lf_unification.specs.Putting.{IsRigidHead}
use Rattle.tw_unify.specs.declared.fault.UnifyFault.{UnifyFault}
use Rattle.tw_unify.specs.declared.fault.UnifyFault.TheVariants.{NoMemory, TooDeep}
use Rattle.tw_putting.specs.Domains.{AnyDeep, TakesArguments, domains, most_levels}
use Rattle.tw_putting.specs.Fits.{declared_skeletons}
use Rattle.tw_unify.specs.Rigid.{AreAlike, ArgumentsFit, BlamesArguments, Decomposes, HasArguments, HasFunction, HasHead, HeadFits, IsRoot, LeftFits, RigidHeadHasType, equations_of}
use Rattle.tw_unify.proofs.Orders.{followed_nothing}
use Rattle.tw_putting.proofs.Skeletons.{head_once, head_skeleton, rigid_by_skeletons}

one_is_suc : shift_by (suc zero) ≡ suc
one_is_suc = fun_ext (λ i. omega arith)

next_is_suc : (n : ℕ) → shift_by (suc n) ≡ (λ i. suc (shift_by n i))
next_is_suc n = fun_ext (λ i. omega arith)

-- a variable's type, moved over the variables inside it
variable_found : (D : List LfType) (i : ℕ) (B : LfType) → slice_get D i ≡ Some B → TypeAt (onto D []) i (rename_type (shift_by (suc i)) B)
variable_found [] i B e = absurd cc
variable_found (X ∷ D) zero B e = let is : X ≡ B = cc in ap (λ ρ. rename_type ρ B) one_is_suc ∙ ap weaken (sym is)
variable_found (X ∷ D) (suc i) B e =
    (rename_type (shift_by (suc i)) B, variable_found D i B e, ap (λ ρ. rename_type ρ B) (next_is_suc (suc i)) ∙ sym (renamings_compose_type suc (shift_by (suc i)) B))

pub variable_has_type : (Σ : Signature) (D : List LfType) (h : Head) (i by : ℕ) (B A : LfType) → h ≡ variable i → by ≡ suc i → Some B ≡ slice_get D i → A ≡ rename_type (shift_by by) B → RigidHeadHasType Σ D h A
variable_has_type Σ D h i by B A is b e a =
    let to : A ≡ rename_type (shift_by (suc i)) B = a ∙ ap (λ n. rename_type (shift_by n) B) b in
    subst (λ k. RigidHeadHasType Σ D k A) (sym is) (subst (RigidHeadHasType Σ D (variable i)) (sym to) (tt, λ Ψ. variable_found D i B (sym e)))

followed_push : {A : Type 0} (xs : List A) (x : A) (ys : List A) → followed (xs ++ x ∷ []) ys ≡ followed xs (x ∷ ys)
followed_push [] x ys = refl
followed_push (z ∷ xs) x ys = ap (λ us. z ∷ us) (followed_push xs x ys)

-- the equations of the arguments, by the types that are read off
by_domains : (D : List LfType) (X : LfType) (S T : Spine) → argument_equations D X S T ≡ equations_of D (domains X S) S T
by_domains D (pi A B) (app M S) (app N T) = ap (λ es. record { local = D; left = M; right = N; of_type = A } ∷ es) (by_domains D (instantiate_type A M B) S T)
by_domains D (pi A B) (app M S) nil = refl
by_domains D (pi A B) nil T = refl
by_domains D (atom a I) S T = refl

-- none is found yet
pub none_found : (D : List LfType) (X : LfType) (S T U V : Spine) (As : List LfType) (found : List Equation) → As ≡ domains X S → U ≡ S → V ≡ T → found ≡ [] → argument_equations D X S T ≡ followed found (equations_of D As U V)
none_found D X S T U V As found p q r e =
    by_domains D X S T ∙ ap (λ Ys. equations_of D Ys S T) (sym p) ∙ ap (λ W. equations_of D As W T) (sym q) ∙ ap (equations_of D As U) (sym r) ∙ ap (λ es. followed es (equations_of D As U V)) (sym e)

-- one equation more
pub one_equation_more : (D : List LfType) (As Bs : List LfType) (A : LfType) (S T U V : Spine) (M N : Term) (d : Equation) (found more : List Equation) → As ≡ A ∷ Bs → S ≡ app M U → T ≡ app N V → d ≡ record { local = D; left = M; right = N; of_type = A } → more ≡ found ++ d ∷ []
    → followed found (equations_of D As S T) ≡ followed more (equations_of D Bs U V)
one_equation_more D As Bs A S T U V M N d found more p q r e f =
    let first : equations_of D As S T ≡ d ∷ equations_of D Bs U V =
    ap (λ Ys. equations_of D Ys S T) p ∙ ap (λ W. equations_of D (A ∷ Bs) W T) q ∙ ap (equations_of D (A ∷ Bs) (app M U)) r ∙ ap (λ x. x ∷ equations_of D Bs U V) (sym e) in
    ap (followed found) first ∙ sym (followed_push found d (equations_of D Bs U V)) ∙ ap (λ es. followed es (equations_of D Bs U V)) (sym f)

no_left : (D As : List LfType) (T : Spine) → equations_of D As nil T ≡ []
no_left D [] T = refl
no_left D (A ∷ As) T = refl

no_right : (D As : List LfType) (S : Spine) → equations_of D As S nil ≡ []
no_right D [] S = refl
no_right D (A ∷ As) nil = refl
no_right D (A ∷ As) (app M S) = refl

-- no equation more
pub none_left : (D As : List LfType) (S T : Spine) (found : List Equation) → S ≡ nil → followed found (equations_of D As S T) ≡ found
none_left D As S T found e = ap (followed found) (ap (λ U. equations_of D As U T) e ∙ no_left D As T) ∙ followed_nothing found

pub none_right : (D As : List LfType) (S T : Spine) (found : List Equation) → T ≡ nil → followed found (equations_of D As S T) ≡ found
none_right D As S T found e = ap (followed found) (ap (equations_of D As S) e ∙ no_right D As S) ∙ followed_nothing found

pub none_due : (D As : List LfType) (S T : Spine) (found : List Equation) → As ≡ [] → followed found (equations_of D As S T) ≡ found
none_due D As S T found e = ap (followed found) (ap (λ Ys. equations_of D Ys S T) e) ∙ followed_nothing found

-- what skeletons say of the arguments is what reading off the types asks for
pub reads_off : (D : List LfType) (A : LfType) (S : Spine) → ArgumentsFit D A S → TakesArguments A S
reads_off D A S f = record {
  families = family_skeletons f.signature;
  heads = declared_skeletons f.signature f.declared;
  context = local_skeletons D [];
  result = f.result;
  type_typed = f.type_typed;
  spine_typed = f.spine_typed;
}

root_arguments : (M : Term) (h k : Head) (S T : Spine) → M ≡ root h S → M ≡ root k T → S ≡ T
root_arguments M h k S T e f = let g : root h S ≡ root k T = sym e ∙ f in cc

abbrev made : List LfType → Term → Term → LfType → Equation
made D M N C = record { local = D; left = M; right = N; of_type = C }

three : (D : List LfType) (M N : Term) (C : LfType) (M' N' : Term) (C' : LfType) → M ≡ M' → N ≡ N' → C ≡ C' → made D M N C ≡ made D M' N' C'
three D M N C M' N' C' p q r = ap (λ X. made D X N C) p ∙ ap (λ X. made D M' X C) q ∙ ap (made D M' N') r

-- a root's type is an atom
type_is_atom : (κ : HeadSkeletons) (Γ : List Skeleton) (M : Term) (h : Head) (S : Spine) (C : LfType) → M ≡ root h S → TermSkeleton κ Γ M (skeleton C) → (c : ℕ) × ((I : Spine) × (C ≡ atom c I))
type_is_atom κ Γ M h S (pi A B) e m = absurd (subst (λ X. TermSkeleton κ Γ X (skeleton (pi A B))) e m)
type_is_atom κ Γ M h S (atom c I) e m = (c, (I, refl))

same_head : (M : Term) (h k : Head) (S T : Spine) → M ≡ root h S → M ≡ root k T → h ≡ k
same_head M h k S T e f = let g : root h S ≡ root k T = sym e ∙ f in cc

root_is : (M : Term) (h : Head) (S : Spine) → M ≡ root h S → IsRoot M
root_is M h S e = subst IsRoot (sym e) tt

pub left_root : (e : Equation) → AreAlike e → IsRoot e.left
left_root e v = root_is e.left v.head v.left v.left_is

pub right_root : (e : Equation) → AreAlike e → IsRoot e.right
right_root e v = root_is e.right v.other v.right v.right_is

-- the head of the left side has a skeleton
pub head_fits : (Σ : Signature) (e : Equation) (k : Head) → LeftFits Σ e → AreAlike e → HasHead e.left k → HeadFits Σ e.local k
head_fits Σ e k f v (S, is) =
    let κ = declared_skeletons Σ f.declared in
    let Γ = local_skeletons e.local [] in
    let (c, (I, at)) = type_is_atom κ Γ e.left k S e.of_type is f.left_typed in
    let m : TermSkeleton κ Γ (root k S) (base c) = subst (λ X. TermSkeleton κ Γ (root k S) (skeleton X)) at (subst (λ M. TermSkeleton κ Γ M (skeleton e.of_type)) is f.left_typed) in
    record {
      rigid = subst IsRigidHead (same_head e.left v.head k v.left S v.left_is is) v.heads.1;
      declared = f.declared;
      head_skeleton = m.0;
      head_typed = m.1;
    }

-- the type of the head
pub function_of : (Σ : Signature) (e : Equation) (k : Head) (A : LfType) → LeftFits Σ e → AreAlike e → HasHead e.left k → RigidHeadHasType Σ e.local k A → HasFunction Σ e A
function_of Σ e k A f v (S, is) t =
    let (c, (I, at)) = type_is_atom (declared_skeletons Σ f.declared) (local_skeletons e.local []) e.left k S e.of_type is f.left_typed in
    record {
      head = v.head;
      left = v.left;
      right = v.right;
      family = c;
      indices = I;
      typed = subst (λ h. RigidHeadHasType Σ e.local h A) (sym (same_head e.left v.head k v.left S v.left_is is)) t;
      left_is = v.left_is;
      right_is = v.right_is ∙ ap (λ h. root h v.right) (sym v.heads.0);
      type_is = at;
    }

-- a head with a skeleton has a type
pub constant_declared : (Σ : Signature) (D : List LfType) (h : Head) (c : ℕ) → h ≡ constant c → None ≡ Σ.types c → HeadFits Σ D h → ⊥
constant_declared Σ D h c is n f =
    let g : type_skeleton (Σ.types c) ≡ Some f.head_skeleton = subst (λ k. HeadSkeleton (declared_skeletons Σ f.declared) (local_skeletons D []) k f.head_skeleton) is f.head_typed in
    let no : None ≡ Some f.head_skeleton = ap type_skeleton n ∙ g in
    absurd cc

declared_at : (D : List LfType) (i : ℕ) (t : Skeleton) → SkeletonAt (local_skeletons D []) i t → None ≡ slice_get D i → ⊥
declared_at [] i t g n = g
declared_at (A ∷ D) zero t g n = absurd cc
declared_at (A ∷ D) (suc i) t g n = declared_at D i t g n

pub variable_declared : (Σ : Signature) (D : List LfType) (h : Head) (i : ℕ) → h ≡ variable i → None ≡ slice_get D i → HeadFits Σ D h → ⊥
variable_declared Σ D h i is n f = declared_at D i f.head_skeleton (subst (λ k. HeadSkeleton (declared_skeletons Σ f.declared) (local_skeletons D []) k f.head_skeleton) is f.head_typed) n

pub not_flexible : (Σ : Signature) (D : List LfType) (h : Head) (m : ℕ) → h ≡ metavariable m → HeadFits Σ D h → ⊥
not_flexible Σ D h m is f = subst IsRigidHead is f.rigid

pub variable_below : (D : List LfType) (i : ℕ) (B : LfType) → Some B ≡ slice_get D i → i < length D
variable_below [] i B e = absurd cc
variable_below (A ∷ D) zero B e = omega arith
variable_below (A ∷ D) (suc i) B e = let l : i < length D = variable_below D i B e in omega arith

-- the skeleton of the head's type takes the arguments of the left side
left_arguments : (Σ : Signature) (ok : IsSignature Σ) (e : Equation) (A : LfType) (f : LeftFits Σ e) (g : HasFunction Σ e A) → SpineSkeleton (declared_skeletons Σ f.declared) (local_skeletons e.local []) g.left (skeleton A) (base g.family)
left_arguments Σ ok e A f g =
    let κ = declared_skeletons Σ f.declared in
    let Γ = local_skeletons e.local [] in
    let typed : TermSkeleton κ Γ (root g.head g.left) (skeleton (atom g.family g.indices)) = subst (λ X. TermSkeleton κ Γ (root g.head g.left) (skeleton X)) g.type_is (subst (λ M. TermSkeleton κ Γ M (skeleton e.of_type)) g.left_is f.left_typed) in
    let at : typed.0 ≡ skeleton A = head_once Σ f.declared ok Γ g.head typed.0 (skeleton A) typed.1 (head_skeleton Σ f.declared ok (λ β. Unit {0}) e.local g.head A (g.typed.1 f.declared)) in
    subst (λ t. SpineSkeleton κ Γ g.left t (base g.family)) at typed.2

-- and those of the right side
pub right_arguments : (Σ : Signature) (ok : IsSignature Σ) (e : Equation) (A : LfType) (f : LeftFits Σ e) (g : HasFunction Σ e A) → TermSkeleton (declared_skeletons Σ f.declared) (local_skeletons e.local []) e.right (skeleton e.of_type) → SpineSkeleton (declared_skeletons Σ f.declared) (local_skeletons e.local []) g.left (skeleton A) (base g.family) × SpineSkeleton (declared_skeletons Σ f.declared) (local_skeletons e.local []) g.right (skeleton A) (base g.family)
right_arguments Σ ok e A f g r = (
  left_arguments Σ ok e A f g,
  left_arguments Σ ok (record { local = e.local; left = e.right; right = e.left; of_type = e.of_type }) A (record { declared = f.declared; locals = f.locals; left_typed = r })
      (record { head = g.head; left = g.right; right = g.left; family = g.family; indices = g.indices; typed = g.typed; left_is = g.right_is; right_is = g.left_is; type_is = g.type_is }),
)

-- the arguments of the left side fit the type of its head
pub arguments_fit : (Σ : Signature) (ok : IsSignature Σ) (e : Equation) (A : LfType) (S : Spine) → LeftFits Σ e → HasFunction Σ e A → HasArguments e.left S → ArgumentsFit e.local A S
arguments_fit Σ ok e A S f g (k, is) =
    let κ = declared_skeletons Σ f.declared in
    let Γ = local_skeletons e.local [] in
    let same : g.left ≡ S = root_arguments e.left g.head k g.left S g.left_is is in
    record {
      signature = Σ;
      declared = f.declared;
      result = base g.family;
      type_typed = rigid_by_skeletons Σ f.declared ok (λ β. Unit {0}) e.local g.head A g.typed.0 f.locals (g.typed.1 f.declared);
      spine_typed = subst (λ T. SpineSkeleton κ Γ T (skeleton A) (base g.family)) same (left_arguments Σ ok e A f g);
    }

-- Where the type of an argument is deep, so is that of its equation: each argument of the left side has one on the right.
pub deep_argument : (κ : HeadSkeletons) (Γ : List Skeleton) (D : List LfType) (k c : ℕ) (fs : List Equation) (A : LfType) (S T : Spine) → SpineSkeleton κ Γ S (skeleton A) (base c) → SpineSkeleton κ Γ T (skeleton A) (base c) → AnyDeep k (domains A S) →
    (x : Equation) × Member x (followed (argument_equations D A S T) fs) × (k < type_depth x.of_type)
deep_argument κ Γ D k c fs (pi A B) (app M S) (app N T) (m, s) (n, t) (inl d) = (record { local = D; left = M; right = N; of_type = A }, inl refl, d)
deep_argument κ Γ D k c fs (pi A B) (app M S) (app N T) (m, s) (n, t) (inr d) =
    let e = sym (skeleton_substituted reduce (single (skeleton A) M) B) in
    let (x, i, h) = deep_argument κ Γ D k c fs (instantiate_type A M B) S T (subst (λ a. SpineSkeleton κ Γ S a (base c)) e s) (subst (λ a. SpineSkeleton κ Γ T a (base c)) e t) d in
    (x, inr i, h)
deep_argument κ Γ D k c fs (pi A B) (app M S) nil s t d = absurd cc
deep_argument κ Γ D k c fs (pi A B) nil T s t d = absurd d
deep_argument κ Γ D k c fs (atom a I) S T s t d = absurd d

-- a fault of reading the types of the arguments off
pub blames_arguments : (Σ : Signature) (e : Equation) (A : LfType) (S : Spine) (f : UnifyFault) → HasFunction Σ e A → HasArguments e.left S → (f ≡ TooDeep → AnyDeep most_levels (domains A S)) → BlamesArguments f Σ e
blames_arguments Σ e A S TooDeep g (k, is) d = (A, g, subst (λ X. AnyDeep most_levels (domains A X)) (sym (root_arguments e.left g.head k g.left S g.left_is is)) (d refl))
blames_arguments Σ e A S NoMemory g h d = tt

pub decomposed : (Σ : Signature) (e : Equation) (A : LfType) (S T : Spine) (args old new : List Equation) → HasFunction Σ e A → HasArguments e.left S → HasArguments e.right T → args ≡ argument_equations e.local A S T → new ≡ followed args old → Decomposes Σ e old new
decomposed Σ e A S T args old new g (h, l) (k, r) a n = record {
  head = g.head;
  head_type = A;
  left = g.left;
  right = g.right;
  family = g.family;
  indices = g.indices;
  typed = g.typed;
  is = three e.local e.left e.right e.of_type (root g.head g.left) (root g.head g.right) (atom g.family g.indices) g.left_is g.right_is g.type_is;
  gives = n ∙ ap (λ es. followed es old) (a ∙ ap (λ X. argument_equations e.local A X T) (root_arguments e.left h g.head S g.left l g.left_is) ∙ ap (λ X. argument_equations e.local A g.left X) (root_arguments e.right k g.head T g.right r g.right_is));
}
