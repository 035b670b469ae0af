-- What is shown has skeletons.
use Rattle.std.proofs.Common.{◌≡◌, ℕ, zero, suc, ◌≤◌, List, [], ◌∷◌, length, drop, Bool, true, false, cond, Option, Some, None, Result, Ok, Err, IfOk, refl, sym, ap, ◌∙◌, subst, arith}
use Rattle.std.specs.List.{slice_get}
use Rattle.std.proofs.lemmas.Bool.{cond-true, cond-false}
use mathlib.Core.Path.{fun_ext}
use Rattle.lf.specs.Syntax.{Head, constant, variable, metavariable, Term, lambda, root, Spine, nil, app, LfType, pi, atom, Kind, kind_pi, star, Skeleton, base, arrow, skeleton, kind_skeleton, weaken, rename_type}
use Rattle.lf.specs.Substitution.{Image, lift, single, substitute_type, substitute_kind, reduce}
use Rattle.lf.specs.AtOnce.{shift_by}
use Rattle.lf.specs.Typing.{Signature, TypeAt, HasType, IsType, IsContext, instantiate_type, instantiate_kind}
use Rattle.lf.specs.SkeletonTyping.{HeadSkeletons, HeadSkeleton, SpineSkeleton, TypeBySkeletons, KindBySkeletons}
use Rattle.lf.specs.Skeletons.{constant_skeletons, family_skeletons, context_skeletons, type_skeleton, family_skeleton}
use Rattle.lf.specs.Entries.{Entry, Body, declare_family, declare_constant, declare_definition, entry, type_of, kind_of, signature_of, BodyIsTyped, IsCanonicalSignature}
use Rattle.lf.specs.Variables.{same_number}
use Rattle.lf.proofs.Checker.{number_is, number_itself}
use Rattle.lf.proofs.Entries.{canonical_is_signature}
use Rattle.lf.proofs.SkeletonTyping.{single_by_skeletons}
use Rattle.lf.proofs.SkeletonTypes.{renaming_keeps_types_by_skeletons, single_type_by_skeletons, single_kind_by_skeletons}
use Rattle.lf.proofs.Substitution.{constant_type, family_kind}
use Rattle.lf.proofs.ToSkeletons.{skeleton_has_variable, kind_skeleton_substituted, typed_has_skeleton, type_by_skeletons, kind_by_skeletons}
use Rattle.lf.proofs.TypeLaws.{renamings_compose_type, skeleton_substituted}
use Rattle.tw_hered.specs.Fits.{TypeFits}
use Rattle.tw_print.specs.Names.{Scene}
use Rattle.tw_print.specs.Arguments.{Argument, with_type, arguments, bare_arguments, kind_as_type, type_or, kind_or, variable_type, head_type, family_type}
use Rattle.tw_print.specs.ArgumentView.{any_lambda}
use Rattle.tw_print.specs.Showable.{HasSkeleton, IsShowableType, IsShowableKind, IsShowableContext, IsShowable, AreShowable, Takes}

one_is_suc : shift_by (suc zero) ≡ suc
one_is_suc = fun_ext (λ i. omega arith)

next_is_suc : (n : ℕ) → shift_by (suc n) ≡ (λ i. suc (shift_by n i))
next_is_suc n = fun_ext (λ i. omega arith)

moved : (o : Option LfType) (i : ℕ) → weaken (variable_type o i) ≡ variable_type o (suc i)
moved (Some D) i = renamings_compose_type suc (shift_by (suc i)) D ∙ sym (ap (λ ρ. rename_type ρ D) (next_is_suc (suc i)))
moved None i = refl

variable_at : (G : List LfType) (i : ℕ) (B : LfType) → TypeAt G i B → B ≡ variable_type (slice_get G i) i
variable_at [] i B h = absurd h
variable_at (X ∷ G) zero B e = e ∙ sym (ap (λ ρ. rename_type ρ X) one_is_suc)
variable_at (X ∷ G) (suc i) B (C, h, e) = e ∙ ap weaken (variable_at G i C h) ∙ moved (slice_get G i) i

-- the entries have no entry of the number that the next one gets
pub past : (es : List Entry) (n : ℕ) → length es ≤ n → entry es n ≡ None
past [] n h = refl
past (e ∷ es) n h = cond-false _ _ _ (unlike (same_number n (length es)) (λ k. let i = number_is n (length es) k in omega (arith, i))) ∙ past es n (omega arith)
  where
    unlike : (b : Bool) → (b ≡ true → ⊥) → b ≡ false
    unlike true f = absurd (f refl)
    unlike false f = refl

-- the skeletons of families with one more
with_family : ℕ → (ℕ → Option Skeleton) → ℕ → Option Skeleton
with_family d φ b = cond (same_number b d) (Some (base d)) (φ b)

none_is_not_some : {X : Type 0} {x : X} → None ≡ Some x → ⊥
none_is_not_some e = cc

family_stays : (d : ℕ) (φ : ℕ → Option Skeleton) (a : ℕ) (t : Skeleton) → φ d ≡ None → φ a ≡ Some t → with_family d φ a ≡ Some t
unfolding with_family
family_stays d φ a t n e = under (same_number a d) refl
  where
    under : (b : Bool) → same_number a d ≡ b → cond (same_number a d) (Some (base d)) (φ a) ≡ Some t
    under true k = absurd (none_is_not_some (sym n ∙ ap φ (sym (number_is a d k)) ∙ e))
    under false k = cond-false _ _ _ k ∙ e

grow : (d : ℕ) (φ : ℕ → Option Skeleton) (κ : HeadSkeletons) (Γ : List Skeleton) (A : LfType) → φ d ≡ None → TypeBySkeletons φ κ Γ A → TypeBySkeletons (with_family d φ) κ Γ A
grow d φ κ Γ (pi A B) n (a, b) = (grow d φ κ Γ A n a, grow d φ κ (skeleton A ∷ Γ) B n b)
grow d φ κ Γ (atom a S) n (t, e, s) = (t, family_stays d φ a t n e, s)

kind_as_type_by_skeletons : (d : ℕ) (φ : ℕ → Option Skeleton) (κ : HeadSkeletons) (Γ : List Skeleton) (K : Kind) → φ d ≡ None → KindBySkeletons φ κ Γ K → TypeBySkeletons (with_family d φ) κ Γ (kind_as_type d K)
unfolding with_family
kind_as_type_by_skeletons d φ κ Γ (kind_pi A K) n (a, k) = (grow d φ κ Γ A n a, kind_as_type_by_skeletons d φ κ (skeleton A ∷ Γ) K n k)
kind_as_type_by_skeletons d φ κ Γ star n k = (base d, cond-true _ _ _ (number_itself d), refl)

substituted_kind : (d : ℕ) (σ : ℕ → Image) (K : Kind) → kind_as_type d (substitute_kind reduce σ K) ≡ substitute_type reduce σ (kind_as_type d K)
substituted_kind d σ (kind_pi A K) = ap (pi (substitute_type reduce σ A)) (substituted_kind d (lift σ) K)
substituted_kind d σ star = refl

-- a variable's type, in its context
declared_showable : (Σ : Signature) (G : List LfType) (i : ℕ) (A : LfType) → IsShowableContext Σ G → TypeAt G i A → IsShowableType Σ G A
declared_showable Σ [] i A g h = absurd h
declared_showable Σ (X ∷ G) zero A (g, a) e =
    subst (IsShowableType Σ (X ∷ G)) (sym e) (renaming_keeps_types_by_skeletons (family_skeletons Σ) (constant_skeletons Σ) (context_skeletons G) (context_skeletons (X ∷ G)) suc X (λ i t h. h) a)
declared_showable Σ (X ∷ G) (suc i) A (g, a) (C, h, e) =
    subst (IsShowableType Σ (X ∷ G)) (sym e)
    (renaming_keeps_types_by_skeletons (family_skeletons Σ) (constant_skeletons Σ) (context_skeletons G) (context_skeletons (X ∷ G)) suc C (λ i t h. h) (declared_showable Σ G i C g h))

module _ (Σ : Signature) (G : List LfType) where
  fits_one : (φ : ℕ → Option Skeleton) (A : LfType) (M : Term) (B : LfType) → HasSkeleton Σ G M (skeleton A) → TypeBySkeletons φ (constant_skeletons Σ) (skeleton A ∷ context_skeletons G) B → TypeFits (single (skeleton A) M) B
  fits_one φ A M B m b = record {
    families = φ;
    heads = constant_skeletons Σ;
    context = skeleton A ∷ context_skeletons G;
    target = context_skeletons G;
    substitution_typed = single_by_skeletons (constant_skeletons Σ) (skeleton A) (context_skeletons G) M m;
    type_typed = b;
  }

  takes : (S : Spine) (A : LfType) (c : ℕ) → IsShowableType Σ G A → SpineSkeleton (constant_skeletons Σ) (context_skeletons G) S (skeleton A) (base c) → Takes Σ G S A
  takes nil A c a s = tt
  takes (app M S) (pi A B) c (a, b) (m, s) = (
    a,
    m,
    fits_one (family_skeletons Σ) A M B m b,
    takes S (instantiate_type A M B) c (single_type_by_skeletons (family_skeletons Σ) (constant_skeletons Σ) (skeleton A) (context_skeletons G) M B m b)
        (subst (λ t. SpineSkeleton (constant_skeletons Σ) (context_skeletons G) S t (base c)) (sym (skeleton_substituted reduce (single (skeleton A) M) B)) s),
  )
  takes (app M S) (atom b T) c a s = absurd s

  takes_kind : (d : ℕ) → family_skeletons Σ d ≡ None → (S : Spine) (K : Kind) (c : ℕ) → IsShowableKind Σ G K → SpineSkeleton (constant_skeletons Σ) (context_skeletons G) S (kind_skeleton c K) (base c) → Takes Σ G S (kind_as_type d K)
  takes_kind d n nil K c k s = tt
  takes_kind d n (app M S) (kind_pi A K) c (a, k) (m, s) = (
    a,
    m,
    fits_one (with_family d (family_skeletons Σ)) A M (kind_as_type d K) m (kind_as_type_by_skeletons d (family_skeletons Σ) (constant_skeletons Σ) (skeleton A ∷ context_skeletons G) K n k),
    subst (Takes Σ G S) (substituted_kind d (single (skeleton A) M) K)
        (takes_kind d n S (instantiate_kind A M K) c (single_kind_by_skeletons (family_skeletons Σ) (constant_skeletons Σ) (skeleton A) (context_skeletons G) M K m k)
        (subst (λ t. SpineSkeleton (constant_skeletons Σ) (context_skeletons G) S t (base c)) (sym (kind_skeleton_substituted c reduce (single (skeleton A) M) K)) s)),
  )
  takes_kind d n (app M S) star c k s = absurd s

-- the arguments that a type takes can be shown
one_showable : (Σ : Signature) (G : List LfType) (M : Term) (A : LfType) → IsShowableType Σ G A → HasSkeleton Σ G M (skeleton A) → IsShowable Σ G (with_type M A).0 (with_type M A).1
one_showable Σ G (lambda M) A a m = (a, m)
one_showable Σ G (root h S) A a m = (skeleton A, m)

pub showable_arguments : (Σ : Signature) (G : List LfType) (S : Spine) (A : LfType) → Takes Σ G S A → AreShowable Σ G (arguments A S)
showable_arguments Σ G nil A t = tt
showable_arguments Σ G (app M S) (pi A B) (a, m, f, t) = (one_showable Σ G M A a m, showable_arguments Σ G S (instantiate_type A M B) t)
showable_arguments Σ G (app M S) (atom b T) t = absurd t

pub showable_drop : (Σ : Signature) (G : List LfType) (n : ℕ) (xs : List Argument) → AreShowable Σ G xs → AreShowable Σ G (drop n xs)
showable_drop Σ G zero xs h = h
showable_drop Σ G (suc n) [] h = h
showable_drop Σ G (suc n) (x ∷ xs) (h, k) = showable_drop Σ G n xs k

-- a spine without lambdas needs no types
pub bare : (S : Spine) (A : LfType) → any_lambda S ≡ false → arguments A S ≡ bare_arguments S
bare nil A h = refl
bare (app (lambda M) S) A h = absurd cc
bare (app (root k T) S) (pi A B) h = ap (λ x. (root k T, None) ∷ x) (bare S (instantiate_type A (root k T) B) h)
bare (app (root k T) S) (atom a U) h = ap (λ x. (root k T, None) ∷ x) (bare S (atom a U) h)

-- the parts of what can be shown
module _ (s : Scene) (G : List LfType) (c : IsCanonicalSignature s.entries) (g : IsShowableContext (signature_of s.entries) G) where
  -- a head has a type of its skeleton
  record HeadType (h : Head) (t : Skeleton) : Type 0 where
    pub ty : LfType
    pub is : head_type s G h ≡ ty
    pub skeleton_is : skeleton ty ≡ t
    pub showable : IsShowableType (signature_of s.entries) G ty

  head_showable : (h : Head) (t : Skeleton) → HeadSkeleton (constant_skeletons (signature_of s.entries)) (context_skeletons G) h t → HeadType h t
  head_showable (constant k) t e = of_constant (type_of (entry s.entries k)) refl e
    where
      of_constant : (o : Option LfType) → type_of (entry s.entries k) ≡ o → type_skeleton o ≡ Some t → HeadType (constant k) t
      of_constant None q f = absurd (none_is_not_some f)
      of_constant (Some A) q f =
          let ok = canonical_is_signature s.entries c in
          record { ty = A; is = ap type_or q; skeleton_is = (let w : skeleton A ≡ t = cc in w); showable = type_by_skeletons (signature_of s.entries) G A (constant_type (signature_of s.entries) ok G k A q) }
  head_showable (variable i) t e =
      let v = skeleton_has_variable G i t e in
      record { ty = v.0; is = sym (variable_at G i v.0 v.1); skeleton_is = v.2; showable = declared_showable (signature_of s.entries) G i v.0 g v.1 }
  head_showable (metavariable m) t e = absurd (none_is_not_some e)

  pub root_takes : (h : Head) (S : Spine) (t : Option LfType) → IsShowable (signature_of s.entries) G (root h S) t → Takes (signature_of s.entries) G S (head_type s G h)
  root_takes h S t (arrow a b, m) = absurd m
  root_takes h S t (base a, (b, k, m)) =
      let o = head_showable h b k in
      subst (Takes (signature_of s.entries) G S) (sym o.is) (takes (signature_of s.entries) G S o.ty a o.showable (subst (λ u. SpineSkeleton (constant_skeletons (signature_of s.entries)) (context_skeletons G) S u (base a)) (sym o.skeleton_is) m))

  family_takes_kind : (a : ℕ) (S : Spine) (o : Option Kind) (t : Skeleton) → kind_of (entry s.entries a) ≡ o → family_skeleton a o ≡ Some t → SpineSkeleton (constant_skeletons (signature_of s.entries)) (context_skeletons G) S t (base a)
      → Takes (signature_of s.entries) G S (family_type s a)
  family_takes_kind a S None t e f m = absurd (none_is_not_some f)
  family_takes_kind a S (Some K) t e f m =
      let ok = canonical_is_signature s.entries c in
      let same : kind_skeleton a K ≡ t = cc in
      subst (λ L. Takes (signature_of s.entries) G S (kind_as_type (length s.entries) L)) (sym (ap kind_or e))
      (takes_kind (signature_of s.entries) G (length s.entries) (ap (λ o. family_skeleton (length s.entries) (kind_of o)) (past s.entries (length s.entries) (omega arith))) S K a
      (kind_by_skeletons (signature_of s.entries) G K (family_kind (signature_of s.entries) ok G a K e))
      (subst (λ u. SpineSkeleton (constant_skeletons (signature_of s.entries)) (context_skeletons G) S u (base a)) (sym same) m))

  pub family_takes : (a : ℕ) (S : Spine) → IsShowableType (signature_of s.entries) G (atom a S) → Takes (signature_of s.entries) G S (family_type s a)
  family_takes a S (t, e, m) = family_takes_kind a S (kind_of (entry s.entries a)) t refl e m

pub lambda_domain : (Σ : Signature) (G : List LfType) (M : Term) (A B : LfType) → IsShowable Σ G (lambda M) (Some (pi A B)) → IsShowableType Σ G A
lambda_domain Σ G M A B (t, m) = t.0

pub lambda_body : (Σ : Signature) (G : List LfType) (M : Term) (A B : LfType) → IsShowable Σ G (lambda M) (Some (pi A B)) → IsShowable Σ (A ∷ G) M (Some B)
lambda_body Σ G (lambda M) A B (t, m) = (t.1, m)
lambda_body Σ G (root h S) A B (t, m) = (skeleton B, m)

-- what is typed can be shown
pub context_showable : (Σ : Signature) (G : List LfType) → IsContext Σ G → IsShowableContext Σ G
context_showable Σ [] g = tt
context_showable Σ (A ∷ G) (g, a) = (context_showable Σ G g, type_by_skeletons Σ G A a)

pub type_showable : (Σ : Signature) (G : List LfType) (A : LfType) → IsType Σ G A → IsShowableType Σ G A
type_showable Σ G A a = type_by_skeletons Σ G A a

pub term_showable : (Σ : Signature) (G : List LfType) (M : Term) (A : LfType) → IsShowableType Σ G A → HasSkeleton Σ G M (skeleton A) → IsShowable Σ G M (Some A)
term_showable Σ G (lambda M) A a m = (a, m)
term_showable Σ G (root h S) A a m = (skeleton A, m)

pub typed_showable : (Σ : Signature) (G : List LfType) (M : Term) (A : LfType) → IsType Σ G A → HasType Σ G M A → IsShowable Σ G M (Some A)
typed_showable Σ G M A a m = term_showable Σ G M A (type_by_skeletons Σ G A a) (typed_has_skeleton Σ G M A m)

-- the same up to equations
pub takes_by : (Σ : Signature) (G : List LfType) (S T : Spine) (A B : LfType) → Takes Σ G S A → T ≡ S → B ≡ A → Takes Σ G T B
takes_by Σ G S T A B t e f = subst (λ X. Takes Σ G X B) (sym e) (subst (Takes Σ G S) (sym f) t)

pub arguments_by : (xs : List Argument) (S T : Spine) (A B : LfType) → xs ≡ arguments B T → T ≡ S → B ≡ A → xs ≡ arguments A S
arguments_by xs S T A B h e f = h ∙ ap (arguments B) e ∙ ap (λ X. arguments X S) f

pub bare_by : (xs : List Argument) (S T : Spine) (A : LfType) → xs ≡ bare_arguments T → T ≡ S → any_lambda T ≡ false → xs ≡ arguments A S
bare_by xs S T A h e n = h ∙ sym (bare T A n) ∙ ap (arguments A) e

pub context_grows : (Σ : Signature) (G : List LfType) (A : LfType) → IsShowableContext Σ G → IsShowableType Σ G A → IsShowableContext Σ (A ∷ G)
context_grows Σ G A g a = (g, a)

pub if_ok : {T E : Type 0} (r : Result T E) (P Q : T → Type 0) → ((x : T) → P x → Q x) → IfOk r P → IfOk r Q
if_ok (Ok x) P Q f h = f x h
if_ok (Err e) P Q f h = h

-- in the scene and the context of a page
pub context_shown : (s r : Scene) (G D : List LfType) → s ≡ r → D ≡ G → IsContext (signature_of r.entries) G → IsShowableContext (signature_of s.entries) D
context_shown s r G D e f g = subst (λ z. IsShowableContext (signature_of z.entries) D) (sym e) (subst (IsShowableContext (signature_of r.entries)) (sym f) (context_showable (signature_of r.entries) G g))

pub type_shown : (s r : Scene) (G D : List LfType) (A : LfType) → s ≡ r → D ≡ G → IsType (signature_of r.entries) G A → IsShowableType (signature_of s.entries) D A
type_shown s r G D A e f a = subst (λ z. IsShowableType (signature_of z.entries) D A) (sym e) (subst (λ X. IsShowableType (signature_of r.entries) X A) (sym f) (type_showable (signature_of r.entries) G A a))

pub term_shown : (s r : Scene) (G D : List LfType) (M : Term) (A : LfType) → s ≡ r → D ≡ G → IsType (signature_of r.entries) G A → HasType (signature_of r.entries) G M A → IsShowable (signature_of s.entries) D M (Some A)
term_shown s r G D M A e f a m = subst (λ z. IsShowable (signature_of z.entries) D M (Some A)) (sym e) (subst (λ X. IsShowable (signature_of r.entries) X M (Some A)) (sym f) (typed_showable (signature_of r.entries) G M A a m))

-- the parts of a declaration
pub family_shown : (Σ : Signature) (b : Body) (K : Kind) → b ≡ declare_family K → BodyIsTyped Σ b → IsShowableKind Σ [] K
family_shown Σ b K e t = kind_by_skeletons Σ [] K (subst (BodyIsTyped Σ) e t)

pub constant_shown : (Σ : Signature) (b : Body) (A : LfType) → b ≡ declare_constant A → BodyIsTyped Σ b → IsShowableType Σ [] A
constant_shown Σ b A e t = type_by_skeletons Σ [] A (subst (BodyIsTyped Σ) e t)

pub defined_shown : (Σ : Signature) (b : Body) (M : Term) (A : LfType) (short : Bool) → b ≡ declare_definition M A short → BodyIsTyped Σ b → IsShowableType Σ [] A × IsShowable Σ [] M (Some A)
defined_shown Σ b M A short e t = let u = subst (BodyIsTyped Σ) e t in (type_by_skeletons Σ [] A u.0, typed_showable Σ [] M A u.0 u.1)
