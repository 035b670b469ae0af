-- The forms of explicit texts: each is resolved, its canonical form completes it, and no other completion is there.
use Rattle.std.proofs.Common.{◌≡◌, ℕ, zero, suc, List, [], ◌∷◌, Bool, false, None, Some, if◌then◌else◌, refl, sym, ap, ap₂, ◌∙◌, subst}
use Rattle.lf.specs.Entries.{Entry, declare_constant, declare_definition, declare_family, entry, signature_of}
use Rattle.lf.specs.Eta.{add_last, eta_expand}
use Rattle.lf.specs.SkeletonTyping.{HeadSkeleton, HeadSkeletons, SpineSkeleton, TermSkeleton}
use Rattle.lf.specs.Skeletons.{constant_skeletons, context_skeletons, type_skeleton}
use Rattle.lf.specs.Substitution.{reduce, single, substitute, substitute_kind, substitute_spine}
use Rattle.lf.specs.Syntax.{Head, Kind, LfType, Skeleton, Spine, Term as LfTerm, app, atom, constant, kind_pi, lambda as lf_lambda, lift_renaming, metavariable, nil, pi as lf_pi, rename, rename_head, rename_kind, rename_spine, rename_type, root, skeleton, star as lf_star, variable, weaken}
use Rattle.lf.specs.Typing.{HeadHasType, IsSignature, TypeAt, instantiate_kind, instantiate_type}
use Rattle.lf.specs.Variables.{onto}
use Rattle.lf.proofs.Closed.{closed_kind_renamed, closed_type_renamed}
use Rattle.lf.proofs.Decidability.{variable_type_unique}
use Rattle.lf.proofs.Eta.{single_eta, substitute_eta_expand}
use Rattle.lf.proofs.Renaming.{substitute_identity_spine, substitute_renamed_spine}
use Rattle.lf.proofs.Strength.{rename_instance}
use Rattle.lf.proofs.ToSkeletons.{variable_has_skeleton}
use Rattle.lf.proofs.TypeLaws.{rename_single_kind, skeleton_renamed, skeleton_substituted}
use Rattle.lf_unification.proofs.Eta.{SpineSkeleton-add_last, rename_add_last}
use Rattle.lf_elaboration.specs.Completions.{Completes, CompletesDomain, CompletesFamily, CompletesKind, CompletesType, FreeValue, KindTakesAny, TakesAny, any_next, any_none, applied_completed, arrow_completed, bound_completed, constant_completed, definition_completed, family_applied_completed, family_ascribed_completed, family_completed, family_name_completed, function_completed, kind_any_next, kind_any_none, kind_arrow_completed, kind_quantified_completed, quantified_completed, star_completed, type_completed}
use Rattle.lf_elaboration.specs.Written as forms
use Rattle.lf_elaboration.specs.Written.{Place as WrittenPlace, Written, WrittenDomain, WrittenKind, WrittenType}
use Rattle.tw_approx.specs.Readings.{Reading, and_then, found}
use Rattle.tw_approx.proofs.Sequences.{given}
use Rattle.law_explicit_form.specs.Completion.{then as behind}
use Rattle.tw_names.specs.Scope.{binder_name, named}
use Rattle.tw_lexer.specs.declared.place.Place.{Place}
use Rattle.tw_parse.specs.Syntax.{Domain, Term, application, arrow, lambda, pi, star, typed}
use Rattle.tw_resolve.specs.Resolving.{is_type_hole, made, on_argument, resolved_domain, resolved_family, resolved_kind, resolved_name, resolved_term, resolved_type, with_both}
use Rattle.tw_fixity.specs.Names.{Names, variable_of}
use Rattle.tw_written.specs.View.{place_of}
use Rattle.law_explicit_agrees.proofs.Bare.{NameIsBare}
use Rattle.law_explicit_agrees.proofs.Fitting.{constant_is, family_is, some_is}
use Rattle.law_explicit_agrees.proofs.Views.{View, constant_back, kind_moved_over, moved_over, named_back, onto_nothing, same_placed, variable_within, view_by, view_under}

pub then_is_last : (S : Spine) (M : LfTerm) → behind S M ≡ add_last S M
then_is_last nil M = refl
then_is_last (app N S) M = ap (app N) (then_is_last S M)

add_last_substituted : (a : Skeleton) (Q : LfTerm) (S : Spine) (N : LfTerm) → substitute_spine reduce (single a Q) (add_last S N) ≡ add_last (substitute_spine reduce (single a Q) S) (substitute reduce (single a Q) N)
add_last_substituted a Q nil N = refl
add_last_substituted a Q (app M S) N = ap (app (substitute reduce (single a Q) M)) (add_last_substituted a Q S N)

weakened_spine : (a : Skeleton) (Q : LfTerm) (S : Spine) → substitute_spine reduce (single a Q) (rename_spine suc S) ≡ S
weakened_spine a Q S = substitute_renamed_spine reduce (single a Q) suc S ∙ substitute_identity_spine reduce S

-- a head that takes one argument more
module _ (κ : HeadSkeletons) (Γ : List Skeleton) (a b : Skeleton) (Q : LfTerm) (q : TermSkeleton κ Γ Q a) (S : Spine) where
  abbrev longer : Spine
  longer = add_last (rename_spine suc S) (eta_expand a (variable zero) nil)

  longer_is : substitute_spine reduce (single a Q) longer ≡ add_last S Q
  longer_is = add_last_substituted a Q (rename_spine suc S) (eta_expand a (variable zero) nil) ∙ ap₂ add_last (weakened_spine a Q S) (single_eta κ a Γ Q q)

  pub one_more : (h : Head) → substitute reduce (single a Q) (eta_expand b (rename_head suc h) (add_last (rename_spine suc S) (eta_expand a (variable zero) nil))) ≡ eta_expand b h (add_last S Q)
  one_more (constant c) = substitute_eta_expand (single a Q) b (constant c) (constant c) longer refl ∙ ap (eta_expand b (constant c)) longer_is
  one_more (metavariable m) = substitute_eta_expand (single a Q) b (metavariable m) (metavariable m) longer refl ∙ ap (eta_expand b (metavariable m)) longer_is
  one_more (variable i) = substitute_eta_expand (single a Q) b (variable (suc i)) (variable i) longer refl ∙ ap (eta_expand b (variable i)) longer_is

pub renamed_kind_instance : (ρ : ℕ → ℕ) (X : LfType) (Q : LfTerm) (Z : Kind) → rename_kind ρ (instantiate_kind X Q Z) ≡ instantiate_kind (rename_type ρ X) (rename ρ Q) (rename_kind (lift_renaming ρ) Z)
renamed_kind_instance ρ X Q Z = rename_single_kind ρ (skeleton X) Q Z ∙ ap (λ a. substitute_kind reduce (single a (rename ρ Q)) (rename_kind (lift_renaming ρ) Z)) (sym (skeleton_renamed ρ X))

pi_parts : {A A' B B' : LfType} → lf_pi A B ≡ lf_pi A' B' → (A ≡ A') × (B ≡ B')
pi_parts e = (cc, cc)

kind_parts : {A A' : LfType} {K K' : Kind} → kind_pi A K ≡ kind_pi A' K' → (A ≡ A') × (K ≡ K')
kind_parts e = (cc, cc)

lambda_part : {R R' : LfTerm} → lf_lambda R ≡ lf_lambda R' → R ≡ R'
lambda_part e = cc

root_parts : {h h' : Head} {S S' : Spine} → h ≡ h' → S ≡ S' → root h S ≡ root h' S'
root_parts e f = ap₂ root e f

atom_spine : {a b : ℕ} {S T : Spine} → atom a S ≡ atom b T → (a ≡ b) × (S ≡ T)
atom_spine e = (cc, cc)

-- two parts, one behind the other, that take nothing
pub both_read : {A B C : Type 0} (make : A → B → List Skeleton → Reading C) (r : Reading A) (f : List Skeleton → Reading B) (a : A) (b : B) (c : C) (o : List Skeleton) → r ≡ Some (a, o) → f o ≡ Some (b, o) → make a b o ≡ Some (c, o) → with_both make r f ≡ Some (c, o)
both_read make r f a b c o d e g = ap (λ x. and_then x (λ u p. and_then (f p) (make u))) d ∙ ap (λ x. and_then x (make a)) e ∙ g

module _ (es : List Entry) where
  -- Only this term, of this type, completes it, whatever is free.
  abbrev pub OnlyTerm : List LfType → Written → LfTerm → LfType → Type 0
  OnlyTerm D M R A = (F : List LfType) (vs : List FreeValue) (R' : LfTerm) (A' : LfType) → Completes es F vs D M R' A' → (R' ≡ R) × (A' ≡ A)

  abbrev pub OnlyDomain : List LfType → WrittenDomain → LfType → Type 0
  OnlyDomain D d A = (F : List LfType) (vs : List FreeValue) (A' : LfType) → CompletesDomain es F vs D d A' → A' ≡ A

  abbrev pub OnlyType : List LfType → WrittenType → LfType → Type 0
  OnlyType D U A = (F : List LfType) (vs : List FreeValue) (A' : LfType) → CompletesType es F vs D U A' → A' ≡ A

  abbrev pub OnlyFamily : List LfType → WrittenType → ℕ → Spine → Kind → Type 0
  OnlyFamily D U a S K = (F : List LfType) (vs : List FreeValue) (b : ℕ) (T : Spine) (L : Kind) → CompletesFamily es F vs D U b T L → (b ≡ a) × (T ≡ S) × (L ≡ K)

  abbrev pub OnlyKind : List LfType → WrittenKind → Kind → Type 0
  OnlyKind D k K = (F : List LfType) (vs : List FreeValue) (K' : Kind) → CompletesKind es F vs D k K' → K' ≡ K

  -- a type that is a family on arguments is completed as a family is
  abbrev pub IsOfFamily : List LfType → WrittenType → Type 0
  IsOfFamily D U = (F : List LfType) (vs : List FreeValue) (A : LfType) → CompletesType es F vs D U A → (b : ℕ) × (T : Spine) × (A ≡ atom b T) × CompletesFamily es F vs D U b T lf_star

  module _ {N : Names} {G : List LfType} (v : View N G) where
    -- a term that gives R of the type C, where its type is A without the variables of arrows
    pub record TermAt (P : Term) (R : LfTerm) (A : LfType) : Type 0 where
      pub written : Written
      pub resolved : (o : List Skeleton) → resolved_term es [] v.names P o ≡ Some (written, o)
      pub term : LfTerm
      pub term_is : R ≡ rename v.place term
      pub by_skeleton : TermSkeleton (constant_skeletons (signature_of es)) (context_skeletons v.context) term (skeleton A)
      pub completes : Completes es [] [] v.context written term A
      pub only : OnlyTerm v.context written term A

    pub record SpineAt (P : Term) (h : Head) (S : Spine) (A : LfType) : Type 0 where
      pub written : Written
      pub resolved : (o : List Skeleton) → resolved_term es [] v.names P o ≡ Some (written, o)
      pub head : Head
      pub head_is : h ≡ rename_head v.place head
      pub spine : Spine
      pub spine_is : S ≡ rename_spine v.place spine
      pub start : Skeleton
      pub head_skeleton : HeadSkeleton (constant_skeletons (signature_of es)) (context_skeletons v.context) head start
      pub spine_skeleton : SpineSkeleton (constant_skeletons (signature_of es)) (context_skeletons v.context) spine start (skeleton A)
      pub completes : Completes es [] [] v.context written (eta_expand (skeleton A) head spine) A
      pub only : OnlyTerm v.context written (eta_expand (skeleton A) head spine) A

    pub record FamilyAt (P : Term) (a : ℕ) (S : Spine) (K : Kind) : Type 0 where
      pub written : WrittenType
      pub resolved : (o : List Skeleton) → resolved_type es [] v.names P o ≡ Some (written, o)
      pub no_hole : is_type_hole written ≡ false
      pub spine : Spine
      pub spine_is : S ≡ rename_spine v.place spine
      pub completes : CompletesFamily es [] [] v.context written a spine K
      pub only : OnlyFamily v.context written a spine K
      pub of_family : IsOfFamily v.context written

    pub record TypeAs (U : Term) (A : LfType) : Type 0 where
      pub written : WrittenType
      pub resolved : (o : List Skeleton) → resolved_type es [] v.names U o ≡ Some (written, o)
      pub completes : CompletesType es [] [] v.context written A
      pub only : OnlyType v.context written A

    pub record DomainAs (at : WrittenPlace) (d : Domain) (A : LfType) : Type 0 where
      pub written : WrittenDomain
      pub resolved : (o : List Skeleton) → resolved_domain es [] v.names at d o ≡ Some (written, o)
      pub completes : CompletesDomain es [] [] v.context written A
      pub only : OnlyDomain v.context written A

    pub record KindAs (U : Term) (K : Kind) : Type 0 where
      pub written : WrittenKind
      pub resolved : (o : List Skeleton) → resolved_kind es [] v.names U o ≡ Some (written, o)
      pub completes : CompletesKind es [] [] v.context written K
      pub only : OnlyKind v.context written K

    abbrev pub TermDone : Term → LfType → LfTerm → Type 0
    TermDone P C R = (A : LfType) × (C ≡ rename_type v.place A) × TermAt P R A

    abbrev pub SpineDone : Term → Head → Spine → LfType → Type 0
    SpineDone P h S C = (A : LfType) × (C ≡ rename_type v.place A) × SpineAt P h S A

    abbrev pub FamilyDone : Term → ℕ → Spine → Kind → Type 0
    FamilyDone P a S L = (K : Kind) × (L ≡ rename_kind v.place K) × FamilyAt P a S K

    abbrev pub TypeDone : Term → LfType → Type 0
    TypeDone U C = (A : LfType) × (C ≡ rename_type v.place A) × TypeAs U A

    abbrev pub DomainDone : WrittenPlace → Domain → LfType → Type 0
    DomainDone at d C = (A : LfType) × (C ≡ rename_type v.place A) × DomainAs at d A

    abbrev pub KindDone : Term → Kind → Type 0
    KindDone U L = (K : Kind) × (L ≡ rename_kind v.place K) × KindAs U K

  -- names

  constant_only : (D : List LfType) (at : WrittenPlace) (c : ℕ) (e : Entry) (C : LfType) → entry es c ≡ Some e → e.body ≡ declare_constant C → e.implicit ≡ zero → OnlyTerm D (forms.declared c at) (eta_expand (skeleton C) (constant c) nil) C
  constant_only D at c e C k b i F vs R' X (constant_completed {e = e'} {B = B'} {A = A'} {S = S'} k' b' t) =
      let p : e' ≡ e = some_is (sym k' ∙ k) in
      let h : B' ≡ C = (let x : declare_constant B' ≡ declare_constant C = sym b' ∙ ap (λ (x : Entry). x.body) p ∙ b in cc) in
      let t' : TakesAny es F zero D B' S' A' = subst (λ n. TakesAny es F n D B' S' A') (ap (λ (x : Entry). x.implicit) p ∙ i) t in
      let (q, r) = none_taken F t' refl in
      (ap₂ (λ X Y. eta_expand (skeleton X) (constant c) Y) (r ∙ h) q, r ∙ h)
    where
      none_taken : (F : List LfType) {k : ℕ} {D : List LfType} {B A : LfType} {S : Spine} → TakesAny es F k D B S A → k ≡ zero → (S ≡ nil) × (A ≡ B)
      none_taken F any_none e = (refl, refl)
      none_taken F (any_next m u) e = absurd cc
  constant_only D at c e C k b i F vs R' X (definition_completed {e = e'} {N = M'} {B = B'} {b = f'} k' b' t) =
      let p : e' ≡ e = some_is (sym k' ∙ k) in
      let x : declare_definition M' B' f' ≡ declare_constant C = sym b' ∙ ap (λ (x : Entry). x.body) p ∙ b in
      absurd cc

  bound_only : (D : List LfType) (j : ℕ) (A : LfType) → TypeAt (onto D []) j A → OnlyTerm D (forms.bound j) (eta_expand (skeleton A) (variable j) nil) A
  bound_only D j A t F vs R' X (bound_completed {A = A'} t') =
      let p : A' ≡ A = variable_type_unique (onto D []) j A' A t' t in
      (ap (λ X. eta_expand (skeleton X) (variable j) nil) p, p)

  family_only : (D : List LfType) (at : WrittenPlace) (a : ℕ) (e : Entry) (K : Kind) → entry es a ≡ Some e → e.body ≡ declare_family K → e.implicit ≡ zero → OnlyFamily D (forms.family a at) a nil K
  family_only D at a e K k b i F vs b₁ T Z (family_name_completed {e = e'} {K = K'} {L = L} {S = S'} k' b' t) =
      let p : e' ≡ e = some_is (sym k' ∙ k) in
      let h : K' ≡ K = (let x : declare_family K' ≡ declare_family K = sym b' ∙ ap (λ (x : Entry). x.body) p ∙ b in cc) in
      let t' : KindTakesAny es F zero D K' S' L = subst (λ n. KindTakesAny es F n D K' S' L) (ap (λ (x : Entry). x.implicit) p ∙ i) t in
      let (q, r) = none_taken F t' refl in
      (refl, q, r ∙ h)
    where
      none_taken : (F : List LfType) {k : ℕ} {D : List LfType} {K L : Kind} {S : Spine} → KindTakesAny es F k D K S L → k ≡ zero → (S ≡ nil) × (L ≡ K)
      none_taken F kind_any_none e = (refl, refl)
      none_taken F (kind_any_next m u) e = absurd cc

  family_named_is : (D : List LfType) (at : WrittenPlace) (a : ℕ) → IsOfFamily D (forms.family a at)
  family_named_is D at a F vs A (family_completed {a = b} {S = T} c) = (b, T, refl, c)

  family_applied_is : (D : List LfType) (U : WrittenType) (P : Written) → IsOfFamily D (forms.family_applied U P)
  family_applied_is D U P F vs A (family_completed {a = b} {S = T} c) = (b, T, refl, c)

  module _ (ok : IsSignature (signature_of es)) {N : Names} {G : List LfType} (v : View N G) where
    head_done : (at : WrittenPlace) (x : List ℕ) (P : Term) → ((o : List Skeleton) → resolved_term es [] v.names P o ≡ found (resolved_name at (named es v.names x) (variable_of [] x)) o)
        → (k : Head) → named es v.names x ≡ Some k → (C : LfType) → HeadHasType (signature_of es) G (rename_head v.place k) C → NameIsBare es (Some k) → (h : Head) → h ≡ rename_head v.place k → (S : Spine) → S ≡ nil → SpineDone v P h S C
    head_done at x P r (constant c) n C t b h g S s =
        let (e, d, f) = constant_is (entry es c) C t in (
          C,
          sym (closed_type_renamed (signature_of es) v.place C (ok.types_ok c C t)),
          record {
            written = forms.declared c at;
            resolved = λ o. r o ∙ ap (λ k. found (resolved_name at k (variable_of [] x)) o) n;
            head = constant c;
            head_is = g;
            spine = nil;
            spine_is = s;
            start = skeleton C;
            head_skeleton = ap type_skeleton t;
            spine_skeleton = refl;
            completes = constant_completed d f (subst (λ i. TakesAny es [] i v.context C nil C) (sym (b e d)) any_none);
            only = constant_only v.context at c e C d f (b e d);
          },
        )
    head_done at x P r (variable j) n C t b h g S s =
        let (A, a) = variable_within es N G v x j n in
        let a' : TypeAt (onto v.context []) j A = subst (λ E. TypeAt E j A) (sym (onto_nothing v.context)) a in (
          A,
          variable_type_unique G (v.place j) C (rename_type v.place A) t (v.typed j A a),
          record {
            written = forms.bound j;
            resolved = λ o. r o ∙ ap (λ k. found (resolved_name at k (variable_of [] x)) o) n;
            head = variable j;
            head_is = g;
            spine = nil;
            spine_is = s;
            start = skeleton A;
            head_skeleton = variable_has_skeleton v.context j A a;
            spine_skeleton = refl;
            completes = bound_completed a';
            only = bound_only v.context j A a';
          },
        )
    head_done at x P r (metavariable m) n C t b h g S s = absurd t

    pub name_done : (at : WrittenPlace) (x : List ℕ) (P : Term) → ((o : List Skeleton) → resolved_term es [] v.names P o ≡ found (resolved_name at (named es v.names x) (variable_of [] x)) o)
        → (h : Head) (S : Spine) (C : LfType) → named es N x ≡ Some h → HeadHasType (signature_of es) G h C → S ≡ nil → NameIsBare es (named es N x) → SpineDone v P h S C
    name_done at x P r h S C n t s b =
        let (k, m, g) = named_back es N G v x h n in
        head_done at x P r k m C (subst (λ y. HeadHasType (signature_of es) G y C) g t) (bare k (subst (NameIsBare es) (n ∙ ap Some g) b)) h g S s
      where
        bare : (k : Head) → NameIsBare es (Some (rename_head v.place k)) → NameIsBare es (Some k)
        bare (constant c) i = i
        bare (variable i) j = tt
        bare (metavariable m) i = i

    pub family_name_done : (at : WrittenPlace) (x : List ℕ) (P : Term) → ((o : List Skeleton) → resolved_type es [] v.names P o ≡ found (resolved_family at (named es v.names x)) o)
        → (a : ℕ) (S : Spine) (L : Kind) → named es N x ≡ Some (constant a) → (signature_of es).kinds a ≡ Some L → S ≡ nil → NameIsBare es (named es N x) → FamilyDone v P a S L
    family_name_done at x P r a S L n t s b =
        let (k, m, g) = named_back es N G v x (constant a) n in
        let m' : named es v.names x ≡ Some (constant a) = m ∙ ap Some (constant_back v.place a k g) in
        let (e, d, f) = family_is (entry es a) L t in
        let i : e.implicit ≡ zero = subst (NameIsBare es) n b e d in (
          L,
          sym (closed_kind_renamed (signature_of es) v.place L (ok.kinds_ok a L t)),
          record {
            written = forms.family a at;
            resolved = λ o. r o ∙ ap (λ k. found (resolved_family at k) o) m';
            no_hole = refl;
            spine = nil;
            spine_is = s;
            completes = family_name_completed d f (subst (λ i. KindTakesAny es [] i v.context L nil L) (sym i) kind_any_none);
            only = family_only v.context at a e L d f i;
            of_family = family_named_is v.context at a;
          },
        )

  -- a head with all its arguments
  pub root_done : {N : Names} {G : List LfType} (v : View N G) (P : Term) (h : Head) (S : Spine) (a : ℕ) (T : Spine) → SpineDone v P h S (atom a T) → TermDone v P (atom a T) (root h S)
  root_done v P h S a T (lf_pi A B, e, s) = absurd cc
  root_done v P h S a T (atom b U, e, s) = (
    atom b U,
    e,
    record {
      written = s.written;
      resolved = s.resolved;
      term = root s.head s.spine;
      term_is = root_parts s.head_is s.spine_is;
      by_skeleton = (s.start, s.head_skeleton, s.spine_skeleton);
      completes = s.completes;
      only = s.only;
    },
  )

  -- arguments

  applied_only : (D : List LfType) (M P : Written) (A B : LfType) (R Q : LfTerm) → OnlyTerm D M (lf_lambda R) (lf_pi A B) → OnlyTerm D P Q A → OnlyTerm D (forms.applied M P) (substitute reduce (single (skeleton A) Q) R) (instantiate_type A Q B)
  applied_only D M P A B R Q f g F vs R' A' (applied_completed {A = X} {B = Y} {R = T} {Q = Z} c d) =
      let (p, q) = f F vs (lf_lambda T) (lf_pi X Y) c in
      let (i, j) = pi_parts q in
      let (k, l) = g F vs Z X d in
      (ap (λ a. substitute reduce (single (skeleton a) Z) T) i ∙ ap₂ (λ x y. substitute reduce (single (skeleton A) x) y) k (lambda_part p), ap (λ a. instantiate_type a Z Y) i ∙ ap₂ (instantiate_type A) k j)

  family_applied_only : (D : List LfType) (U : WrittenType) (P : Written) (a : ℕ) (S : Spine) (A : LfType) (K : Kind) (Q : LfTerm) → OnlyFamily D U a S (kind_pi A K) → OnlyTerm D P Q A → OnlyFamily D (forms.family_applied U P) a (add_last S Q) (instantiate_kind A Q K)
  family_applied_only D U P a S A K Q f g F vs b T L (family_applied_completed {S = S'} {A = X} {K = Y} {Q = Z} c d) =
      let (p, q, r) = f F vs b S' (kind_pi X Y) c in
      let (i, j) = kind_parts r in
      let (k, l) = g F vs Z X d in
      (p, ap₂ add_last q k, ap (λ a. instantiate_kind a Z Y) i ∙ ap₂ (instantiate_kind A) k j)

  module _ {N : Names} {G : List LfType} (v : View N G) where
    -- an argument has the type that is due
    argument_at : (P : Term) (A X Y : LfType) (R : LfTerm) → A ≡ rename_type v.place X → A ≡ rename_type v.place Y → TermAt v P R Y → TermAt v P R X
    argument_at P A X Y R e f t = subst (TermAt v P R) (same_placed N G v Y X (sym f ∙ e)) t

    pub applied_done : (M P : Term) (h : Head) (U : Spine) (A B : LfType) (R : LfTerm) (S : Spine) (C : LfType) → SpineDone v M h U (lf_pi A B) → TermDone v P A R → S ≡ behind U R → C ≡ instantiate_type A R B → SpineDone v (application M P) h S C
    applied_done M P h U A B R S C (atom b T, e, s) (Y, f, t) i j = absurd cc
    applied_done M P h U A B R S C (lf_pi X Z, e, s) (Y, f, t) i j =
        let (a, b) = pi_parts e in
        let u : TermAt v P R X = argument_at P A X Y R a f t in
        let κ : HeadSkeletons = constant_skeletons (signature_of es) in
        let Γ : List Skeleton = context_skeletons v.context in
        let z : skeleton (instantiate_type X u.term Z) ≡ skeleton Z = skeleton_substituted reduce (single (skeleton X) u.term) Z in
        let more = one_more κ Γ (skeleton X) (skeleton Z) u.term u.by_skeleton s.spine s.head ∙ ap (λ k. eta_expand k s.head (add_last s.spine u.term)) (sym z) in (
          instantiate_type X u.term Z,
          j ∙ ap₂ (λ x y. instantiate_type x y B) a u.term_is ∙ ap (instantiate_type (rename_type v.place X) (rename v.place u.term)) b ∙ sym (rename_instance v.place X u.term Z),
          record {
            written = forms.applied s.written u.written;
            resolved = λ o. both_read (made forms.applied) (resolved_term es [] v.names M o) (resolved_term es [] v.names P) s.written u.written (forms.applied s.written u.written) o (s.resolved o) (u.resolved o) refl;
            head = s.head;
            head_is = s.head_is;
            spine = add_last s.spine u.term;
            spine_is = i ∙ then_is_last U R ∙ ap₂ add_last s.spine_is u.term_is ∙ sym (rename_add_last v.place s.spine u.term);
            start = s.start;
            head_skeleton = s.head_skeleton;
            spine_skeleton = subst (SpineSkeleton κ Γ (add_last s.spine u.term) s.start) (sym z) (SpineSkeleton-add_last κ Γ s.spine u.term s.start (skeleton X) (skeleton Z) s.spine_skeleton u.by_skeleton);
            completes = subst (λ T. Completes es [] [] v.context (forms.applied s.written u.written) T (instantiate_type X u.term Z)) more (applied_completed s.completes u.completes);
            only = subst (λ T. OnlyTerm v.context (forms.applied s.written u.written) T (instantiate_type X u.term Z)) more (applied_only v.context s.written u.written X Z (eta_expand (skeleton Z) (rename_head suc s.head) (add_last (rename_spine suc s.spine) (eta_expand (skeleton X) (variable zero) nil))) u.term s.only u.only);
          },
        )

    on_argument_is : (U : WrittenType) (Q : Written) (o : List Skeleton) → is_type_hole U ≡ false → on_argument U Q o ≡ Some (forms.family_applied U Q, o)
    on_argument_is U Q o h = ap (λ (b : Bool). if b then None else given (forms.family_applied U Q) o) h

    pub family_applied_done : (M P : Term) (a : ℕ) (U : Spine) (A : LfType) (K : Kind) (R : LfTerm) (S : Spine) (L : Kind) → FamilyDone v M a U (kind_pi A K) → TermDone v P A R → S ≡ behind U R → L ≡ instantiate_kind A R K → FamilyDone v (application M P) a S L
    family_applied_done M P a U A K R S L (lf_star, e, s) (Y, f, t) i j = absurd cc
    family_applied_done M P a U A K R S L (kind_pi X Z, e, s) (Y, f, t) i j =
        let (x, z) = kind_parts e in
        let u : TermAt v P R X = argument_at P A X Y R x f t in (
          instantiate_kind X u.term Z,
          j ∙ ap₂ (λ x y. instantiate_kind x y K) x u.term_is ∙ ap (instantiate_kind (rename_type v.place X) (rename v.place u.term)) z ∙ sym (renamed_kind_instance v.place X u.term Z),
          record {
            written = forms.family_applied s.written u.written;
            resolved = λ o. both_read on_argument (resolved_type es [] v.names M o) (resolved_term es [] v.names P) s.written u.written (forms.family_applied s.written u.written) o (s.resolved o) (u.resolved o) (on_argument_is s.written u.written o s.no_hole);
            no_hole = refl;
            spine = add_last s.spine u.term;
            spine_is = i ∙ then_is_last U R ∙ ap₂ add_last s.spine_is u.term_is ∙ sym (rename_add_last v.place s.spine u.term);
            completes = family_applied_completed s.completes u.completes;
            only = family_applied_only v.context s.written u.written a s.spine X Z u.term s.only u.only;
            of_family = family_applied_is v.context s.written u.written;
          },
        )

    -- a family with all its arguments is a type
    pub atom_done : (P : Term) (a : ℕ) (S : Spine) → FamilyDone v P a S lf_star → TypeDone v P (atom a S)
    atom_done P a S (kind_pi X Z, e, s) = absurd cc
    atom_done P a S (lf_star, e, s) = (
      atom a s.spine,
      ap (atom a) s.spine_is,
      record {
        written = s.written;
        resolved = s.resolved;
        completes = family_completed s.completes;
        only = λ F vs A' c. let (b, T, g, d) = s.of_family F vs A' c in let (p, q, r) = s.only F vs b T lf_star d in g ∙ ap₂ atom p q;
      },
    )

    pub typed_done : (at : WrittenPlace) (U : Term) (A : LfType) → TypeDone v U A → DomainDone v at (typed U) A
    typed_done at U A (X, e, t) = (
      X,
      e,
      record {
        written = forms.of_type t.written;
        resolved = λ o. ap (λ r. and_then r (λ V p. given (forms.of_type V) p)) (t.resolved o);
        completes = type_completed t.completes;
        only = λ F vs A' c. typed_only F vs t.written X t.only c;
      },
    )
      where
        typed_only : (F : List LfType) (vs : List FreeValue) (V : WrittenType) (X : LfType) → OnlyType v.context V X → {A' : LfType} → CompletesDomain es F vs v.context (forms.of_type V) A' → A' ≡ X
        typed_only F vs V X f (type_completed {A = A'} c) = f F vs A' c

  -- what is completed as a family has the form of one
  abbrev pub IsFamilyForm : WrittenType → Type 0
  IsFamilyForm (forms.family a at) = Unit {0}
  IsFamilyForm (forms.family_applied U P) = Unit {0}
  IsFamilyForm (forms.family_ascribed U k) = Unit {0}
  IsFamilyForm _ = ⊥

  pub family_form : {F : List LfType} {vs : List FreeValue} {D : List LfType} {U : WrittenType} {a : ℕ} {S : Spine} {K : Kind} → CompletesFamily es F vs D U a S K → IsFamilyForm U
  family_form (family_name_completed k b t) = tt
  family_form (family_applied_completed c d) = tt
  family_form (family_ascribed_completed k c) = tt

  -- binders

  function_only : (D : List LfType) (d : WrittenDomain) (M : Written) (A B : LfType) (R : LfTerm) → OnlyDomain D d A → OnlyTerm (A ∷ D) M R B → OnlyTerm D (forms.function d M) (lf_lambda R) (lf_pi A B)
  function_only D d M A B R f g F vs R' A' (function_completed {A = X} {B = Y} {R = T} c m) =
      let p : X ≡ A = f F vs X c in
      let (q, r) = g F vs T Y (subst (λ x. Completes es F vs (x ∷ D) M T Y) p m) in
      (ap lf_lambda q, ap₂ lf_pi p r)

  quantified_only : (D : List LfType) (d : WrittenDomain) (V : WrittenType) (A B : LfType) → OnlyDomain D d A → OnlyType (A ∷ D) V B → OnlyType D (forms.quantified d V) (lf_pi A B)
  quantified_only D d V A B f g F vs A' (quantified_completed {A = X} {B = Y} c m) =
      let p : X ≡ A = f F vs X c in
      ap₂ lf_pi p (g F vs Y (subst (λ x. CompletesType es F vs (x ∷ D) V Y) p m))
  quantified_only D d V A B f g F vs A' (family_completed c) = absurd (family_form c)

  arrow_only : (D : List LfType) (U V : WrittenType) (A B : LfType) → OnlyType D U A → OnlyType D V B → OnlyType D (forms.arrow U V) (lf_pi A (weaken B))
  arrow_only D U V A B f g F vs A' (arrow_completed {A = X} {B = Y} c m) = ap₂ lf_pi (f F vs X c) (ap weaken (g F vs Y m))
  arrow_only D U V A B f g F vs A' (family_completed c) = absurd (family_form c)

  kind_quantified_only : (D : List LfType) (d : WrittenDomain) (k : WrittenKind) (A : LfType) (K : Kind) → OnlyDomain D d A → OnlyKind (A ∷ D) k K → OnlyKind D (forms.kind_quantified d k) (kind_pi A K)
  kind_quantified_only D d k A K f g F vs K' (kind_quantified_completed {A = X} {K = Y} c m) =
      let p : X ≡ A = f F vs X c in
      ap₂ kind_pi p (g F vs Y (subst (λ x. CompletesKind es F vs (x ∷ D) k Y) p m))

  kind_arrow_only : (D : List LfType) (U : WrittenType) (k : WrittenKind) (A : LfType) (K : Kind) → OnlyType D U A → OnlyKind D k K → OnlyKind D (forms.kind_arrow U k) (kind_pi A (rename_kind suc K))
  kind_arrow_only D U k A K f g F vs K' (kind_arrow_completed {A = X} {K = Y} c m) = ap₂ kind_pi (f F vs X c) (ap (rename_kind suc) (g F vs Y m))

  star_only : (D : List LfType) → OnlyKind D forms.written_star lf_star
  star_only D F vs K' star_completed = refl

  module _ {N : Names} {G : List LfType} (v : View N G) where
    pub lambda_done : (x : List ℕ) (at : Place) (d : Domain) (M : Term) (A B : LfType) (R : LfTerm) (X : LfType) (e : A ≡ rename_type v.place X) → DomainAs v (place_of at) d X → TermDone (view_under (binder_name x) N G v A X e) M B R → TermDone v (lambda x at d M) (lf_pi A B) (lf_lambda R)
    lambda_done x at d M A B R X e t (Y, f, u) = (
      lf_pi X Y,
      ap₂ lf_pi e f,
      record {
        written = forms.function t.written u.written;
        resolved = λ o. both_read (made forms.function) (resolved_domain es [] v.names (place_of at) d o) (resolved_term es [] (binder_name x ∷ v.names) M) t.written u.written (forms.function t.written u.written) o (t.resolved o) (u.resolved o) refl;
        term = lf_lambda u.term;
        term_is = ap lf_lambda u.term_is;
        by_skeleton = u.by_skeleton;
        completes = function_completed t.completes u.completes;
        only = function_only v.context t.written u.written X Y u.term t.only u.only;
      },
    )

    pub pi_done : (x : List ℕ) (at : Place) (d : Domain) (V : Term) (A B : LfType) (X : LfType) (e : A ≡ rename_type v.place X) → DomainAs v (place_of at) d X → TypeDone (view_under (binder_name x) N G v A X e) V B → TypeDone v (pi x at d V) (lf_pi A B)
    pi_done x at d V A B X e t (Y, f, u) = (
      lf_pi X Y,
      ap₂ lf_pi e f,
      record {
        written = forms.quantified t.written u.written;
        resolved = λ o. both_read (made forms.quantified) (resolved_domain es [] v.names (place_of at) d o) (resolved_type es [] (binder_name x ∷ v.names) V) t.written u.written (forms.quantified t.written u.written) o (t.resolved o) (u.resolved o) refl;
        completes = quantified_completed t.completes u.completes;
        only = quantified_only v.context t.written u.written X Y t.only u.only;
      },
    )

    pub arrow_done : (U V : Term) (A B : LfType) → TypeDone v U A → TypeDone (view_by N G v A) V B → TypeDone v (arrow U V) (lf_pi A B)
    arrow_done U V A B (X, e, t) (Y, f, u) = (
      lf_pi X (weaken Y),
      ap₂ lf_pi e (f ∙ moved_over v.place Y),
      record {
        written = forms.arrow t.written u.written;
        resolved = λ o. both_read (made forms.arrow) (resolved_type es [] v.names U o) (resolved_type es [] v.names V) t.written u.written (forms.arrow t.written u.written) o (t.resolved o) (u.resolved o) refl;
        completes = arrow_completed t.completes u.completes;
        only = arrow_only v.context t.written u.written X Y t.only u.only;
      },
    )

    pub kind_pi_done : (x : List ℕ) (at : Place) (d : Domain) (V : Term) (A : LfType) (K : Kind) (X : LfType) (e : A ≡ rename_type v.place X) → DomainAs v (place_of at) d X → KindDone (view_under (binder_name x) N G v A X e) V K → KindDone v (pi x at d V) (kind_pi A K)
    kind_pi_done x at d V A K X e t (Y, f, u) = (
      kind_pi X Y,
      ap₂ kind_pi e f,
      record {
        written = forms.kind_quantified t.written u.written;
        resolved = λ o. both_read (made forms.kind_quantified) (resolved_domain es [] v.names (place_of at) d o) (resolved_kind es [] (binder_name x ∷ v.names) V) t.written u.written (forms.kind_quantified t.written u.written) o (t.resolved o) (u.resolved o) refl;
        completes = kind_quantified_completed t.completes u.completes;
        only = kind_quantified_only v.context t.written u.written X Y t.only u.only;
      },
    )

    pub kind_arrow_done : (U V : Term) (A : LfType) (K : Kind) → TypeDone v U A → KindDone (view_by N G v A) V K → KindDone v (arrow U V) (kind_pi A K)
    kind_arrow_done U V A K (X, e, t) (Y, f, u) = (
      kind_pi X (rename_kind suc Y),
      ap₂ kind_pi e (f ∙ kind_moved_over v.place Y),
      record {
        written = forms.kind_arrow t.written u.written;
        resolved = λ o. both_read (made forms.kind_arrow) (resolved_type es [] v.names U o) (resolved_kind es [] v.names V) t.written u.written (forms.kind_arrow t.written u.written) o (t.resolved o) (u.resolved o) refl;
        completes = kind_arrow_completed t.completes u.completes;
        only = kind_arrow_only v.context t.written u.written X Y t.only u.only;
      },
    )

    pub star_done : KindDone v star lf_star
    star_done = (lf_star, refl, record { written = forms.written_star; resolved = λ o. refl; completes = star_completed; only = star_only v.context })
