-- What completes an explicit text in the sense of the theory is what the text gives.
use Rattle.std.proofs.Common.{◌≡◌, ℕ, zero, suc, List, [], ◌∷◌, option_map, slice_get, Bool, true, false, Option, None, Some, if◌then◌else◌, refl, sym, ap, ap₂, ◌∙◌, subst}
use Rattle.lf.specs.Entries.{Body, Entry, IsCanonicalSignature, declare_constant, declare_definition, declare_family, entry, kind_of, kind_of_body, signature_of, type_of, type_of_body}
use Rattle.lf.specs.Eta.{add_last, eta_expand}
use Rattle.lf.specs.SkeletonTyping.{HeadSkeleton, HeadSkeletons, SpineSkeleton, TermSkeleton}
use Rattle.lf.specs.Skeletons.{constant_skeletons, context_skeletons, type_skeleton}
use Rattle.lf.specs.Substitution.{Image, lift, reduce, single, substitute, substitute_kind, substitute_type}
use Rattle.lf.specs.Syntax.{Head, Kind, LfType, Skeleton, Spine, Term as LfTerm, arrow as shape_arrow, atom, base, constant, kind_pi, lambda as lf_lambda, lift_renaming, metavariable, nil, pi as lf_pi, rename, rename_head, rename_kind, rename_spine, rename_type, root, skeleton, star as lf_star, variable}
use Rattle.lf.specs.Typing.{IsSignature, TypeAt, instantiate_type}
use Rattle.lf.proofs.Closed.{closed_kind_renamed, closed_type_renamed}
use Rattle.lf.proofs.Entries.{canonical_is_signature}
use Rattle.lf.proofs.Strength.{rename_instance}
use Rattle.lf.proofs.ToSkeletons.{variable_has_skeleton}
use Rattle.lf.proofs.TypeLaws.{skeleton_substituted}
use Rattle.lf_unification.proofs.Eta.{SpineSkeleton-add_last, rename_add_last, rename_id_type}
use Rattle.lf_elaboration.specs.Completions.{Completes, CompletesDomain, CompletesFamily, CompletesKind, CompletesType, FreeValue, KindTakesAny, TakesAny, any_next, any_none, applied_completed, arrow_completed, bound_completed, constant_completed, definition_completed, family_applied_completed, family_completed, family_name_completed, function_completed, kind_any_next, kind_any_none, kind_arrow_completed, kind_quantified_completed, quantified_completed, star_completed, type_completed}
use Rattle.lf_elaboration.specs.Principal.{Completion, CompletesBody, IsCompletion, WrittenBody, written_constant, written_family}
use Rattle.lf_elaboration.specs.Written as forms
use Rattle.lf_elaboration.specs.Written.{Place as WrittenPlace, Written, WrittenDomain, WrittenKind, WrittenType}
use Rattle.tw_approx.specs.Answer.{Rows}
use Rattle.tw_approx.specs.Readings.{Reading, and_then, found}
use Rattle.tw_approx.proofs.Sequences.{and_then_parts, given, parts_of}
use Rattle.tw_approx.proofs.Unifying.{both_true}
use Rattle.law_explicit_form.specs.Explicit.{IsExplicit}
use Rattle.tw_names.specs.Texts.{ends_in_type}
use Rattle.law_explicit_form.specs.Completion as explicit
use Rattle.law_explicit_form.specs.Completion.{BodyGiven, DomainGives, FamilyGives, KindGives, SpineGives, TermGives, TypeGives}
use Rattle.tw_names.specs.Texts.{hints}
use Rattle.law_explicit_form.specs.Form.{Shape, domain_shape, entry_shape, explicit_shape, head_shape, is_domain_form, is_point, is_term_form, is_type_form, kind_shape, shape, shape_behind, shape_left, written_shape}
use Rattle.tw_names.specs.Scope.{binder_name, head_named, named}
use Rattle.tw_lexer.specs.declared.place.Place.{Place}
use Rattle.tw_parse.specs.Syntax.{Declaration, Domain, Term, application, arrow, ascription, declare, define, give, hole, identifier, lambda, pi, prefer, star, typed, untyped}
use Rattle.tw_resolve.specs.Resolved.{classifier_read, names_of, resolved_body, skeletons_of, taken_whole, with_one}
use Rattle.tw_resolve.specs.Resolving.{is_type_hole, made, on_argument, resolved_domain, resolved_family, resolved_kind, resolved_name, resolved_term, resolved_type, with_both}
use Rattle.tw_fixity.specs.Names.{Names, variable_of}
use Rattle.tw_signature.specs.Names.{number_of}
use Rattle.tw_written.specs.View.{place_of}
use Rattle.law_explicit_agrees.proofs.Parts.{family_form, one_more, renamed_kind_instance, then_is_last}
use Rattle.law_explicit_agrees.proofs.Views.{View, kind_moved_over, moved_over, onto_nothing, rename_id_kind, view_by, view_empty, view_under}

abbrev shapes : List LfType → List Shape
shapes [] = []
shapes (A ∷ G) = shape A ∷ shapes G

shape_renamed : (ρ : ℕ → ℕ) (A : LfType) → shape (rename_type ρ A) ≡ shape A
shape_renamed ρ (lf_pi A B) = ap₂ shape_arrow (shape_renamed ρ A) (shape_renamed (lift_renaming ρ) B)
shape_renamed ρ (atom a S) = refl

shape_substituted : (σ : ℕ → Image) (A : LfType) → shape (substitute_type reduce σ A) ≡ shape A
shape_substituted σ (lf_pi A B) = ap₂ shape_arrow (shape_substituted σ A) (shape_substituted (lift σ) B)
shape_substituted σ (atom a S) = refl

kind_shape_substituted : (σ : ℕ → Image) (K : Kind) → kind_shape (substitute_kind reduce σ K) ≡ kind_shape K
kind_shape_substituted σ (kind_pi A K) = ap₂ shape_arrow (shape_substituted σ A) (kind_shape_substituted (lift σ) K)
kind_shape_substituted σ lf_star = refl

shape_at : (G : List LfType) (i : ℕ) (A : LfType) → TypeAt G i A → slice_get (shapes G) i ≡ Some (shape A)
shape_at [] i A h = absurd h
shape_at (B ∷ G) zero A h = ap Some (sym (ap shape h ∙ shape_renamed suc B))
shape_at (B ∷ G) (suc i) A (C, h, e) = shape_at G i C h ∙ ap Some (sym (ap shape e ∙ shape_renamed suc C))

some_is : {X : Type 0} {x y : X} → Some x ≡ Some y → x ≡ y
some_is e = cc

arrow_parts : {s t u w : Shape} → shape_arrow s t ≡ shape_arrow u w → (s ≡ u) × (t ≡ w)
arrow_parts e = (cc, cc)

lambda_part : {R R' : LfTerm} → lf_lambda R ≡ lf_lambda R' → R ≡ R'
lambda_part e = cc

pub point_is : (o : Option Shape) → is_point o ≡ true → (c : ℕ) × (o ≡ Some (base c))
point_is None e = absurd cc
point_is (Some (base c)) e = (c, refl)
point_is (Some (shape_arrow s t)) e = absurd cc

pub behind_is : (fits : Shape → Bool) (o : Option Shape) (t : Shape) → shape_behind fits o ≡ Some t → (s : Shape) × (o ≡ Some (shape_arrow s t)) × (fits s ≡ true)
behind_is fits None t e = absurd cc
behind_is fits (Some (base c)) t e = absurd cc
behind_is fits (Some (shape_arrow s u)) t e = by (fits s) refl e
  where
    by : (b : Bool) → fits s ≡ b → (if b then Some u else None) ≡ Some t → (r : Shape) × (Some (shape_arrow s u) ≡ Some (shape_arrow r t)) × (fits r ≡ true)
    by true k h = (s, ap (λ x. Some (shape_arrow s x)) (some_is h), k)
    by false k h = absurd cc

-- the parts of what is resolved
pub both_parts : {A B C : Type 0} (make : A → B → C) (r : Reading A) (f : List Skeleton → Reading B) (c : C) (q : List Skeleton) → with_both (made make) r f ≡ Some (c, q)
    → (a : A) × (p : List Skeleton) × (b : B) × (r ≡ Some (a, p)) × (f p ≡ Some (b, q)) × (c ≡ make a b)
both_parts {A} {B} {C} make r f c q e =
    let (a, p, d, g) = and_then_parts r (λ a p. and_then (f p) (made make a)) c q e in
    let (b, n, h, k) = and_then_parts (f p) (made make a) c q g in
    let same = parts_of (make a b) c n q k in
    (a, p, b, d, subst (λ l. f p ≡ Some (b, l)) same.1 h, sym same.0)

pub argument_parts : (r : Reading WrittenType) (f : List Skeleton → Reading Written) (c : WrittenType) (q : List Skeleton) → with_both on_argument r f ≡ Some (c, q)
    → (a : WrittenType) × (p : List Skeleton) × (b : Written) × (r ≡ Some (a, p)) × (f p ≡ Some (b, q)) × (c ≡ forms.family_applied a b)
argument_parts r f c q e =
    let (a, p, d, g) = and_then_parts r (λ a p. and_then (f p) (on_argument a)) c q e in
    let (b, n, h, k) = and_then_parts (f p) (on_argument a) c q g in
    let same = by a b n (is_type_hole a) k in
    (a, p, b, d, subst (λ l. f p ≡ Some (b, l)) same.1 h, sym same.0)
  where
    by : (a : WrittenType) (b : Written) (n : List Skeleton) (t : Bool) → (if t then None else given (forms.family_applied a b) n) ≡ Some (c, q) → (forms.family_applied a b ≡ c) × (n ≡ q)
    by a b n true k = absurd cc
    by a b n false k = parts_of (forms.family_applied a b) c n q k

-- the shape that is written is that of what is given
module _ (es : List Entry) where
  given_shape : (U : Term) (N : Names) (G : List LfType) (A : LfType) → TypeGives es N G U A → written_shape U ≡ shape A
  given_shape (arrow U V) N G (lf_pi A B) (u, v) = ap₂ shape_arrow (given_shape U N G A u) (given_shape V (None ∷ N) (A ∷ G) B v)
  given_shape (pi x at (typed U) V) N G (lf_pi A B) (d, v) = ap₂ shape_arrow (given_shape U N G A d) (given_shape V (binder_name x ∷ N) (A ∷ G) B v)
  given_shape (pi x at untyped V) N G (lf_pi A B) (d, v) = absurd d
  given_shape (identifier x at) N G (atom a S) g = refl
  given_shape (application M P) N G (atom a S) g = refl
  given_shape U N G A g = absurd g

  given_domain_shape : (D : Domain) (N : Names) (G : List LfType) (A : LfType) → DomainGives es N G D A → domain_shape D ≡ shape A
  given_domain_shape untyped N G A g = absurd g
  given_domain_shape (typed U) N G A g = given_shape U N G A g

  explicit_constant : (n : ℕ) (A : LfType) (u : Shape) → explicit_shape n (declare_constant A) ≡ Some u → (n ≡ zero) × (u ≡ shape A)
  explicit_constant zero A u e = (refl, sym (some_is e))
  explicit_constant (suc n) A u e = absurd cc

  explicit_family : (n : ℕ) (K : Kind) (u : Shape) → explicit_shape n (declare_family K) ≡ Some u → (n ≡ zero) × (u ≡ kind_shape K)
  explicit_family zero K u e = (refl, sym (some_is e))
  explicit_family (suc n) K u e = absurd cc

  explicit_definition : (n : ℕ) (M : LfTerm) (A : LfType) (b : Bool) (u : Shape) → explicit_shape n (declare_definition M A b) ≡ Some u → ⊥
  explicit_definition zero M A b u e = cc
  explicit_definition (suc n) M A b u e = cc

  entry_is : (o : Option Entry) (e : Entry) (b : Body) (u : Shape) → entry_shape o ≡ Some u → o ≡ Some e → e.body ≡ b → explicit_shape e.implicit b ≡ Some u
  entry_is o e b u h k i = sym (ap (explicit_shape e.implicit) i) ∙ sym (ap entry_shape k) ∙ h

  named_forth : (N : Names) (G : List LfType) (v : View N G) (x : List ℕ) (k : Head) → named es v.names x ≡ Some k → named es N x ≡ Some (rename_head v.place k)
  named_forth N G v x k e = ap (λ o. head_named o (number_of es x)) (v.alike x) ∙ by (variable_of v.names x) (number_of es x) e
    where
      by : (o c : Option ℕ) → head_named o c ≡ Some k → head_named (option_map v.place o) c ≡ Some (rename_head v.place k)
      by (Some i) c h = ap (λ z. Some (rename_head v.place z)) (some_is h)
      by None (Some c) h = ap (λ z. Some (rename_head v.place z)) (some_is h)
      by None None h = absurd cc

module _ (es : List Entry) (ok : IsSignature (signature_of es)) (free : Names) (F : List LfType) (vs : List FreeValue) where
  none_taken : {k : ℕ} {D : List LfType} {B A : LfType} {S : Spine} → TakesAny es F k D B S A → k ≡ zero → (S ≡ nil) × (A ≡ B)
  none_taken any_none e = (refl, refl)
  none_taken (any_next m u) e = absurd cc

  none_taken_kind : {k : ℕ} {D : List LfType} {K L : Kind} {S : Spine} → KindTakesAny es F k D K S L → k ≡ zero → (S ≡ nil) × (L ≡ K)
  none_taken_kind kind_any_none e = (refl, refl)
  none_taken_kind (kind_any_next m u) e = absurd cc

  module _ {N : Names} {G : List LfType} (v : View N G) where
    -- a head with its arguments so far, which this completes
    record SpineBack (P : Term) (R : LfTerm) (A : LfType) (u : Shape) : Type 0 where
      pub head : Head
      pub spine : Spine
      pub gives : SpineGives es N G P (rename_head v.place head) (rename_spine v.place spine) (rename_type v.place A)
      pub shape_is : u ≡ shape A
      pub is : R ≡ eta_expand (skeleton A) head spine
      pub start : Skeleton
      pub head_skeleton : HeadSkeleton (constant_skeletons (signature_of es)) (context_skeletons v.context) head start
      pub spine_skeleton : SpineSkeleton (constant_skeletons (signature_of es)) (context_skeletons v.context) spine start (skeleton A)

    abbrev TermBack : Term → LfTerm → LfType → Type 0
    TermBack P R A = TermGives es N G P (rename_type v.place A) (rename v.place R) × TermSkeleton (constant_skeletons (signature_of es)) (context_skeletons v.context) R (skeleton A)

    abbrev FamilyBack : Term → ℕ → Spine → Kind → Shape → Type 0
    FamilyBack P a S K u = FamilyGives es N G P a (rename_spine v.place S) (rename_kind v.place K) × (u ≡ kind_shape K)

    constant_back : (x : List ℕ) (at : Place) (c : ℕ) (p : WrittenPlace) (R : LfTerm) (A : LfType) (u : Shape) → named es v.names x ≡ Some (constant c) → entry_shape (entry es c) ≡ Some u → Completes es F vs v.context (forms.declared c p) R A → SpineBack (identifier x at) R A u
    constant_back x at c p R A u n h (constant_completed {e = e} {B = B} {A = C} {S = S} k b t) =
        let (i, j) = explicit_constant es e.implicit B u (entry_is es (entry es c) e (declare_constant B) u h k b) in
        let (q, r) = none_taken t i in
        let d : type_of (entry es c) ≡ Some B = ap type_of k ∙ ap type_of_body b in
        let d' : type_of (entry es c) ≡ Some C = d ∙ ap Some (sym r) in
        record {
          head = constant c;
          spine = nil;
          gives = (named_forth es N G v x (constant c) n, d' ∙ ap Some (sym (closed_type_renamed (signature_of es) v.place C (ok.types_ok c C d'))), refl);
          shape_is = j ∙ ap shape (sym r);
          is = ap (eta_expand (skeleton C) (constant c)) q;
          start = skeleton C;
          head_skeleton = ap type_skeleton d';
          spine_skeleton = refl;
        }
    constant_back x at c p R A u n h (definition_completed {e = e} {N = M} {B = B} {b = f} k b t) =
        absurd (explicit_definition es e.implicit M B f u (entry_is es (entry es c) e (declare_definition M B f) u h k b))

    variable_back : (x : List ℕ) (at : Place) (j : ℕ) (R : LfTerm) (A : LfType) (u : Shape) → named es v.names x ≡ Some (variable j) → slice_get (shapes v.context) j ≡ Some u → Completes es F vs v.context (forms.bound j) R A → SpineBack (identifier x at) R A u
    variable_back x at j R A u n h (bound_completed {A = C} t) =
        let t' : TypeAt v.context j C = subst (λ E. TypeAt E j C) (onto_nothing v.context) t in
        record {
          head = variable j;
          spine = nil;
          gives = (named_forth es N G v x (variable j) n, v.typed j C t', refl);
          shape_is = some_is (sym h ∙ shape_at v.context j C t');
          is = refl;
          start = skeleton C;
          head_skeleton = variable_has_skeleton v.context j C t';
          spine_skeleton = refl;
        }

    name_back : (x : List ℕ) (at : Place) (p : WrittenPlace) (o : List Skeleton) (w : Written) (q : List Skeleton) (R : LfTerm) (A : LfType) (u : Shape) → (k : Option Head) → named es v.names x ≡ k → head_shape es (shapes v.context) k ≡ Some u → found (resolved_name p k (variable_of free x)) o ≡ Some (w, q)
        → Completes es F vs v.context w R A → SpineBack (identifier x at) R A u
    name_back x at p o w q R A u None n h r c = absurd cc
    name_back x at p o w q R A u (Some (constant a)) n h r c =
        constant_back x at a p R A u n h (subst (λ y. Completes es F vs v.context y R A) (sym (parts_of (forms.declared a p) w o q r).0) c)
    name_back x at p o w q R A u (Some (variable j)) n h r c =
        variable_back x at j R A u n h (subst (λ y. Completes es F vs v.context y R A) (sym (parts_of (forms.bound j) w o q r).0) c)
    name_back x at p o w q R A u (Some (metavariable m)) n h r c = absurd cc

    family_constant_back : (x : List ℕ) (at : Place) (c : ℕ) (p : WrittenPlace) (a : ℕ) (S : Spine) (K : Kind) (u : Shape) → named es v.names x ≡ Some (constant c) → entry_shape (entry es c) ≡ Some u → CompletesFamily es F vs v.context (forms.family c p) a S K → FamilyBack (identifier x at) a S K u
    family_constant_back x at c p a S K u n h (family_name_completed {e = e} {K = L} {L = Z} {S = T} k b t) =
        let (i, j) = explicit_family es e.implicit L u (entry_is es (entry es c) e (declare_family L) u h k b) in
        let (q, r) = none_taken_kind t i in
        let d : kind_of (entry es c) ≡ Some Z = ap kind_of k ∙ ap kind_of_body b ∙ ap Some (sym r) in
        ((named_forth es N G v x (constant c) n, d ∙ ap Some (sym (closed_kind_renamed (signature_of es) v.place Z (ok.kinds_ok c Z d))), ap (rename_spine v.place) q), j ∙ ap kind_shape (sym r))

    family_name_back : (x : List ℕ) (at : Place) (p : WrittenPlace) (o : List Skeleton) (w : WrittenType) (q : List Skeleton) (a : ℕ) (S : Spine) (K : Kind) (u : Shape) → (k : Option Head) → named es v.names x ≡ k → head_shape es (shapes v.context) k ≡ Some u → found (resolved_family p k) o ≡ Some (w, q)
        → CompletesFamily es F vs v.context w a S K → FamilyBack (identifier x at) a S K u
    family_name_back x at p o w q a S K u None n h r c = absurd cc
    family_name_back x at p o w q a S K u (Some (constant b)) n h r c =
        family_constant_back x at b p a S K u n h (subst (λ y. CompletesFamily es F vs v.context y a S K) (sym (parts_of (forms.family b p) w o q r).0) c)
    family_name_back x at p o w q a S K u (Some (variable j)) n h r c = absurd cc
    family_name_back x at p o w q a S K u (Some (metavariable m)) n h r c = absurd cc

    -- a head with all its arguments
    root_back : (P : Term) (R : LfTerm) (A : LfType) (c : ℕ) → ((h : Head) (S : Spine) (a : ℕ) (T : Spine) → SpineGives es N G P h S (atom a T) → TermGives es N G P (atom a T) (root h S)) → SpineBack P R A (base c) → TermBack P R A
    root_back P R (lf_pi A B) c f s = let e = s.shape_is in absurd cc
    root_back P R (atom a T) c f s =
        subst (λ X. TermBack P X (atom a T)) (sym s.is) (f (rename_head v.place s.head) (rename_spine v.place s.spine) a (rename_spine v.place T) s.gives, (s.start, s.head_skeleton, s.spine_skeleton))

    -- an argument more
    applied_back : (M P : Term) (a b : Written) (R : LfTerm) (C : LfType) (s u : Shape) → ((R' : LfTerm) (A' : LfType) → Completes es F vs v.context a R' A' → SpineBack M R' A' (shape_arrow s u)) → ((Q : LfTerm) (A' : LfType) → Completes es F vs v.context b Q A' → TermBack P Q A')
        → Completes es F vs v.context (forms.applied a b) R C → SpineBack (application M P) R C u
    applied_back M P a b R C s u f g (applied_completed {A = A} {B = B} {R = T} {Q = Q} c d) =
        let m : SpineBack M (lf_lambda T) (lf_pi A B) (shape_arrow s u) = f (lf_lambda T) (lf_pi A B) c in
        let (p, q) = g Q A d in
        let κ : HeadSkeletons = constant_skeletons (signature_of es) in
        let Γ : List Skeleton = context_skeletons v.context in
        let z : skeleton (instantiate_type A Q B) ≡ skeleton B = skeleton_substituted reduce (single (skeleton A) Q) B in
        record {
          head = m.head;
          spine = add_last m.spine Q;
          gives = (rename_type v.place A, rename_type (lift_renaming v.place) B, rename_spine v.place m.spine, rename v.place Q, m.gives, p, rename_add_last v.place m.spine Q ∙ sym (then_is_last (rename_spine v.place m.spine) (rename v.place Q)), rename_instance v.place A Q B);
          shape_is = (arrow_parts m.shape_is).1 ∙ sym (shape_substituted (single (skeleton A) Q) B);
          is = ap (substitute reduce (single (skeleton A) Q)) (lambda_part m.is) ∙ one_more κ Γ (skeleton A) (skeleton B) Q q m.spine m.head ∙ ap (λ k. eta_expand k m.head (add_last m.spine Q)) (sym z);
          start = m.start;
          head_skeleton = m.head_skeleton;
          spine_skeleton = subst (SpineSkeleton κ Γ (add_last m.spine Q) m.start) (sym z) (SpineSkeleton-add_last κ Γ m.spine Q m.start (skeleton A) (skeleton B) m.spine_skeleton q);
        }

    family_applied_back : (M P : Term) (a : WrittenType) (b : Written) (c : ℕ) (S : Spine) (K : Kind) (s u : Shape) → ((T : Spine) (L : Kind) → CompletesFamily es F vs v.context a c T L → FamilyBack M c T L (shape_arrow s u)) → ((Q : LfTerm) (A' : LfType) → Completes es F vs v.context b Q A' → TermBack P Q A')
        → CompletesFamily es F vs v.context (forms.family_applied a b) c S K → FamilyBack (application M P) c S K u
    family_applied_back M P a b c S K s u f g (family_applied_completed {S = T} {A = A} {K = L} {Q = Q} i d) =
        let (m, e) = f T (kind_pi A L) i in
        let (p, q) = g Q A d in (
          (rename_type v.place A, rename_kind (lift_renaming v.place) L, rename_spine v.place T, rename v.place Q, m, p, rename_add_last v.place T Q ∙ sym (then_is_last (rename_spine v.place T) (rename v.place Q)), renamed_kind_instance v.place A Q L),
          (arrow_parts e).1 ∙ sym (kind_shape_substituted (single (skeleton A) Q) L),
        )

    -- a type that is a family
    named_type_back : (x : List ℕ) (at : Place) (p : WrittenPlace) (o : List Skeleton) (w : WrittenType) (q : List Skeleton) (A : LfType) (u : Shape) → (k : Option Head) → named es v.names x ≡ k → head_shape es (shapes v.context) k ≡ Some u → found (resolved_family p k) o ≡ Some (w, q)
        → CompletesType es F vs v.context w A → TypeGives es N G (identifier x at) (rename_type v.place A)
    named_type_back x at p o w q A u None n h r c = absurd cc
    named_type_back x at p o w q A u (Some (variable j)) n h r c = absurd cc
    named_type_back x at p o w q A u (Some (metavariable m)) n h r c = absurd cc
    named_type_back x at p o w q A u (Some (constant b)) n h r c = by (subst (λ y. CompletesType es F vs v.context y A) (sym (parts_of (forms.family b p) w o q r).0) c)
      where
        by : {C : LfType} → CompletesType es F vs v.context (forms.family b p) C → TypeGives es N G (identifier x at) (rename_type v.place C)
        by (family_completed {a = a} {S = T} i) = (family_constant_back x at b p a T lf_star u n h i).0

    applied_type_back : (M P : Term) (a : WrittenType) (b : Written) (A : LfType) (s u : Shape) → ((c : ℕ) (T : Spine) (L : Kind) → CompletesFamily es F vs v.context a c T L → FamilyBack M c T L (shape_arrow s u)) → ((Q : LfTerm) (A' : LfType) → Completes es F vs v.context b Q A' → TermBack P Q A')
        → CompletesType es F vs v.context (forms.family_applied a b) A → TypeGives es N G (application M P) (rename_type v.place A)
    applied_type_back M P a b A s u f g (family_completed {a = c} {S = T} i) = (family_applied_back M P a b c T lf_star s u (f c) g i).0

  -- binders

  abbrev TypeBack : {N : Names} {G : List LfType} → View N G → Term → LfType → Type 0
  TypeBack {N} {G} v U A = TypeGives es N G U (rename_type v.place A)

  abbrev DomainBack : {N : Names} {G : List LfType} → View N G → Domain → LfType → Type 0
  DomainBack {N} {G} v d A = DomainGives es N G d (rename_type v.place A)

  abbrev KindBack : {N : Names} {G : List LfType} → View N G → Term → Kind → Type 0
  KindBack {N} {G} v U K = KindGives es N G U (rename_kind v.place K)

  module _ {N : Names} {G : List LfType} (v : View N G) where
    function_back : (x : List ℕ) (at : Place) (d : Domain) (M : Term) (a : WrittenDomain) (b : Written) (R : LfTerm) (C : LfType) → ((A : LfType) → CompletesDomain es F vs v.context a A → DomainBack v d A)
        → ((A : LfType) → DomainBack v d A → (R' : LfTerm) (B : LfType) → Completes es F vs (A ∷ v.context) b R' B → TermBack (view_under (binder_name x) N G v (rename_type v.place A) A refl) M R' B)
        → Completes es F vs v.context (forms.function a b) R C → TermBack v (lambda x at d M) R C
    function_back x at d M a b R C f g (function_completed {A = A} {B = B} {R = T} c m) =
        let u = f A c in
        let (p, q) = g A u T B m in
        ((u, p), q)

    quantified_back : (x : List ℕ) (at : Place) (d : Domain) (V : Term) (a : WrittenDomain) (b : WrittenType) (C : LfType) → ((A : LfType) → CompletesDomain es F vs v.context a A → DomainBack v d A)
        → ((A : LfType) → DomainBack v d A → (B : LfType) → CompletesType es F vs (A ∷ v.context) b B → TypeBack (view_under (binder_name x) N G v (rename_type v.place A) A refl) V B)
        → CompletesType es F vs v.context (forms.quantified a b) C → TypeBack v (pi x at d V) C
    quantified_back x at d V a b C f g (quantified_completed {A = A} {B = B} c m) = let u = f A c in (u, g A u B m)
    quantified_back x at d V a b C f g (family_completed c) = absurd (family_form es c)

    arrow_back : (U V : Term) (a b : WrittenType) (C : LfType) → ((A : LfType) → CompletesType es F vs v.context a A → TypeBack v U A)
        → ((A B : LfType) → CompletesType es F vs v.context b B → TypeBack (view_by N G v (rename_type v.place A)) V B)
        → CompletesType es F vs v.context (forms.arrow a b) C → TypeBack v (arrow U V) C
    arrow_back U V a b C f g (arrow_completed {A = A} {B = B} c m) = (f A c, subst (TypeGives es (None ∷ N) (rename_type v.place A ∷ G) V) (moved_over v.place B) (g A B m))
    arrow_back U V a b C f g (family_completed c) = absurd (family_form es c)

    kind_quantified_back : (x : List ℕ) (at : Place) (d : Domain) (V : Term) (a : WrittenDomain) (b : WrittenKind) (L : Kind) → ((A : LfType) → CompletesDomain es F vs v.context a A → DomainBack v d A)
        → ((A : LfType) → DomainBack v d A → (K : Kind) → CompletesKind es F vs (A ∷ v.context) b K → KindBack (view_under (binder_name x) N G v (rename_type v.place A) A refl) V K)
        → CompletesKind es F vs v.context (forms.kind_quantified a b) L → KindBack v (pi x at d V) L
    kind_quantified_back x at d V a b L f g (kind_quantified_completed {A = A} {K = K} c m) = let u = f A c in (u, g A u K m)

    kind_arrow_back : (U V : Term) (a : WrittenType) (b : WrittenKind) (L : Kind) → ((A : LfType) → CompletesType es F vs v.context a A → TypeBack v U A)
        → ((A : LfType) (K : Kind) → CompletesKind es F vs v.context b K → KindBack (view_by N G v (rename_type v.place A)) V K)
        → CompletesKind es F vs v.context (forms.kind_arrow a b) L → KindBack v (arrow U V) L
    kind_arrow_back U V a b L f g (kind_arrow_completed {A = A} {K = K} c m) = (f A c, subst (KindGives es (None ∷ N) (rename_type v.place A ∷ G) V) (kind_moved_over v.place K) (g A K m))

    star_back : (L : Kind) → CompletesKind es F vs v.context forms.written_star L → KindBack v star L
    star_back L star_completed = tt

    domain_typed_back : (U : Term) (V : WrittenType) (A : LfType) → ((B : LfType) → CompletesType es F vs v.context V B → TypeBack v U B) → CompletesDomain es F vs v.context (forms.of_type V) A → DomainBack v (typed U) A
    domain_typed_back U V A f (type_completed {A = B} c) = f B c

  bound_shape : {N : Names} {G : List LfType} (v : View N G) (d : Domain) (A : LfType) → DomainBack v d A → domain_shape d ≡ shape A
  bound_shape {N} {G} v d A g = given_domain_shape es d N G (rename_type v.place A) g ∙ shape_renamed v.place A

  -- the view under a binder of a type that is given
  abbrev under : {N : Names} {G : List LfType} (x : List ℕ) (v : View N G) (A : LfType) → View (binder_name x ∷ N) (rename_type v.place A ∷ G)
  under {N} {G} x v A = view_under (binder_name x) N G v (rename_type v.place A) A refl

  mutual
    term_back : (P : Term) (N : Names) (G : List LfType) (v : View N G) (s : Shape) (o : List Skeleton) (w : Written) (q : List Skeleton) (R : LfTerm) (A : LfType) → is_term_form es v.names (shapes v.context) P s ≡ true → resolved_term es free v.names P o ≡ Some (w, q) → Completes es F vs v.context w R A → TermBack v P R A
    term_back (lambda x at d M) N G v (shape_arrow s t) o w q R A e r c =
        let p = both_true (is_domain_form es v.names (shapes v.context) d) (is_term_form es (binder_name x ∷ v.names) (domain_shape d ∷ shapes v.context) M t) e in
        let (a, n, b, i, j, k) = both_parts forms.function (resolved_domain es free v.names (place_of at) d o) (resolved_term es free (binder_name x ∷ v.names) M) w q r in
        function_back v x at d M a b R A (λ X y. domain_back (place_of at) d N G v o a n X p.0 i y)
        (λ X u T B y. term_back M (binder_name x ∷ N) (rename_type v.place X ∷ G) (under x v X) t n b q T B (subst (λ z. is_term_form es (binder_name x ∷ v.names) (z ∷ shapes v.context) M t ≡ true) (bound_shape v d X u) p.1) j y)
        (subst (λ z. Completes es F vs v.context z R A) k c)
    term_back (lambda x at d M) N G v (base m) o w q R A e r c = absurd cc
    term_back (identifier x at) N G v (base m) o w q R A e r c =
        let (l, h) = point_is (head_shape es (shapes v.context) (named es v.names x)) e in
        root_back v (identifier x at) R A l (λ h S a T g. g) (name_back v x at (place_of at) o w q R A (base l) (named es v.names x) refl h r c)
    term_back (identifier x at) N G v (shape_arrow s t) o w q R A e r c = absurd cc
    term_back (application M P) N G v (base m) o w q R A e r c =
        let (l, h) = point_is (shape_behind (is_term_form es v.names (shapes v.context) P) (shape_left es v.names (shapes v.context) M)) e in
        let (s, i, j) = behind_is (is_term_form es v.names (shapes v.context) P) (shape_left es v.names (shapes v.context) M) (base l) h in
        let (a, n, b, f, g, k) = both_parts forms.applied (resolved_term es free v.names M o) (resolved_term es free v.names P) w q r in
        root_back v (application M P) R A l (λ h S a T g. g)
        (applied_back v M P a b R A s (base l) (λ R' A' y. spine_back M N G v (shape_arrow s (base l)) o a n R' A' i f y) (λ Q A' y. term_back P N G v s n b q Q A' j g y) (subst (λ z. Completes es F vs v.context z R A) k c))
    term_back (application M P) N G v (shape_arrow s t) o w q R A e r c = absurd cc
    term_back (arrow U V) N G v s o w q R A e r c = absurd cc
    term_back (pi x at d V) N G v s o w q R A e r c = absurd cc
    term_back star N G v s o w q R A e r c = absurd cc
    term_back (hole at) N G v s o w q R A e r c = absurd cc
    term_back (ascription M U) N G v s o w q R A e r c = absurd cc

    spine_back : (P : Term) (N : Names) (G : List LfType) (v : View N G) (u : Shape) (o : List Skeleton) (w : Written) (q : List Skeleton) (R : LfTerm) (A : LfType) → shape_left es v.names (shapes v.context) P ≡ Some u → resolved_term es free v.names P o ≡ Some (w, q) → Completes es F vs v.context w R A → SpineBack v P R A u
    spine_back (identifier x at) N G v u o w q R A e r c = name_back v x at (place_of at) o w q R A u (named es v.names x) refl e r c
    spine_back (application M P) N G v u o w q R A e r c =
        let (s, i, j) = behind_is (is_term_form es v.names (shapes v.context) P) (shape_left es v.names (shapes v.context) M) u e in
        let (a, n, b, f, g, k) = both_parts forms.applied (resolved_term es free v.names M o) (resolved_term es free v.names P) w q r in
        applied_back v M P a b R A s u (λ R' A' y. spine_back M N G v (shape_arrow s u) o a n R' A' i f y) (λ Q A' y. term_back P N G v s n b q Q A' j g y) (subst (λ z. Completes es F vs v.context z R A) k c)
    spine_back (arrow U V) N G v u o w q R A e r c = absurd cc
    spine_back (pi x at d V) N G v u o w q R A e r c = absurd cc
    spine_back (lambda x at d M) N G v u o w q R A e r c = absurd cc
    spine_back star N G v u o w q R A e r c = absurd cc
    spine_back (hole at) N G v u o w q R A e r c = absurd cc
    spine_back (ascription M U) N G v u o w q R A e r c = absurd cc

    family_back : (P : Term) (N : Names) (G : List LfType) (v : View N G) (u : Shape) (o : List Skeleton) (w : WrittenType) (q : List Skeleton) (c : ℕ) (S : Spine) (K : Kind) → shape_left es v.names (shapes v.context) P ≡ Some u → resolved_type es free v.names P o ≡ Some (w, q) → CompletesFamily es F vs v.context w c S K → FamilyBack v P c S K u
    family_back (identifier x at) N G v u o w q c S K e r d = family_name_back v x at (place_of at) o w q c S K u (named es v.names x) refl e r d
    family_back (application M P) N G v u o w q c S K e r d =
        let (s, i, j) = behind_is (is_term_form es v.names (shapes v.context) P) (shape_left es v.names (shapes v.context) M) u e in
        let (a, n, b, f, g, k) = argument_parts (resolved_type es free v.names M o) (resolved_term es free v.names P) w q r in
        family_applied_back v M P a b c S K s u (λ T L y. family_back M N G v (shape_arrow s u) o a n c T L i f y) (λ Q A' y. term_back P N G v s n b q Q A' j g y) (subst (λ z. CompletesFamily es F vs v.context z c S K) k d)
    family_back (arrow U V) N G v u o w q c S K e r d = absurd cc
    family_back (pi x at d V) N G v u o w q c S K e r i = absurd cc
    family_back (lambda x at d M) N G v u o w q c S K e r i = absurd cc
    family_back star N G v u o w q c S K e r d = absurd cc
    family_back (hole at) N G v u o w q c S K e r d = absurd cc
    family_back (ascription M U) N G v u o w q c S K e r d = absurd cc

    type_back : (U : Term) (N : Names) (G : List LfType) (v : View N G) (o : List Skeleton) (w : WrittenType) (q : List Skeleton) (A : LfType) → is_type_form es v.names (shapes v.context) U ≡ true → resolved_type es free v.names U o ≡ Some (w, q) → CompletesType es F vs v.context w A → TypeBack v U A
    type_back (arrow U V) N G v o w q A e r c =
        let p = both_true (is_type_form es v.names (shapes v.context) U) (is_type_form es v.names (shapes v.context) V) e in
        let (a, n, b, i, j, k) = both_parts forms.arrow (resolved_type es free v.names U o) (resolved_type es free v.names V) w q r in
        arrow_back v U V a b A (λ X y. type_back U N G v o a n X p.0 i y) (λ X B y. type_back V (None ∷ N) (rename_type v.place X ∷ G) (view_by N G v (rename_type v.place X)) n b q B p.1 j y) (subst (λ z. CompletesType es F vs v.context z A) k c)
    type_back (pi x at d V) N G v o w q A e r c =
        let p = both_true (is_domain_form es v.names (shapes v.context) d) (is_type_form es (binder_name x ∷ v.names) (domain_shape d ∷ shapes v.context) V) e in
        let (a, n, b, i, j, k) = both_parts forms.quantified (resolved_domain es free v.names (place_of at) d o) (resolved_type es free (binder_name x ∷ v.names) V) w q r in
        quantified_back v x at d V a b A (λ X y. domain_back (place_of at) d N G v o a n X p.0 i y)
        (λ X u B y. type_back V (binder_name x ∷ N) (rename_type v.place X ∷ G) (under x v X) n b q B (subst (λ z. is_type_form es (binder_name x ∷ v.names) (z ∷ shapes v.context) V ≡ true) (bound_shape v d X u) p.1) j y)
        (subst (λ z. CompletesType es F vs v.context z A) k c)
    type_back (identifier x at) N G v o w q A e r c =
        let (l, h) = point_is (head_shape es (shapes v.context) (named es v.names x)) e in
        named_type_back v x at (place_of at) o w q A (base l) (named es v.names x) refl h r c
    type_back (application M P) N G v o w q A e r c =
        let (l, h) = point_is (shape_behind (is_term_form es v.names (shapes v.context) P) (shape_left es v.names (shapes v.context) M)) e in
        let (s, i, j) = behind_is (is_term_form es v.names (shapes v.context) P) (shape_left es v.names (shapes v.context) M) (base l) h in
        let (a, n, b, f, g, k) = argument_parts (resolved_type es free v.names M o) (resolved_term es free v.names P) w q r in
        applied_type_back v M P a b A s (base l) (λ m T L y. family_back M N G v (shape_arrow s (base l)) o a n m T L i f y) (λ Q A' y. term_back P N G v s n b q Q A' j g y) (subst (λ z. CompletesType es F vs v.context z A) k c)
    type_back star N G v o w q A e r c = absurd cc
    type_back (hole at) N G v o w q A e r c = absurd cc
    type_back (lambda x at d M) N G v o w q A e r c = absurd cc
    type_back (ascription M U) N G v o w q A e r c = absurd cc

    domain_back : (at : WrittenPlace) (d : Domain) (N : Names) (G : List LfType) (v : View N G) (o : List Skeleton) (w : WrittenDomain) (q : List Skeleton) (A : LfType) → is_domain_form es v.names (shapes v.context) d ≡ true → resolved_domain es free v.names at d o ≡ Some (w, q) → CompletesDomain es F vs v.context w A → DomainBack v d A
    domain_back at untyped N G v o w q A e r c = absurd cc
    domain_back at (typed U) N G v o w q A e r c =
        let (V, n, i, k) = and_then_parts (resolved_type es free v.names U o) (λ V p. given (forms.of_type V) p) w q r in
        let same = parts_of (forms.of_type V) w n q k in
        domain_typed_back v U V A (λ B y. type_back U N G v o V n B e i y) (subst (λ z. CompletesDomain es F vs v.context z A) (sym same.0) c)

  kind_back : (U : Term) (N : Names) (G : List LfType) (v : View N G) (o : List Skeleton) (w : WrittenKind) (q : List Skeleton) (K : Kind) → is_type_form es v.names (shapes v.context) U ≡ true → resolved_kind es free v.names U o ≡ Some (w, q) → CompletesKind es F vs v.context w K → KindBack v U K
  kind_back star N G v o w q K e r c = star_back v K (subst (λ z. CompletesKind es F vs v.context z K) (sym (parts_of forms.written_star w o q r).0) c)
  kind_back (arrow U V) N G v o w q K e r c =
      let p = both_true (is_type_form es v.names (shapes v.context) U) (is_type_form es v.names (shapes v.context) V) e in
      let (a, n, b, i, j, k) = both_parts forms.kind_arrow (resolved_type es free v.names U o) (resolved_kind es free v.names V) w q r in
      kind_arrow_back v U V a b K (λ X y. type_back U N G v o a n X p.0 i y) (λ X L y. kind_back V (None ∷ N) (rename_type v.place X ∷ G) (view_by N G v (rename_type v.place X)) n b q L p.1 j y) (subst (λ z. CompletesKind es F vs v.context z K) k c)
  kind_back (pi x at d V) N G v o w q K e r c =
      let p = both_true (is_domain_form es v.names (shapes v.context) d) (is_type_form es (binder_name x ∷ v.names) (domain_shape d ∷ shapes v.context) V) e in
      let (a, n, b, i, j, k) = both_parts forms.kind_quantified (resolved_domain es free v.names (place_of at) d o) (resolved_kind es free (binder_name x ∷ v.names) V) w q r in
      kind_quantified_back v x at d V a b K (λ X y. domain_back (place_of at) d N G v o a n X p.0 i y)
      (λ X u L y. kind_back V (binder_name x ∷ N) (rename_type v.place X ∷ G) (under x v X) n b q L (subst (λ z. is_type_form es (binder_name x ∷ v.names) (z ∷ shapes v.context) V ≡ true) (bound_shape v d X u) p.1) j y)
      (subst (λ z. CompletesKind es F vs v.context z K) k c)
  kind_back (identifier x at) N G v o w q K e r c = absurd cc
  kind_back (hole at) N G v o w q K e r c = absurd cc
  kind_back (lambda x at d M) N G v o w q K e r c = absurd cc
  kind_back (application M P) N G v o w q K e r c = absurd cc
  kind_back (ascription M U) N G v o w q K e r c = absurd cc

-- what is read, where it takes the whole list
pub whole_parts : {A : Type 0} (r : Reading A) (a : A) → taken_whole r ≡ Some a → r ≡ Some (a, [])
whole_parts None a e = absurd cc
whole_parts (Some (b, [])) a e = ap (λ x. given x []) (some_is e)
whole_parts (Some (b, s ∷ o)) a e = absurd cc

pub one_part : {A B : Type 0} (make : A → B) (r : Reading A) (b : B) (q : List Skeleton) → with_one make r ≡ Some (b, q) → (a : A) × (r ≡ Some (a, q)) × (b ≡ make a)
one_part make r b q e =
    let (a, p, d, g) = and_then_parts r (λ a p. given (make a) p) b q e in
    let same = parts_of (make a) b p q g in
    (a, subst (λ l. r ≡ Some (a, l)) same.1 d, sym same.0)

-- what completes it, whatever is free, is what the text gives
pub given_back : (es : List Entry) → IsCanonicalSignature es → (U : Term) → is_type_form es [] [] U ≡ true → (rows : Rows) (o : List Skeleton) (w : WrittenBody) → taken_whole (classifier_read es (names_of rows) [] (ends_in_type U) U o) ≡ Some w
    → (c : Completion) → IsCompletion es (skeletons_of rows) w c → BodyGiven es U c.body
given_back es canonical U form rows o w r c h = by (ends_in_type U) (whole_parts (classifier_read es (names_of rows) [] (ends_in_type U) U o) w r)
  where
    of_family : (k : WrittenKind) (b : Body) → resolved_kind es (names_of rows) [] U o ≡ Some (k, []) → CompletesBody es c.quantifiers c.frees (written_family k) b → BodyGiven es U b
    of_family k (declare_family K) e g = subst (KindGives es [] [] U) (rename_id_kind K) (kind_back es (canonical_is_signature es canonical) (names_of rows) c.quantifiers c.frees U [] [] view_empty o k [] K form e g)
    of_family k (declare_constant A) e g = absurd g
    of_family k (declare_definition M A b) e g = absurd g

    of_constant : (V : WrittenType) (b : Body) → resolved_type es (names_of rows) [] U o ≡ Some (V, []) → CompletesBody es c.quantifiers c.frees (written_constant V) b → BodyGiven es U b
    of_constant V (declare_constant A) e g = subst (TypeGives es [] [] U) (rename_id_type A) (type_back es (canonical_is_signature es canonical) (names_of rows) c.quantifiers c.frees U [] [] view_empty o V [] A form e g)
    of_constant V (declare_family K) e g = absurd g
    of_constant V (declare_definition M A b) e g = absurd g

    by : (t : Bool) → classifier_read es (names_of rows) [] t U o ≡ Some (w, []) → BodyGiven es U c.body
    by true e = let (k, i, j) = one_part written_family (resolved_kind es (names_of rows) [] U o) w [] e in of_family k c.body i (subst (λ z. CompletesBody es c.quantifiers c.frees z c.body) j h.completed)
    by false e = let (V, i, j) = one_part written_constant (resolved_type es (names_of rows) [] U o) w [] e in of_constant V c.body i (subst (λ z. CompletesBody es c.quantifiers c.frees z c.body) j h.completed)

-- where it gives no entry, no completion is there
pub no_completion : (es : List Entry) → IsCanonicalSignature es → (d : Declaration) → IsExplicit es d → ((e : Entry) → explicit.Completes es d e → ⊥) → (rows : Rows) (o : List Skeleton) (w : WrittenBody) → resolved_body es rows o d ≡ Some w → (c : Completion) → IsCompletion es (skeletons_of rows) w c → ⊥
no_completion es canonical (declare x at U) (known, form) none rows o w r c h =
    none (record { name = x; body = c.body; implicit = zero; hints = hints U }) (record { name = refl; body = given_back es canonical U form rows o w r c h; implicit = refl; hint_each = refl })
no_completion es canonical (define x A M b) (known, form) none rows o w r c h = absurd cc
no_completion es canonical (prefer a x y) (known, form) none rows o w r c h = absurd cc
no_completion es canonical (give fix names) (known, form) none rows o w r c h = absurd cc
