-- What the calls of the walk answer, joined.
use Rattle.std.proofs.Common.{◌≡◌, ℕ, List, [], ◌∷◌, ◌++◌, Option, None, Some, Result, Ok, Err, IfOk, Box, Bor, Global, sym, ap, ◌∙◌, subst}
use Rattle.std.proofs.lemmas.List.{map-append}
use Rattle.lf.specs.Entries.{Entry}
use Rattle.tw_parse.specs.Applied.{applied_to, written_terms}
use Rattle.tw_approx.specs.Names.{IsFreeIn, IsFreeInDomain}
use Rattle.tw_approx.specs.Reading.{family_at, ReadsFamily, TermIsRead, TypeIsRead, IsWhole}
use Rattle.tw_approx.specs.Skeletons.{family_applied, term_skeleton, family_skeleton, domain_skeleton}
use Rattle.tw_approx.specs.Walks.{State, Nothing, filled_all, IsSound, Refuses, ReadsShape, inside, outside}
use Rattle.tw_approx.specs.declared.family.FamilyShape.{FamilyShape}
use Rattle.tw_names.specs.Scope.{binder_name}
use Rattle.tw_lexer.specs.declared.place.Place.{Place}
use Rattle.tw_parse.proofs.Views.{term_of-Pi-untyped, term_of-Pi-typed, term_of-Lam-untyped, term_of-Lam-typed}
use Rattle.tw_parse.specs.Syntax.{Term, Domain, pi, lambda, application}
use Rattle.tw_parse.specs.View.{term_of, boxed_domain}
use Rattle.tw_parse.specs.declared.term.ExtTerm.{ExtTerm, Pi, Lam}
use Rattle.tw_shapes.specs.Shapes as plain
use Rattle.tw_shapes.specs.Shapes.{Shape, IsWithin, count_of}
use Rattle.tw_shapes.specs.View.{shape_of}
use Rattle.tw_shapes.specs.declared.shape.Shape as program
use Rattle.tw_approx.proofs.Applying.{IsFamilyApplying}
use Rattle.tw_approx.proofs.Families.{family_application_reads, family_application_refuses, family_application_refuses_argument, family_arguments_refuse}
use Rattle.tw_approx.proofs.Forms.{type_reads, type_refuses_whole, lambda_reads, lambda_refuses_body, arguments_refuse}
use Rattle.tw_parse.proofs.Spines.{applied_to-push}

pub if_ok : {T E : Type 0} (r : Result T E) (P Q : T → Type 0) → ((x : T) → P x → Q x) → IfOk r P → IfOk r Q
if_ok (Ok x) P Q f p = f x p
if_ok (Err e) P Q f p = tt

pub term_of-Pi : (x : List ℕ) (at : Place) (D : Option (Box ExtTerm Global)) (B : Box ExtTerm Global) → term_of (Pi x at D B) ≡ pi x at (boxed_domain D) (term_of B.value)
term_of-Pi x at None B = term_of-Pi-untyped x at B
term_of-Pi x at (Some A) B = term_of-Pi-typed x at A B

pub term_of-Lam : (x : List ℕ) (at : Place) (D : Option (Box ExtTerm Global)) (M : Box ExtTerm Global) → term_of (Lam x at D M) ≡ lambda x at (boxed_domain D) (term_of M.value)
term_of-Lam x at None M = term_of-Lam-untyped x at M
term_of-Lam x at (Some A) M = term_of-Lam-typed x at A M

pub entered : (i : State) (n m : Option (List ℕ)) (S T : Shape) (t : State) → i ≡ inside n S t → n ≡ m → S ≡ T → i ≡ inside m T t
entered i n m S T t e f g = e ∙ ap (λ k. inside k S t) f ∙ ap (λ X. inside m X t) g

-- one argument more
pub next_applied : (T W : Term) (old new : List (Bor ExtTerm)) (a : Bor ExtTerm) → old ≡ new ++ a ∷ [] → applied_to T (written_terms old) ≡ W → applied_to (application T (term_of a.now)) (written_terms new) ≡ W
next_applied T W old new a e h =
    sym (applied_to-push T (term_of a.now) (written_terms new)) ∙ ap (applied_to T) (sym (map-append (λ (x : Bor ExtTerm). term_of x.now) new (a ∷ []))) ∙ ap (λ xs. applied_to T (written_terms xs)) (sym e) ∙ h

module _ (es : List Entry) (s : State) (sound : IsSound s) where
  pub type_read : (A : Term) (t : State) (G : FamilyShape) → ReadsFamily (λ f θ. family_skeleton es f s.names (filled_all θ s.context) A) (λ x. IsFreeIn es x s.names A) s t G → (o : Option program.Shape) → IsWhole t t G o → TypeIsRead es s t A o
  type_read A t G one None two = type_refuses_whole es s sound A t G one two
  type_read A t G one (Some S) two = type_reads es s sound A t t G (shape_of S) one two

  pub lambda_read : (x : List ℕ) (at : Place) (D : Domain) (M : Term) (t i u w : State) (S T : Shape) (A : program.Shape) → ReadsShape (λ f θ. domain_skeleton es f s.names (filled_all θ s.context) D) (λ y. IsFreeInDomain es y s.names D) s t S → i ≡ inside (binder_name x) S t
      → ReadsShape (λ f θ. term_skeleton es f i.names (filled_all θ i.context) M) (λ y. IsFreeIn es y i.names M) i u T → w ≡ outside u → shape_of A ≡ plain.arrow S T → TermIsRead es s w (lambda x at D M) (Some A)
  lambda_read x at D M t i u w S T A one e two f g =
      let moved = subst (λ j. ReadsShape (λ f θ. term_skeleton es f j.names (filled_all θ j.context) M) (λ y. IsFreeIn es y j.names M) j u T) e two in
      subst (λ z. TermIsRead es s z (lambda x at D M) (Some A)) (sym f) (subst (ReadsShape (λ f θ. term_skeleton es f s.names (filled_all θ s.context) (lambda x at D M)) (λ y. IsFreeIn es y s.names (lambda x at D M)) s (outside u)) (sym g) (lambda_reads es s sound x at D M t u S T one moved))

  pub lambda_unread : (x : List ℕ) (at : Place) (D : Domain) (M : Term) (t i : State) (S : Shape) → ReadsShape (λ f θ. domain_skeleton es f s.names (filled_all θ s.context) D) (λ y. IsFreeInDomain es y s.names D) s t S → i ≡ inside (binder_name x) S t
      → Refuses (λ f θ. term_skeleton es f i.names (filled_all θ i.context) M) i → Refuses (λ f θ. term_skeleton es f s.names (filled_all θ s.context) (lambda x at D M)) s
  lambda_unread x at D M t i S one e two =
      let moved = subst (λ j. Refuses (λ f θ. term_skeleton es f j.names (filled_all θ j.context) M) j) e two in
      lambda_refuses_body es s sound x at D M t S one moved

  -- the loops over arguments
  pub head_refuses : (h W : Term) (Ps : List Term) → applied_to h Ps ≡ W → Refuses (λ f θ. term_skeleton es f s.names (filled_all θ s.context) h) s → Refuses (λ f θ. term_skeleton es f s.names (filled_all θ s.context) W) s
  head_refuses h W Ps e r = subst (λ X. Refuses (λ f θ. term_skeleton es f s.names (filled_all θ s.context) X) s) e (arguments_refuse es s sound h Ps r)

  pub family_applying_next : (W : Term) (old new : List (Bor ExtTerm)) (a : Bor ExtTerm) (t u w : State) (G H : FamilyShape) (U : Shape) → old ≡ new ++ a ∷ [] → IsFamilyApplying es s t W (written_terms old) G
      → ReadsShape (λ f θ. term_skeleton es f t.names (filled_all θ t.context) (term_of a.now)) (λ y. IsFreeIn es y t.names (term_of a.now)) t u U → ReadsFamily (λ f θ. family_applied (family_at G θ) (plain.filled θ U)) Nothing u w H
      → IsFamilyApplying es s w W (written_terms new) H
  family_applying_next W old new a t u w G H U e (T, f, one) two three = (application T (term_of a.now), next_applied T W old new a e f, family_application_reads es s sound T (term_of a.now) t u w G H U one two three)

  pub family_applying_argument : (W : Term) (old new : List (Bor ExtTerm)) (a : Bor ExtTerm) (t : State) (G : FamilyShape) → old ≡ new ++ a ∷ [] → IsFamilyApplying es s t W (written_terms old) G
      → Refuses (λ f θ. term_skeleton es f t.names (filled_all θ t.context) (term_of a.now)) t → Refuses (λ f θ. family_skeleton es f s.names (filled_all θ s.context) W) s
  family_applying_argument W old new a t G e (T, f, one) two =
      subst (λ X. Refuses (λ f θ. family_skeleton es f s.names (filled_all θ s.context) X) s) (next_applied T W old new a e f) (family_arguments_refuse es s sound (application T (term_of a.now)) (written_terms new) (family_application_refuses_argument es s sound T (term_of a.now) t G one two))

  pub family_applying_refuses : (W : Term) (old new : List (Bor ExtTerm)) (a : Bor ExtTerm) (t u : State) (G : FamilyShape) (U : Shape) → old ≡ new ++ a ∷ [] → IsFamilyApplying es s t W (written_terms old) G
      → ReadsShape (λ f θ. term_skeleton es f t.names (filled_all θ t.context) (term_of a.now)) (λ y. IsFreeIn es y t.names (term_of a.now)) t u U → Refuses (λ f θ. family_applied (family_at G θ) (plain.filled θ U)) u
      → Refuses (λ f θ. family_skeleton es f s.names (filled_all θ s.context) W) s
  family_applying_refuses W old new a t u G U e (T, f, one) two three =
      subst (λ X. Refuses (λ f θ. family_skeleton es f s.names (filled_all θ s.context) X) s) (next_applied T W old new a e f) (family_arguments_refuse es s sound (application T (term_of a.now)) (written_terms new) (family_application_refuses es s sound T (term_of a.now) t u G U one two three))

  pub family_head_refuses : (h W : Term) (Ps : List Term) → applied_to h Ps ≡ W → Refuses (λ f θ. family_skeleton es f s.names (filled_all θ s.context) h) s → Refuses (λ f θ. family_skeleton es f s.names (filled_all θ s.context) W) s
  family_head_refuses h W Ps e r = subst (λ X. Refuses (λ f θ. family_skeleton es f s.names (filled_all θ s.context) X) s) e (family_arguments_refuse es s sound h Ps r)
