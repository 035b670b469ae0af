-- A head with its arguments, and a text with what is ascribed to it, the last one first, resolved from what stands in front on.
use Rattle.std.proofs.Common.{◌≡◌, List, [], ◌∷◌, ◌++◌, Bor, Box, Global, None, Some, refl, sym, ap, ap₂, ◌∙◌}
use Rattle.std.proofs.lemmas.List.{map-append}
use Rattle.lf.specs.Entries.{Entry}
use Rattle.lf.specs.Syntax.{Skeleton}
use Rattle.lf_elaboration.specs.Written.{applied, ascribed}
use Rattle.tw_parse.specs.Applied.{applied_to, written_terms}
use Rattle.tw_approx.specs.Ascribed.{ascribed_to}
use Rattle.tw_approx.specs.Readings.{Reading, and_then}
use Rattle.tw_parse.proofs.Views.{views, term_of-Ascribe}
use Rattle.tw_parse.specs.Syntax.{Term, ascription}
use Rattle.tw_parse.specs.View.{term_of}
use Rattle.tw_parse.specs.declared.term.ExtTerm.{ExtTerm, Ascribe}
use Rattle.tw_fixity.specs.Names.{Names}
use Rattle.tw_terms.proofs.Args.{types_and_skeletons}
use Rattle.tw_parse.proofs.Spines.{applied_to-push}
use Rattle.tw_written.proofs.Views.{written_views}
use Rattle.tw_resolve.specs.Resolving.{with_both, made, on_argument, of_kind, resolved_term, resolved_type, resolved_kind}
use Rattle.tw_resolve.specs.Rows.{read_on}

-- the arguments behind the first
pub arguments_less : (old new : List (Bor ExtTerm)) (a : Bor ExtTerm) → old ≡ new ++ a ∷ [] → written_terms old ≡ written_terms new ++ term_of a.now ∷ []
arguments_less old new a e = ap written_terms e ∙ map-append (λ (x : Bor ExtTerm). term_of x.now) new (a ∷ [])

-- What is read so far, with the parts that are left: the next one is read, and none is read where one is missing.
module _ {A B : Type 0} (make : A → B → List Skeleton → Reading A) (read : Term → List Skeleton → Reading B) where
  first_part : (Ps : List Term) (P : Term) (r : Reading A) → read_on make read (Ps ++ P ∷ []) r ≡ read_on make read Ps (with_both make r (read P))
  first_part [] P r = refl
  first_part (Q ∷ Ps) P r = ap (λ s. with_both make s (read Q)) (first_part Ps P r)

  pub none_read_on : (Ps : List Term) (r : Reading A) → r ≡ None → read_on make read Ps r ≡ None
  none_read_on [] r e = e
  none_read_on (P ∷ Ps) r e = ap (λ s. with_both make s (read P)) (none_read_on Ps r e)

  -- what stands in front is read, or isn't
  pub front_given : (W r s : Reading A) (Ps : List Term) → W ≡ read_on make read Ps s → r ≡ s → read_on make read Ps r ≡ W
  front_given W r s Ps e h = ap (read_on make read Ps) h ∙ sym e

  pub front_missing : (W s : Reading A) (Ps : List Term) → W ≡ read_on make read Ps s → None ≡ s → None ≡ W
  front_missing W s Ps e h = sym (none_read_on Ps s (sym h)) ∙ sym e

  -- the next part
  pub next_part : (W r : Reading A) (old new : List (Bor ExtTerm)) (a : Bor ExtTerm) → old ≡ new ++ a ∷ [] → read_on make read (written_terms old) r ≡ W → read_on make read (written_terms new) (with_both make r (read (term_of a.now))) ≡ W
  next_part W r old new a e h =
      sym (first_part (written_terms new) (term_of a.now) r) ∙ ap (λ (Ps : List Term). read_on make read Ps r) (sym (arguments_less old new a e)) ∙ h

  pub part_missing : (W : Reading A) (old new : List (Bor ExtTerm)) (a : Bor ExtTerm) (x : A) (p : List Skeleton) → old ≡ new ++ a ∷ [] → read_on make read (written_terms old) (Some (x, p)) ≡ W → None ≡ read (term_of a.now) p → None ≡ W
  part_missing W old new a x p e h g =
      sym (none_read_on (written_terms new) (with_both make (Some (x, p)) (read (term_of a.now))) (ap (λ (s : Reading B). and_then s (make x)) (sym g))) ∙ next_part W (Some (x, p)) old new a e h

  pub part_given : (W r : Reading A) (old new : List (Bor ExtTerm)) (a : Bor ExtTerm) (x : A) (y : B) (p q : List Skeleton) → old ≡ new ++ a ∷ [] → read_on make read (written_terms old) (Some (x, p)) ≡ W → Some (y, q) ≡ read (term_of a.now) p → r ≡ make x y q
      → read_on make read (written_terms new) r ≡ W
  part_given W r old new a x y p q e h g k =
      ap (read_on make read (written_terms new)) k ∙ ap (λ (s : Reading B). read_on make read (written_terms new) (and_then s (make x))) g ∙ next_part W (Some (x, p)) old new a e h

  pub part_refused : (W : Reading A) (old new : List (Bor ExtTerm)) (a : Bor ExtTerm) (x : A) (y : B) (p q : List Skeleton) → old ≡ new ++ a ∷ [] → read_on make read (written_terms old) (Some (x, p)) ≡ W → Some (y, q) ≡ read (term_of a.now) p → None ≡ make x y q → None ≡ W
  part_refused W old new a x y p q e h g k = sym (none_read_on (written_terms new) (make x y q) (sym k)) ∙ part_given W (make x y q) old new a x y p q e h g refl

module _ (es : List Entry) (free N : Names) where
  -- a term on its arguments
  term_on_arguments_read : (M : Term) (Ps : List Term) (o : List Skeleton) → resolved_term es free N (applied_to M Ps) o ≡ read_on (made applied) (resolved_term es free N) Ps (resolved_term es free N M o)
  term_on_arguments_read M [] o = refl
  term_on_arguments_read M (P ∷ Ps) o = ap (λ r. with_both (made applied) r (resolved_term es free N P)) (term_on_arguments_read M Ps o)

  pub term_on_arguments : (T M : Term) (Ps : List Term) (o : List Skeleton) → applied_to M Ps ≡ T → resolved_term es free N T o ≡ read_on (made applied) (resolved_term es free N) Ps (resolved_term es free N M o)
  term_on_arguments T M Ps o e = ap (λ (X : Term). resolved_term es free N X o) (sym e) ∙ term_on_arguments_read M Ps o

  -- a family on its arguments
  family_on_arguments_read : (M : Term) (Ps : List Term) (o : List Skeleton) → resolved_type es free N (applied_to M Ps) o ≡ read_on on_argument (resolved_term es free N) Ps (resolved_type es free N M o)
  family_on_arguments_read M [] o = refl
  family_on_arguments_read M (P ∷ Ps) o = ap (λ r. with_both on_argument r (resolved_term es free N P)) (family_on_arguments_read M Ps o)

  pub family_on_arguments : (T M : Term) (Ps : List Term) (o : List Skeleton) → applied_to M Ps ≡ T → resolved_type es free N T o ≡ read_on on_argument (resolved_term es free N) Ps (resolved_type es free N M o)
  family_on_arguments T M Ps o e = ap (λ (X : Term). resolved_type es free N X o) (sym e) ∙ family_on_arguments_read M Ps o

  -- a term with its types
  term_of_types_read : (M : Term) (Ps : List Term) (o : List Skeleton) → resolved_term es free N (ascribed_to M Ps) o ≡ read_on (made ascribed) (resolved_type es free N) Ps (resolved_term es free N M o)
  term_of_types_read M [] o = refl
  term_of_types_read M (P ∷ Ps) o = ap (λ r. with_both (made ascribed) r (resolved_type es free N P)) (term_of_types_read M Ps o)

  pub term_of_types : (T M : Term) (Ps : List Term) (o : List Skeleton) → ascribed_to M Ps ≡ T → resolved_term es free N T o ≡ read_on (made ascribed) (resolved_type es free N) Ps (resolved_term es free N M o)
  term_of_types T M Ps o e = ap (λ (X : Term). resolved_term es free N X o) (sym e) ∙ term_of_types_read M Ps o

  -- a type or a family with its kinds
  type_of_kinds_read : (M : Term) (Ps : List Term) (o : List Skeleton) → resolved_type es free N (ascribed_to M Ps) o ≡ read_on of_kind (resolved_kind es free N) Ps (resolved_type es free N M o)
  type_of_kinds_read M [] o = refl
  type_of_kinds_read M (P ∷ Ps) o = ap (λ r. with_both of_kind r (resolved_kind es free N P)) (type_of_kinds_read M Ps o)

  pub type_of_kinds : (T M : Term) (Ps : List Term) (o : List Skeleton) → ascribed_to M Ps ≡ T → resolved_type es free N T o ≡ read_on of_kind (resolved_kind es free N) Ps (resolved_type es free N M o)
  type_of_kinds T M Ps o e = ap (λ (X : Term). resolved_type es free N X o) (sym e) ∙ type_of_kinds_read M Ps o

pub ruleset texts = (types_and_skeletons, views, written_views, applied_to-push)
