-- A text that is resolved with its free variables in another order.
use Rattle.std.proofs.Common.{◌≡◌, ℕ, List, [], ◌∷◌, option_map, Bool, true, false, Option, None, Some, refl, ap, ◌∙◌}
use Rattle.lf.specs.Entries.{Entry}
use Rattle.lf.specs.Syntax.{Head, Skeleton, constant, metavariable, variable}
use Rattle.lf_elaboration.specs.Principal.{written_constant, written_definition, written_definition_of, written_family}
use Rattle.lf_elaboration.specs.Written as written
use Rattle.lf_elaboration.specs.Written.{Place, Written, WrittenKind, WrittenType, written_star}
use Rattle.lf_elaboration.proofs.Renumbered.{renumbered, renumbered_body, renumbered_domain, renumbered_kind, renumbered_type}
use Rattle.tw_approx.specs.Readings.{Reading, and_then, found}
use Rattle.tw_approx.proofs.Sequences.{given}
use Rattle.tw_names.specs.Scope.{binder_name, named}
use Rattle.tw_names.specs.Texts.{ends_in_type}
use Rattle.tw_parse.specs.Syntax.{Declaration, Domain, Term, application, arrow, ascription, declare, define, give, hole, identifier, lambda, pi, prefer, star, typed, untyped}
use Rattle.tw_fixity.specs.Names.{Names, variable_of}
use Rattle.tw_written.specs.View.{place_of}
use Rattle.tw_resolve.specs.Resolved.{body_read, classifier_read, taken_whole}
use Rattle.tw_resolve.specs.Resolving.{made, of_kind, on_argument, resolved_domain, resolved_family, resolved_kind, resolved_name, resolved_term, resolved_type, with_both}

-- what is read, turned into something else
abbrev pub mapped : {A B : Type 0} → (A → B) → Reading A → Reading B
mapped g None = None
mapped g (Some (a, p)) = Some (g a, p)

second_mapped : {B C : Type 0} (make make' : B → List Skeleton → Reading C) (h : B → B) (k : C → C) (s s' : Reading B) → ((b : B) (p : List Skeleton) → make' (h b) p ≡ mapped k (make b p)) → s' ≡ mapped h s → and_then s' make' ≡ mapped k (and_then s make)
second_mapped make make' h k None s' m e = ap (λ z. and_then z make') e
second_mapped make make' h k (Some (b, q)) s' m e = ap (λ z. and_then z make') e ∙ m b q

both_mapped : {A B C : Type 0} (make : A → B → List Skeleton → Reading C) (g : A → A) (h : B → B) (k : C → C) (r r' : Reading A) (f f' : List Skeleton → Reading B)
    → ((a : A) (b : B) (p : List Skeleton) → make (g a) (h b) p ≡ mapped k (make a b p)) → r' ≡ mapped g r → ((p : List Skeleton) → f' p ≡ mapped h (f p)) → with_both make r' f' ≡ mapped k (with_both make r f)
both_mapped make g h k None r' f f' m e i = ap (λ z. with_both make z f') e
both_mapped make g h k (Some (a, p)) r' f f' m e i = ap (λ z. with_both make z f') e ∙ second_mapped (make a) (make (g a)) h k (f p) (f' p) (m a) (i p)

one_mapped : {A B : Type 0} (make : A → B) (g : A → A) (k : B → B) (r r' : Reading A) → ((a : A) → make (g a) ≡ k (make a)) → r' ≡ mapped g r → and_then r' (λ a p. given (make a) p) ≡ mapped k (and_then r (λ a p. given (make a) p))
one_mapped make g k r r' m e = second_mapped (λ a p. given (make a) p) (λ a p. given (make a) p) g k r r' (λ a p. ap (λ z. given z p) (m a)) e

module _ (π : ℕ → ℕ) where
  name_mapped : (at : Place) (h : Option Head) (i : Option ℕ) (o : List Skeleton) → found (resolved_name at h (option_map π i)) o ≡ mapped (renumbered π) (found (resolved_name at h i) o)
  name_mapped at (Some (constant c)) i o = refl
  name_mapped at (Some (variable j)) i o = refl
  name_mapped at (Some (metavariable m)) i o = refl
  name_mapped at None (Some j) o = refl
  name_mapped at None None o = refl

  family_mapped : (at : Place) (h : Option Head) (o : List Skeleton) → found (resolved_family at h) o ≡ mapped (renumbered_type π) (found (resolved_family at h) o)
  family_mapped at (Some (constant c)) o = refl
  family_mapped at (Some (variable j)) o = refl
  family_mapped at (Some (metavariable m)) o = refl
  family_mapped at None o = refl

  argument_mapped : (U : WrittenType) (P : Written) (p : List Skeleton) → on_argument (renumbered_type π U) (renumbered π P) p ≡ mapped (renumbered_type π) (on_argument U P p)
  argument_mapped (written.type_hole s at) P p = refl
  argument_mapped (written.arrow U V) P p = refl
  argument_mapped (written.quantified d V) P p = refl
  argument_mapped (written.family c at) P p = refl
  argument_mapped (written.family_applied U Q) P p = refl
  argument_mapped (written.family_ascribed U k) P p = refl

  kind_put : (U : WrittenType) (k : WrittenKind) (p : List Skeleton) → of_kind (renumbered_type π U) (renumbered_kind π k) p ≡ mapped (renumbered_type π) (of_kind U k p)
  kind_put (written.type_hole s at) written_star p = refl
  kind_put (written.type_hole s at) (written.kind_arrow A k) p = refl
  kind_put (written.type_hole s at) (written.kind_quantified d k) p = refl
  kind_put (written.arrow U V) k p = refl
  kind_put (written.quantified d V) k p = refl
  kind_put (written.family c at) k p = refl
  kind_put (written.family_applied U Q) k p = refl
  kind_put (written.family_ascribed U l) k p = refl

  module _ (es : List Entry) (free others : Names) (same : (x : List ℕ) → variable_of others x ≡ option_map π (variable_of free x)) where
    mutual
      term_mapped : (T : Term) (N : Names) (o : List Skeleton) → resolved_term es others N T o ≡ mapped (renumbered π) (resolved_term es free N T o)
      term_mapped (identifier x at) N o = ap (λ z. found (resolved_name (place_of at) (named es N x) z) o) (same x) ∙ name_mapped (place_of at) (named es N x) (variable_of free x) o
      term_mapped (hole at) N [] = refl
      term_mapped (hole at) N (k ∷ o) = refl
      term_mapped star N o = refl
      term_mapped (arrow U V) N o = refl
      term_mapped (pi x at D V) N o = refl
      term_mapped (lambda x at D T) N o =
          both_mapped (made written.function) (renumbered_domain π) (renumbered π) (renumbered π) (resolved_domain es free N (place_of at) D o) (resolved_domain es others N (place_of at) D o) (resolved_term es free (binder_name x ∷ N) T) (resolved_term es others (binder_name x ∷ N) T)
          (λ a b p. refl) (domain_mapped D N (place_of at) o) (λ p. term_mapped T (binder_name x ∷ N) p)
      term_mapped (application T P) N o =
          both_mapped (made written.applied) (renumbered π) (renumbered π) (renumbered π) (resolved_term es free N T o) (resolved_term es others N T o) (resolved_term es free N P) (resolved_term es others N P) (λ a b p. refl) (term_mapped T N o) (λ p. term_mapped P N p)
      term_mapped (ascription T A) N o =
          both_mapped (made written.ascribed) (renumbered π) (renumbered_type π) (renumbered π) (resolved_term es free N T o) (resolved_term es others N T o) (resolved_type es free N A) (resolved_type es others N A) (λ a b p. refl) (term_mapped T N o) (λ p. type_mapped A N p)

      domain_mapped : (D : Domain) (N : Names) (at : Place) (o : List Skeleton) → resolved_domain es others N at D o ≡ mapped (renumbered_domain π) (resolved_domain es free N at D o)
      domain_mapped untyped N at [] = refl
      domain_mapped untyped N at (k ∷ o) = refl
      domain_mapped (typed A) N at o = one_mapped written.of_type (renumbered_type π) (renumbered_domain π) (resolved_type es free N A o) (resolved_type es others N A o) (λ a. refl) (type_mapped A N o)

      type_mapped : (T : Term) (N : Names) (o : List Skeleton) → resolved_type es others N T o ≡ mapped (renumbered_type π) (resolved_type es free N T o)
      type_mapped (identifier x at) N o = family_mapped (place_of at) (named es N x) o
      type_mapped (hole at) N [] = refl
      type_mapped (hole at) N (k ∷ o) = refl
      type_mapped star N o = refl
      type_mapped (lambda x at D T) N o = refl
      type_mapped (arrow U V) N o =
          both_mapped (made written.arrow) (renumbered_type π) (renumbered_type π) (renumbered_type π) (resolved_type es free N U o) (resolved_type es others N U o) (resolved_type es free N V) (resolved_type es others N V) (λ a b p. refl) (type_mapped U N o) (λ p. type_mapped V N p)
      type_mapped (pi x at D V) N o =
          both_mapped (made written.quantified) (renumbered_domain π) (renumbered_type π) (renumbered_type π) (resolved_domain es free N (place_of at) D o) (resolved_domain es others N (place_of at) D o) (resolved_type es free (binder_name x ∷ N) V) (resolved_type es others (binder_name x ∷ N) V)
          (λ a b p. refl) (domain_mapped D N (place_of at) o) (λ p. type_mapped V (binder_name x ∷ N) p)
      type_mapped (application T P) N o =
          both_mapped on_argument (renumbered_type π) (renumbered π) (renumbered_type π) (resolved_type es free N T o) (resolved_type es others N T o) (resolved_term es free N P) (resolved_term es others N P) argument_mapped (type_mapped T N o) (λ p. term_mapped P N p)
      type_mapped (ascription T K) N o =
          both_mapped of_kind (renumbered_type π) (renumbered_kind π) (renumbered_type π) (resolved_type es free N T o) (resolved_type es others N T o) (resolved_kind es free N K) (resolved_kind es others N K) kind_put (type_mapped T N o) (λ p. kind_mapped K N p)

      kind_mapped : (K : Term) (N : Names) (o : List Skeleton) → resolved_kind es others N K o ≡ mapped (renumbered_kind π) (resolved_kind es free N K o)
      kind_mapped (identifier x at) N o = refl
      kind_mapped (hole at) N o = refl
      kind_mapped star N o = refl
      kind_mapped (lambda x at D T) N o = refl
      kind_mapped (application T P) N o = refl
      kind_mapped (ascription T A) N o = refl
      kind_mapped (arrow U K) N o =
          both_mapped (made written.kind_arrow) (renumbered_type π) (renumbered_kind π) (renumbered_kind π) (resolved_type es free N U o) (resolved_type es others N U o) (resolved_kind es free N K) (resolved_kind es others N K) (λ a b p. refl) (type_mapped U N o) (λ p. kind_mapped K N p)
      kind_mapped (pi x at D K) N o =
          both_mapped (made written.kind_quantified) (renumbered_domain π) (renumbered_kind π) (renumbered_kind π) (resolved_domain es free N (place_of at) D o) (resolved_domain es others N (place_of at) D o) (resolved_kind es free (binder_name x ∷ N) K) (resolved_kind es others (binder_name x ∷ N) K)
          (λ a b p. refl) (domain_mapped D N (place_of at) o) (λ p. kind_mapped K (binder_name x ∷ N) p)

    classifier_mapped : (b : Bool) (U : Term) (o : List Skeleton) → classifier_read es others [] b U o ≡ mapped (renumbered_body π) (classifier_read es free [] b U o)
    classifier_mapped true U o = one_mapped written_family (renumbered_kind π) (renumbered_body π) (resolved_kind es free [] U o) (resolved_kind es others [] U o) (λ a. refl) (kind_mapped U [] o)
    classifier_mapped false U o = one_mapped written_constant (renumbered_type π) (renumbered_body π) (resolved_type es free [] U o) (resolved_type es others [] U o) (λ a. refl) (type_mapped U [] o)

    pub body_mapped : (d : Declaration) (o : List Skeleton) → body_read es others [] d o ≡ mapped (renumbered_body π) (body_read es free [] d o)
    body_mapped (declare c at U) o = classifier_mapped (ends_in_type U) U o
    body_mapped (define c None T b) o = one_mapped (λ P. written_definition P b) (renumbered π) (renumbered_body π) (resolved_term es free [] T o) (resolved_term es others [] T o) (λ a. refl) (term_mapped T [] o)
    body_mapped (define c (Some A) T b) o =
        both_mapped (made (λ U P. written_definition_of P U b)) (renumbered_type π) (renumbered π) (renumbered_body π) (resolved_type es free [] A o) (resolved_type es others [] A o) (resolved_term es free [] T) (resolved_term es others [] T) (λ a b p. refl) (type_mapped A [] o) (λ p. term_mapped T [] p)
    body_mapped (prefer a x y) o = refl
    body_mapped (give fix names) o = refl

pub whole_mapped : {A : Type 0} (g : A → A) (r : Reading A) (w : A) → taken_whole r ≡ Some w → taken_whole (mapped g r) ≡ Some (g w)
whole_mapped g None w e = absurd cc
whole_mapped g (Some (a, [])) w e = ap (option_map g) e
whole_mapped g (Some (a, s ∷ o)) w e = absurd cc
