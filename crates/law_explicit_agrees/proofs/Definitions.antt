-- What an explicit definition gives is its principal completion, and what it is reconstructed to.
use Rattle.std.proofs.Common.{◌≡◌, ℕ, zero, List, [], ◌∷◌, Bool, true, false, ◌||◌, Option, Some, inl, inr, refl, sym, ap, ap₂, ◌∙◌, subst}
use Rattle.lf.specs.Entries.{Body, Entry, IsCanonicalSignature, declare_constant, declare_definition, declare_family, entry, signature_of}
use Rattle.lf.specs.Substitution.{keep, reduce}
use Rattle.lf.specs.Syntax.{Head, LfType, Skeleton, Spine, Term as LfTerm, atom, constant, lambda as lf_lambda, metavariable, pi as lf_pi, root, skeleton, variable}
use Rattle.lf.specs.Typing.{HeadHasType}
use Rattle.lf.proofs.Renaming.{substitute_identity}
use Rattle.lf.proofs.TypeLaws.{substitute_identity_type}
use Rattle.lf_unification.proofs.Eta.{rename_id, rename_id_type}
use Rattle.lf_elaboration.specs.Completions.{Completes, CompletesType, FreeValue}
use Rattle.lf_elaboration.specs.Principal.{Completion, CompletesBody, IsCompletion, IsInstanceOf, IsPrincipal, WrittenBody, written_definition_of}
use Rattle.lf_elaboration.specs.SiteLaws.{total}
use Rattle.lf_elaboration.specs.Sites.{body_spots, term_spots, type_spots}
use Rattle.lf_elaboration.specs.Written.{Written, WrittenType}
use Rattle.tw_approx.specs.Answer.{HasSkeletons, IsOfObjects, Rows, frees_of}
use Rattle.tw_approx.specs.Levels.{is_family, is_family_body, is_family_entry, is_written_type, lambdas_in_term, lambdas_in_type}
use Rattle.tw_approx.specs.Names.{IsFreeVariable}
use Rattle.tw_approx.specs.Readings.{and_then}
use Rattle.tw_approx.specs.Skeletons.{Frees, ascribed, definition_skeleton, same_skeleton, term_skeleton, type_skeleton}
use Rattle.tw_approx.proofs.Sequences.{parts_of}
use Rattle.tw_approx.proofs.Unifying.{passed, skeletons_same}
use Rattle.law_explicit_form.specs.Completion.{SpineGives, TermGives}
use Rattle.law_explicit_form.specs.Form.{written_shape}
use Rattle.tw_names.specs.Scope.{binder_name}
use Rattle.tw_names.specs.Unknown.{unknown_names}
use Rattle.law_explicit_form.proofs.Gives.{term_typed, type_typed}
use Rattle.tw_parse.specs.Syntax.{Declaration, Term, application, define, identifier, lambda}
use Rattle.tw_resolve.specs.Resolved.{names_of, resolved_body, taken_whole}
use Rattle.tw_resolve.specs.Resolving.{made, resolved_term, resolved_type, with_both}
use Rattle.tw_fixity.specs.Names.{Names}
use Rattle.law_explicit_agrees.specs.Definitions.{DefinitionGives, ExplicitDefinitionIsPrincipal, ExplicitDefinitionIsReconstructed, IsExplicitDefinition}
use Rattle.law_explicit_agrees.proofs.Back.{both_parts, whole_parts}
use Rattle.law_explicit_agrees.proofs.Bare.{TermIsBare, TypeIsBare, none_in, term_closed, term_known, term_without, type_closed, type_known, type_without, whole_bare, whole_term_bare}
use Rattle.law_explicit_agrees.proofs.Completing.{term_done, type_done}
use Rattle.law_explicit_agrees.proofs.Fitting.{constant_is, term_fits, then_is, type_fits}
use Rattle.law_explicit_agrees.proofs.Nothing.{none_behind, term_none, type_none}
use Rattle.law_explicit_agrees.proofs.Parts.{TermDone, TypeDone, both_read}
use Rattle.law_explicit_agrees.proofs.Views.{view_empty}
use Rattle.law_explicit_agrees.proofs.Whole.{closed, no_values, type_ends}

module _ (es : List Entry) where
  -- what gives a term is no type
  head_is_object : (G : List LfType) (h : Head) (A : LfType) → HeadHasType (signature_of es) G h A → is_family es (Some h) ≡ false
  head_is_object G (constant c) A t = let (e, k, b) = constant_is (entry es c) A t in ap is_family_entry k ∙ ap is_family_body b
  head_is_object G (variable i) A t = refl
  head_is_object G (metavariable m) A t = refl

  spine_is_object : (M : Term) (N : Names) (G : List LfType) (h : Head) (S : Spine) (C : LfType) → SpineGives es N G M h S C → is_written_type es N M ≡ false
  spine_is_object (identifier x at) N G h S C (n, t, e) = ap (is_family es) n ∙ head_is_object G h C t
  spine_is_object (application M P) N G h S C (A, B, U, L, b, g, e, c) = spine_is_object M N G h U (lf_pi A B) b
  spine_is_object M N G h S C g = absurd g

  term_is_object : (M : Term) (N : Names) (G : List LfType) (A : LfType) (R : LfTerm) → TermGives es N G M A R → is_written_type es N M ≡ false
  term_is_object (lambda x at D M) N G (lf_pi A B) (lf_lambda R) (d, m) = term_is_object M (binder_name x ∷ N) (A ∷ G) B R m
  term_is_object (identifier x at) N G (atom a S) (root h R) (n, t, e) = ap (is_family es) n ∙ head_is_object G h (atom a S) t
  term_is_object (application M P) N G (atom a S) (root h R) (A, B, U, L, b, g, e, c) = spine_is_object M N G h U (lf_pi A B) b
  term_is_object M N G A R g = absurd g

  -- The definition is written so. Its principal completion has this body, over no quantifiers, and each completion has it.
  pub record IsDefinedAs (d : Declaration) (b : Body) : Type 0 where
    pub written : WrittenBody
    pub resolved : resolved_body es [] [] d ≡ Some written
    pub principal : IsPrincipal es [] written (closed es b)
    pub only : (k : Completion) → IsCompletion es [] written k → k.body ≡ b

  module _ (c : Option (List ℕ)) (U P : Term) (abbreviation : Bool) (A : LfType) (M : LfTerm) (form : IsExplicitDefinition es U P) (g : DefinitionGives es U P A M) where
    bare_type : TypeIsBare es [] U
    bare_type = whole_bare es U form.type_form

    bare_term : TermIsBare es [] P
    bare_term = whole_term_bare es P (written_shape U) form.term_form

    pub definition_objects : IsOfObjects es (define c (Some U) P abbreviation)
    definition_objects = record {
      known = none_in es (unknown_names es [] U) (unknown_names es [] P) (type_known es U [] [] (λ x h. h) bare_type) (term_known es P [] [] (λ x h. h) bare_term);
      no_definition = ap₂ (λ x y. x || y) (term_is_object P [] [] A M g.1) (type_ends es U [] [] A g.0);
      no_lambda = none_in es (lambdas_in_type U) (lambdas_in_term P) (type_without es U [] bare_type) (term_without es P [] bare_term);
    }

    -- the term has the skeleton of the type, whatever the free variables have, and nothing is left out
    reads : (f : Frees) (o : List Skeleton) → definition_skeleton es f (Some U) P o ≡ Some (skeleton A, o)
    reads f o =
        then_is (type_skeleton es f [] [] U o) (skeleton A) o (λ s p. and_then (term_skeleton es f [] [] P p) (ascribed s)) (Some (skeleton A, o)) (type_fits es f U [] [] A g.0 bare_type o)
        (then_is (term_skeleton es f [] [] P o) (skeleton A) o (ascribed (skeleton A)) (Some (skeleton A, o)) (term_fits es f P [] [] A M g.1 bare_term o)
        (passed (same_skeleton (skeleton A) (skeleton A)) (skeleton A) o (skeletons_same (skeleton A) (skeleton A) refl)))

    pub nothing_free : (x : List ℕ) → IsFreeVariable es x (define c (Some U) P abbreviation) → ⊥
    nothing_free x (inl i) = type_closed es x U [] bare_type i
    nothing_free x (inr i) = term_closed es x P [] bare_term i

    pub definition_skeletons : HasSkeletons es (define c (Some U) P abbreviation) [] []
    definition_skeletons = record {
      row_is_free = λ x h. absurd h;
      free_has_row = λ x h. nothing_free x h;
      distinct = tt;
      fits = (skeleton A, reads (frees_of []) []);
      only = λ f p h. let (s, k) = h in record { frees = λ x i. absurd (nothing_free x i); omitted = (parts_of (skeleton A) s p [] (sym (reads f p) ∙ k)).1 };
    }

    definition_only : (V : WrittenType) (W : Written) → ((F : List LfType) (vs : List FreeValue) (N : LfTerm) (B : LfType) → Completes es F vs [] W N B → (N ≡ M) × (B ≡ A))
        → (k : Completion) → IsCompletion es [] (written_definition_of W V abbreviation) k → k.body ≡ declare_definition M A abbreviation
    definition_only V W only k h = by k.body h.completed
      where
        by : (b : Body) → CompletesBody es k.quantifiers k.frees (written_definition_of W V abbreviation) b → b ≡ declare_definition M A abbreviation
        by (declare_definition N B a) (e, u, w) = let (p, q) = only k.quantifiers k.frees N B w in ap (declare_definition N B) (sym e) ∙ ap₂ (λ X Y. declare_definition X Y abbreviation) p q
        by (declare_family K) x = absurd x
        by (declare_constant B) x = absurd x

    definition_instance : (w : WrittenBody) (k : Completion) → IsCompletion es [] w k → k.body ≡ declare_definition M A abbreviation → IsInstanceOf (signature_of es) (closed es (declare_definition M A abbreviation)) k
    definition_instance w k h only = record {
      terms = keep;
      typed = λ j B u. absurd u;
      frees = sym (no_values es k.quantifiers k.frees h.frees_typed);
      body = ap₂ (λ N B. declare_definition N B abbreviation) (substitute_identity reduce M) (substitute_identity_type reduce A) ∙ sym only;
    }

    pub definition_none : (rows : Rows) (o : List Skeleton) (w : WrittenBody) → resolved_body es rows o (define c (Some U) P abbreviation) ≡ Some w → total (body_spots es w) ≡ zero
    definition_none rows o w r =
        let e = whole_parts (with_both (made (λ V N. written_definition_of N V abbreviation)) (resolved_type es (names_of rows) [] U o) (resolved_term es (names_of rows) [] P)) w r in
        let (V, n, N, i, j, s) = both_parts (λ V N. written_definition_of N V abbreviation) (resolved_type es (names_of rows) [] U o) (resolved_term es (names_of rows) [] P) w [] e in
        subst (λ y. total (body_spots es y) ≡ zero) (sym s)
        (none_behind (type_spots es V) (term_spots es true N) (type_none es (names_of rows) U [] [] o V n (λ x h. h) bare_type i) (term_none es (names_of rows) P [] [] n N [] true (λ x h. h) bare_term j))

    pub definition_principal : IsCanonicalSignature es → IsDefinedAs (define c (Some U) P abbreviation) (declare_definition M A abbreviation)
    definition_principal canonical = by (type_done es canonical U [] [] view_empty A g.0 bare_type) (term_done es canonical P [] [] view_empty A M g.1 bare_term)
      where
        by : TypeDone es view_empty U A → TermDone es view_empty P A M → IsDefinedAs (define c (Some U) P abbreviation) (declare_definition M A abbreviation)
        by (X, e, k) (Y, f, l) =
            let p : A ≡ X = e ∙ rename_id_type X in
            let q : A ≡ Y = f ∙ rename_id_type Y in
            let r : M ≡ l.term = l.term_is ∙ rename_id l.term in
            let only : (k' : Completion) → IsCompletion es [] (written_definition_of l.written k.written abbreviation) k' → k'.body ≡ declare_definition M A abbreviation =
            definition_only k.written l.written (λ F vs N B d. let (i, j) = l.only F vs N B d in (i ∙ sym r, j ∙ sym q)) in
            record {
              written = written_definition_of l.written k.written abbreviation;
              resolved = ap taken_whole (both_read (made (λ V N. written_definition_of N V abbreviation)) (resolved_type es [] [] U []) (resolved_term es [] [] P) k.written l.written (written_definition_of l.written k.written abbreviation) [] (k.resolved []) (l.resolved []) refl);
              principal = record {
                completion = record {
                  context = tt;
                  frees_typed = tt;
                  completed = (
                    refl,
                    subst (CompletesType es [] [] [] k.written) (sym p) k.completes,
                    subst (λ N. Completes es [] [] [] l.written N A) (sym r) (subst (Completes es [] [] [] l.written l.term) (sym q) l.completes),
                  );
                };
                typed = (type_typed es U [] [] A g.0, term_typed es P [] [] A M g.1);
                most_general = λ k' h. definition_instance (written_definition_of l.written k.written abbreviation) k' h (only k' h);
              };
              only = only;
            }

pub explicit_definition_principal : ExplicitDefinitionIsPrincipal
explicit_definition_principal es canonical c U P abbreviation A M form g e b =
    let p = definition_principal es c U P abbreviation A M form g canonical in
    record {
      objects = definition_objects es c U P abbreviation A M form g;
      skeletons = definition_skeletons es c U P abbreviation A M form g;
      written = p.written;
      resolved = p.resolved;
      principal = subst (λ d. IsPrincipal es [] p.written (closed es d)) (sym b) p.principal;
    }

pub explicit_definition_reconstructed : ExplicitDefinitionIsReconstructed
explicit_definition_reconstructed es canonical c U P abbreviation A M form g e h =
    let p = definition_principal es c U P abbreviation A M form g canonical in
    record {
      rows = [];
      written = p.written;
      is_written = record { objects = definition_objects es c U P abbreviation A M form g; omitted = []; skeletons = definition_skeletons es c U P abbreviation A M form g; resolved = p.resolved };
      quantifiers = [];
      quantifier_hints = [];
      inner = declare_definition M A abbreviation;
      shown = [];
      completed = record {
        frees = [];
        principal = p.principal;
        in_order = inl (record { makes_none = definition_none es c U P abbreviation A M form g [] [] p.written p.resolved; no_quantifier = refl; no_hint = refl; none_shown = refl });
      };
      is_entry = h;
    }
