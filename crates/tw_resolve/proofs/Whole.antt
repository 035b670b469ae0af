-- The resolution of a declaration that has skeletons.
use Rattle.std.proofs.Common.{◌≡◌, ℕ, List, [], Bool, true, false, Option, None, Some, ◌⊎◌, inl, inr, refl, sym, subst}
use Rattle.lf.specs.Entries.{Entry, IsCanonicalSignature}
use Rattle.lf.specs.Syntax.{Skeleton}
use Rattle.lf_elaboration.specs.Written.{Written, WrittenType}
use Rattle.lf_elaboration.specs.WrittenSkeletons.{AllDeclared}
use Rattle.tw_approx.specs.Answer.{Rows, frees_of, HasRow, HasSkeletons}
use Rattle.tw_approx.specs.Names.{IsFreeIn, IsFreeInType}
use Rattle.tw_approx.specs.Readings.{and_then}
use Rattle.tw_approx.specs.Skeletons.{FitsClassifier, ascribed, whole, term_skeleton, family_skeleton, type_skeleton, kind_due, definition_skeleton, same_skeleton}
use Rattle.tw_approx.proofs.Sequences.{and_then_parts}
use Rattle.tw_approx.proofs.Unifying.{equal_skeletons, passed, if_passed}
use Rattle.tw_names.specs.Texts.{ends_in_type}
use Rattle.tw_parse.specs.Syntax.{Term, Declaration, declare, define, prefer, give}
use Rattle.tw_resolve.specs.Resolving.{resolved_term, resolved_type, resolved_kind}
use Rattle.tw_resolve.specs.Resolved.{names_of, skeletons_of, untyped_term, typed_term, resolved_definition, DefinitionHasSkeleton, ClassifierResolves, IsResolved, SkeletonsAreResolved}
use Rattle.tw_resolve.proofs.Declared.{found_are_declared}
use Rattle.tw_resolve.proofs.Forms.{KindIs, Anything, KindFits, TermFits, TypeFits, type_part}
use Rattle.tw_resolve.proofs.Names.{thinner_empty}
use Rattle.tw_resolve.proofs.Parts.{Resolves, after, finish, becomes, settled, named_alike}
use Rattle.tw_resolve.proofs.Walking.{TypeResolves, term_resolves, family_resolves, kind_resolves}

module _ (es : List Entry) (canonical : IsCanonicalSignature es) (rows : Rows) where
  type_resolves : (A : Term) → ((x : List ℕ) → IsFreeIn es x [] A → HasRow x rows) → (o : List Skeleton) (s : Skeleton) (q : List Skeleton) → type_skeleton es (frees_of rows) [] [] A o ≡ Some (s, q) → TypeResolves es canonical rows [] [] [] [] A o s q
  type_resolves A r o s q e =
      let c = and_then_parts (family_skeleton es (frees_of rows) [] [] A o) whole s q e in
      type_part es (skeletons_of rows) (family_skeleton es (frees_of rows) [] [] A) (resolved_type es (names_of rows) [] A) [] c.0 o c.1 s q c.3 (family_resolves es canonical rows A [] [] [] [] thinner_empty r o c.0 c.1 c.2)

  classifier_resolved : (U : Term) (o : List Skeleton) (b : Bool) → ((x : List ℕ) → IsFreeIn es x [] U → HasRow x rows) → AllDeclared es o → ((p : List Skeleton) → FitsClassifier es (frees_of rows) U p b → p ≡ o)
      → FitsClassifier es (frees_of rows) U o b → ClassifierResolves es rows U o b
  classifier_resolved U o true r d only (ds, e) =
      (ds, e, settled es (kind_due es (frees_of rows) [] [] U) (resolved_kind es (names_of rows) [] U) (KindIs ds) (KindFits es (skeletons_of rows) [] ds) ds o (kind_resolves es canonical rows U [] [] [] [] thinner_empty r o ds [] e) d (λ p h. only p (ds, h)))
  classifier_resolved U o false r d only (s, e) =
      (s, e, settled es (type_skeleton es (frees_of rows) [] [] U) (resolved_type es (names_of rows) [] U) Anything (TypeFits es (skeletons_of rows) [] s) s o (type_resolves U r o s [] e) d (λ p h. only p (s, h)))

  definition_resolves : (A : Option Term) (M : Term) → ((x : List ℕ) → IsFreeInType es x A ⊎ IsFreeIn es x [] M → HasRow x rows) → (o : List Skeleton) (s : Skeleton) (q : List Skeleton) → definition_skeleton es (frees_of rows) A M o ≡ Some (s, q)
      → Resolves es (definition_skeleton es (frees_of rows) A M) (resolved_definition es rows A M) Anything (λ W. DefinitionHasSkeleton es rows W s) s o q
  definition_resolves None M r o s q e =
      becomes es (term_skeleton es (frees_of rows) [] [] M) (resolved_term es (names_of rows) [] M) untyped_term Anything (TermFits es (skeletons_of rows) [] s) Anything (λ W. DefinitionHasSkeleton es rows W s) s o q (λ v h. tt) (λ v h g. g)
      (term_resolves es canonical rows M [] [] [] [] thinner_empty (λ x h. r x (inr h)) o s q e)
  definition_resolves (Some A) M r o s q e =
      let f = frees_of rows in
      let a = and_then_parts (type_skeleton es f [] [] A o) (λ k p. and_then (term_skeleton es f [] [] M p) (ascribed k)) s q e in
      let b = and_then_parts (term_skeleton es f [] [] M a.1) (ascribed a.0) s q a.3 in
      let t = if_passed (same_skeleton a.0 b.0) a.0 s b.1 q b.3 in
      let same : b.0 ≡ a.0 = sym (equal_skeletons a.0 b.0 t.0) in
      let Fits : Skeleton → Option WrittenType × Written → Type 0 = λ k W. DefinitionHasSkeleton es rows W k in
      named_alike es (definition_skeleton es f (Some A) M) (resolved_definition es rows (Some A) M) (λ _. Anything) Fits a.0 s o b.1 q t.1 t.2
      (after es (type_skeleton es f [] [] A) (λ k p. and_then (term_skeleton es f [] [] M p) (ascribed k)) (resolved_type es (names_of rows) [] A) (resolved_term es (names_of rows) [] M) typed_term Anything (TypeFits es (skeletons_of rows) [] a.0) Anything (TermFits es (skeletons_of rows) [] b.0) Anything (Fits a.0) a.0 a.0 o a.1 b.1
      (λ u v i j. record { value = (Some u, v); makes = λ n. refl; always = tt; good = λ h. (h.0, subst (λ z. TermFits es (skeletons_of rows) [] z v) same h.1) })
      (type_resolves A (λ x h. r x (inl h)) o a.0 a.1 a.2)
      (finish es (term_skeleton es f [] [] M) (ascribed a.0) (resolved_term es (names_of rows) [] M) Anything (TermFits es (skeletons_of rows) [] b.0) b.0 a.0 a.1 b.1 (λ n. passed (same_skeleton a.0 b.0) a.0 n t.0) (term_resolves es canonical rows M [] [] [] [] thinner_empty (λ x h. r x (inr h)) a.1 b.0 b.1 b.2)))

  resolved : (d : Declaration) (o : List Skeleton) → HasSkeletons es d rows o → AllDeclared es o → IsResolved es rows o d
  resolved (declare c at U) o h a = classifier_resolved U o (ends_in_type U) h.free_has_row a (λ p f. (h.only (frees_of rows) p f).omitted) h.fits
  resolved (define c A M b) o h a =
      let f = h.fits in
      (f.0, f.1, settled es (definition_skeleton es (frees_of rows) A M) (resolved_definition es rows A M) Anything (λ W. DefinitionHasSkeleton es rows W f.0) f.0 o (definition_resolves A M h.free_has_row o f.0 [] f.1) a (λ p e. (h.only (frees_of rows) p (f.0, e)).omitted))
  resolved (prefer a x y) o h k = h.fits
  resolved (give fix names) o h k = h.fits

pub skeletons_are_resolved : SkeletonsAreResolved
skeletons_are_resolved es canonical d rows o h = resolved es canonical rows d o h (found_are_declared es canonical d rows o h).1
