-- The body of a declaration that has skeletons, and of a goal.
use Rattle.std.proofs.Common.{◌≡◌, ℕ, List, [], Bool, true, false, Option, None, Some, sym, ap, ◌∙◌}
use Rattle.lf.specs.Entries.{Entry}
use Rattle.lf.specs.Syntax.{Skeleton}
use Rattle.lf_elaboration.specs.BodySkeletons.{BodyHasSkeletons}
use Rattle.lf_elaboration.specs.Principal.{WrittenBody, written_family, written_constant, written_definition, written_definition_of}
use Rattle.lf_elaboration.specs.Written.{Written, WrittenType}
use Rattle.tw_approx.specs.Answer.{Rows}
use Rattle.tw_approx.specs.Readings.{Reading, and_then}
use Rattle.tw_approx.proofs.Sequences.{parts_of}
use Rattle.tw_names.specs.Texts.{ends_in_type}
use Rattle.tw_parse.specs.Syntax.{Term, Declaration, declare, define, prefer, give}
use Rattle.tw_resolve.specs.Resolving.{resolved_term, resolved_type, with_both, made}
use Rattle.tw_resolve.specs.Resolved.{names_of, skeletons_of, untyped_term, typed_term, resolved_definition, DefinitionHasSkeleton, ClassifierResolves, IsResolved, with_one, taken_whole, classifier_read, resolved_body, BodiesAreResolved, GoalsAreConstants}
use Rattle.tw_resolve.proofs.Whole.{skeletons_are_resolved}

-- the body that a definition makes
abbrev body_of : Bool → Option WrittenType × Written → WrittenBody
body_of b (None, M) = written_definition M b
body_of b (Some U, M) = written_definition_of M U b

untyped_body : (b : Bool) (r : Reading Written) (W : Option WrittenType × Written) → and_then r (λ w p. Some (untyped_term w, p)) ≡ Some (W, []) → taken_whole (with_one (λ N. written_definition N b) r) ≡ Some (body_of b W)
untyped_body b None W e = absurd cc
untyped_body b (Some (M, p)) W e =
    let h = parts_of (untyped_term M) W p [] e in
    ap (λ (q : List Skeleton). taken_whole (Some (written_definition M b, q))) h.1 ∙ ap (λ (x : Option WrittenType × Written). Some (body_of b x)) h.0

typed_rest : (b : Bool) (U : WrittenType) (r : Reading Written) (W : Option WrittenType × Written) → and_then r (typed_term U) ≡ Some (W, []) → taken_whole (and_then r (made (λ U N. written_definition_of N U b) U)) ≡ Some (body_of b W)
typed_rest b U None W e = absurd cc
typed_rest b U (Some (M, p)) W e =
    let h = parts_of (Some U, M) W p [] e in
    ap (λ (q : List Skeleton). taken_whole (Some (written_definition_of M U b, q))) h.1 ∙ ap (λ (x : Option WrittenType × Written). Some (body_of b x)) h.0

typed_body : (b : Bool) (r : Reading WrittenType) (f : List Skeleton → Reading Written) (W : Option WrittenType × Written) → with_both typed_term r f ≡ Some (W, []) → taken_whole (with_both (made (λ U N. written_definition_of N U b)) r f) ≡ Some (body_of b W)
typed_body b None f W e = absurd cc
typed_body b (Some (U, p)) f W e = typed_rest b U (f p) W e

module _ (es : List Entry) (rows : Rows) where
  abbrev HasBody : List Skeleton → Declaration → Type 0
  HasBody o d = (w : WrittenBody) × (resolved_body es rows o d ≡ Some w) × BodyHasSkeletons es (skeletons_of rows) w

  definition_body : (c : Option (List ℕ)) (A : Option Term) (M : Term) (b : Bool) (o : List Skeleton) (W : Option WrittenType × Written) → resolved_definition es rows A M o ≡ Some (W, []) → resolved_body es rows o (define c A M b) ≡ Some (body_of b W)
  definition_body c None M b o W e = untyped_body b (resolved_term es (names_of rows) [] M o) W e
  definition_body c (Some A) M b o W e = typed_body b (resolved_type es (names_of rows) [] A o) (resolved_term es (names_of rows) [] M) W e

  body_skeletons : (b : Bool) (W : Option WrittenType × Written) (s : Skeleton) → DefinitionHasSkeleton es rows W s → BodyHasSkeletons es (skeletons_of rows) (body_of b W)
  body_skeletons b (None, M) s h = (s, h)
  body_skeletons b (Some U, M) s h = (s, h.0, h.1)

  classifier_body : (U : Term) (o : List Skeleton) (b : Bool) → ClassifierResolves es rows U o b → (w : WrittenBody) × (taken_whole (classifier_read es (names_of rows) [] b U o) ≡ Some w) × BodyHasSkeletons es (skeletons_of rows) w
  classifier_body U o true (ds, e, (k, f, h)) = (written_family k, ap (λ r. taken_whole (with_one written_family r)) f, (ds, h))
  classifier_body U o false (s, e, (V, f, h)) = (written_constant V, ap (λ r. taken_whole (with_one written_constant r)) f, (s, h))

  has_body : (d : Declaration) (o : List Skeleton) → IsResolved es rows o d → HasBody o d
  has_body (declare c at U) o h = classifier_body U o (ends_in_type U) h
  has_body (define c A M b) o (s, e, (W, f, h)) = (body_of b W, definition_body c A M b o W f, body_skeletons b W s h)
  has_body (prefer a x y) o h = absurd h
  has_body (give fix names) o h = absurd h

pub bodies_are_resolved : BodiesAreResolved
bodies_are_resolved es canonical d rows o h = has_body es rows d o (skeletons_are_resolved es canonical d rows o h)

pub goals_are_constants : GoalsAreConstants
goals_are_constants es rows o c at U e = ap (λ (b : Bool). taken_whole (classifier_read es (names_of rows) [] b U o)) (sym e)
