-- What resolution makes of a declaration that has skeletons, and of the goal of a query.
use Rattle.std.specs.Prelude.{◌≡◌, ℕ, List, [], map, Bool, true, false, Option, None, Some}
use Rattle.lf.specs.Entries.{Entry, IsCanonicalSignature}
use Rattle.lf.specs.Syntax.{Skeleton}
use Rattle.lf_elaboration.specs.BodySkeletons.{BodyHasSkeletons, due_skeleton}
use Rattle.lf_elaboration.specs.Principal.{WrittenBody, written_family, written_constant, written_definition, written_definition_of}
use Rattle.lf_elaboration.specs.Written.{Written, WrittenType, WrittenKind}
use Rattle.lf_elaboration.specs.WrittenSkeletons.{AllDeclared, WrittenHasSkeleton, WrittenTypeHasSkeleton, KindHasSkeleton}
use Rattle.tw_approx.specs.Answer.{Rows, frees_of, HasSkeletons}
use Rattle.tw_approx.specs.Readings.{Reading, and_then}
use Rattle.tw_approx.specs.Skeletons.{type_skeleton, kind_due, definition_skeleton}
use Rattle.tw_names.specs.Texts.{ends_in_type}
use Rattle.tw_lexer.specs.declared.place.Place.{Place}
use Rattle.tw_parse.specs.Syntax.{Term, Declaration, declare, define, prefer, give}
use Rattle.tw_fixity.specs.Names.{Names}
use Rattle.tw_resolve.specs.Resolving.{with_both, made, resolved_term, resolved_type, resolved_kind}

-- the names and the skeletons of the free variables
abbrev pub names_of : Rows → Names
names_of rows = map (λ r. Some r.0) rows

abbrev pub skeletons_of : Rows → List Skeleton
skeletons_of rows = map (λ r. r.1) rows

abbrev pub untyped_term : Written → Option WrittenType × Written
untyped_term M = (None, M)

abbrev pub typed_term : WrittenType → Written → List Skeleton → Reading (Option WrittenType × Written)
typed_term U M o = Some ((Some U, M), o)

module _ (es : List Entry) (rows : Rows) where
  -- a definition, behind its type if one is written
  abbrev pub resolved_definition : Option Term → Term → List Skeleton → Reading (Option WrittenType × Written)
  resolved_definition None M o = and_then (resolved_term es (names_of rows) [] M o) (λ w p. Some (untyped_term w, p))
  resolved_definition (Some A) M o = with_both typed_term (resolved_type es (names_of rows) [] A o) (resolved_term es (names_of rows) [] M)

  abbrev pub DefinitionHasSkeleton : Option WrittenType × Written → Skeleton → Type 0
  DefinitionHasSkeleton (None, M) s = WrittenHasSkeleton es (skeletons_of rows) [] M s
  DefinitionHasSkeleton (Some U, M) s = WrittenTypeHasSkeleton es (skeletons_of rows) [] U s × WrittenHasSkeleton es (skeletons_of rows) [] M s

  -- A kind or a type is resolved, where the whole list is what isn't written, and what is resolved has the skeleton of what is written.
  abbrev pub ClassifierResolves : Term → List Skeleton → Bool → Type 0
  ClassifierResolves U o true = (ds : List Skeleton) × (kind_due es (frees_of rows) [] [] U o ≡ Some (ds, [])) × ((k : WrittenKind) × (resolved_kind es (names_of rows) [] U o ≡ Some (k, [])) × ((a : ℕ) → KindHasSkeleton es (skeletons_of rows) [] k a (due_skeleton ds a)))
  ClassifierResolves U o false = (s : Skeleton) × (type_skeleton es (frees_of rows) [] [] U o ≡ Some (s, [])) × ((V : WrittenType) × (resolved_type es (names_of rows) [] U o ≡ Some (V, [])) × WrittenTypeHasSkeleton es (skeletons_of rows) [] V s)

  -- So is a declaration.
  abbrev pub IsResolved : List Skeleton → Declaration → Type 0
  IsResolved o (declare c at U) = ClassifierResolves U o (ends_in_type U)
  IsResolved o (define c A M b) = (s : Skeleton) × (definition_skeleton es (frees_of rows) A M o ≡ Some (s, [])) × ((W : Option WrittenType × Written) × (resolved_definition A M o ≡ Some (W, [])) × DefinitionHasSkeleton W s)
  IsResolved o (prefer a x y) = ⊥
  IsResolved o (give fix names) = ⊥

-- The skeletons that are found are of declared families.
abbrev pub FoundAreDeclared : Type 0
FoundAreDeclared = (es : List Entry) → IsCanonicalSignature es → (d : Declaration) (rows : Rows) (o : List Skeleton) → HasSkeletons es d rows o → AllDeclared es (skeletons_of rows) × AllDeclared es o

-- What has skeletons in just one way is resolved.
abbrev pub SkeletonsAreResolved : Type 0
SkeletonsAreResolved = (es : List Entry) → IsCanonicalSignature es → (d : Declaration) (rows : Rows) (o : List Skeleton) → HasSkeletons es d rows o → IsResolved es rows o d

-- one part, and what it makes
abbrev pub with_one : {A B : Type 0} → (A → B) → Reading A → Reading B
with_one make r = and_then r (λ a p. Some (make a, p))

-- what is read, where it takes the whole list
abbrev pub taken_whole : {A : Type 0} → Reading A → Option A
taken_whole (Some (a, [])) = Some a
taken_whole _ = None

-- What a declaration is written with, its names resolved.
module _ (es : List Entry) (free N : Names) where
  abbrev pub classifier_read : Bool → Term → List Skeleton → Reading WrittenBody
  classifier_read true U o = with_one written_family (resolved_kind es free N U o)
  classifier_read false U o = with_one written_constant (resolved_type es free N U o)

  abbrev pub definition_read : Option Term → Term → Bool → List Skeleton → Reading WrittenBody
  definition_read None M b o = with_one (λ P. written_definition P b) (resolved_term es free N M o)
  definition_read (Some A) M b o = with_both (made (λ U P. written_definition_of P U b)) (resolved_type es free N A o) (resolved_term es free N M)

  abbrev pub body_read : Declaration → List Skeleton → Reading WrittenBody
  body_read (declare c at U) o = classifier_read (ends_in_type U) U o
  body_read (define c A M b) o = definition_read A M b o
  body_read (prefer a x y) o = None
  body_read (give fix names) o = None

abbrev pub resolved_body : List Entry → Rows → List Skeleton → Declaration → Option WrittenBody
resolved_body es rows o d = taken_whole (body_read es (names_of rows) [] d o)

-- the goal of a query, as the type of a constant
abbrev pub resolved_goal : List Entry → Rows → List Skeleton → Term → Option WrittenBody
resolved_goal es rows o U = taken_whole (classifier_read es (names_of rows) [] false U o)

-- What has skeletons in just one way is resolved as a whole, and has skeletons then.
abbrev pub BodiesAreResolved : Type 0
BodiesAreResolved = (es : List Entry) → IsCanonicalSignature es → (d : Declaration) (rows : Rows) (o : List Skeleton) → HasSkeletons es d rows o → (w : WrittenBody) × (resolved_body es rows o d ≡ Some w) × BodyHasSkeletons es (skeletons_of rows) w

-- A goal that doesn't end in `type` is resolved as the declaration of a constant of this type.
abbrev pub GoalsAreConstants : Type 0
GoalsAreConstants = (es : List Entry) (rows : Rows) (o : List Skeleton) (c : List ℕ) (at : Place) (U : Term) → ends_in_type U ≡ false → resolved_goal es rows o U ≡ resolved_body es rows o (declare c at U)
