-- What a declaration is written with, part by part.
use Rattle.std.proofs.Common.{◌≡◌, ℕ, List, [], Bool, Result, Err, sym, subst, ◌∙◌}
use Rattle.std.specs.Result.{IsErrOf}
use Rattle.lf.specs.Entries.{Entry, IsCanonicalSignature, signature_of}
use Rattle.lf.specs.Syntax.{LfType, Skeleton}
use Rattle.lf.specs.Typing.{IsSignature}
use Rattle.lf.proofs.Entries.{canonical_is_signature}
use Rattle.lf_elaboration.specs.Elaboration.{ElaboratesType, NewFrees}
use Rattle.lf_elaboration.specs.Skeletons.{TypeHasSkeletons}
use Rattle.lf_elaboration.specs.State.{State, nothing_yet}
use Rattle.lf_elaboration.proofs.Adds.{type_adds}
use Rattle.lf_elaboration.proofs.Skeletons.{frees_skeletons, local_grows, nothing_has_skeletons, type_skeletons}
use Rattle.lf_elaboration.specs.Written.{WrittenType as LfWrittenType}
use Rattle.tw_written.specs.View.{written_body_of, written_kind_of, written_of, written_type_of}
use Rattle.tw_written.specs.declared.written.Written.{Written}
use Rattle.tw_written.specs.declared.written.WrittenBody.{WrittenBody}
use Rattle.tw_written.specs.declared.written.WrittenBody.TheVariants as bodies
use Rattle.tw_written.specs.declared.written.WrittenKind.{WrittenKind}
use Rattle.tw_written.specs.declared.written.WrittenType.{WrittenType}
use Rattle.tw_elaborate.specs.Bodies.{BodyDeep, deep_checked_body, deep_constant_body, deep_definition_body, deep_family_body, deep_type_body}
use Rattle.tw_elaborate.specs.Deep.{ChecksDeep, InfersDeep, KindDeep, TypeDeep}
use Rattle.tw_elaborate.specs.Fits.{Stands}

module _ (es : List Entry) (frees : List ℕ) (w : WrittenBody) (D : List LfType) (s : State) (e : D ≡ []) where
  pub deep_family : (k : WrittenKind) → w ≡ bodies.Family k → KindDeep es frees D (written_kind_of k) s → BodyDeep es frees (written_body_of w) s
  deep_family k q d = subst (λ x. BodyDeep es frees (written_body_of x) s) (sym q) (deep_family_body (subst (λ E. KindDeep es frees E (written_kind_of k) s) e d))

  pub deep_constant : (U : WrittenType) → w ≡ bodies.Constant U → TypeDeep es frees D (written_type_of U) s → BodyDeep es frees (written_body_of w) s
  deep_constant U q d = subst (λ x. BodyDeep es frees (written_body_of x) s) (sym q) (deep_constant_body (subst (λ E. TypeDeep es frees E (written_type_of U) s) e d))

  pub deep_definition : (M : Written) (b : Bool) → w ≡ bodies.Definition M b → InfersDeep es frees D (written_of M) s → BodyDeep es frees (written_body_of w) s
  deep_definition M b q d = subst (λ x. BodyDeep es frees (written_body_of x) s) (sym q) (deep_definition_body (subst (λ E. InfersDeep es frees E (written_of M) s) e d))

  pub deep_type : (M : Written) (U : WrittenType) (b : Bool) → w ≡ bodies.DefinitionOf M U b → TypeDeep es frees D (written_type_of U) s → BodyDeep es frees (written_body_of w) s
  deep_type M U b q d = subst (λ x. BodyDeep es frees (written_body_of x) s) (sym q) (deep_type_body (subst (λ E. TypeDeep es frees E (written_type_of U) s) e d))

  pub deep_typed : (M : Written) (U : WrittenType) (b : Bool) (E : List LfType) (A : LfType) (s' : State) → w ≡ bodies.DefinitionOf M U b → E ≡ D → ElaboratesType es frees D (written_type_of U) s s' A → ChecksDeep es frees E (written_of M) A s' → BodyDeep es frees (written_body_of w) s
  deep_typed M U b E A s' q l t d = subst (λ x. BodyDeep es frees (written_body_of x) s) (sym q)
      (deep_checked_body (subst (λ F. ElaboratesType es frees F (written_type_of U) s s' A) e t) (subst (λ F. ChecksDeep es frees F (written_of M) A s') (l ∙ e) d))

module _ (es : List Entry) (canonical : IsCanonicalSignature es) where
  abbrev ok : IsSignature (signature_of es)
  ok = canonical_is_signature es canonical

  -- behind a type
  pub stands_with_type : (frees : List ℕ) (U : LfWrittenType) (A : LfType) (s s' : State) (D E : List LfType) → E ≡ D → ElaboratesType es frees D U s s' A → Stands (signature_of es) s D → Stands (signature_of es) s' E
  stands_with_type frees U A s s' D E e t w = subst (Stands (signature_of es) s') (sym e) (let (w', a) = type_skeletons es canonical frees t w.state w.local in
      record { state = w'; local = local_grows (signature_of es) ok s s' (type_adds es frees t w.state.numbered) D w.local })

  pub type_has : (frees : List ℕ) (U : LfWrittenType) (A : LfType) (s s' : State) (D E : List LfType) → E ≡ D → ElaboratesType es frees D U s s' A → Stands (signature_of es) s D → TypeHasSkeletons (signature_of es) s' E A
  type_has frees U A s s' D E e t w = subst (λ F. TypeHasSkeletons (signature_of es) s' F A) (sym e) (let (w', a) = type_skeletons es canonical frees t w.state w.local in a)

  -- from nothing, and behind the free variables
  pub nothing_stands : (s : State) (D : List LfType) → s ≡ nothing_yet → D ≡ [] → Stands (signature_of es) s D
  nothing_stands s D e d = subst (λ x. Stands (signature_of es) x D) (sym e) (subst (Stands (signature_of es) nothing_yet) (sym d) (record { state = nothing_has_skeletons (signature_of es) ok; local = tt }))

  pub frees_stand : (ts : List Skeleton) (ms : List ℕ) (s s' : State) (D E : List LfType) → D ≡ [] → E ≡ D → NewFrees es ts s s' ms → Stands (signature_of es) s D → Stands (signature_of es) s' E
  frees_stand ts ms s s' D E d e f w = subst (Stands (signature_of es) s') (sym (e ∙ d)) (record { state = frees_skeletons es canonical f w.state; local = tt })

-- a fault that is handed on
pub handed_on : {T U E : Type 0} (r : Result T E) (x y : E) → r ≡ Err x → IsErrOf r y → IsErrOf {T = U} (Err x) y
handed_on r x y e f = cc (e, f)
