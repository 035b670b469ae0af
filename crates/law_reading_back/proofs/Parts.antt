-- What both inductions over typed terms use.
use Rattle.std.proofs.Common.{◌≡◌, ℕ, zero, suc, List, [], ◌∷◌, length, Bool, true, false, cond, Option, Some, None, refl, sym, subst}
use Rattle.lf.specs.Entries.{Entry, entry, signature_of}
use Rattle.lf.specs.Syntax.{Head, constant, variable, metavariable, Term, lambda, root, Spine, nil, app, LfType, pi, atom, Kind, kind_pi, star, skeleton}
use Rattle.lf.specs.Substitution.{single}
use Rattle.lf.specs.Typing.{Signature, HeadHasType, HasType, SpineType, IsKind, IsContext, IsSignature, instantiate_type, instantiate_kind}
use Rattle.lf.specs.Variables.{under, Uses, UsesSpine, UsesType}
use Rattle.lf.proofs.Kept.{Covers, Covers-push, typed_uses_type, instance_uses}
use Rattle.lf.proofs.Regular.{substitution_keeps_kinds}
use Rattle.lf.proofs.Substitution.{skeleton_context_of, single_substitution_typed}
use Rattle.lf.proofs.ToSkeletons.{type_by_skeletons}
use Rattle.tw_names.specs.Scope.{binder_name}
use Rattle.tw_print.specs.Arguments.{kind_as_type, head_hidden, implicit_in}
use Rattle.tw_fixity.specs.Names.{Names as Scope}
use Rattle.tw_print.specs.Names.{Scene}
use Rattle.law_reading_back.specs.Names.{IsName}
use Rattle.law_reading_back.specs.Spelling.{IsOpen}
use Rattle.law_reading_back.proofs.Scopes.{shown, InScope, Untaken}
use Rattle.law_reading_back.proofs.Heads.{substituted_kind}

none_is_not_some : {X : Type 0} {x : X} → None ≡ Some x → ⊥
none_is_not_some e = cc

-- a typed term uses variables of its context
module _ (Σ : Signature) where
  mutual
    pub typed_uses : (G : List LfType) (V : ℕ → Bool) (M : Term) (A : LfType) → Covers G V → HasType Σ G M A → Uses V M
    typed_uses G V (lambda M) (pi A B) h m = typed_uses (A ∷ G) (under V) M B (Covers-push G V A h) m
    typed_uses G V (lambda M) (atom a T) h m = absurd m
    typed_uses G V (root k S) (pi A B) h m = absurd m
    typed_uses G V (root (constant c) S) (atom a T) h (A, g, s) = typed_uses_spine G V S A (atom a T) h s
    typed_uses G V (root (metavariable c) S) (atom a T) h (A, g, s) = typed_uses_spine G V S A (atom a T) h s
    typed_uses G V (root (variable i) S) (atom a T) h (A, g, s) = (h i A g, typed_uses_spine G V S A (atom a T) h s)

    typed_uses_spine : (G : List LfType) (V : ℕ → Bool) (S : Spine) (A C : LfType) → Covers G V → SpineType Σ G S A C → UsesSpine V S
    typed_uses_spine G V nil A C h s = tt
    typed_uses_spine G V (app M S) (pi A B) C h (m, s) = (typed_uses G V M A h m, typed_uses_spine G V S (instantiate_type A M B) C h s)
    typed_uses_spine G V (app M S) (atom a T) C h s = absurd s

-- the name of a new variable: it isn't taken, and a binder of this name has it
pub record IsNew (s : Scene) (ns : Scope) (x : List ℕ) : Type 0 where
  pub untaken : Untaken s ns x
  pub binds : binder_name x ≡ Some x

-- a new name that is a name
pub record IsGood (s : Scene) (ns : Scope) (x : List ℕ) : Type 0 where
  pub new : IsNew s ns x
  pub name : IsName x

-- a term at what it is sketched by
abbrev pub IsAt : Term → LfType → Option LfType → Type 0
IsAt (lambda M) A t = t ≡ Some A
IsAt (root h S) A t = Unit {0}

pub any_term : (M : Term) (A : LfType) → IsAt M A (Some A)
any_term (lambda M) A = refl
any_term (root h S) A = tt

pub under_named : (ns : Scope) (x : List ℕ) (j : ℕ) → under (shown ns) j ≡ true → shown (Some x ∷ ns) j ≡ true
under_named ns x zero e = refl
under_named ns x (suc j) e = e

module _ (s : Scene) (es : List Entry) (ok : IsSignature (signature_of es)) where
  pub head_spine : (U : ℕ → Bool) (h : Head) (S : Spine) → Uses U (root h S) → UsesSpine U S
  head_spine U (constant c) S u = u
  head_spine U (variable j) S u = u.1
  head_spine U (metavariable m) S u = u

  pub nothing_hidden : (h : Head) → IsOpen s h → head_hidden s h ≡ zero
  nothing_hidden (constant c) o = by_case s.implicit (implicit_in (entry s.entries c)) o.1
    where
      by_case : (b : Bool) (n : ℕ) → n ≡ zero → cond b zero n ≡ zero
      by_case true n e = refl
      by_case false n e = e
  nothing_hidden (variable j) o = refl
  nothing_hidden (metavariable m) o = refl

  pub no_variables : (V : ℕ → Bool) → Covers [] V
  no_variables V i A t = absurd t

  -- the type of a head has the variables that are shown
  pub head_uses : (G : List LfType) (ns : Scope) → InScope s (signature_of es) G ns → (h : Head) (A : LfType) (S : Spine) → HeadHasType (signature_of es) G h A → Uses (shown ns) (root h S) → UsesType (shown ns) A
  head_uses G ns i (constant c) A S t u = typed_uses_type (signature_of es) [] (shown ns) A (no_variables (shown ns)) (ok.types_ok c A t)
  head_uses G ns i (variable j) A S t u = i.closed j A t u.0
  head_uses G ns i (metavariable m) A S t u = absurd t

  pub kind_uses : (G : List LfType) (V : ℕ → Bool) (K : Kind) → Covers G V → IsKind (signature_of es) G K → UsesType V (kind_as_type (length s.entries) K)
  kind_uses G V (kind_pi A K) h (a, k) = (typed_uses_type (signature_of es) G V A h a, kind_uses (A ∷ G) (under V) K (Covers-push G V A h) k)
  kind_uses G V star h k = tt

  pub instance_is_kind : (G : List LfType) (A : LfType) (M : Term) (K : Kind) → IsContext (signature_of es) G → IsKind (signature_of es) G (kind_pi A K) → HasType (signature_of es) G M A → IsKind (signature_of es) G (instantiate_kind A M K)
  instance_is_kind G A M K g (a, k) m =
      substitution_keeps_kinds (signature_of es) ok (A ∷ G) G (single (skeleton A) M) K
      (single_substitution_typed (signature_of es) ok G A M (skeleton_context_of (signature_of es) ok G g) (type_by_skeletons (signature_of es) G A a) m) k

  pub instance_uses_kind : (V : ℕ → Bool) (A : LfType) (M : Term) (K : Kind) → Uses V M → UsesType (under V) (kind_as_type (length s.entries) K) → UsesType V (kind_as_type (length s.entries) (instantiate_kind A M K))
  instance_uses_kind V A M K m k =
      subst (UsesType V) (sym (substituted_kind (length s.entries) (single (skeleton A) M) K))
      (instance_uses V A M (kind_as_type (length s.entries) K) m k)

  pub empty_scope : InScope s (signature_of es) [] []
  empty_scope = record { context = tt; named = λ j x e. absurd (none_is_not_some e); free = λ j x e. absurd (none_is_not_some e); closed = λ j A t e. absurd t }
