-- Cases whose terms have types of LF, beside a pattern that is to cover them: then what is unified with the pattern is typed.
use Rattle.std.specs.Prelude.{◌≡◌, ℕ, List, [], ◌∷◌, length, Option, Some, None}
use Rattle.lf.specs.Syntax.{Term, Spine, nil, app, LfType, Kind, kind_pi, star}
use Rattle.lf.specs.Substitution.{Image}
use Rattle.lf.specs.Typing.{Signature, HasType, instantiate_kind}
use Rattle.lf.specs.Variables.{target, target_arguments, binders, onto, Values}
use Rattle.lf.specs.Subordination.{Block}
use Rattle.lf.specs.Worlds.{instance}
use Rattle.lf_checks.specs.Clause.{scope}
use Rattle.lf_cases.specs.Case.{Case, items_context}
use Rattle.lf_cases.specs.Pattern.{Pattern, is_given}
use Rattle.lf_cases.specs.Candidates.{given_images, with_given}
use Rattle.lf_coverage.specs.Heads.{IsTypedCase}
use Rattle.lf_coverage.specs.TypedLocal.{HasTypedLocal}

-- The arguments of a case for a family of this kind: each that there is has the type of its place, in which the arguments before it stand, and at the
-- other places those of T.
abbrev pub TypedArguments : Signature → List LfType → List (Option Term) → Spine → Kind → Type 0
TypedArguments Σ G [] nil star = Unit {0}
TypedArguments Σ G [] nil (kind_pi A K) = ⊥
TypedArguments Σ G [] (app N T) K = ⊥
TypedArguments Σ G (M ∷ Ms) nil K = ⊥
TypedArguments Σ G (M ∷ Ms) (app N T) star = ⊥
TypedArguments Σ G (Some M ∷ Ms) (app N T) (kind_pi A K) = HasType Σ G M A × TypedArguments Σ G Ms T (instantiate_kind A M K)
TypedArguments Σ G (None ∷ Ms) (app N T) (kind_pi A K) = TypedArguments Σ G Ms T (instantiate_kind A N K)

-- what stands for the variables of the pattern's clause: the given terms; the others move past the items
abbrev pub given_values : Case → Pattern → ℕ → Image
given_values C p = given_images (scope p.clause) C.given (length (items_context C.items))

-- A case that is typed beside a pattern of its family. Over its items each given term has the type of its variable, and terms are given for the
-- variables in this type; the local context is the pattern's with the given terms put in; and the arguments have, with the clause's variables
-- behind the items, the types of their places, where at the places that aren't covered the pattern's own arguments stand, with the given terms
-- put in. So it is with constants' clauses, and where what is given is closed under types. The goal plus X Y _ is so beside plus-s, and the goal plus X Y Z of its outputs beside its subgoal plus X Y _, where X and Y are given.
pub record IsTypedBeside (Σ : Signature) (W : List Block) (C : Case) (p : Pattern) : Type 0 where
  pub by_skeletons : IsTypedCase Σ W C
  pub local_typed : HasTypedLocal Σ C
  pub same_family : target p.type ≡ C.family
  pub kind : Kind
  pub of_family : Σ.kinds C.family ≡ Some kind
  pub given : Values Σ (is_given C.given) (scope p.clause) (items_context C.items) (given_values C p)
  pub local : C.local ≡ instance (binders [] p.type) (given_values C p)
  pub arguments : TypedArguments Σ (onto C.local (onto (items_context C.items) (scope p.clause))) C.arguments (with_given C p.clause (binders [] p.type) (target_arguments p.type)) kind
