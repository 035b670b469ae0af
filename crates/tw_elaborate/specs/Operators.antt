-- What is applied to arguments.
use Rattle.std.specs.Borrow.{Bor}
use Rattle.std.specs.Prelude.{◌≡◌, List, [], ◌∷◌, ◌++◌, map, ◌<◌, ◌⊎◌}
use Rattle.lf.specs.Deep.{DeepSubstitution}
use Rattle.lf.specs.Depth.{depth_limit, type_depth}
use Rattle.lf.specs.Eta.{eta_expand}
use Rattle.lf.specs.SkeletonTyping.{HeadSkeletons, TermSkeleton}
use Rattle.lf.specs.Substitution.{reduce, single, substitute}
use Rattle.lf.specs.Syntax as lf
use Rattle.lf.specs.Typing.{instantiate_type}
use Rattle.lf_elaboration.specs.Written as theory
use Rattle.tw_terms.specs.OpenView.{open_head_of, open_spine_of, open_term_of, open_type_of}
use Rattle.tw_written.specs.View.{written_of}
use Rattle.tw_written.specs.declared.written.Written.{Written}
use Rattle.tw_elaborate.specs.declared.waiting.Begun.{Begun}
use Rattle.tw_elaborate.specs.declared.waiting.Next.{Next}
use Rattle.tw_elaborate.specs.declared.waiting.Next.TheVariants.{Argument, Nothing}
use Rattle.tw_elaborate.specs.declared.operators.Operator.{Operator}
use Rattle.tw_elaborate.specs.declared.operators.Operator.TheVariants.{Head, Term}

-- the term that it stands for at a skeleton
abbrev pub operator_of : lf.Skeleton → Operator → lf.Term
operator_of a (Head h S) = eta_expand a (open_head_of h) (open_spine_of S)
operator_of a (Term M) = open_term_of M

-- a term that arguments are put into
abbrev pub IsTerm : Operator → Type 0
IsTerm (Head h S) = ⊥
IsTerm (Term M) = Unit {0}

-- M has the skeleton a → b, and N has a
pub record Applies (a b : lf.Skeleton) (M N : lf.Term) : Type 0 where
  pub heads : HeadSkeletons
  pub context : List lf.Skeleton
  pub function_typed : TermSkeleton heads context M (lf.arrow a b)
  pub argument_typed : TermSkeleton heads context N a

-- M is a lambda, and R its body with N put in
pub record PutsIn (a : lf.Skeleton) (M N R : lf.Term) : Type 0 where
  pub body : lf.Term
  pub is : M ≡ lf.lambda body
  pub result : R ≡ substitute reduce (single a N) body

-- there a term is deeper than 4,096
pub record PutsInDeep (a : lf.Skeleton) (M N : lf.Term) : Type 0 where
  pub body : lf.Term
  pub is : M ≡ lf.lambda body
  pub deep : DeepSubstitution depth_limit (single a N) body

-- an argument of the type A is put into the term, and there a term is deeper than 4,096, or the type that is left of B is deeper
abbrev pub TakesArgumentDeep : Operator → lf.LfType → lf.LfType → lf.Term → Type 0
TakesArgumentDeep o A B N = (IsTerm o × PutsInDeep (lf.skeleton A) (operator_of (lf.arrow (lf.skeleton A) (lf.skeleton B)) o) N) ⊎ (depth_limit < type_depth (instantiate_type A N B))

-- what is written on arguments, the last one first
abbrev pub applied_to : theory.Written → List theory.Written → theory.Written
applied_to F [] = F
applied_to F (P ∷ Ps) = theory.applied (applied_to F Ps) P

abbrev pub written_terms : List (Bor Written) → List theory.Written
written_terms xs = map (λ x. written_of x.now) xs

-- a row that is begun takes its next argument, or has all
abbrev pub IsNext : Begun → Next → Type 0
IsNext b (Argument P p) = (b.args.items ≡ p.value.args.items ++ P ∷ []) × (p.value.operator ≡ b.operator) × (open_type_of b.ty ≡ lf.pi (open_type_of p.value.domain) (open_type_of p.value.range))
IsNext b (Nothing d) = (b.args.items ≡ []) × (d.value.operator ≡ b.operator) × (d.value.ty ≡ b.ty)
