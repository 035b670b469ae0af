-- What a metavariable on a pattern allows against the other side of its equation.
use Rattle.std.specs.Prelude.{◌≡◌, ℕ, List, [], Option, Some, ◌⊎◌}
use Rattle.lf.specs.Eta.{eta_arguments}
use Rattle.lf.specs.SkeletonTyping.{TermSkeleton}
use Rattle.lf.specs.Syntax.{Term, Spine, LfType, base, metavariable, root, skeleton}
use Rattle.lf.specs.Typing.{Signature}
use Rattle.lf_unification.specs.Inversion.{Inverted, IsPattern, NeverInverted, OccursRigid}
use Rattle.lf_unification.specs.OpenTyping.{MetavariablesIn, MetavariablesInType, skeletons_of}
use Rattle.lf_unification.specs.Outside.{CanBind}
use Rattle.lf_unification.specs.Patterns.{lambdas_of, local_skeletons, pattern}
use Rattle.lf_unification.specs.Pruning.{CanAgree, CanDrop, PrunedType, pruned_type}
use Rattle.lf_unification.specs.Putting.{Unbound}
use Rattle.lf_unification.specs.Reach.{IsReached}
use Rattle.lf_unification.specs.Steps.{IsRefuted, store_at}
use Rattle.lf_unification.specs.Unifiers.{Equation, Side}
use Rattle.tw_metas.specs.State.{State}
use Rattle.tw_terms.specs.OpenView.{open_spine_of, open_term_of, open_type_of}
use Rattle.tw_putting.specs.Fits.{declared_skeletons}
use Rattle.tw_putting.specs.Stores.{PutsType, bindings_of, types_of}
use Rattle.tw_putting.specs.Unfolding.{HeadStays}
use Rattle.tw_prune.specs.Standing.{IsVariableOfPlace}
use Rattle.tw_putting.specs.Whole.{IsConsistent}
use Rattle.tw_unify.specs.declared.moves.Move.{Move}
use Rattle.tw_unify.specs.declared.moves.Move.TheVariants.{Bind, Lose, Refute}

-- two sides of one family, with the bindings put in
pub record SidesFit (s : State) (D : List LfType) (M N : Term) : Type 0 where
  pub signature : Signature
  pub consistent : IsConsistent s
  pub family : ℕ
  pub left_typed : TermSkeleton (declared_skeletons signature (types_of s)) (local_skeletons D []) M (base family)
  pub right_typed : TermSkeleton (declared_skeletons signature (types_of s)) (local_skeletons D []) N (base family)
  pub left_unbound : MetavariablesIn (Unbound (bindings_of s)) M
  pub right_unbound : MetavariablesIn (Unbound (bindings_of s)) N

-- an unbound metavariable m on the pattern xs, and the other side, of its family
pub record AgainstFits (s : State) (D : List LfType) (m : ℕ) (xs : List ℕ) (N : Term) : Type 0 where
  pub signature : Signature
  pub consistent : IsConsistent s
  pub of_type : LfType
  pub declared : types_of s m ≡ Some of_type
  pub is_pattern : IsPattern D (skeletons_of (types_of s) m) xs
  pub unbound : Unbound (bindings_of s) m
  pub family : ℕ
  pub right_typed : TermSkeleton (declared_skeletons signature (types_of s)) (local_skeletons D []) N (base family)

-- two sides of one family; where the left one's head is a metavariable, it isn't bound
pub record HeadsFit (s : State) (D : List LfType) (M N : Term) : Type 0 where
  pub signature : Signature
  pub consistent : IsConsistent s
  pub family : ℕ
  pub left_typed : TermSkeleton (declared_skeletons signature (types_of s)) (local_skeletons D []) M (base family)
  pub right_typed : TermSkeleton (declared_skeletons signature (types_of s)) (local_skeletons D []) N (base family)
  pub left_stays : HeadStays s M

-- m on the pattern xs
abbrev pub on_pattern : State → ℕ → List ℕ → Term
on_pattern s m xs = root (metavariable m) (pattern (skeletons_of (types_of s) m) xs)

-- the new type of a metavariable, and the arguments that stay
abbrev pub GivesPruned : {Ψ : ℕ → Option LfType} {n dropped : ℕ} → PrunedType Ψ n dropped → LfType → Spine → Type 0
GivesPruned p Y S = (pruned_type p ≡ Y) × (pattern (skeleton (pruned_type p)) p.kept ≡ S)

-- N is m on the pattern ys, and on no other
pub record IsSame (s : State) (D : List LfType) (m : ℕ) (ys : List ℕ) (N : Term) : Type 0 where
  pub is_pattern : IsPattern D (skeletons_of (types_of s) m) ys
  pub is : N ≡ on_pattern s m ys
  pub only : (zs : List ℕ) → IsPattern D (skeletons_of (types_of s) m) zs → N ≡ on_pattern s m zs → ys ≡ zs

-- n can't lose its argument at the place
abbrev pub KeepsIt : State → ℕ → ℕ → Type 0
KeepsIt s n place = (dropped : ℕ) → IsVariableOfPlace (skeletons_of (types_of s) n) place dropped → PrunedType (types_of s) n dropped → ⊥

-- n can lose it
pub record LosesIt (s : State) (n place : ℕ) (Y : LfType) (S : Spine) : Type 0 where
  pub dropped : ℕ
  pub at : IsVariableOfPlace (skeletons_of (types_of s) n) place dropped
  pub pruned : PrunedType (types_of s) n dropped
  pub gives : GivesPruned pruned Y S

module _ (s : State) (D : List LfType) (m : ℕ) (xs : List ℕ) (N : Term) where
  -- m can be bound to V
  pub record BindsTo (V : Term) : Type 0 where
    pub can : CanBind (types_of s) (bindings_of s) D m xs N
    pub value : V ≡ lambdas_of (skeletons_of (types_of s) m) can.inverted.inversion

  -- a metavariable n inside N loses an argument
  pub record LosesInside (n : ℕ) (Y : LfType) (S : Spine) : Type 0 where
    pub can : CanDrop (types_of s) D (skeletons_of (types_of s) m) xs N
    pub unbound : Unbound (bindings_of s) can.drop.m
    pub of : can.drop.m ≡ n
    pub gives : GivesPruned can.pruned Y S

  -- both sides are n, which loses an argument
  pub record LosesInBoth (n : ℕ) (Y : LfType) (S : Spine) : Type 0 where
    pub of : m ≡ n
    pub can : CanAgree (types_of s) D m xs N
    pub gives : GivesPruned can.pruned Y S

  -- what a move against N is
  abbrev pub IsMoveAgainst : Move → Type 0
  IsMoveAgainst (Bind n V) = (m ≡ n.0) × BindsTo (open_term_of V)
  IsMoveAgainst (Lose n p) = LosesInside n.0 (open_type_of p.ty) (open_spine_of p.spine) ⊎ LosesInBoth n.0 (open_type_of p.ty) (open_spine_of p.spine)
  IsMoveAgainst Refute = (side : Side) (es : List Equation) (C : LfType) → IsRefuted (store_at side (types_of s) (bindings_of s) es D (on_pattern s m xs) N C)

  -- m isn't inside N, and nothing inside N can lose an argument
  abbrev pub NothingInside : Type 0
  NothingInside = (OccursRigid (types_of s) D m xs N → ⊥) × (CanDrop (types_of s) D (skeletons_of (types_of s) m) xs N → ⊥)

-- What is known of m on a pattern and N where nothing can be done about them as the types of metavariables stand: a binding would be circular,
-- nothing in N refutes the equation, and no argument that must go can be lost.
pub record NoMove (s : State) (D : List LfType) (m : ℕ) (xs : List ℕ) (N : Term) : Type 0 where
  pub circular : Inverted (types_of s) D (skeletons_of (types_of s) m) xs N → IsReached (types_of s) (bindings_of s) N m
  pub invertible : NeverInverted (types_of s) D (skeletons_of (types_of s) m) xs N → ⊥
  pub not_inside : OccursRigid (types_of s) D m xs N → ⊥
  pub no_drop : CanDrop (types_of s) D (skeletons_of (types_of s) m) xs N → ⊥
  pub no_agreement : CanAgree (types_of s) D m xs N → ⊥

-- M is no metavariable on a pattern, or nothing can be done so
abbrev pub IsBlocked : State → List LfType → Term → Term → Type 0
IsBlocked s D M N = (m : ℕ) (xs : List ℕ) → IsPattern D (skeletons_of (types_of s) m) xs → M ≡ on_pattern s m xs → NoMove s D m xs N

-- the types of the unbound metavariables that are reached from N mention no bound one
abbrev pub AreRenewed : State → Term → Type 0
AreRenewed s N = (k : ℕ) (A : LfType) → IsReached (types_of s) (bindings_of s) N k → Unbound (bindings_of s) k → types_of s k ≡ Some A → MetavariablesInType (Unbound (bindings_of s)) A

-- the type of the unbound metavariable k mentions a bound one
pub record NeedsRenewal (s : State) (k : ℕ) : Type 0 where
  pub of_type : LfType
  pub declared : types_of s k ≡ Some of_type
  pub unbound : Unbound (bindings_of s) k
  pub mentions : MetavariablesInType (Unbound (bindings_of s)) of_type → ⊥

-- it mentions none, or k is bound
abbrev pub IsFresh : State → ℕ → Type 0
IsFresh s k = (A : LfType) → Unbound (bindings_of s) k → types_of s k ≡ Some A → MetavariablesInType (Unbound (bindings_of s)) A

-- Y is the type of m with the bindings put in, and S are the variables of the lambdas of its value
pub record IsRenewal (s : State) (m : ℕ) (Y : LfType) (S : Spine) : Type 0 where
  pub of_type : LfType
  pub declared : types_of s m ≡ Some of_type
  pub puts : PutsType s 0 of_type Y
  pub all : S ≡ eta_arguments (skeleton of_type)

-- M is an unbound metavariable on a pattern, and the move is one against N
pub record IsMove (s : State) (D : List LfType) (M N : Term) (v : Move) : Type 0 where
  pub m : ℕ
  pub xs : List ℕ
  pub fits : AgainstFits s D m xs N
  pub is : M ≡ on_pattern s m xs
  pub move : IsMoveAgainst s D m xs N v
