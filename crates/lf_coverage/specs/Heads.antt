-- A split by heads: each head that a variable of a case may have is offered to it, and gives a case or none.
use Rattle.std.specs.Prelude.{◌≡◌, ℕ, zero, suc, ◌+◌, List, [], ◌∷◌, Bool, true, Option, Some, None}
use Rattle.lf.specs.Syntax.{Head, Term, LfType, pi, atom, Skeleton, skeleton, rename_type, lift_renaming}
use Rattle.lf.specs.Substitution.{Image, substitute, substitute_type, reduce, after}
use Rattle.lf.specs.AtOnce.{shift_by}
use Rattle.lf.specs.SkeletonTyping.{HeadSkeletons, TermSkeleton}
use Rattle.lf.specs.Skeletons.{constant_skeletons, context_skeletons}
use Rattle.lf.specs.Typing.{Signature, TypeAt, instantiate_type}
use Rattle.lf.specs.Variables.{target, onto, FamiliesIn}
use Rattle.lf.specs.Subordination.{Block, Member}
use Rattle.lf.specs.Worlds.{World, lift_over, instance}
use Rattle.lf.specs.Extension.{Extends}
use Rattle.lf_unification.specs.Offering.{pi_over}
use Rattle.lf_cases.specs.Case.{Item, Case, items_context, as_term, IsGroundInstance}
use Rattle.lf_cases.specs.Pattern.{FirstInstance}
use Rattle.lf_cases.specs.OutputGoal.{renumber, over_item, raised_variable}
use Rattle.lf_cases.specs.Raised.{first_mask, other_masks}
use Rattle.lf_cases.specs.Split.{IsDistinct}
use Rattle.lf_cases.specs.Missing.{AreTypedItems, IsTypedInstance, put_in}
use Rattle.lf_cases.specs.Candidates.{free_among}
use Rattle.lf_coverage.specs.HeadOrder.{Offer, AreInOrder}
use Rattle.lf_coverage.specs.Listed.{Listed}
use Rattle.lf_cases.specs.Reached.{arguments_count, head_masks, head_term, taken, SplitHead, split_items}

-- the families in the type of each argument are below its own
abbrev pub ArgumentsAreBelow : (ℕ → ℕ → Bool) → LfType → Type 0
ArgumentsAreBelow below (pi A B) = FamiliesIn (below (target A)) A × ArgumentsAreBelow below B
ArgumentsAreBelow below (atom a S) = Unit {0}

-- The type that is left of a head's type under the local context D when the head is applied to n new variables.
abbrev pub result_type : List (List Bool) → List LfType → ℕ → LfType → LfType
result_type ks D zero A = A
result_type ks D (suc n) (atom a S) = atom a S
result_type ks D (suc n) (pi A B) = result_type (other_masks ks) (renumber suc D) n (instantiate_type A (raised_variable (first_mask ks) D A zero) (rename_type (lift_renaming (over_item D)) B))

-- The type of a head applied to its new variables, under the variables that x takes.
abbrev pub term_type : (ℕ → ℕ → Bool) → LfType → ℕ → LfType → LfType
term_type below X n A = pi_over (taken (rename_type (shift_by (n + arguments_count A)) X)) (result_type (head_masks below (taken (rename_type (shift_by n) X)) (arguments_count A) A) (taken (rename_type (shift_by n) X)) (arguments_count A) A)

-- In the context of w the values τ of the items after a split make the variable x, of the type X, this head, and the types of both the same;
-- different block variables stand for different instances.
pub record MakesHead {Σ : Signature} {W : List Block} {S : ℕ → Bool} {G : List LfType} (w : World Σ W S G) (below : ℕ → ℕ → Bool) (x : ℕ) (X : LfType) (I : List Item) (n : ℕ) (h : Head) (A : LfType) (τ : ℕ → Image) : Type 0 where
  pub is_ground : IsGroundInstance w (split_items below X I n A) τ
  pub is_distinct : IsDistinct w (split_items below X I n A) τ is_ground
  pub same : as_term (skeleton X) (τ (x + (n + arguments_count A))) ≡ substitute reduce τ (head_term below (taken (rename_type (shift_by n) X)) h A)
  pub same_type : substitute_type reduce τ (rename_type (shift_by (n + arguments_count A)) X) ≡ substitute_type reduce τ (term_type below X n A)

-- The items J have this instance too: under values of them `values` gives the same as τ.
pub record Keeps {Σ : Signature} {W : List Block} {S : ℕ → Bool} {G : List LfType} (w : World Σ W S G) (I : List Item) (τ : ℕ → Image) (g : IsGroundInstance w I τ) (J : List Item) (values : ℕ → Image) : Type 0 where
  pub new_values : ℕ → Image
  pub is_ground : IsGroundInstance w J new_values
  pub is_distinct : IsDistinct w J new_values is_ground
  pub first_stays : (B : Block) (θ : ℕ → Image) → FirstInstance w I τ g B θ → FirstInstance w J new_values is_ground B θ
  pub same : (i : ℕ) (A : LfType) → TypeAt (items_context I) i A → τ i ≡ after new_values values i

-- Unification solves: D is C with its values put in, and has each instance that makes x the head, in each legal extension over S and
-- each context of W beside S.
pub record GivesCase (Σ : Signature) (W : List Block) (S : ℕ → Bool) (below : ℕ → ℕ → Bool) (C : Case) (x : ℕ) (X : LfType) (I : List Item) (n : ℕ) (h : Head) (A : LfType) (D : Case) : Type 0 where
  pub values : ℕ → Image
  pub typed_items : AreTypedItems Σ W D.items
  pub is_instance : IsTypedInstance Σ D.items (split_items below X I n A) values
  pub keeps : (Σ' : Signature) → Extends S Σ Σ' → (G : List LfType) (w : World Σ' W S G) (τ : ℕ → Image) (t : MakesHead w below x X I n h A τ) → Keeps w (split_items below X I n A) τ t.is_ground D.items values
  pub given : D.given ≡ put_in (λ i. values (i + (n + arguments_count A))) C.given
  pub local : D.local ≡ instance C.local (λ i. values (i + (n + arguments_count A)))
  pub family : D.family ≡ C.family
  pub arguments : D.arguments ≡ put_in (lift_over C.local (λ i. values (i + (n + arguments_count A)))) C.arguments

-- It never solves: nothing makes x the head.
abbrev pub GivesNone : Signature → List Block → (ℕ → Bool) → (ℕ → ℕ → Bool) → ℕ → LfType → List Item → ℕ → Head → LfType → Type 0
GivesNone Σ W S below x X I n h A = (Σ' : Signature) → Extends S Σ Σ' → (G : List LfType) (w : World Σ' W S G) (τ : ℕ → Image) → MakesHead w below x X I n h A τ → ⊥

-- The list has each head for a variable of the type X over the items I, and no others.
pub record AreOffers (Σ : Signature) (W : List Block) (I : List Item) (X : LfType) (hs : List Offer) : Type 0 where
  pub each : (h : Offer) → Member h hs → SplitHead Σ W I X h.items h.moved h.head h.type
  pub every : (J : List Item) (n : ℕ) (h : Head) (A : LfType) → SplitHead Σ W I X J n h A → Member (record { items = J; moved = n; head = h; type = A }) hs

-- Each head for the free variable x of C is offered, in order, and the answers make the list of cases.
pub record HeadsAreAnswered (Σ : Signature) (W : List Block) (Answer : LfType → Offer → Option Case → Type 0) (C : Case) (x : ℕ) (Cs : List Case) : Type 0 where
  pub type : LfType
  pub at : TypeAt (items_context C.items) x type
  pub is_free : free_among C.items x ≡ true
  pub offers : List Offer
  pub are_offers : AreOffers Σ W C.items type offers
  pub in_order : AreInOrder W C.items type offers
  pub listed : Listed (Answer type) offers Cs

-- And the families in the types of the arguments that x and the heads take are below their own.
pub record IsSplitBelow (Σ : Signature) (W : List Block) (below : ℕ → ℕ → Bool) (Answer : LfType → Offer → Option Case → Type 0) (C : Case) (x : ℕ) (Cs : List Case) : Type 0 where
  pub answered : HeadsAreAnswered Σ W Answer C x Cs
  pub takes_below : ArgumentsAreBelow below answered.type
  pub arguments_below : (J : List Item) (n : ℕ) (h : Head) (A : LfType) → SplitHead Σ W C.items answered.type J n h A → ArgumentsAreBelow below A

-- A split of x, whose type has its families in S.
pub record IsSplitAt (Σ : Signature) (W : List Block) (S : ℕ → Bool) (below : ℕ → ℕ → Bool) (Answer : LfType → Offer → Option Case → Type 0) (C : Case) (x : ℕ) (Cs : List Case) : Type 0 where
  pub split : IsSplitBelow Σ W below Answer C x Cs
  pub families : FamiliesIn S split.answered.type

-- a head gives a case, or none
abbrev pub HeadAnswer : Signature → List Block → (ℕ → Bool) → (ℕ → ℕ → Bool) → Case → ℕ → LfType → Offer → Option Case → Type 0
HeadAnswer Σ W S below C x X h (Some D) = GivesCase Σ W S below C x X h.items h.moved h.head h.type D
HeadAnswer Σ W S below C x X h None = GivesNone Σ W S below x X h.items h.moved h.head h.type

-- a split by heads
abbrev pub IsHeadSplit : Signature → List Block → (ℕ → Bool) → (ℕ → ℕ → Bool) → Case → ℕ → List Case → Type 0
IsHeadSplit Σ W S below C x Cs = IsSplitAt Σ W S below (HeadAnswer Σ W S below C x) C x Cs

-- each of the terms has a skeleton
abbrev pub HaveSkeletons : HeadSkeletons → List Skeleton → List (Option Term) → Type 0
HaveSkeletons κ Γ [] = Unit {0}
HaveSkeletons κ Γ (Some M ∷ Ms) = ((a : Skeleton) × TermSkeleton κ Γ M a) × HaveSkeletons κ Γ Ms
HaveSkeletons κ Γ (None ∷ Ms) = HaveSkeletons κ Γ Ms

-- A case that is typed: its items are, and its terms are typed by skeletons. So is each case that a head gives.
pub record IsTypedCase (Σ : Signature) (W : List Block) (C : Case) : Type 0 where
  pub items : AreTypedItems Σ W C.items
  pub given : HaveSkeletons (constant_skeletons Σ) (context_skeletons (items_context C.items)) C.given
  pub arguments : HaveSkeletons (constant_skeletons Σ) (context_skeletons (onto C.local (items_context C.items))) C.arguments

-- a case is split by heads at one of its variables
abbrev pub SplitsByHeads : Signature → List Block → (ℕ → Bool) → (ℕ → ℕ → Bool) → Case → List Case → Type 0
SplitsByHeads Σ W S below C Cs = (x : ℕ) × IsHeadSplit Σ W S below C x Cs
