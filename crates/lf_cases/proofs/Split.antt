-- A run of splits that ends well covers its goal.
use Rattle.std.proofs.Common.{◌≡◌, ℕ, zero, suc, List, [], ◌∷◌, refl, subst, inl, inr}
use Rattle.std.specs.Prelude.{Bool, true, false, Option, Some, None}
use Rattle.lf.specs.Syntax.{Term, Spine, LfType, Kind, kind_pi, star, rename_type, lift_renaming}
use Rattle.lf.specs.Substitution.{Image}
use Rattle.lf.specs.Typing.{Signature}
use Rattle.lf.specs.Subordination.{Block}
use Rattle.lf.specs.Worlds.{World}
use Rattle.lf.specs.Extension.{Extends}
use Rattle.lf_cases.specs.Case.{Item, free_variable, block_variable, Case, IsGroundInstance, covered_places, goal_items, past_place}
use Rattle.lf.specs.Variables.{everything, nothing}
use Rattle.lf_checks.specs.Tests.{both, either}
use Rattle.lf_checks.specs.Clause.{variables, outside}
use Rattle.lf_checks.specs.Ground.{UsesGoal}
use Rattle.lf_checks.specs.Strict.{strict_goal}
use mathlib.Core.Path.{fun_ext}
use Rattle.lf_cases.specs.Pattern.{is_given, Pattern, Known, FirstInstance, FirstIs, given_at, CoversTuple, OneCovers, IsCoveredCase}
use Rattle.lf_cases.specs.Split.{StandsFor, IsDistinct, OneHolds, IsLike, IsSplit, IsInstanceCase, Ends, AllEnd, at_leaf, by_split, no_case, next_case, HasNoBlockVariable, HasOneBlockVariable}

tail_same : {b c : Bool} {xs ys : List Bool} → b ∷ xs ≡ c ∷ ys → xs ≡ ys
tail_same e = cc

-- a term is given where one is covered
pub given_there : (Ms Ns : List (Option Term)) → covered_places Ns ≡ covered_places Ms → (i : ℕ) (M : Term) → given_at Ms i ≡ Some M → (N : Term) × (given_at Ns i ≡ Some N)
given_there [] Ns e i M g = absurd cc
given_there (Some P ∷ Ms) [] e i M g = absurd cc
given_there (Some P ∷ Ms) (None ∷ Ns) e i M g = absurd cc
given_there (Some P ∷ Ms) (Some Q ∷ Ns) e zero M g = (Q, refl)
given_there (Some P ∷ Ms) (Some Q ∷ Ns) e (suc i) M g = given_there Ms Ns (tail_same e) i M g
given_there (None ∷ Ms) [] e i M g = absurd cc
given_there (None ∷ Ms) (Some Q ∷ Ns) e i M g = absurd cc
given_there (None ∷ Ms) (None ∷ Ns) e zero M g = absurd cc
given_there (None ∷ Ms) (None ∷ Ns) e (suc i) M g = given_there Ms Ns (tail_same e) i M g

pub given_same : (Ns Ms : List (Option Term)) → covered_places Ns ≡ covered_places Ms → (i : ℕ) → is_given Ns i ≡ is_given Ms i
given_same [] [] e i = refl
given_same [] (Some P ∷ Ms) e i = absurd cc
given_same [] (None ∷ Ms) e i = absurd cc
given_same (Some Q ∷ Ns) [] e i = absurd cc
given_same (None ∷ Ns) [] e i = absurd cc
given_same (Some Q ∷ Ns) (None ∷ Ms) e i = absurd cc
given_same (None ∷ Ns) (Some P ∷ Ms) e i = absurd cc
given_same (Some Q ∷ Ns) (Some P ∷ Ms) e zero = refl
given_same (Some Q ∷ Ns) (Some P ∷ Ms) e (suc i) = given_same Ns Ms (tail_same e) i
given_same (None ∷ Ns) (None ∷ Ms) e zero = refl
given_same (None ∷ Ns) (None ∷ Ms) e (suc i) = given_same Ns Ms (tail_same e) i

module _ {Σ : Signature} {W : List Block} {S : ℕ → Bool} {G : List LfType} (w : World Σ W S G) where
  -- what covers a tuple with terms given for the same variables covers it
  covers_like : (p : Pattern) (b : List Bool) (F : Known) (Ms Ns : List (Option Term)) (σ : ℕ → Image) (T : Spine) → covered_places Ns ≡ covered_places Ms → CoversTuple w p b F Ns σ T → CoversTuple w p b F Ms σ T
  covers_like p b F Ms Ns σ T e c = record {
    outer = c.outer;
    stands = c.stands;
    used = c.used;
    outside_used = c.outside_used;
    uses = c.uses;
    strict = subst (λ g. UsesGoal (λ i. either (g i) (either (outside p.clause.type everything i) (both (variables p.clause i) (strict_goal b nothing (outside p.clause.type p.clause.fixed) i p.type)))) b p.type) (fun_ext (given_same Ns Ms e)) c.strict;
    values = c.values;
    typed = c.typed;
    agrees = c.agrees;
    given = λ i M u g. let (N, k) = given_there Ms Ns e i M g in c.given i N u k;
    terms = c.terms;
    same = c.same;
  }

  -- so it does where the places are those of another case
  pub one_covers_alike : (ps : List Pattern) (b c : List Bool) (F : Known) (Ms Ns : List (Option Term)) (σ : ℕ → Image) (T : Spine) → c ≡ b → covered_places Ns ≡ covered_places Ms → OneCovers w ps c F Ns σ T → OneCovers w ps b F Ms σ T
  one_covers_alike ps b c F Ms Ns σ T q e (p, m, k) = (p, m, covers_like p b F Ms Ns σ T e (subst (λ b. CoversTuple w p b F Ns σ T) q k))

  pub distinct_without : (I : List Item) (σ : ℕ → Image) (g : IsGroundInstance w I σ) → HasNoBlockVariable I → IsDistinct w I σ g
  distinct_without [] σ g h = tt
  distinct_without (free_variable A ∷ I) σ (N, τ, g, t, e) h = distinct_without I τ g h
  distinct_without (block_variable B υ ∷ I) σ g h = absurd h

  -- without block variables none stands for an instance
  stands_nowhere : (I : List Item) (σ : ℕ → Image) (g : IsGroundInstance w I σ) (B : Block) (θ : ℕ → Image) → HasNoBlockVariable I → StandsFor w I σ g B θ → ⊥
  stands_nowhere [] σ g B θ h s = s
  stands_nowhere (free_variable A ∷ I) σ (N, τ, g, t, e) B θ h s = stands_nowhere I τ g B θ h s
  stands_nowhere (block_variable C υ ∷ I) σ g B θ h s = absurd h

  -- nor is one of them the first
  first_nowhere : (I : List Item) (σ : ℕ → Image) (g : IsGroundInstance w I σ) (B : Block) (θ : ℕ → Image) → HasNoBlockVariable I → FirstInstance w I σ g B θ → ⊥
  first_nowhere [] σ g B θ h s = s
  first_nowhere (free_variable A ∷ I) σ (N, τ, g, t, e) B θ h s = first_nowhere I τ g B θ h s
  first_nowhere (block_variable C υ ∷ I) σ g B θ h s = absurd h

  pub first_moves : (I J : List Item) (σ τ : ℕ → Image) (g : IsGroundInstance w I σ) (h : IsGroundInstance w J τ) (F : Known) → HasNoBlockVariable I → FirstIs w I σ g F → FirstIs w J τ h F
  first_moves I J σ τ g h None n f = tt
  first_moves I J σ τ g h (Some (B, θ)) n f = absurd (first_nowhere I σ g B θ n f)

  -- what is known of the first stays known where it stays
  pub first_on : (I J : List Item) (τ φ : ℕ → Image) (g : IsGroundInstance w I τ) (h : IsGroundInstance w J φ) (F : Known) → ((B : Block) (ψ : ℕ → Image) → FirstInstance w I τ g B ψ → FirstInstance w J φ h B ψ) → FirstIs w I τ g F → FirstIs w J φ h F
  first_on I J τ φ g h None f s = tt
  first_on I J τ φ g h (Some (B, ψ)) f s = f B ψ s

  -- one alone is no other
  pub one_distinct : (I : List Item) (σ : ℕ → Image) (g : IsGroundInstance w I σ) → HasOneBlockVariable I → IsDistinct w I σ g
  one_distinct [] σ g h = tt
  one_distinct (free_variable A ∷ I) σ (N, τ, g, t, e) h = one_distinct I τ g h
  one_distinct (block_variable B υ ∷ I) σ (φ, τ, g, i, s, e) h = (stands_nowhere I τ g B φ h, distinct_without I τ g h)

module _ (Σ : Signature) (W : List Block) (S : ℕ → Bool) (ps : List Pattern) where
  mutual
    held_covered : {C : Case} → Ends (IsInstanceCase Σ W S ps) (IsSplit Σ W S) C → IsInstanceCase Σ W S ps C
    held_covered (at_leaf i) Σ' x G w F σ T h = i Σ' x G w F σ T h
    held_covered {C} (by_split Cs s a) Σ' x G w F σ T h = one_covered C Cs s.like a Σ' x G w F σ T (s.holds Σ' x G w F σ T h)

    one_covered : (C : Case) (Cs : List Case) → ((D : Case) → Rattle.lf.specs.Subordination.Member D Cs → IsLike C D) → AllEnd (IsInstanceCase Σ W S ps) (IsSplit Σ W S) Cs → (Σ' : Signature) → Extends S Σ Σ' → (G : List LfType) (w : World Σ' W S G) (F : Known) (σ : ℕ → Image) (T : Spine) → OneHolds w Cs F σ T → OneCovers w ps (covered_places C.arguments) F C.given σ T
    one_covered C [] l no_case Σ' x G w F σ T h = absurd h
    one_covered C (D ∷ Ds) l (next_case e a) Σ' x G w F σ T (inl h) = let k = l D (inl refl) in one_covers_alike w ps (covered_places C.arguments) (covered_places D.arguments) F C.given D.given σ T k.places k.given (held_covered e Σ' x G w F σ T h)
    one_covered C (D ∷ Ds) l (next_case e a) Σ' x G w F σ T (inr h) = one_covered C Ds (λ E m. l E (inr m)) a Σ' x G w F σ T h

  pub split_covers : (C : Case) → HasOneBlockVariable C.items → Ends (IsInstanceCase Σ W S ps) (IsSplit Σ W S) C → IsCoveredCase Σ W S ps C
  split_covers C n e Σ' x G w F σ T h = held_covered e Σ' x G w F σ T (record { holds = h; is_distinct = one_distinct w C.items h.values h.is_ground n })

-- the goal of input coverage has no block variables
pub goal_without : (m : List Bool) (K : Kind) (ρ : ℕ → ℕ) (I : List Item) → HasNoBlockVariable I → HasNoBlockVariable (goal_items m K ρ I)
goal_without [] K ρ I h = h
goal_without (b ∷ m) star ρ I h = h
goal_without (true ∷ m) (kind_pi A K) ρ I h = goal_without m K (lift_renaming ρ) (free_variable (rename_type ρ A) ∷ I) h
goal_without (false ∷ m) (kind_pi A K) ρ I h = goal_without m K (past_place ρ) I h
