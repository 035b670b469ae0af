-- The places of a pattern beside a case whose block variables are one as an instance that they share makes them: that of a constant's clause, and that of an
-- entry of a block variable of the case.
use Rattle.std.proofs.Common.{◌≡◌, ◌≤◌, ℕ, zero, suc, ◌<◌, List, [], ◌∷◌, ◌++◌, length, refl, sym, ap, ◌∙◌, arith}
use Rattle.std.specs.Prelude.{Bool, true, false, cond, Option, Some, None}
use Rattle.lf.specs.Syntax.{Term, LfType, Kind, Skeleton}
use Rattle.lf.specs.Substitution.{Image, put, substitute_image, substitute_type, reduce}
use Rattle.lf.specs.Typing.{Signature, TypeAt, IsTypedSubstitution, IsSignature}
use Rattle.lf.specs.Variables.{target_arguments, binders, nothing, Values}
use Rattle.lf.specs.Subordination.{Block, AreTypedBlocks}
use Rattle.lf.specs.Worlds.{lift_over}
use Rattle.lf.specs.Extension.{Extends}
use Rattle.lf_unification.specs.Unifiers.{Solution}
use Rattle.lf_checks.specs.Clause.{Clause, scope}
use Rattle.lf_checks.specs.Ground.{UsesGoal}
use Rattle.lf_cases.specs.Case.{covered_places}
use Rattle.lf_cases.specs.Cover.{AgreesOutside}
use Rattle.lf_cases.specs.Missing.{put_in}
use Rattle.lf_cases.specs.Pattern.{Origin, of_constant, of_entry, Pattern, given_at}
use Rattle.lf_coverage.specs.Leaf.{IsTypedPattern}
use Rattle.lf_coverage.specs.Matching.{ArePlaces}
use Rattle.lf_coverage.specs.TermMatching.{bound}
use Rattle.lf_numbered.specs.EntryConstants.{with_entries, IsFreeFrom}
use Rattle.lf_numbered.specs.EntryPatterns.{StandsByNumber}
use Rattle.lf_numbered.specs.NumberedCallsMeeting.{SharesInstance, HasPattern}
use Rattle.lf_numbered.specs.NumberedCallsStores.{Identifies, identified, meet_store_by_number}
use Rattle.lf_numbered.specs.NumberedCase.{NumberedCase, AreTypedVariables}
use Rattle.lf_numbered.specs.NumberedInstance.{IsTypedInstanceOf, block_at, moved_constant, move_all, move_types}
use Rattle.lf_numbered.specs.OwnTerms.{BlockVariable, blocks_of}
use Rattle.lf_numbered.specs.TypedNumbered.{IsTypedNumberedCase}
use Rattle.lf_numbered.specs.WritingRoom.{move_image}
use Rattle.lf_numbered.proofs.EntryPatternsNumbers.{inside_list}
use Rattle.lf_numbered.proofs.EntryPatternsNear.{bound_near}
use Rattle.lf_numbered.proofs.MeetsInstanceMoved.{grows, δ, ψ}
use Rattle.lf_numbered.proofs.MeetsInstancePattern.{solution}
use Rattle.lf_numbered.proofs.NumberedMeets.{shared_has_place}

-- Numbers that are none of the case's block variables stay themselves.
abbrev pub fixed_past : ℕ → (ℕ → ℕ) → ℕ → ℕ
fixed_past n π k = cond (bound n k) (π k) k

past_bound : (n k : ℕ) → n ≤ k → bound n k ≡ false
past_bound zero k l = refl
past_bound (suc n) zero l = absurd (none n l)
  where
    none : (n : ℕ) → suc n ≤ 0 → ⊥
    none n l = omega (arith, l)
past_bound (suc n) (suc k) l = past_bound n k (less l)
  where
    less : {m i : ℕ} → suc m ≤ suc i → m ≤ i
    less l = omega (arith, l)

pub fixed_there : (n : ℕ) (π : ℕ → ℕ) (k : ℕ) → n ≤ k → fixed_past n π k ≡ k
fixed_there n π k l = ap (λ b. cond b (π k) k) (past_bound n k l)

pub fixed_other : (n : ℕ) (π : ℕ → ℕ) (k : ℕ) → k < n → fixed_past n π k ≡ π k
fixed_other n π k l = ap (λ b. cond b (π k) k) (bound_near n k l)

-- The way in which an instance makes block variables one
module _ (Σ : Signature) (first : ℕ) (W : List Block) (C : NumberedCase) (p : Pattern) (s : SharesInstance Σ first W C p) where
  pub record IsOneBy (π : ℕ → ℕ) : Type 0 where
    pub identifies : Identifies C π
    pub oldest : (k : ℕ) → π k ≤ k
    pub same : (k : ℕ) → s.numbers (π k) ≡ s.numbers k
    pub only : (j k : ℕ) (b c : BlockVariable) → block_at C.blocks j ≡ Some b → block_at C.blocks k ≡ Some c → s.numbers j ≡ s.numbers k → π j ≡ π k
    pub others : (k : ℕ) → length C.blocks ≤ k → π k ≡ k

  pub one_by : (π : ℕ → ℕ) × IsOneBy π
  one_by =
      let (π, J, φ, i) = shared_has_place Σ first W C (record { clause = p.clause; origin = p.origin; type = p.type; at_first = false }) (λ e. absurd (no e)) anywhere in
      (fixed_past (length C.blocks) π, record { identifies = identifies π i.identifies; oldest = oldest π i.oldest; same = same π i.same; only = only π i.only; others = fixed_there (length C.blocks) π })
    where
      no : false ≡ true → ⊥
      no e = cc

      stands : {c : Clause} (o : Origin c) (b : Bool) (τ : ℕ → Image) → StandsByNumber first s.common o b τ → StandsByNumber first s.common o false τ
      stands (of_constant U) b τ t = t
      stands (of_entry B later E es e) b τ (k, U, at, z, a) = (k, U, at, (λ q. absurd (no q)), a)

      -- the same instance, and the pattern at any block variable
      anywhere : SharesInstance Σ first W C (record { clause = p.clause; origin = p.origin; type = p.type; at_first = false })
      anywhere = record {
        common = s.common;
        typed_variables = s.typed_variables;
        numbers = s.numbers;
        zeroth = s.zeroth;
        values = s.values;
        of_case = s.of_case;
        of_pattern = record {
          used = s.of_pattern.used;
          values = s.of_pattern.values;
          typed = s.of_pattern.typed;
          on_own_terms = s.of_pattern.on_own_terms;
          uses = s.of_pattern.uses;
          terms = s.of_pattern.terms;
          given = s.of_pattern.given;
          stands = stands p.origin p.at_first s.of_pattern.values s.of_pattern.stands;
          same = s.of_pattern.same;
        };
      }

      identifies : (π : ℕ → ℕ) → Identifies C π → Identifies C (fixed_past (length C.blocks) π)
      identifies π i k b e =
          let n : ℕ = length C.blocks in
          let q : fixed_past n π k ≡ π k = fixed_other n π k (inside_list C.blocks k b e) in
          let (c, h, r, t) = i k b e in
          (c, ap (block_at C.blocks) q ∙ h, r, ap (fixed_past n π) q ∙ fixed_other n π (π k) (inside_list C.blocks (π k) c h) ∙ t ∙ sym q)

      itself : (k : ℕ) → k ≤ k
      itself k = omega arith

      oldest : (π : ℕ → ℕ) → ((k : ℕ) → π k ≤ k) → (k : ℕ) → fixed_past (length C.blocks) π k ≤ k
      oldest π h k = by (bound (length C.blocks) k)
        where
          by : (b : Bool) → cond b (π k) k ≤ k
          by true = h k
          by false = itself k

      same : (π : ℕ → ℕ) → ((k : ℕ) → s.numbers (π k) ≡ s.numbers k) → (k : ℕ) → s.numbers (fixed_past (length C.blocks) π k) ≡ s.numbers k
      same π h k = by (bound (length C.blocks) k)
        where
          by : (b : Bool) → s.numbers (cond b (π k) k) ≡ s.numbers k
          by true = h k
          by false = refl

      only : (π : ℕ → ℕ) → ((j k : ℕ) (b c : BlockVariable) → block_at C.blocks j ≡ Some b → block_at C.blocks k ≡ Some c → s.numbers j ≡ s.numbers k → π j ≡ π k) → (j k : ℕ) (b c : BlockVariable) → block_at C.blocks j ≡ Some b → block_at C.blocks k ≡ Some c → s.numbers j ≡ s.numbers k → fixed_past (length C.blocks) π j ≡ fixed_past (length C.blocks) π k
      only π h j k b c e q r = fixed_other (length C.blocks) π j (inside_list C.blocks j b e) ∙ h j k b c e q r ∙ sym (fixed_other (length C.blocks) π k (inside_list C.blocks k c q))

-- The values of a pattern's variables in an instance: what it is to have the pattern, but for own terms, and that some values are terms.
pub record HasValues (Σ : Signature) (first : ℕ) (M : NumberedCase) {c : Clause} (o : Origin c) (P : LfType) (b : Bool) : Type 0 where
  pub used : ℕ → Bool
  pub values : ℕ → Image
  pub typed : Values (with_entries Σ first (blocks_of M.blocks)) used (scope c) M.variables values
  pub uses : UsesGoal used (covered_places M.arguments) P
  pub given : (k : ℕ) (N : Term) → used k ≡ true → given_at M.given k ≡ Some N → (a : Skeleton) × (values k ≡ put a N)
  pub stands : StandsByNumber first M o b values
  pub same : ArePlaces M.arguments (target_arguments (substitute_type reduce values P))

abbrev pub pattern_values : (Σ : Signature) (first : ℕ) (M : NumberedCase) (p : Pattern) → HasPattern Σ first M p → HasValues Σ first M p.origin p.type p.at_first
pattern_values Σ first M p q = record { used = q.used; values = q.values; typed = q.typed; uses = q.uses; given = λ k N u e. q.given k N u e; stands = q.stands; same = q.same }

-- what is given in an instance is given in the case
pub given_back : (γ : ℕ → ℕ) (σ : ℕ → Image) (Ms : List (Option Term)) (i : ℕ) (N : Term) → given_at (put_in σ (move_all γ Ms)) i ≡ Some N → (M : Term) × (given_at Ms i ≡ Some M)
given_back γ σ [] i N e = absurd cc
given_back γ σ (Some M ∷ Ms) zero N e = (M, refl)
given_back γ σ (None ∷ Ms) zero N e = absurd cc
given_back γ σ (Some M ∷ Ms) (suc i) N e = given_back γ σ Ms i N e
given_back γ σ (None ∷ Ms) (suc i) N e = given_back γ σ Ms i N e

-- An instance of a case at which these block variables are one, and a pattern that it has
module _ (Σ : Signature) (ok : IsSignature Σ) (first : ℕ) (free : IsFreeFrom Σ first) (V : List Block) (typed : AreTypedBlocks Σ V) (C M : NumberedCase) (tc : IsTypedNumberedCase Σ first V C) (tm : AreTypedVariables Σ first V M) (ν : ℕ → ℕ) (σ : ℕ → Image) (h : IsTypedInstanceOf Σ first M C ν σ) (hg : M.given ≡ put_in σ (move_all (moved_constant first (blocks_of C.blocks) (blocks_of M.blocks) ν) C.given)) (ha : M.arguments ≡ put_in (lift_over C.local σ) (move_all (moved_constant first (blocks_of C.blocks) (blocks_of M.blocks) ν) C.arguments)) (π : ℕ → ℕ) (i : Identifies C π) (same : (k : ℕ) (b : BlockVariable) → block_at C.blocks k ≡ Some b → ν (π k) ≡ ν k) (only : (j k : ℕ) (b c : BlockVariable) → block_at C.blocks j ≡ Some b → block_at C.blocks k ≡ Some c → ν j ≡ ν k → π j ≡ π k) where
  abbrev γ : ℕ → ℕ
  γ = moved_constant first (blocks_of C.blocks) (blocks_of C.blocks) π

  pub extends : Extends nothing (with_entries Σ first (blocks_of (identified first π C).blocks)) (with_entries Σ first (blocks_of (C.blocks ++ M.blocks)))
  extends = grows Σ ok first free V V typed typed C M tc.variables tm ν σ h π i same only

  module _ {c : Clause} (o : Origin c) (P : LfType) (b : Bool) (tp : IsTypedPattern Σ (record { clause = c; origin = o; type = P; at_first = b })) (l : length C.local ≡ length (binders [] P)) (q : HasValues Σ first M o P b) (given_used : (k : ℕ) (N : Term) → given_at C.given k ≡ Some N → (k < length (binders [] c.type)) × (q.used k ≡ true)) (K : Kind) where
    abbrev p : Pattern
    p = record { clause = c; origin = o; type = P; at_first = b }

    given_values : (k : ℕ) (N : Term) → given_at M.given k ≡ Some N → (a : Skeleton) × (q.values k ≡ put a N)
    given_values k N e = let (Q, r) = given_back (moved_constant first (blocks_of C.blocks) (blocks_of M.blocks) ν) σ C.given k N (ap (λ Ms. given_at Ms k) (sym hg) ∙ e) in q.given k N (given_used k Q r).1 e

    pub solution_at : (φ : ℕ → Image) → IsTypedSubstitution (with_entries Σ first (blocks_of (C.blocks ++ M.blocks))) c.outer (move_types (moved_constant first (blocks_of C.blocks) (blocks_of C.blocks) π) C.variables) φ → (ω : ℕ → Image) → IsTypedSubstitution (with_entries Σ first (blocks_of M.blocks)) c.outer M.variables ω → ((k : ℕ) (A : LfType) → TypeAt c.outer k A → substitute_image (ψ Σ ok first free V V typed typed C M tc.variables tm ν σ h π i same only) (φ k) ≡ move_image (δ Σ ok first free V V typed typed C M tc.variables tm ν σ h π i same only) (ω k)) → AgreesOutside c q.values ω → (H : List LfType) × (β : ℕ → Option Term) × Solution (with_entries Σ first (blocks_of (C.blocks ++ M.blocks))) [] (meet_store_by_number π (identified first π C) (record { clause = c; origin = o; type = P; at_first = b }) φ K) H β
    solution_at φ tφ ω tω becomes outside = solution Σ ok first free V V typed typed C M tc.variables tm ν σ h hg ha π i same only tc.given tc.arguments p tp l φ tφ ω tω becomes q.used q.values q.typed outside q.uses given_values given_used q.same K
