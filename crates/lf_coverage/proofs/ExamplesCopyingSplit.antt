-- The cases of copying, each by a most general typed instance; the run that ends at instances of its clauses.
use Rattle.std.proofs.Common.{◌≡◌, ℕ, zero, suc, List, [], ◌∷◌, refl, sym, ap, ◌∙◌, subst, inl, inr, true≢false}
use Rattle.std.specs.Prelude.{Bool, true, false, Some, None}
use Rattle.lf.specs.Syntax.{constant, variable, nil, app, LfType, Kind, pi, base, arrow, star, skeleton}
use Rattle.lf.specs.AtOnce.{in_front}
use Rattle.lf.specs.Substitution.{Image, keep, put, substitute, reduce}
use Rattle.lf.specs.Typing.{TypeAt}
use Rattle.lf.specs.Variables.{FamiliesIn, KindFamiliesIn}
use Rattle.lf.specs.Subordination.{Block, Member, AreTypedBlocks, IsTypedBlock, IsDeclared, SelfContained}
use Rattle.lf.specs.Worlds.{World, no_variables, whole_instance, begin_instance, next_entry}
use Rattle.lf_checks.specs.Below.{IsSubordination}
use Rattle.lf_cases.specs.Case.{Item, free_variable, as_term, entries_in_front, items_context}
use Rattle.lf_cases.specs.Missing.{IsTypedInstance}
use Rattle.lf_cases.specs.Reached.{IsSplitBy}
use Rattle.lf_cases.specs.Split.{HoldsDistinctly, IsSplit, OneHolds}
use Rattle.lf_totality.specs.Examples.{Copying, copying_types, copying_kinds, applied_to, application, block_case, copy_block, cp, cp_kind, exp, first_below_second, function, lam, var}
use Rattle.lf_totality.specs.ExamplesReached.{cp_lam_case}
use Rattle.lf_totality.proofs.After.{Extends-self}
use Rattle.lf_totality.proofs.Copying.{copying_ok, copying_lasts}
use Rattle.lf_totality.proofs.ExampleLemmas.{below_itself}
use Rattle.lf_coverage.specs.ExamplesCopying.{copy_worlds, copy_goal, copy_app_case, copy_cases, CopyIsSplitByHeads, CopyCasesAreAnswer}
use Rattle.lf_coverage.specs.Heads.{IsHeadSplit, IsTypedCase}
use Rattle.lf_coverage.specs.Listed.{no_offer, with_case}
use Rattle.lf_coverage.proofs.Examples.{plus_subordination}
use Rattle.lf_coverage.proofs.ExamplesGiven.{is_split_by}
use Rattle.lf_coverage.proofs.ExamplesCopying.{copy_answered, lam_made, app_made, entry_made, lam_values, lam_items, lam_same, app_values, app_items, app_same, two_terms, entry_values, entry_items, entry_same, copy_split}
use Rattle.lf_coverage.proofs.Runs.{head_split_is_split}
use Rattle.lf_coverage.proofs.Parts.{some_same}

-- the premises
pub copy_typed : AreTypedBlocks Copying copy_worlds
copy_typed B (inl e) = subst (IsTypedBlock Copying) (sym e) ((tt, (star, refl, tt)), (cp_kind, refl, ((exp, refl, refl), ((exp, refl, refl), tt))))
copy_typed B (inr m) = absurd m

exp_contained : SelfContained Copying copy_worlds (first_below_second 0)
exp_contained = record { declared = declared; kinds_in = kinds_in; types_in = types_in; entries_in = entries_in }
  where
    declared : (a : ℕ) → first_below_second 0 a ≡ true → IsDeclared Copying a
    declared zero e = (star, refl)
    declared (suc a) e = absurd cc

    kinds_in : (a : ℕ) (K : Kind) → copying_kinds a ≡ Some K → first_below_second 0 a ≡ true → KindFamiliesIn (first_below_second 0) K
    kinds_in zero K e s = subst (KindFamiliesIn (first_below_second 0)) (some_same e) tt
    kinds_in (suc a) K e s = absurd cc

    no : {U V : LfType} → Some U ≡ Some V → first_below_second 0 (Rattle.lf.specs.Variables.target U) ≡ false → first_below_second 0 (Rattle.lf.specs.Variables.target V) ≡ true → ⊥
    no e f t = true≢false (sym t ∙ sym (ap (λ X. first_below_second 0 (Rattle.lf.specs.Variables.target X)) (some_same e)) ∙ f)

    types_in : (c : ℕ) (A : LfType) → copying_types c ≡ Some A → first_below_second 0 (Rattle.lf.specs.Variables.target A) ≡ true → FamiliesIn (first_below_second 0) A
    types_in zero A e s = subst (FamiliesIn (first_below_second 0)) (some_same e) ((refl, refl), refl)
    types_in (suc zero) A e s = absurd (no e refl s)
    types_in (suc (suc zero)) A e s = subst (FamiliesIn (first_below_second 0)) (some_same e) (refl, (refl, refl))
    types_in (suc (suc (suc zero))) A e s = absurd (no e refl s)
    types_in (suc (suc (suc (suc n)))) A e s = absurd cc

    entries_in : (B : Block) (E : LfType) → Member B copy_worlds → Member E B.entries → first_below_second 0 (Rattle.lf.specs.Variables.target E) ≡ true → FamiliesIn (first_below_second 0) E
    entries_in B E (inr m) i s = absurd m
    entries_in B E (inl e) i s = by (subst (λ D. Member E D.entries) e i)
      where
        by : Member E copy_block.entries → FamiliesIn (first_below_second 0) E
        by (inl q) = absurd (true≢false (sym s ∙ ap (λ X. first_below_second 0 (Rattle.lf.specs.Variables.target X)) q))
        by (inr (inl q)) = subst (FamiliesIn (first_below_second 0)) (sym q) refl
        by (inr (inr m)) = absurd m

pub copy_subordination : IsSubordination Copying copy_worlds first_below_second
copy_subordination = record { itself = below_itself; through = plus_subordination.through; self_contained = contained }
  where
    contained : (f : ℕ) → IsDeclared Copying f → SelfContained Copying copy_worlds (first_below_second f)
    contained zero d = exp_contained
    contained (suc zero) d = copying_lasts.self_contained 1 (inl refl)
    contained (suc (suc n)) (K, e) = absurd cc

pub goal_typed : IsTypedCase Copying copy_worlds copy_goal
goal_typed = record { items = (tt, (star, refl, tt)); given = tt; arguments = ((base 0, (base 0, refl, refl)), tt) }

-- most general typed instances
pub lam_split : IsSplitBy Copying copy_worlds first_below_second copy_goal 0 exp (free_variable exp ∷ []) 0 (constant 0) (pi function exp) cp_lam_case
lam_split = is_split_by lam_made 0 (constant 0) tt refl general
  where
    general : (F : List Item) (τ : ℕ → Image) → IsTypedInstance Copying F lam_items τ → as_term (base 0) (τ 1) ≡ substitute reduce τ (lam (applied_to 1 0)) → (ρ : ℕ → Image) × IsTypedInstance Copying F cp_lam_case.items ρ × ((i : ℕ) (A : LfType) → TypeAt (items_context lam_items) i A → as_term (skeleton A) (τ i) ≡ as_term (skeleton A) (Rattle.lf.specs.Substitution.after ρ lam_values i))
    general F τ (H, υ, (X, ρ, t, hx, d), hh, e) s = (in_front (put (arrow (base 0) (base 0)) H) keep, (H, keep, tt, hh, refl), λ i A q. ap (as_term (skeleton A)) (lam_same Copying (items_context F) H X τ υ ρ hh e d s i A q))

pub app_split : IsSplitBy Copying copy_worlds first_below_second copy_goal 0 exp (free_variable exp ∷ []) 0 (constant 2) (pi exp (pi exp exp)) copy_app_case
app_split = is_split_by app_made 0 (constant 2) tt refl general
  where
    general : (F : List Item) (τ : ℕ → Image) → IsTypedInstance Copying F app_items τ → as_term (base 0) (τ 2) ≡ substitute reduce τ (application (var 1) (var 0)) → (ρ : ℕ → Image) × IsTypedInstance Copying F copy_app_case.items ρ × ((i : ℕ) (A : LfType) → TypeAt (items_context app_items) i A → as_term (skeleton A) (τ i) ≡ as_term (skeleton A) (Rattle.lf.specs.Substitution.after ρ app_values i))
    general F τ (N, υ, (M, χ, (X, ρ, t, hx, c), hm, d), hn, e) s = (two_terms M N, (N, in_front (put (base 0) M) keep, (M, keep, tt, hm, refl), hn, refl), λ i A q. ap (as_term (skeleton A)) (app_same M N X τ υ χ ρ e d c s i A q))

pub entry_split : IsSplitBy Copying copy_worlds first_below_second copy_goal 0 exp entry_items 2 (variable 1) exp block_case
entry_split = is_split_by entry_made 0 (variable 1) ((λ f. f), tt) refl general
  where
    general : (F : List Item) (τ : ℕ → Image) → IsTypedInstance Copying F entry_items τ → as_term (base 0) (τ 2) ≡ substitute reduce τ (var 1) → (ρ : ℕ → Image) × IsTypedInstance Copying F block_case.items ρ × ((i : ℕ) (A : LfType) → TypeAt (items_context entry_items) i A → as_term (skeleton A) (τ i) ≡ as_term (skeleton A) (Rattle.lf.specs.Substitution.after ρ entry_values i))
    general F τ (θ, υ, (X, ρ, t, hx, d), b, o, e) s = (entries_in_front copy_block.entries θ keep, (θ, keep, tt, b, (λ i A g. absurd g), refl), λ i A q. ap (as_term (skeleton A)) (entry_same X θ τ υ ρ e d s i A q))

pub copy_answer : CopyCasesAreAnswer
copy_answer = record {
  listed = copy_answered (with_case lam_split (with_case app_split (with_case entry_split no_offer)));
  holds = λ S sc z. head_split_is_split Copying copying_ok copy_worlds copy_typed first_below_second copy_subordination S sc copy_goal goal_typed 0 copy_cases (copy_split S z);
}

-- In the context {x:exp} {u:cp x x} the goal holds cp x _, and neither cp (lam E) _ nor cp (app M N) _ does.
abbrev S : ℕ → Bool
S b = first_below_second 1 b

block_world : World Copying copy_worlds S (cp (var 0) (var 0) ∷ exp ∷ [])
block_world = whole_instance copy_block (inl refl) refl (next_entry {θ = Rattle.lf.specs.Substitution.lift keep} (cp (var 0) (var 0)) (next_entry {θ = keep} exp (begin_instance no_variables (record { typed = λ i A g u. absurd g; closed = λ i A g u. absurd g })) (star, refl, tt)) (cp_kind, refl, ((exp, refl, refl), ((exp, refl, refl), tt))))

no_entry : IsHeadSplit Copying copy_worlds S first_below_second copy_goal 0 (cp_lam_case ∷ copy_app_case ∷ []) → ⊥
no_entry h = by (split.holds Copying (Extends-self S Copying copying_ok) (cp (var 0) (var 0) ∷ exp ∷ []) block_world None keep (app (var 1) (app (var 1) nil)) held)
  where
    split : IsSplit Copying copy_worlds S copy_goal (cp_lam_case ∷ copy_app_case ∷ [])
    split = head_split_is_split Copying copying_ok copy_worlds copy_typed first_below_second copy_subordination S (copying_lasts.self_contained 1 (inl refl)) copy_goal goal_typed 0 (cp_lam_case ∷ copy_app_case ∷ []) h

    held : HoldsDistinctly block_world copy_goal None keep (app (var 1) (app (var 1) nil))
    held = record {
      holds = record {
        values = in_front (put (base 0) (var 1)) keep;
        is_ground = (var 1, keep, tt, (exp, (exp, refl, refl), refl), refl);
        first = tt;
        given = λ i M e. absurd cc;
        has_arguments = (refl, tt);
      };
      is_distinct = tt;
    }

    by : OneHolds block_world (cp_lam_case ∷ copy_app_case ∷ []) None keep (app (var 1) (app (var 1) nil)) → ⊥
    by (inl o) = let q : var 1 ≡ substitute reduce o.holds.values (lam (applied_to 1 0)) = o.holds.has_arguments.0 in absurd cc
    by (inr (inl o)) = let q : var 1 ≡ substitute reduce o.holds.values (application (var 1) (var 0)) = o.holds.has_arguments.0 in absurd cc
    by (inr (inr o)) = o

pub copy_is_split : CopyIsSplitByHeads
copy_is_split = ((λ S c z. copy_split S z), no_entry)
