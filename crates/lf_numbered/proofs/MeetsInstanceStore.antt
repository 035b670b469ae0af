-- Typed values of a case by number and of a pattern's clause, with which block variables are one and the arguments at the covered places are the same, are a
-- typed unifier of the store.
use Rattle.std.proofs.Common.{◌≡◌, ℕ, zero, suc, ◌+◌, ◌<◌, List, [], length, refl, sym, ap, ◌∙◌, subst, arith}
use Rattle.std.specs.Prelude.{Option, Some}
use Rattle.lf.specs.Syntax.{Term, Spine, LfType, pi, atom, Kind, Skeleton}
use Rattle.lf.specs.Substitution.{Image, keep, put, substitute, substitute_image, substitute_spine, substitute_type, reduce}
use Rattle.lf.specs.Skeletons.{constant_skeletons, context_skeletons}
use Rattle.lf.specs.AtOnce.{shift_by, lift_renaming_by}
use Rattle.lf.specs.Entries.{quantifiers}
use Rattle.lf.specs.Typing.{Signature, IsTypedSubstitution, IsType, IsContext, IsSignature}
use Rattle.lf.specs.Variables.{target_arguments, onto, binders}
use Rattle.lf.specs.Worlds.{lift_over, instance}
use Rattle.lf_unification.specs.Filling.{fill_spine}
use Rattle.lf_unification.specs.Lists.{followed}
use Rattle.lf_unification.specs.Unifiers.{SolvesAll, Solution}
use Rattle.lf_checks.specs.Clause.{scope}
use Rattle.lf_checks.specs.Marks.{SamePlaces}
use Rattle.lf_cases.specs.Case.{HasArguments, covered_places}
use Rattle.lf_cases.specs.Pattern.{Pattern, given_at}
use Rattle.lf_cases.proofs.Local.{binders_substituted}
use Rattle.lf_cases.proofs.OutputItems.{length_instance}
use Rattle.lf_totality.proofs.RaisedOutputs.{binders_over}
use Rattle.lf_coverage.specs.Heads.{HaveSkeletons}
use Rattle.lf_coverage.specs.MeetStore.{open_arguments, place_equations, given_equations}
use Rattle.lf_coverage.specs.SplitStore.{open_spine, open_locals, context_metavariables}
use Rattle.lf_coverage.proofs.Meeting.{joined, open_length, are_instance, solves_both}
use Rattle.lf_numbered.specs.EntryPatternsMatching.{placed_type}
use Rattle.lf_numbered.specs.NewBlock.{rename_all}
use Rattle.lf_numbered.specs.NumberedCallsStores.{identity_equations, meet_store_by_number}
use Rattle.lf_numbered.specs.NumberedCase.{NumberedCase, AreSomeTerms}
use Rattle.lf_numbered.specs.NumberedInstance.{block_at}
use Rattle.lf_numbered.specs.OwnTerms.{BlockVariable, rename_blocks}
use Rattle.lf_numbered.proofs.EntryPatternsNear.{binders_count}
use Rattle.lf_numbered.proofs.MeetsInstanceJoined.{AgreePast}
use Rattle.lf_numbered.proofs.MeetsInstanceFilled.{terms_from, all_typed, values_typed, filling, terms_filled, places_filled, givens_filled, pattern_filled, μ}
use Rattle.lf_numbered.proofs.MeetsTuplePattern.{joined_less}
use Rattle.lf_numbered.proofs.PlacesSolved.{identities_solved}
use Rattle.lf_numbered.proofs.RenamedBlocks.{renamed_from}

-- the quantifiers of a type stay as many
pub count_placed : (f : ℕ → Image) (P : LfType) → length (binders [] (substitute_type reduce f P)) ≡ length (binders [] P)
count_placed f P = binders_count (substitute_type reduce f P) ∙ same f P ∙ sym (binders_count P)
  where
    same : (f : ℕ → Image) (P : LfType) → quantifiers (substitute_type reduce f P) ≡ quantifiers P
    same f (pi A B) = ap suc (same (Rattle.lf.specs.Substitution.lift f) B)
    same f (atom a S) = refl

-- So for a case and a pattern
module _ (Σ : Signature) (ok : IsSignature Σ) (J : NumberedCase) (p : Pattern) (π : ℕ → ℕ) (φ : ℕ → Image) (givens : HaveSkeletons (constant_skeletons Σ) (context_skeletons J.variables) J.given) (cq : IsContext Σ J.variables) (some : (k : ℕ) (b : BlockVariable) → block_at J.blocks k ≡ Some b → AreSomeTerms Σ J.variables b.block.some b.terms) (arguments : HaveSkeletons (constant_skeletons Σ) (context_skeletons (onto J.local J.variables)) J.arguments) (co : IsContext Σ p.clause.outer) (cs : IsContext Σ (scope p.clause)) (tp : IsType Σ (scope p.clause) p.type) (l : length J.local ≡ length (binders [] p.type)) (tφ : IsTypedSubstitution Σ p.clause.outer J.variables φ) (H : List LfType) (ch : IsContext Σ H) (ψ χ : ℕ → Image) (tψ : IsTypedSubstitution Σ J.variables H ψ) (tχ : IsTypedSubstitution Σ (scope p.clause) H χ) (agrees : AgreePast p.clause.outer (length (binders [] p.clause.type)) φ ψ χ) (ones : (k : ℕ) (b c : BlockVariable) → block_at J.blocks k ≡ Some b → block_at J.blocks (π k) ≡ Some c → substitute_spine reduce ψ b.terms ≡ substitute_spine reduce ψ c.terms) (given_put : (i : ℕ) (N : Term) → given_at J.given i ≡ Some N → (i < length (binders [] p.clause.type)) × ((a : Skeleton) × (χ i ≡ put a (substitute reduce ψ N)))) (T : Spine) (held : HasArguments (lift_over J.local ψ) J.arguments T) (same : SamePlaces (covered_places J.arguments) T (target_arguments (substitute_type reduce χ p.type))) (K : Kind) where
  abbrev L : List LfType
  L = binders [] p.clause.type

  over : scope p.clause ≡ onto (binders [] p.clause.type) p.clause.outer
  over = binders_over [] p.clause.type p.clause.outer

  abbrev cl : IsContext Σ (onto (binders [] p.clause.type) p.clause.outer)
  cl = subst (IsContext Σ) (binders_over [] p.clause.type p.clause.outer) cs

  abbrev tl : IsTypedSubstitution Σ (onto (binders [] p.clause.type) p.clause.outer) H χ
  tl = subst (λ X. IsTypedSubstitution Σ X H χ) (binders_over [] p.clause.type p.clause.outer) tχ

  abbrev β : ℕ → Option Term
  β = filling Σ ok p.clause.outer J.variables H co cq ch φ ψ tφ tψ L cl χ tl agrees

  abbrev M : ℕ → Skeleton
  M = μ Σ ok p.clause.outer J.variables H co cq ch φ ψ tφ tψ L cl χ tl agrees

  abbrev Z : LfType
  Z = placed_type p φ

  abbrev n : ℕ
  n = length (instance (binders [] p.clause.type) φ)

  abbrev bs : List BlockVariable
  bs = rename_blocks (shift_by (length (instance (binders [] p.clause.type) φ))) J.blocks

  identities : SolvesAll M β (identity_equations π bs zero bs)
  identities = identities_solved M β π bs zero bs (λ j d U e q.
      let (b, at, x) = renamed_from (shift_by n) J.blocks j d e in
      let (c, to, y) = terms_from (shift_by n) J.blocks (π (zero + j)) U q in
      ap (λ (c : BlockVariable). fill_spine M β (open_spine zero c.terms)) x
      ∙ terms_filled Σ ok p.clause.outer J.variables H co cq ch φ ψ tφ tψ L cl χ tl agrees b.block.some b.terms (some j b at)
      ∙ ones j b c at (ap (λ i. block_at J.blocks (π i)) (none j) ∙ to)
      ∙ sym (terms_filled Σ ok p.clause.outer J.variables H co cq ch φ ψ tφ tψ L cl χ tl agrees c.block.some c.terms (some (π (zero + j)) c to))
      ∙ ap (λ V. fill_spine M β (open_spine zero V)) (sym y))
    where
      none : (j : ℕ) → j ≡ zero + j
      none j = omega arith

  places : SolvesAll M β (place_equations (open_locals (binders [] Z)) (open_arguments (length (binders [] Z)) (rename_all (lift_renaming_by (length J.local) (shift_by n)) J.arguments)) (open_spine (length (binders [] Z)) (target_arguments Z)) K)
  places =
      let e : length (binders [] Z) ≡ length J.local = count_placed (lift_over (binders [] p.clause.type) φ) p.type ∙ sym l in
      subst (λ m. SolvesAll M β (place_equations (open_locals (binders [] Z)) (open_arguments m (rename_all (lift_renaming_by (length J.local) (shift_by n)) J.arguments)) (open_spine (length (binders [] Z)) (target_arguments Z)) K)) (sym e)
      (places_filled Σ ok p.clause.outer J.variables H co cq ch φ ψ tφ tψ L cl χ tl agrees J.local (open_locals (binders [] Z)) (open_length (binders [] Z) ∙ e) J.arguments (open_spine (length (binders [] Z)) (target_arguments Z)) T K arguments held
      (subst (SamePlaces (covered_places J.arguments) T) (sym (pattern_filled Σ ok p.clause.outer J.variables H co cq ch φ ψ tφ tψ L cl χ tl agrees p.type (subst (λ X. IsType Σ X p.type) over tp))) same))

  given : SolvesAll M β (given_equations (onto (instance (binders [] p.clause.type) φ) J.variables) zero (rename_all (shift_by n) J.given))
  given = givens_filled Σ ok p.clause.outer J.variables H co cq ch φ ψ tφ tψ L cl χ tl agrees J.given zero givens (λ i N e.
      let (l, (a, q)) = given_put i N e in (a, ap (joined (instance L φ) χ ψ) (none i) ∙ joined_less (instance L φ) χ ψ i (subst (λ m. i < m) (sym (length_instance L φ)) l) ∙ q))
    where
      none : (i : ℕ) → i + 0 ≡ i
      none i = omega arith

  abbrev store_over : List LfType → ℕ → Rattle.lf_unification.specs.Unifiers.Store
  store_over X m = record {
    metavariables = context_metavariables X;
    bindings = [];
    equations = followed (identity_equations π (rename_blocks (shift_by m) J.blocks) zero (rename_blocks (shift_by m) J.blocks)) (followed (given_equations X zero (rename_all (shift_by m) J.given)) (place_equations (open_locals (binders [] Z)) (open_arguments (length (binders [] Z)) (rename_all (lift_renaming_by (length J.local) (shift_by m)) J.arguments)) (open_spine (length (binders [] Z)) (target_arguments Z)) K));
  }

  pub store_solved : (β : ℕ → Option Term) × Solution Σ [] (meet_store_by_number π J p φ K) H β
  store_solved = (
    β,
    subst (λ X. Solution Σ [] (store_over X (quantifiers p.clause.type)) H β) (sym (binders_substituted p.clause.type φ J.variables))
        (subst (λ m. Solution Σ [] (store_over (onto (instance (binders [] p.clause.type) φ) J.variables) m) H β) (length_instance (binders [] p.clause.type) φ ∙ binders_count p.clause.type) (
          are_instance Σ ok [] (onto (instance (binders [] p.clause.type) φ) J.variables) H tt (all_typed Σ ok p.clause.outer J.variables H co cq ch φ ψ tφ tψ L cl χ tl agrees) ch keep (joined (instance (binders [] p.clause.type) φ) χ ψ) (λ i A g. absurd g) (values_typed Σ ok p.clause.outer J.variables H co cq ch φ ψ tφ tψ L cl χ tl agrees),
          (tt, solves_both M β (identity_equations π bs zero bs) _ identities (solves_both M β (given_equations (onto (instance (binders [] p.clause.type) φ) J.variables) zero (rename_all (shift_by n) J.given)) _ given places)),
        )),
  )
