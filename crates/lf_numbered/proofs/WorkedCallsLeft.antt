-- A worked split at which an equation with an entry of a new block variable is left.
use Rattle.std.proofs.Common.{ℕ, [], ◌∷◌, inl, inr, refl}
use Rattle.std.specs.Prelude.{Bool, false, Option}
use Rattle.lf.specs.Substitution.{keep}
use Rattle.lf.specs.Syntax.{Term, LfType, app, arrow, base, constant, metavariable, variable, nil, pi, root, star, kind_pi}
use Rattle.lf.specs.Typing.{Signature, IsSignature}
use Rattle.lf.specs.Subordination.{AreTypedBlocks}
use Rattle.lf_unification.specs.Solving.{IsWellFormed, Left, LeftOver}
use Rattle.lf_unification.specs.Steps.{Run, bind, no_step, then_run}
use Rattle.lf_unification.specs.Unifiers.{Store, on_left}
use Rattle.lf_unification.proofs.Runs.{run_left}
use Rattle.lf_coverage.specs.SplitStore.{context_metavariables}
use Rattle.lf_coverage.proofs.FlexibleLeft.{flexible_is_left, some_left, store_left}
use Rattle.lf_coverage.proofs.NoArgument.{no_argument_of}
use Rattle.lf_coverage.proofs.UsedVariables.{types_of_two}
use Rattle.lf_numbered.specs.EntryConstants.{with_entries}
use Rattle.lf_numbered.specs.NewBlock.{with_new_block}
use Rattle.lf_numbered.specs.NumberedCase.{NumberedCase}
use Rattle.lf_numbered.specs.NumberedSplits.{NumberedOffer, of_new_block}
use Rattle.lf_numbered.specs.NumberedSplitsExamples.{Bare, exp, exp_block, has}
use Rattle.lf_numbered.specs.OwnStores.{IsNumberedOffer, numbered_store, offer_entry}
use Rattle.lf_numbered.specs.OwnTerms.{own_terms, TypeOnOwnTerms}
use Rattle.lf_numbered.specs.WorkedCallsFunctions.{NewEntryIsLeft, flexible_case, flexible_left}
use Rattle.lf_numbered.specs.TypedNumbered.{IsTypedNumberedCase}
use Rattle.lf_numbered.proofs.EntrySignature.{with_entries_is_signature}
use Rattle.lf_numbered.proofs.NumberedSplitsExamples.{bare_ok, blocks_typed, free}
use Rattle.lf_numbered.proofs.OwnStoresNewBlock.{new_block_stays_typed}
use Rattle.lf_numbered.proofs.OwnStoresStart.{numbered_store_is_ready}

-- p (F b.x), for the variables of the case and for metavariables
abbrev b_x : Term
b_x = root (constant 2) nil

abbrev of_index : LfType
of_index = has (root (variable 1) (app b_x nil))

abbrev open_index : LfType
open_index = has (root (metavariable 1) (app b_x nil))

two_blocks : AreTypedBlocks Bare (exp_block ∷ exp_block ∷ [])
two_blocks B (inl e) = blocks_typed B (inl e)
two_blocks B (inr m) = blocks_typed B m

abbrev Entries : Signature
Entries = with_entries Bare 2 (exp_block ∷ exp_block ∷ [])

entries_ok : IsSignature Entries
entries_ok = with_entries_is_signature Bare bare_ok 2 free (exp_block ∷ exp_block ∷ []) two_blocks

flexible_typed : IsTypedNumberedCase Bare 2 (exp_block ∷ []) flexible_case
flexible_typed = record {
  variables = record { variables = ((tt, ((star, refl, tt), (star, refl, tt))), (_, refl, ((pi exp exp, refl, ((exp, refl, refl), refl)), tt))); on_own_terms = types_of_two (λ i A. TypeOnOwnTerms (own_terms 2 flexible_case.blocks) A) (has (root (variable 0) (app b_x nil))) (pi exp exp) ((((_, refl), tt), tt), tt) (tt, tt); blocks = (inl refl, (keep, (λ i A g. absurd g), refl), tt, tt) };
  local = ((tt, ((star, refl, tt), (star, refl, tt))), (_, refl, ((pi exp exp, refl, ((exp, refl, refl), refl)), tt)));
  local_on_own = tt;
  given = tt;
  given_on_own = tt;
  arguments = ((base 0, (arrow (base 0) (base 0), refl, ((base 0, refl, refl), refl))), tt);
  arguments_on_own = ((((_, refl), tt), tt), tt);
}

abbrev new_case : NumberedCase
new_case = with_new_block exp_block flexible_case

abbrev left_types : ℕ → Option LfType
left_types = context_metavariables (has (root (variable 0) (app b_x nil)) ∷ pi exp exp ∷ [])

abbrev c_u : Term
c_u = root (constant 5) nil

abbrev left_after : Store
left_after = store_left (has (root (variable 0) (app b_x nil))) 0 0 c_u 2 4 exp

abbrev left_over : LeftOver left_types left_after flexible_left
left_over = flexible_is_left (has (root (variable 0) (app b_x nil))) 0 0 c_u 2 4 exp

abbrev of_entry : LfType
of_entry = has (root (constant 4) nil)

abbrev entry_offer : NumberedOffer
entry_offer = record { case = new_case; variable = 0; type = of_index; head = constant 5; terms = nil; left = of_entry }

module _ (below : ℕ → ℕ → Bool) where
  is_offered : IsNumberedOffer Bare 2 new_case of_index (constant 5) nil of_entry
  is_offered = offer_entry 5 nil _ refl refl refl

  abbrev store : Store
  store = numbered_store below new_case 0 of_index (constant 5) nil of_entry (kind_pi exp star)

  ready : IsWellFormed Entries store
  ready = numbered_store_is_ready Bare bare_ok (exp_block ∷ []) blocks_typed 2 free below new_case (new_block_stays_typed Bare bare_ok (exp_block ∷ []) blocks_typed 2 free flexible_case flexible_typed exp_block (inl refl)) 0 of_index refl (constant 5) nil of_entry is_offered (kind_pi exp star) refl

  run : Run Entries store left_after
  run = then_run (bind {A = open_index} on_left [] 0 [] c_u open_index refl tt (no_argument_of 1) (record { inverted = record { inversion = c_u; is = refl }; reached = λ k. false; avoids = ((λ k A v e. absurd v), tt, λ v. v); within = tt })) no_step

  is_left : Left Entries store left_after
  is_left = run_left Entries entries_ok ready run some_left (left_over, tt)

pub new_entry_is_left : NewEntryIsLeft
unfolding flexible_is_left
new_entry_is_left below = record {
  type = of_index;
  at = refl;
  offer = entry_offer;
  is_offered = of_new_block exp_block 5 nil of_entry (inl refl) refl (is_offered below);
  is_over = refl;
  kind = kind_pi exp star;
  of_family = refl;
  after = left_after;
  left = is_left below;
  equation = flexible_left;
  listed = inl refl;
  left_over = left_over;
  is_shown = refl;
}
