-- Worked cases by number that match entries by terms, and so are instances of them.
use Rattle.std.proofs.Common.{◌≡◌, ℕ, zero, suc, ◌≤◌, [], ◌∷◌, inl, inr, refl, sym, ap, ◌∙◌, subst, arith}
use Rattle.std.specs.Prelude.{true, None, Some}
use Rattle.lf.specs.Syntax.{constant, root, nil, app, Spine, LfType, Kind, arrow, base, kind_pi, pi, star}
use Rattle.lf.specs.Substitution.{Image, keep, put, substitute_type, reduce}
use Rattle.lf.specs.AtOnce.{in_front}
use Rattle.lf.specs.Typing.{TypeAt, ImageHasType, IsKind, IsType, IsTypedSubstitution, IsSignature}
use Rattle.lf.specs.Subordination.{AreTypedBlocks, IsTypedBlock}
use Rattle.lf_checks.specs.Clause.{from_entry}
use Rattle.lf_checks.specs.Marks.{TypedPlaces}
use Rattle.lf_cases.specs.Case.{covered_places}
use Rattle.lf_cases.specs.Cover.{before, AreTerms}
use Rattle.lf_cases.specs.Pattern.{ground_in}
use Rattle.lf_totality.specs.Examples.{copy_block, copy_entry, exp, var}
use Rattle.lf_coverage.specs.ExamplesCopying.{copy_entry_head}
use Rattle.lf_coverage.proofs.Parts.{some_same}
use Rattle.lf_numbered.specs.EntryConstants.{with_entries, IsFreeFrom}
use Rattle.lf_numbered.specs.EntryPatterns.{variable_images}
use Rattle.lf_numbered.specs.EntryTerms.{MatchesByNumber, MatchesWith, own_values}
use Rattle.lf_numbered.specs.EntryTermsExamples.{CopyMatchesEntry, PairMatchesEntry, PairIsInstance, Pairs, open_clause, open_entry, open_head, open_pair, pair_block, pair_case, pair_clause, pair_entry, pair_head, pair_kinds, pair_outer, pair_term, pair_types, pair_worlds, z}
use Rattle.lf_numbered.specs.ExamplesNumbered.{one_copy, two_copies}
use Rattle.lf_numbered.specs.NumberedInstance.{block_at}
use Rattle.lf_numbered.specs.OwnTerms.{BlockVariable, own_terms, TypeOnOwnTerms}
use Rattle.lf_numbered.specs.TypedNumbered.{IsTypedNumberedCase}
use Rattle.lf_numbered.proofs.EntryTermsDecided.{numbered_head_is_decided}

-- Copying
abbrev one_outer : ℕ → Image
one_outer = before [] (variable_images 4 one_copy.blocks 0 copy_block nil)

one_terms : AreTerms copy_entry (ground_in copy_entry_head (covered_places one_copy.arguments) one_copy.given) (own_values one_copy copy_entry_head one_outer)
one_terms zero o u = absurd cc
one_terms (suc i) o u = absurd cc

two_differ : (k : ℕ) (U : Spine) → block_at two_copies.blocks k ≡ Some (record { block = copy_block; terms = U }) → (φ : ℕ → Image) → φ ≡ before [] (variable_images 4 two_copies.blocks k copy_block U) → MatchesWith two_copies copy_entry_head φ → ⊥
two_differ zero U e φ r m = apart (matched.2.0 ∙ sym matched.2.1.0)
  where
    apart : root (constant 4) nil ≡ root (constant 6) nil → ⊥
    apart e = cc

    matched : MatchesWith two_copies copy_entry_head (before [] (variable_images 4 two_copies.blocks 0 copy_block U))
    matched = subst (MatchesWith two_copies copy_entry_head) r m
two_differ (suc zero) U e φ r m = apart (matched.2.0 ∙ sym matched.2.1.0)
  where
    apart : root (constant 4) nil ≡ root (constant 6) nil → ⊥
    apart e = cc

    matched : MatchesWith two_copies copy_entry_head (before [] (variable_images 4 two_copies.blocks 1 copy_block U))
    matched = subst (MatchesWith two_copies copy_entry_head) r m
two_differ (suc (suc k)) U e φ r m = absurd cc

pub copy_matches_entry : CopyMatchesEntry
copy_matches_entry = (
  (one_outer, (0, nil, refl, (λ e. absurd cc), refl), (((refl, tt), ((refl, tt), tt)), one_terms, (refl, (refl, tt)))),
  λ (φ, (k, U, e, n, r), m). two_differ k U e φ r m,
)

-- Pairs
pub pairs_ok : IsSignature Pairs
pairs_ok = record { types_ok = types; kinds_ok = kinds }
  where
    types : (c : ℕ) (A : LfType) → pair_types c ≡ Some A → IsType Pairs [] A
    types zero A e = subst (IsType Pairs []) (some_same e) (star, refl, tt)
    types (suc c) A e = absurd cc

    kinds : (a : ℕ) (K : Kind) → pair_kinds a ≡ Some K → IsKind Pairs [] K
    kinds zero K e = subst (IsKind Pairs []) (some_same e) tt
    kinds (suc zero) K e = subst (IsKind Pairs []) (some_same e) ((star, refl, tt), ((star, refl, tt), tt))
    kinds (suc (suc a)) K e = absurd cc

pub pairs_typed : AreTypedBlocks Pairs pair_worlds
pairs_typed B (inl e) = subst (IsTypedBlock Pairs) (sym e) ((((tt, (star, refl, tt)), (star, refl, tt)), (_, refl, ((exp, (exp, refl, refl), refl), ((exp, refl, refl), tt)))), ((star, refl, tt), (_, refl, ((exp, refl, refl), ((exp, (exp, (exp, refl, refl), refl), refl), tt)))))
pairs_typed B (inr m) = absurd m

pub pairs_free : IsFreeFrom Pairs 2
pairs_free = record { types_free = types; kinds_free = kinds }
  where
    types : (c : ℕ) → 2 ≤ c → pair_types c ≡ None
    types zero l = absurd (omega (arith, l))
    types (suc c) l = refl

    kinds : (a : ℕ) → 2 ≤ a → pair_kinds a ≡ None
    kinds zero l = absurd (omega (arith, l))
    kinds (suc zero) l = absurd (omega (arith, l))
    kinds (suc (suc a)) l = refl

abbrev on_z : ℕ → Image
on_z = in_front (put (base 0) z) keep

on_z_typed : IsTypedSubstitution (with_entries Pairs 2 (pair_block ∷ [])) (exp ∷ []) open_pair.variables on_z
on_z_typed zero A e = subst (λ B. ImageHasType (with_entries Pairs 2 (pair_block ∷ [])) open_pair.variables (put (base 0) z) (substitute_type reduce on_z B)) (sym e) (refl, (exp, refl, refl))
on_z_typed (suc i) A (B, g, e) = absurd g

open_typed : IsTypedNumberedCase Pairs 2 pair_worlds open_pair
open_typed = record {
  variables = record { variables = (tt, (star, refl, tt)); on_own_terms = own; blocks = (inl refl, (on_z, on_z_typed, refl), ((tt, tt), tt), tt) };
  local = (tt, (star, refl, tt));
  local_on_own = tt;
  given = tt;
  given_on_own = tt;
  arguments = ((base 0, (base 0, refl, refl)), ((base 0, (arrow (base 0) (base 0), refl, ((base 0, refl, refl), refl))), tt));
  arguments_on_own = (tt, (((nil, refl), ((tt, tt), tt)), tt));
}
  where
    own : (i : ℕ) (A : LfType) → TypeAt open_pair.variables i A → TypeOnOwnTerms (own_terms 2 open_pair.blocks) A
    own zero A e = subst (TypeOnOwnTerms (own_terms 2 open_pair.blocks)) (sym e) tt
    own (suc i) A (B, g, e) = absurd g

pair_terms : AreTerms pair_clause (ground_in pair_head (covered_places pair_case.arguments) pair_case.given) (own_values pair_case pair_head (before (open_entry ∷ []) (variable_images 2 pair_case.blocks 0 pair_block (app z nil))))
pair_terms i o u = absurd cc

open_terms : AreTerms open_clause (ground_in open_head (covered_places open_pair.arguments) open_pair.given) (own_values open_pair open_head pair_outer)
open_terms zero o u = tt
open_terms (suc i) o u = absurd cc

not_pair : MatchesByNumber 2 open_pair pair_head → ⊥
not_pair (φ, (k, U, e, n, r), m) = by k U e r m
  where
    apart : var 0 ≡ z → ⊥
    apart e = cc

    at : (U : Spine) → app z nil ≡ U → MatchesWith open_pair pair_head (before (open_entry ∷ []) (variable_images 2 open_pair.blocks 0 pair_block U)) → ⊥
    at U q m = apart here.2.0
      where
        here : MatchesWith open_pair pair_head (before (open_entry ∷ []) (variable_images 2 open_pair.blocks 0 pair_block (app z nil)))
        here = subst (λ V. MatchesWith open_pair pair_head (before (open_entry ∷ []) (variable_images 2 open_pair.blocks 0 pair_block V))) (sym q) m

    by : (k : ℕ) (U : Spine) → block_at open_pair.blocks k ≡ Some (record { block = pair_block; terms = U }) → φ ≡ before (open_entry ∷ []) (variable_images 2 open_pair.blocks k pair_block U) → MatchesWith open_pair pair_head φ → ⊥
    by zero U e r m = at U (ap (λ (b : BlockVariable). b.terms) (some_same e)) (subst (MatchesWith open_pair pair_head) r m)
    by (suc k) U e r m = absurd cc

open_match : MatchesByNumber 2 open_pair open_head
open_match = (pair_outer, (0, app z nil, refl, (λ e. absurd cc), refl), (((refl, tt), ((refl, tt), tt)), open_terms, (refl, (refl, tt))))

pub pair_matches_entry : PairMatchesEntry
pair_matches_entry = (
  (before (open_entry ∷ []) (variable_images 2 pair_case.blocks 0 pair_block (app z nil)), (0, app z nil, refl, (λ e. absurd cc), refl), (((refl, tt), ((refl, tt), tt)), pair_terms, (refl, (refl, tt)))),
  not_pair,
  open_match,
  refl,
)

pub pair_is_instance : PairIsInstance
pair_is_instance = (
  (numbered_head_is_decided Pairs pairs_ok pair_worlds pairs_typed 2 pairs_free open_pair open_typed open_clause (from_entry pair_block [] open_entry (pair_entry ∷ exp ∷ []) (inl refl) refl) refl refl (kind_pi exp (kind_pi exp star)) refl (tt, (tt, tt)) (app (var 0) (app pair_term nil)) (refl, (refl, tt)) typed).0.1 open_match,
  λ h. not_pair ((numbered_head_is_decided Pairs pairs_ok pair_worlds pairs_typed 2 pairs_free open_pair open_typed pair_clause (from_entry pair_block (open_entry ∷ []) pair_entry (exp ∷ []) (inl refl) refl) refl refl (kind_pi exp (kind_pi exp star)) refl (tt, (tt, tt)) (app (var 0) (app pair_term nil)) (refl, (refl, tt)) typed).0.0 h),
)
  where
    typed : TypedPlaces (with_entries Pairs 2 (pair_block ∷ [])) (true ∷ true ∷ []) open_pair.variables (app (var 0) (app pair_term nil)) (kind_pi exp (kind_pi exp star))
    typed = ((exp, refl, refl), ((pi exp exp, refl, ((exp, refl, refl), refl)), tt))
