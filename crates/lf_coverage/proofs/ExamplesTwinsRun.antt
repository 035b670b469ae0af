-- The run of two block variables ends at instances of the entry's clause, and what they share as one instance is held elsewhere.
use Rattle.std.proofs.Common.{◌≡◌, ℕ, zero, suc, List, [], ◌∷◌, refl, sym, ap, ◌∙◌, subst, inl, inr, true≢false}
use Rattle.std.specs.Prelude.{Bool, true, Some, None}
use Rattle.lf.specs.Syntax.{Term, Spine, nil, app, LfType, Kind, pi, base, star, weaken}
use Rattle.lf.specs.AtOnce.{in_front}
use Rattle.lf.specs.Substitution.{Image, keep, put, lift, apply_image, substitute, substitute_type, reduce}
use Rattle.lf.specs.Typing.{TypeAt, ImageHasType, IsType, IsKind, IsSignature}
use Rattle.lf.specs.Variables.{target, target_arguments, Values, FamiliesIn, KindFamiliesIn, Within, everything}
use Rattle.lf.specs.Subordination.{Block, Member, AreTypedBlocks, IsTypedBlock, IsDeclared, SelfContained}
use Rattle.lf.specs.Worlds.{World, no_variables, whole_instance, begin_instance, next_entry, lift_over}
use Rattle.lf_checks.specs.Below.{IsSubordination}
use Rattle.lf_checks.specs.Clause.{from_entry}
use Rattle.lf_checks.specs.Marks.{SamePlaces}
use Rattle.lf_cases.specs.Case.{Item, free_variable, block_variable, Case, as_term, entries_in_front, items_context, HasArguments, IsGroundInstance}
use Rattle.lf_cases.specs.Cover.{AreTerms}
use Rattle.lf_cases.specs.Missing.{CommonInstance, IsTypedInstance}
use Rattle.lf_cases.specs.Pattern.{HasGiven, Holds}
use Rattle.lf_cases.specs.Reached.{IsInstanceOf, LeavesAll}
use Rattle.lf_cases.specs.Split.{Ends, HoldsDistinctly, IsDistinct, IsInstanceCase, at_leaf, by_split, next_case, no_case}
use Rattle.lf_totality.specs.Examples.{exp, var}
use Rattle.lf_coverage.specs.Calls.{IsBeside, PlacesIn}
use Rattle.lf_coverage.specs.ExamplesTwins.{Twins, twin_types, twin_kinds, twin_block, twin_worlds, twin_entry, twin_head, twin_goal, one_entry, two_entries, same_entry, entry_alike, check_kind, same, alike, check, up_to, TwinRunCovers, TwinsAreOneInstance, TwinsAreMatched}
use Rattle.lf_coverage.specs.Heads.{IsTypedCase, SplitsByHeads}
use Rattle.lf_coverage.specs.Leaf.{IsInstanceLeaf}
use Rattle.lf_coverage.proofs.ExamplesTwins.{whole, goal_split, entry_split, two_split, alike_split}
use Rattle.lf_coverage.proofs.Leaves.{head_is_typed, leaf_is_instance}
use Rattle.lf_coverage.proofs.Parts.{some_same}
use Rattle.lf_coverage.proofs.Runs.{head_splits_cover}

-- the signature and the block
pub twins_ok : IsSignature Twins
twins_ok = record { types_ok = types_ok; kinds_ok = kinds_ok }
  where
    types_ok : (c : ℕ) (A : LfType) → twin_types c ≡ Some A → IsType Twins [] A
    types_ok zero A e = subst (IsType Twins []) (some_same e) ((star, refl, tt), (_, refl, ((exp, refl, refl), ((exp, refl, refl), tt))))
    types_ok (suc c) A e = absurd cc

    kinds_ok : (a : ℕ) (K : Kind) → twin_kinds a ≡ Some K → IsKind Twins [] K
    kinds_ok zero K e = subst (IsKind Twins []) (some_same e) tt
    kinds_ok (suc zero) K e = subst (IsKind Twins []) (some_same e) ((star, refl, tt), ((star, refl, tt), tt))
    kinds_ok (suc (suc zero)) K e = subst (IsKind Twins []) (some_same e) ((star, refl, tt), ((star, refl, tt), ((_, refl, ((exp, (exp, refl, refl), refl), ((exp, refl, refl), tt))), tt)))
    kinds_ok (suc (suc (suc a))) K e = absurd cc

entry_typed : IsType Twins (exp ∷ []) (check (var 0) (var 0) (alike (var 0)))
entry_typed = (check_kind, refl, ((exp, refl, refl), ((exp, refl, refl), ((pi exp (same (var 0) (var 0)), refl, ((exp, refl, refl), refl)), tt))))

pub twins_typed : AreTypedBlocks Twins twin_worlds
twins_typed B (inl e) = subst (IsTypedBlock Twins) (sym e) ((tt, (star, refl, tt)), entry_typed)
twins_typed B (inr m) = absurd m

-- subordination
itself : (f : ℕ) → up_to f f ≡ true
itself zero = refl
itself (suc f) = itself f

through : (f g : ℕ) → up_to f g ≡ true → Within (up_to g) (up_to f)
through f g e zero h = refl
through zero zero e (suc i) h = absurd cc
through zero (suc g) e (suc i) h = absurd cc
through (suc f) zero e (suc i) h = absurd cc
through (suc f) (suc g) e (suc i) h = through f g e i h

one_of : (f : ℕ) → up_to f 2 ≡ true → up_to f 1 ≡ true
one_of f h = through f 2 h 1 refl

contained : (f : ℕ) → IsDeclared Twins f → SelfContained Twins twin_worlds (up_to f)
contained f d = record { declared = declared f d; kinds_in = kinds_in; types_in = types_in; entries_in = entries_in }
  where
    declared : (f : ℕ) → IsDeclared Twins f → (a : ℕ) → up_to f a ≡ true → IsDeclared Twins a
    declared f d zero h = (star, refl)
    declared f d (suc zero) h = (_, refl)
    declared f d (suc (suc zero)) h = (check_kind, refl)
    declared zero d (suc (suc (suc a))) h = absurd cc
    declared (suc zero) d (suc (suc (suc a))) h = absurd cc
    declared (suc (suc zero)) d (suc (suc (suc a))) h = absurd cc
    declared (suc (suc (suc f))) (K, e) (suc (suc (suc a))) h = absurd cc

    kinds_in : (a : ℕ) (K : Kind) → twin_kinds a ≡ Some K → up_to f a ≡ true → KindFamiliesIn (up_to f) K
    kinds_in zero K e h = subst (KindFamiliesIn (up_to f)) (some_same e) tt
    kinds_in (suc zero) K e h = subst (KindFamiliesIn (up_to f)) (some_same e) (refl, (refl, tt))
    kinds_in (suc (suc zero)) K e h = subst (KindFamiliesIn (up_to f)) (some_same e) (refl, (refl, (one_of f h, tt)))
    kinds_in (suc (suc (suc a))) K e h = absurd cc

    types_in : (c : ℕ) (A : LfType) → twin_types c ≡ Some A → up_to f (target A) ≡ true → FamiliesIn (up_to f) A
    types_in zero A e h = subst (FamiliesIn (up_to f)) (some_same e) (refl, ap (λ X. up_to f (target X)) (some_same e) ∙ h)
    types_in (suc c) A e h = absurd cc

    entries_in : (B : Block) (E : LfType) → Member B twin_worlds → Member E B.entries → up_to f (target E) ≡ true → FamiliesIn (up_to f) E
    entries_in B E (inr m) i h = absurd m
    entries_in B E (inl e) i h = by (subst (λ D. Member E D.entries) e i)
      where
        by : Member E twin_block.entries → FamiliesIn (up_to f) E
        by (inl q) = subst (FamiliesIn (up_to f)) (sym q) (sym (ap (λ X. up_to f (target X)) q) ∙ h)
        by (inr (inl q)) = subst (FamiliesIn (up_to f)) (sym q) refl
        by (inr (inr m)) = absurd m

pub twin_subordination : IsSubordination Twins twin_worlds up_to
twin_subordination = record { itself = itself; through = through; self_contained = contained }

pub goal_typed : IsTypedCase Twins twin_worlds twin_goal
goal_typed = record {
  items = (((tt, (star, refl, tt)), (star, refl, tt)), (_, refl, ((exp, (exp, refl, refl), refl), ((exp, refl, refl), tt))));
  given = tt;
  arguments = ((base 0, (base 0, refl, refl)), ((base 0, (base 0, refl, refl)), ((base 1, (base 1, refl, refl)), tt)));
}

-- check b.x b.x (alike b.x) is the entry u : check x x (alike x); so u stands on x
abbrev pub entry_values : ℕ → Image
entry_values i = lift_over twin_block.entries keep (suc i)

pub values_typed : Values Twins everything (exp ∷ []) (items_context entry_alike.items) entry_values
values_typed = record { typed = typed; closed = λ i A g u. Rattle.lf.proofs.Partial.uses_type_all everything A (λ j. refl) }
  where
    typed : (i : ℕ) (A : LfType) → TypeAt (exp ∷ []) i A → everything i ≡ true → ImageHasType Twins (items_context entry_alike.items) (entry_values i) (substitute_type reduce entry_values A)
    typed zero A q u = subst (λ X. ImageHasType Twins (items_context entry_alike.items) (entry_values 0) (substitute_type reduce entry_values X)) (sym q) (exp, refl, refl)
    typed (suc i) A (B, g, r) u = absurd g

abbrev pub alike_tuple : Spine
alike_tuple = app (var 1) (app (var 1) (app (alike (var 1)) nil))

-- a case of these arguments
abbrev pub case_of_three : List Item → Term → Term → Term → Case
case_of_three I M N P = record { items = I; given = []; local = []; family = 2; arguments = Some M ∷ Some N ∷ Some P ∷ [] }

pub none_given : (σ θ : ℕ → Image) → HasGiven σ [] θ
none_given σ θ i M e = absurd cc

pub all_terms : (θ : ℕ → Image) → AreTerms twin_head.clause everything θ
all_terms θ i o u = absurd (true≢false o)

-- It shares the instance check b.x b.x (alike b.x) with u, where these values of its items make that of its arguments.
abbrev pub shares_entry : (I : List Item) (M N P : Term) (σ : ℕ → Image) → IsTypedInstance Twins entry_alike.items I σ → var 1 ≡ substitute reduce σ M → var 1 ≡ substitute reduce σ N → alike (var 1) ≡ substitute reduce σ P → CommonInstance Twins twin_worlds (case_of_three I M N P) twin_head
shares_entry I M N P σ g m n p = record {
  items = entry_alike.items;
  typed_items = (tt, inl refl, record { typed = λ i A g u. absurd g; closed = λ i A g u. absurd g });
  case_values = σ;
  is_instance = g;
  used = everything;
  clause_values = entry_values;
  typed_values = values_typed;
  uses = ((refl, tt), ((refl, tt), (((refl, tt), tt), tt)));
  terms = all_terms entry_values;
  given = none_given σ entry_values;
  stands = (lift_over twin_block.entries keep, inl (refl, refl), λ k X g. refl);
  tuple = alike_tuple;
  of_case = (m, (n, (p, tt)));
  of_clause = (refl, (refl, (refl, tt)));
}

-- where its third argument is its newest variable, which isn't alike M, it is no instance of u
pub open_none : (I : List Item) (P0 Q0 M0 N0 : Term) → IsInstanceOf Twins twin_worlds (case_of_three (free_variable (same P0 Q0) ∷ I) M0 N0 (var 0)) twin_head → ⊥
open_none I P0 Q0 M0 N0 (s, i, v, st) = by s.case_values s.is_instance v s.tuple s.of_case s.of_clause
  where
    by : (σ : ℕ → Image) → IsTypedInstance Twins s.items (free_variable (same P0 Q0) ∷ I) σ → LeavesAll (free_variable (same P0 Q0) ∷ I) σ → (T : Spine) → HasArguments σ (Some M0 ∷ Some N0 ∷ Some (var 0) ∷ []) T → SamePlaces (true ∷ true ∷ true ∷ []) T (target_arguments (substitute_type reduce s.clause_values twin_head.type)) → ⊥
    by σ g v nil a b = a
    by σ g v (app M nil) (a, a') b = a'
    by σ g v (app M (app N nil)) (a, (a', a'')) b = a''
    by σ (Z, υ, g, n, e) v (app M (app N (app P T))) (a, (a', (a'', r))) (b, (b', (b'', r'))) =
        let p : σ 0 ≡ put (base 1) Z = ap (λ f. f 0) e in
        let q : substitute reduce σ (var 0) ≡ var 0 = ap (λ y. apply_image reduce y nil) p ∙ sym (ap (as_term (base 1)) p) ∙ v 0 (weaken (same P0 Q0)) refl in
        let x : var 0 ≡ alike (substitute reduce s.clause_values (var 0)) = sym (a'' ∙ q) ∙ b'' in
        absurd cc

entry_is_instance : IsInstanceOf Twins twin_worlds entry_alike twin_head
entry_is_instance = (
  shares_entry entry_alike.items (var 1) (var 1) (alike (var 1)) (entries_in_front twin_block.entries (lift_over twin_block.entries keep) keep) (lift_over twin_block.entries keep, keep, tt, inl (refl, refl), (λ i A g. absurd g), refl) refl refl refl,
  refl,
  all,
  ((refl, tt), ((refl, tt), (((refl, tt), tt), tt))),
)
  where
    all : LeavesAll entry_alike.items (entries_in_front twin_block.entries (lift_over twin_block.entries keep) keep)
    all zero A q = refl
    all (suc zero) A q = refl
    all (suc (suc i)) A (B, (C, g, r), r') = absurd g

leaf : IsInstanceLeaf Twins twin_worlds (twin_head ∷ []) entry_alike
leaf = record {
  typed = record { items = (tt, inl refl, record { typed = λ i A g u. absurd g; closed = λ i A g u. absurd g }); given = tt; arguments = ((base 0, (base 0, refl, refl)), ((base 0, (base 0, refl, refl)), ((base 1, (Rattle.lf.specs.Syntax.arrow (base 0) (base 1), refl, ((base 0, refl, refl), refl))), tt))) };
  pattern = twin_head;
  listed = inl refl;
  pattern_typed = head_is_typed Twins twins_ok twin_worlds twins_typed twin_entry (from_entry twin_block [] (check (var 0) (var 0) (alike (var 0))) (exp ∷ []) (inl refl) refl);
  same_length = refl;
  given_own = λ i e. absurd cc;
  is_instance = entry_is_instance;
}

-- the run, by its one leaf
module _ (S : ℕ → Bool) (z : S 0 ≡ true) (o : S 1 ≡ true) (L : Case → Type 0) (l : L entry_alike) where
  pub run : Ends L (SplitsByHeads Twins twin_worlds S up_to) twin_goal
  run = by_split (one_entry ∷ []) (2, goal_split S z) (next_case (by_split (two_entries ∷ same_entry ∷ []) (1, entry_split S z) (next_case (by_split [] (0, two_split S o) no_case) (next_case (by_split (entry_alike ∷ []) (0, alike_split S o) (next_case (at_leaf l) no_case)) no_case))) no_case)

-- the places are for exp and same
holds_both : (S : ℕ → Bool) → IsBeside Twins twin_worlds S twin_goal → (S 0 ≡ true) × (S 1 ≡ true)
holds_both S b = let p : PlacesIn S (true ∷ true ∷ true ∷ []) check_kind = subst (PlacesIn S (true ∷ true ∷ true ∷ [])) (sym (some_same b.of_family)) b.places in (p.0, p.1.1.0)

pub twin_run_covers : TwinRunCovers
twin_run_covers = ((λ S c z o. run S z o (IsInstanceLeaf Twins twin_worlds (twin_head ∷ [])) leaf), covers)
  where
    covers : (S : ℕ → Bool) → IsBeside Twins twin_worlds S twin_goal → Rattle.lf_cases.specs.Pattern.IsCoveredCase Twins twin_worlds S (twin_head ∷ []) twin_goal
    covers S b = let (z, o) = holds_both S b in head_splits_cover Twins twins_ok twin_worlds twins_typed up_to twin_subordination S b.self_contained (twin_head ∷ []) twin_goal tt goal_typed (run S z o (IsInstanceCase Twins twin_worlds S (twin_head ∷ [])) (leaf_is_instance Twins twins_ok twin_worlds twins_typed S (twin_head ∷ []) entry_alike leaf))

-- one instance in a context
abbrev here : List LfType
here = check (var 0) (var 0) (alike (var 0)) ∷ exp ∷ []

abbrev world : World Twins twin_worlds (up_to 2) here
world = whole_instance {θ = lift (lift keep)} twin_block (inl refl) refl (next_entry {θ = lift keep} (check (var 0) (var 0) (alike (var 0))) (next_entry {θ = keep} exp (begin_instance no_variables (record { typed = λ i A g u. absurd g; closed = λ i A g u. absurd g })) (star, refl, tt)) entry_typed)

held_by_two : Holds world two_entries None keep alike_tuple
held_by_two = record {
  values = in_front (put (base 1) (alike (var 1))) (entries_in_front twin_block.entries (lift (lift keep)) (entries_in_front twin_block.entries (lift (lift keep)) keep));
  is_ground = (alike (var 1), entries_in_front twin_block.entries (lift (lift keep)) (entries_in_front twin_block.entries (lift (lift keep)) keep), (lift (lift keep), entries_in_front twin_block.entries (lift (lift keep)) keep, (lift (lift keep), keep, tt, inl (refl, refl), (λ i A g. absurd g), refl), inl (refl, refl), (λ i A g. absurd g), refl), (pi exp (same (var 0) (var 0)), refl, ((exp, (exp, refl, refl), refl), refl)), refl);
  first = tt;
  given = λ i M e. absurd cc;
  has_arguments = (refl, (refl, (refl, tt)));
}

not_distinctly : HoldsDistinctly world two_entries None keep alike_tuple → ⊥
not_distinctly h = by h.holds.values h.holds.is_ground h.is_distinct h.holds.has_arguments
  where
    by : (σ : ℕ → Image) (g : IsGroundInstance world two_entries.items σ) → IsDistinct world two_entries.items σ g → HasArguments σ two_entries.arguments alike_tuple → ⊥
    by σ (Z, υ, (θ, ρ, (φ, ρ', t, c, o', e'), b, o, e), hz, dz) d (p, (q, r)) = d.0 (inl (refl, alone φ c ∙ sym (alone θ b)))
      where
        alone : (θ : ℕ → Image) → Rattle.lf_cases.specs.Cover.InstanceIn world twin_block θ → θ ≡ lift (lift keep)
        alone θ (inl (p, q)) = q
        alone θ (inr (τ, (τ', i, q'), q)) = absurd i

held_by_same : HoldsDistinctly world same_entry None keep alike_tuple
held_by_same = record {
  holds = record {
    values = in_front (put (base 1) (alike (var 1))) (entries_in_front twin_block.entries (lift (lift keep)) keep);
    is_ground = (alike (var 1), entries_in_front twin_block.entries (lift (lift keep)) keep, (lift (lift keep), keep, tt, inl (refl, refl), (λ i A g. absurd g), refl), (pi exp (same (var 0) (var 0)), refl, ((exp, (exp, refl, refl), refl), refl)), refl);
    first = tt;
    given = λ i M e. absurd cc;
    has_arguments = (refl, (refl, (refl, tt)));
  };
  is_distinct = ((λ f. f), tt);
}

pub twins_one_instance : TwinsAreOneInstance
twins_one_instance = (world, held_by_two, not_distinctly, held_by_same)

-- identified they share an instance with u
shared : CommonInstance Twins twin_worlds two_entries twin_head
shared = shares_entry two_entries.items (var 4) (var 2) (var 0) (in_front (put (base 1) (alike (var 1))) (entries_in_front twin_block.entries whole (entries_in_front twin_block.entries whole keep))) (alike (var 1), entries_in_front twin_block.entries whole (entries_in_front twin_block.entries whole keep), (whole, entries_in_front twin_block.entries whole keep, (whole, keep, tt, inl (refl, refl), (λ i A g. absurd g), refl), inl (refl, refl), (λ i A g. absurd g), refl), (pi exp (same (var 0) (var 0)), refl, ((exp, (exp, refl, refl), refl), refl)), refl) refl refl refl

pub twins_matched : TwinsAreMatched
twins_matched = (open_none (block_variable twin_block keep ∷ block_variable twin_block keep ∷ []) (var 3) (var 1) (var 4) (var 2), inl shared, refl, λ e. absurd cc)
