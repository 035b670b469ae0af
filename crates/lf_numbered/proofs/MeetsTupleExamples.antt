-- Worked tuples of cp b.x c.x.
use Rattle.std.proofs.Common.{◌≡◌, ◌≤◌, ◌⊎◌, ℕ, zero, suc, [], ◌∷◌, inl, inr, refl, sym, subst, arith}
use Rattle.std.specs.Prelude.{true, false, None}
use Rattle.lf.specs.Syntax.{LfType, nil, app, star}
use Rattle.lf.specs.Substitution.{Image, keep, lift, substitute_type, reduce}
use Rattle.lf.specs.Typing.{TypeAt, ImageHasType}
use Rattle.lf.specs.Variables.{everything}
use Rattle.lf.specs.Worlds.{World, no_variables, whole_instance, begin_instance, next_entry}
use Rattle.lf_totality.proofs.After.{Extends-self}
use Rattle.lf.proofs.Partial.{uses_type_all}
use Rattle.lf_unification.specs.Steps.{CanRefute, constants_differ, no_step}
use Rattle.lf_unification.specs.Unifiers.{Store}
use Rattle.lf_cases.specs.Cover.{before}
use Rattle.lf_totality.specs.Examples.{Copying, copy_block, cp, cp_kind, exp, var}
use Rattle.lf_totality.proofs.Copying.{copying_ok}
use Rattle.lf_coverage.specs.ExamplesCopying.{copy_app_head, copy_worlds}
use Rattle.lf_coverage.proofs.ExamplesCopyingSplit.{copy_typed}
use Rattle.lf_numbered.specs.EntryConstants.{with_entries}
use Rattle.lf_numbered.specs.ExamplesNumbered.{two_copies}
use Rattle.lf_numbered.specs.MeetsTupleExamples.{CopiesAreApplied, CopiesAreRefuted, CopiesShareTuple}
use Rattle.lf_numbered.specs.NumberedCallsStores.{identified, meet_store_by_number}
use Rattle.lf_numbered.specs.OwnTerms.{blocks_of}

pub copies_are_applied : CopiesAreApplied
copies_are_applied = (refl, refl)

-- the block variables 0 and 1 are those of the numbers m and n
abbrev pair : ℕ → ℕ → ℕ → ℕ
pair m n zero = m
pair m n (suc k) = n

abbrev store : ℕ → ℕ → Store
store m n = meet_store_by_number (pair m n) (identified 4 (pair m n) two_copies) copy_app_head keep cp_kind

differ : ◌≡◌ {A = ℕ} 4 2 → ⊥
differ e = omega (arith, e)

zeroth : (m : ℕ) → m ≤ 0 → m ≡ 0
zeroth m l = omega (arith, l)

first : (n : ℕ) → n ≤ 1 → (n ≡ 0) ⊎ (n ≡ 1)
first zero l = inl refl
first (suc zero) l = inr refl
first (suc (suc n)) l = absurd (omega (arith, l))

refuted : (m n : ℕ) → m ≡ 0 → (n ≡ 0) ⊎ (n ≡ 1) → CanRefute (with_entries Copying 4 (blocks_of two_copies.blocks)) (store m n)
refuted m n e (inl f) = subst (λ m. CanRefute (with_entries Copying 4 (blocks_of two_copies.blocks)) (store m n)) (sym e) (subst (λ n. CanRefute (with_entries Copying 4 (blocks_of two_copies.blocks)) (store 0 n)) (sym f) (record { reached = _; run = no_step; refuted = constants_differ differ }))
refuted m n e (inr f) = subst (λ m. CanRefute (with_entries Copying 4 (blocks_of two_copies.blocks)) (store m n)) (sym e) (subst (λ n. CanRefute (with_entries Copying 4 (blocks_of two_copies.blocks)) (store 0 n)) (sym f) (record { reached = _; run = no_step; refuted = constants_differ differ }))

pub copies_are_refuted : CopiesAreRefuted
copies_are_refuted π l = refuted (π 0) (π 1) (zeroth (π 0) (l 0)) (first (π 1) (l 1))

-- the context x:exp, u:cp x x
abbrev in_front_of : ℕ → Image
in_front_of = lift (lift keep)

abbrev block_world : World Copying copy_worlds (λ b. false) (cp (var 0) (var 0) ∷ exp ∷ [])
block_world = whole_instance copy_block (inl refl) refl (next_entry {θ = lift keep} (cp (var 0) (var 0)) (next_entry {θ = keep} exp (begin_instance no_variables (record { typed = λ i A g u. absurd g; closed = λ i A g u. absurd g })) (star, refl, tt)) (cp_kind, refl, ((exp, refl, refl), ((exp, refl, refl), tt))))

pub copies_share_tuple : CopiesShareTuple
copies_share_tuple = record {
  worlds = copy_worlds;
  typed = copy_typed;
  set = λ b. false;
  extension = Copying;
  extends = Extends-self (λ b. false) Copying copying_ok;
  context = cp (var 0) (var 0) ∷ exp ∷ [];
  world = block_world;
  known = None;
  values = keep;
  tuple = app (var 1) (app (var 1) nil);
  holds = record {
    instances = λ k. in_front_of;
    values = keep;
    is_ground = record { values = refl; instances = (inl (refl, refl), refl, (inl (refl, refl), refl, tt)) };
    zeroth = tt;
    given = λ i M e. absurd cc;
    has_arguments = (refl, (refl, tt));
  };
  is_known = λ z. absurd cc;
  has = record {
    outer = before [] in_front_of;
    stands = (in_front_of, inl (refl, refl), refl);
    used = everything;
    uses = ((refl, tt), ((refl, tt), tt));
    values = λ i. in_front_of (suc i);
    typed = record { typed = value_typed; closed = λ i A g u. uses_type_all everything A (λ j. refl) };
    agrees = λ k X g. refl;
    given = λ i M u e. absurd cc;
    terms = λ i o u. absurd cc;
    same = (refl, (refl, tt));
  };
}
  where
    value_typed : (i : ℕ) (A : LfType) → TypeAt (exp ∷ []) i A → everything i ≡ true → ImageHasType Copying (cp (var 0) (var 0) ∷ exp ∷ []) (in_front_of (suc i)) (substitute_type reduce (λ i. in_front_of (suc i)) A)
    value_typed zero A g u = subst (λ Z. ImageHasType Copying (cp (var 0) (var 0) ∷ exp ∷ []) (keep 1) (substitute_type reduce (λ i. in_front_of (suc i)) Z)) (sym g) (exp, refl, refl)
    value_typed (suc i) A (C, g, e) u = absurd g
