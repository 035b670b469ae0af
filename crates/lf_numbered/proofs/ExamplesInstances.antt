-- Heads over the signature with entries, and a second block variable.
use Rattle.std.proofs.Common.{◌≡◌, ℕ, zero, suc, ◌+◌, inl, refl, sym, ap, arith}
use Rattle.lf.specs.Rules.{stop}
use Rattle.lf.specs.Syntax.{constant, Spine, nil, app}
use Rattle.lf.specs.Substitution.{keep}
use Rattle.lf.specs.Variables.{target}
use Rattle.lf_unification.specs.Putting.{put_nothing, some_at_bound, some_in_argument, some_in_arguments, some_nowhere}
use Rattle.lf_totality.specs.Examples.{Copying, copy_block, exp, z}
use Rattle.lf_coverage.proofs.Parts.{some_same}
use Rattle.lf_numbered.specs.ExamplesEntries.{copy_entry_case}
use Rattle.lf_numbered.specs.ExamplesInstances.{EntryIsHead, SecondIsApart, BindingMovesOwnTerms, unknown}
use Rattle.lf_numbered.specs.NewBlock.{with_new_block}
use Rattle.lf_numbered.specs.NewInstance.{AreApart, with_instance}
use Rattle.lf_numbered.specs.NumberedHeads.{IsNumberedHead, StandsForNone, of_signature, of_entry}
use Rattle.lf_numbered.proofs.StaysApart.{new_instance_stays_apart}

pub entry_is_head : EntryIsHead
entry_is_head = (of_entry 4 0 1 exp refl refl refl, of_signature 0 _ refl refl, refused)
  where
    apart : {m n : ℕ} → m ≡ suc n → m ≡ zero → ⊥
    apart p q = omega arith

    refused : IsNumberedHead Copying 4 copy_entry_case (λ k. keep) 0 0 (constant 1) → ⊥
    refused (of_signature k U e t) = apart (sym (ap target (some_same e))) t

one_is_apart : AreApart copy_entry_case (λ k. keep)
one_is_apart zero zero b c e f p q = refl
one_is_apart zero (suc k) b c e f p q = absurd cc
one_is_apart (suc j) k b c e f p q = absurd cc

other : StandsForNone copy_entry_case (λ k. keep) copy_block (λ i. keep (i + 2))
other k b e p q = let r : keep 0 ≡ keep 2 = ap (λ f. f 0) q in absurd cc

refused : AreApart (with_new_block copy_block copy_entry_case) (with_instance 1 keep (λ k. keep)) → ⊥
refused h = let q : ◌≡◌ {A = ℕ} 0 1 = h 0 1 (record { block = copy_block; terms = nil }) (record { block = copy_block; terms = nil }) refl refl refl refl in absurd (omega (arith, q))

pub second_is_apart : SecondIsApart
second_is_apart = (new_instance_stays_apart copy_entry_case (λ k. keep) one_is_apart copy_block (λ i. keep (i + 2)) other, refused)

pub binding_moves_own_terms : BindingMovesOwnTerms
binding_moves_own_terms = (some_in_arguments (constant 4) (some_in_argument (some_at_bound (record { of = 0; value = z }) (inl refl) some_nowhere stop put_nothing) some_nowhere), ((nil, refl), (tt, tt)), λ o. otherwise o.0.0 o.0.1)
  where
    otherwise : (T : Spine) → app z nil ≡ app unknown T → ⊥
    otherwise T e = cc
