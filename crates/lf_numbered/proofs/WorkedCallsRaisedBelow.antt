-- The signature of the worked goal that is raised: it is one, its blocks are typed, and each family is below each later one.
use Rattle.std.proofs.Common.{◌≡◌, ℕ, zero, suc, [], inl, inr, refl, sym, ap, ◌∙◌, subst}
use Rattle.std.specs.Prelude.{true, Some}
use Rattle.lf.specs.Syntax.{Kind, LfType, pi, star}
use Rattle.lf.specs.Typing.{IsKind, IsSignature, IsType}
use Rattle.lf.specs.Variables.{FamiliesIn, KindFamiliesIn, target}
use Rattle.lf.specs.Subordination.{AreTypedBlocks, Block, IsDeclared, IsTypedBlock, Member, SelfContained}
use Rattle.lf_checks.specs.Below.{IsSubordination}
use Rattle.lf_coverage.specs.ExamplesTwins.{up_to}
use Rattle.lf_coverage.proofs.ExamplesTwinsRun.{twin_subordination}
use Rattle.lf_coverage.proofs.Parts.{none_some, some_same}
use Rattle.lf_numbered.specs.EntryConstants.{IsFreeFrom}
use Rattle.lf_numbered.specs.WorkedCallsRaised.{Raising, d_kind, fam_a, fam_b, g_type, local_block, q_kind, raising_block, raising_kinds, raising_types, raising_worlds}
use Rattle.lf_numbered.proofs.FreeFrom.{free_from}

pub ok : IsSignature Raising
ok = record { types_ok = types; kinds_ok = kinds }
  where
    types : (c : ℕ) (A : LfType) → raising_types c ≡ Some A → IsType Raising [] A
    types zero A e = subst (IsType Raising []) (some_same e) ((star, refl, tt), (d_kind, refl, ((fam_b, refl, refl), tt)))
    types (suc c) A e = absurd (none_some e)

    kinds : (f : ℕ) (K : Kind) → raising_kinds f ≡ Some K → IsKind Raising [] K
    kinds zero K e = subst (IsKind Raising []) (some_same e) tt
    kinds (suc zero) K e = subst (IsKind Raising []) (some_same e) ((star, refl, tt), tt)
    kinds (suc (suc zero)) K e = subst (IsKind Raising []) (some_same e) ((star, refl, tt), ((d_kind, refl, ((fam_b, refl, refl), tt)), tt))
    kinds (suc (suc (suc zero))) K e = subst (IsKind Raising []) (some_same e) tt
    kinds (suc (suc (suc (suc zero)))) K e = subst (IsKind Raising []) (some_same e) tt
    kinds (suc (suc (suc (suc (suc f))))) K e = absurd (none_some e)

pub blocks : AreTypedBlocks Raising raising_worlds
blocks B (inl e) = subst (IsTypedBlock Raising) (sym e) ((tt, ((star, refl, tt), (star, refl, tt))), (((star, refl, tt), (q_kind, refl, ((pi fam_a fam_b, (pi fam_a fam_b, refl, refl), ((fam_a, refl, refl), refl)), ((g_type, refl, ((pi fam_a fam_b, (pi fam_a fam_b, refl, refl), ((fam_a, refl, refl), refl)), refl)), tt)))), (star, refl, tt)))
blocks B (inr (inl e)) = subst (IsTypedBlock Raising) (sym e) (tt, (star, refl, tt))
blocks B (inr (inr m)) = absurd m

pub free : IsFreeFrom Raising 5
free = free_from Raising 5 (λ c. refl) (λ a. refl)

earlier : (f g h : ℕ) → up_to f g ≡ true → up_to g h ≡ true → up_to f h ≡ true
earlier f g h e i = twin_subordination.through f g e h i

contained : (f : ℕ) → IsDeclared Raising f → SelfContained Raising raising_worlds (up_to f)
contained f d = record { declared = declared f d; kinds_in = kinds_in; types_in = types_in; entries_in = entries_in }
  where
    declared : (f : ℕ) → IsDeclared Raising f → (h : ℕ) → up_to f h ≡ true → IsDeclared Raising h
    declared f d zero h = (star, refl)
    declared f d (suc zero) h = (_, refl)
    declared f d (suc (suc zero)) h = (_, refl)
    declared f d (suc (suc (suc zero))) h = (_, refl)
    declared f d (suc (suc (suc (suc zero)))) h = (_, refl)
    declared zero d (suc (suc (suc (suc (suc g))))) h = absurd cc
    declared (suc zero) d (suc (suc (suc (suc (suc g))))) h = absurd cc
    declared (suc (suc zero)) d (suc (suc (suc (suc (suc g))))) h = absurd cc
    declared (suc (suc (suc zero))) d (suc (suc (suc (suc (suc g))))) h = absurd cc
    declared (suc (suc (suc (suc zero)))) d (suc (suc (suc (suc (suc g))))) h = absurd cc
    declared (suc (suc (suc (suc (suc f))))) (K, e) (suc (suc (suc (suc (suc g))))) h = absurd (none_some e)

    kinds_in : (g : ℕ) (K : Kind) → raising_kinds g ≡ Some K → up_to f g ≡ true → KindFamiliesIn (up_to f) K
    kinds_in zero K e h = subst (KindFamiliesIn (up_to f)) (some_same e) tt
    kinds_in (suc zero) K e h = subst (KindFamiliesIn (up_to f)) (some_same e) (refl, tt)
    kinds_in (suc (suc zero)) K e h = subst (KindFamiliesIn (up_to f)) (some_same e) (refl, (earlier f 2 1 h refl, tt))
    kinds_in (suc (suc (suc zero))) K e h = subst (KindFamiliesIn (up_to f)) (some_same e) tt
    kinds_in (suc (suc (suc (suc zero)))) K e h = subst (KindFamiliesIn (up_to f)) (some_same e) tt
    kinds_in (suc (suc (suc (suc (suc g))))) K e h = absurd (none_some e)

    types_in : (c : ℕ) (A : LfType) → raising_types c ≡ Some A → up_to f (target A) ≡ true → FamiliesIn (up_to f) A
    types_in zero A e h = subst (FamiliesIn (up_to f)) (some_same e) (refl, ap (λ X. up_to f (target X)) (some_same e) ∙ h)
    types_in (suc c) A e h = absurd (none_some e)

    of_first : (E : LfType) → Member E raising_block.entries → up_to f (target E) ≡ true → FamiliesIn (up_to f) E
    of_first E (inl q) h =
        let r : up_to f 4 ≡ true = sym (ap (λ X. up_to f (target X)) q) ∙ h in
        subst (FamiliesIn (up_to f)) (sym q) ((earlier f 4 3 r refl, earlier f 4 2 r refl), r)
    of_first E (inr m) h = absurd m

    of_second : (E : LfType) → Member E local_block.entries → up_to f (target E) ≡ true → FamiliesIn (up_to f) E
    of_second E (inl q) h = subst (FamiliesIn (up_to f)) (sym q) (sym (ap (λ X. up_to f (target X)) q) ∙ h)
    of_second E (inr m) h = absurd m

    entries_in : (B : Block) (E : LfType) → Member B raising_worlds → Member E B.entries → up_to f (target E) ≡ true → FamiliesIn (up_to f) E
    entries_in B E (inl e) n h = of_first E (subst (λ (D : Block). Member E D.entries) e n) h
    entries_in B E (inr (inl e)) n h = of_second E (subst (λ (D : Block). Member E D.entries) e n) h
    entries_in B E (inr (inr m)) n h = absurd m

pub raising_subordination : IsSubordination Raising raising_worlds up_to
raising_subordination = record { itself = twin_subordination.itself; through = twin_subordination.through; self_contained = contained }
