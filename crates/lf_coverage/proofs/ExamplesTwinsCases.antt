-- The cases of two block variables are those that are to be answered, each by a most general typed instance.
use Rattle.std.proofs.Common.{◌≡◌, ℕ, suc, List, [], ◌∷◌, ◌+◌, length, refl, sym, ap, ◌∙◌, subst, arith, inl, inr}
use Rattle.std.specs.Prelude.{Bool, ◌⊎◌}
use Rattle.lf.specs.Syntax.{Term, constant, variable, nil, app, LfType, base, skeleton}
use Rattle.lf.specs.AtOnce.{in_front, shift_by}
use Rattle.lf.specs.Substitution.{Image, keep, put, rename_image, apply_image, substitute, reduce, after}
use Rattle.lf.specs.Typing.{TypeAt, HasType, SpineType}
use Rattle.lf.specs.Subordination.{SelfContained}
use Rattle.lf.specs.Worlds.{lift_over}
use Rattle.lf_cases.specs.Case.{Item, free_variable, block_variable, as_term, entries_in_front, items_context}
use Rattle.lf_cases.specs.Missing.{BlockAmong, IsTypedInstance, KeepsApart}
use Rattle.lf_cases.specs.Reached.{GivesNoCase, IsSplitBy}
use Rattle.lf_totality.specs.Examples.{exp, var}
use Rattle.lf_coverage.specs.ExamplesTwins.{Twins, twin_block, twin_worlds, twin_goal, one_entry, two_entries, same_entry, entry_alike, same, alike, up_to, TwinCasesAreAnswers}
use Rattle.lf_coverage.specs.Heads.{IsHeadSplit, IsTypedCase}
use Rattle.lf_coverage.specs.Listed.{no_offer, with_case, without_case}
use Rattle.lf_coverage.proofs.ExamplesGiven.{is_split_by}
use Rattle.lf_coverage.proofs.ExamplesTwins.{goal_answered, entry_answered, two_answered, alike_answered, first_made, new_made, old_made, alike_made, es, alike_type, first_items, first_values, first_items_typed, first_type, first_same, new_items, new_values, second_block, new_items_typed, new_instance, new_type, new_same_values, old_values, old_items_typed, old_type, old_same, alike_items, alike_values, alike_same, both_items, terms_first, terms_second, goal_split, entry_split, two_split, alike_split}
use Rattle.lf_coverage.proofs.ExamplesTwinsRun.{goal_typed, twins_ok, twins_typed, twin_subordination}
use Rattle.lf_coverage.proofs.Parts.{some_same, keep_same}
use Rattle.lf_coverage.proofs.Runs.{head_split_is_split}

-- b.x for X
pub first_by : IsSplitBy Twins twin_worlds up_to twin_goal 2 exp first_items 2 (variable 1) exp one_entry
first_by = is_split_by first_made 2 (variable 1) ((λ f. f), tt) refl general
  where
    general : (F : List Item) (τ : ℕ → Image) → IsTypedInstance Twins F first_items τ → as_term (base 0) (τ 4) ≡ substitute reduce τ (var 1) → (ρ : ℕ → Image) × IsTypedInstance Twins F one_entry.items ρ × ((i : ℕ) (A : LfType) → TypeAt (items_context first_items) i A → as_term (skeleton A) (τ i) ≡ as_term (skeleton A) (after ρ first_values i))
    general F τ (θ, υ, (Z, υ1, (Y, υ2, (X, ρ, t, hx, dx), hy, dy), hz, dz), b, o, e) s = (in_front (put (base 1) Z) (in_front (put (base 0) Y) (entries_in_front es θ keep)), (Z, in_front (put (base 0) Y) (entries_in_front es θ keep), (Y, entries_in_front es θ keep, (θ, keep, tt, b, (λ i A g. absurd g), refl), hy, refl), subst (λ A. HasType Twins (items_context F) Z A) (first_type X Y Z θ τ υ υ1 υ2 ρ e dz dy dx s) hz, refl), λ i A q. ap (as_term (skeleton A)) (first_same X Y Z θ τ υ υ1 υ2 ρ e dz dy dx s i A q))

-- c.x for Y
pub new_by : IsSplitBy Twins twin_worlds up_to one_entry 1 exp new_items 2 (variable 1) exp two_entries
new_by = is_split_by new_made 1 (variable 1) apart refl general
  where
    apart : KeepsApart Twins two_entries.items new_items new_values new_instance
    apart = (λ f. by f, ((λ f. f), tt))
      where
        by : ((twin_block ≡ twin_block) × (second_block ≡ (λ i. rename_image suc (lift_over es keep i)))) ⊎ ⊥ → ⊥
        by (inl (p, q)) = let r : keep 4 ≡ keep 2 = ap (λ f. f 1) q in absurd cc
        by (inr f) = f

    general : (F : List Item) (τ : ℕ → Image) → IsTypedInstance Twins F new_items τ → as_term (base 0) (τ 3) ≡ substitute reduce τ (var 1) → (ρ : ℕ → Image) × IsTypedInstance Twins F two_entries.items ρ × ((i : ℕ) (A : LfType) → TypeAt (items_context new_items) i A → as_term (skeleton A) (τ i) ≡ as_term (skeleton A) (after ρ new_values i))
    general F τ (θ, υ, (Z, υ1, (Y, υ2, (φ, ρ, t, c, o', e'), hy, dy), hz, dz), b, o, e) s = (in_front (put (base 1) Z) (entries_in_front es θ (entries_in_front es φ keep)), (Z, entries_in_front es θ (entries_in_front es φ keep), (θ, entries_in_front es φ keep, (φ, keep, tt, c, (λ i A g. absurd g), refl), b, (λ i A g. absurd g), refl), subst (λ A. HasType Twins (items_context F) Z A) (new_type Y Z θ φ τ υ υ1 υ2 ρ e dz dy e' s) hz, refl), λ i A q. ap (as_term (skeleton A)) (new_same_values Y Z θ φ τ υ υ1 υ2 ρ e dz dy e' s i A q))

-- b.x for Y
pub old_by : IsSplitBy Twins twin_worlds up_to one_entry 1 exp one_entry.items 0 (variable 3) exp same_entry
old_by = is_split_by old_made 1 (variable 3) ((λ f. f), tt) refl general
  where
    general : (F : List Item) (τ : ℕ → Image) → IsTypedInstance Twins F one_entry.items τ → as_term (base 0) (τ 1) ≡ substitute reduce τ (var 3) → (ρ : ℕ → Image) × IsTypedInstance Twins F same_entry.items ρ × ((i : ℕ) (A : LfType) → TypeAt (items_context one_entry.items) i A → as_term (skeleton A) (τ i) ≡ as_term (skeleton A) (after ρ old_values i))
    general F τ (Z, υ1, (Y, υ2, (φ, ρ, t, c, o', e'), hy, dy), hz, dz) s = (in_front (put (base 1) Z) (entries_in_front es φ keep), (Z, entries_in_front es φ keep, (φ, keep, tt, c, (λ i A g. absurd g), refl), subst (λ A. HasType Twins (items_context F) Z A) (old_type Y Z φ τ υ1 υ2 ρ dz dy e' s) hz, refl), λ i A q. ap (as_term (skeleton A)) (old_same Y Z φ τ υ1 υ2 ρ dz dy e' s i A q))

-- alike H has the type same H H
alike_of : (G : List LfType) (H M N : Term) → HasType Twins G (alike H) (same M N) → (H ≡ M) × (H ≡ N)
alike_of G H M N (A, e, r) = let (h, q) = subst (λ X. SpineType Twins G (app H nil) X (same M N)) (sym (some_same e)) r in (terms_first q, terms_second q)

pub alike_by : IsSplitBy Twins twin_worlds up_to same_entry 0 (same (var 2) (var 2)) same_entry.items 0 (constant 0) alike_type entry_alike
alike_by = is_split_by alike_made 0 (constant 0) ((λ f. f), tt) refl general
  where
    general : (F : List Item) (τ : ℕ → Image) → IsTypedInstance Twins F alike_items τ → as_term (base 1) (τ 1) ≡ substitute reduce τ (alike (var 0)) → (ρ : ℕ → Image) × IsTypedInstance Twins F entry_alike.items ρ × ((i : ℕ) (A : LfType) → TypeAt (items_context alike_items) i A → as_term (skeleton A) (τ i) ≡ as_term (skeleton A) (after ρ alike_values i))
    general F τ (H, υ, (Z, υ1, (φ, ρ, t, c, o', e'), hz, dz), hh, dh) s =
        let p : τ 1 ≡ put (base 1) Z = ap (λ k. k 1) dh ∙ ap (λ k. k 0) dz in
        let h : Z ≡ alike H = sym (ap (as_term (base 1)) p) ∙ s ∙ ap (λ k. alike (apply_image reduce (k 0) nil)) dh in
        let (q, q') = alike_of (items_context F) H (apply_image reduce (υ1 1) nil) (apply_image reduce (υ1 1) nil) (subst (λ M. HasType Twins (items_context F) M (same (apply_image reduce (υ1 1) nil) (apply_image reduce (υ1 1) nil))) h hz) in
        let k : H ≡ apply_image reduce (φ 1) nil = q ∙ ap (λ f. apply_image reduce (f 1) nil) e' in
        (entries_in_front es φ keep, (φ, keep, tt, c, (λ i A g. absurd g), refl), λ i A g. ap (as_term (skeleton A)) (alike_same H Z φ τ υ υ1 ρ dh dz e' s k i A g))

-- Two block variables of items with one entry in common are one.
abbrev moved_by : (ℕ → ℕ) → (ℕ → Image) → ℕ → Image
moved_by ρ f i = rename_image ρ (f i)

image_suc : (x y : Image) (j k : ℕ) → x ≡ keep j → y ≡ keep k → rename_image suc x ≡ rename_image suc y → x ≡ y
image_suc x y j k p q e = let r : keep (suc j) ≡ keep (suc k) = sym (ap (rename_image suc) p) ∙ e ∙ ap (rename_image suc) q in p ∙ ap keep (inj r) ∙ sym q
  where
    inj : {j k : ℕ} → keep (suc j) ≡ keep (suc k) → j ≡ k
    inj e = cc

image_shift : (n : ℕ) (x y : Image) (j k : ℕ) → x ≡ keep j → y ≡ keep k → rename_image (shift_by n) x ≡ rename_image (shift_by n) y → x ≡ y
image_shift n x y j k p q e = let r : keep (j + n) ≡ keep (k + n) = sym (ap (rename_image (shift_by n)) p) ∙ e ∙ ap (rename_image (shift_by n)) q in p ∙ ap keep (same_sum j k n (keep_same r)) ∙ sym q
  where
    same_sum : (j k n : ℕ) → j + n ≡ k + n → j ≡ k
    same_sum j k n e = omega (arith, e)

pub is_variable : (F : List Item) (θ : ℕ → Image) → BlockAmong F twin_block θ → (j : ℕ) × (θ 1 ≡ keep j)
is_variable [] θ b = absurd b
is_variable (free_variable A ∷ F) θ (τ, b, e) = let (j, q) = is_variable F τ b in (suc j, ap (λ f. f 1) e ∙ ap (rename_image suc) q)
is_variable (block_variable C υ ∷ F) θ (inl (c, e)) = (1, ap (λ f. f 1) e ∙ ap (λ D. lift_over D.entries υ 1) c)
is_variable (block_variable C υ ∷ F) θ (inr (τ, b, e)) = let (j, q) = is_variable F τ b in (shift_by (length C.entries) j, ap (λ f. f 1) e ∙ ap (rename_image (shift_by (length C.entries))) q)

-- the entry of the newest block variable is none of the others
newest : (F : List Item) (C : Rattle.lf.specs.Subordination.Block) (υ θ φ τ : ℕ → Image) → C ≡ twin_block → θ ≡ lift_over C.entries υ → BlockAmong F twin_block τ → φ ≡ (λ i. rename_image (shift_by (length C.entries)) (τ i)) → θ 1 ≡ φ 1 → ⊥
newest F C υ θ φ τ c e b e' q =
    let (j, p) = is_variable F τ b in
    let l : keep 1 ≡ θ 1 = sym (ap (λ f. f 1) e ∙ ap (λ D. lift_over D.entries υ 1) c) in
    let r : φ 1 ≡ keep (j + length C.entries) = ap (λ f. f 1) e' ∙ ap (rename_image (shift_by (length C.entries))) p in
    far j (keep_same (l ∙ q ∙ r ∙ ap (λ D. keep (j + length D.entries)) c))
  where
    far : (j : ℕ) → 1 ≡ j + 2 → ⊥
    far j e = omega (arith, e)

one_block : (F : List Item) (θ φ : ℕ → Image) → BlockAmong F twin_block θ → BlockAmong F twin_block φ → θ 1 ≡ φ 1 → θ ≡ φ
one_block [] θ φ b c q = absurd b
one_block (free_variable A ∷ F) θ φ (τ, b, e) (τ', b', e') q =
    let (j, p) = is_variable F τ b in
    let (k, p') = is_variable F τ' b' in
    e ∙ ap (moved_by suc) (one_block F τ τ' b b' (image_suc (τ 1) (τ' 1) j k p p' (sym (ap (λ f. f 1) e) ∙ q ∙ ap (λ f. f 1) e'))) ∙ sym e'
one_block (block_variable C υ ∷ F) θ φ (inl (c, e)) (inl (c', e')) q = e ∙ sym e'
one_block (block_variable C υ ∷ F) θ φ (inl (c, e)) (inr (τ, b, e')) q = absurd (newest F C υ θ φ τ c e b e' q)
one_block (block_variable C υ ∷ F) θ φ (inr (τ, b, e')) (inl (c, e)) q = absurd (newest F C υ φ θ τ c e b e' (sym q))
one_block (block_variable C υ ∷ F) θ φ (inr (τ, b, e)) (inr (τ', b', e')) q =
    let (j, p) = is_variable F τ b in
    let (k, p') = is_variable F τ' b' in
    e ∙ ap (moved_by (shift_by (length C.entries))) (one_block F τ τ' b b' (image_shift (length C.entries) (τ 1) (τ' 1) j k p p' (sym (ap (λ f. f 1) e) ∙ q ∙ ap (λ f. f 1) e'))) ∙ sym e'

no_case_of_two : GivesNoCase Twins twin_worlds up_to 0 (same (var 4) (var 2)) two_entries.items 0 (constant 0) alike_type
no_case_of_two F τ t u = by u.is_instance u.keeps_apart u.same
  where
    same_index : {j k : ℕ} → var j ≡ var k → j ≡ k
    same_index e = cc

    by : (g : IsTypedInstance Twins F both_items τ) → KeepsApart Twins F both_items τ g → as_term (base 1) (τ 1) ≡ substitute reduce τ (alike (var 0)) → ⊥
    by (H, υ, (Z, υ1, (θ, ρ, (φ, ρ', t, c, o', e'), b, o, e), hz, dz), hh, dh) (apart, rest) s =
        let p : τ 1 ≡ put (base 1) Z = ap (λ k. k 1) dh ∙ ap (λ k. k 0) dz in
        let h : Z ≡ alike H = sym (ap (as_term (base 1)) p) ∙ s ∙ ap (λ k. alike (apply_image reduce (k 0) nil)) dh in
        let (q, q') = alike_of (items_context F) H (apply_image reduce (υ1 3) nil) (apply_image reduce (υ1 1) nil) (subst (λ M. HasType Twins (items_context F) M (same (apply_image reduce (υ1 3) nil) (apply_image reduce (υ1 1) nil))) h hz) in
        let (j, kj) = is_variable F θ b in
        let (k, kk) = is_variable F φ c in
        let vc : υ1 3 ≡ keep k = ap (λ f. f 3) e ∙ ap (λ f. f 1) e' ∙ kk in
        let vb : υ1 1 ≡ keep j = ap (λ f. f 1) e ∙ kj in
        let r : var k ≡ var j = sym (ap (λ y. apply_image reduce y nil) vc) ∙ sym q ∙ q' ∙ ap (λ y. apply_image reduce y nil) vb in
        apart (inl (refl, one_block F φ θ c b (kk ∙ ap keep (same_index r) ∙ sym kj)))

-- The cases are typed, and their splits by heads hold all that they hold.
one_typed : IsTypedCase Twins twin_worlds one_entry
one_typed = record { items = first_items_typed; given = tt; arguments = ((base 0, (base 0, refl, refl)), ((base 0, (base 0, refl, refl)), ((base 1, (base 1, refl, refl)), tt))) }

two_typed : IsTypedCase Twins twin_worlds two_entries
two_typed = record { items = new_items_typed; given = tt; arguments = ((base 0, (base 0, refl, refl)), ((base 0, (base 0, refl, refl)), ((base 1, (base 1, refl, refl)), tt))) }

same_typed : IsTypedCase Twins twin_worlds same_entry
same_typed = record { items = old_items_typed; given = tt; arguments = ((base 0, (base 0, refl, refl)), ((base 0, (base 0, refl, refl)), ((base 1, (base 1, refl, refl)), tt))) }

holds_all : (S : ℕ → Bool) → SelfContained Twins twin_worlds S → (C : Rattle.lf_cases.specs.Case.Case) → IsTypedCase Twins twin_worlds C → (x : ℕ) (Cs : List Rattle.lf_cases.specs.Case.Case) → IsHeadSplit Twins twin_worlds S up_to C x Cs → Rattle.lf_cases.specs.Split.IsSplit Twins twin_worlds S C Cs
holds_all S sc C t x Cs h = head_split_is_split Twins twins_ok twin_worlds twins_typed up_to twin_subordination S sc C t x Cs h

pub twin_cases : TwinCasesAreAnswers
twin_cases = (
  record { listed = goal_answered (with_case first_by no_offer); holds = λ S sc z. holds_all S sc twin_goal goal_typed 2 (one_entry ∷ []) (goal_split S z) },
  record { listed = entry_answered (with_case new_by (with_case old_by no_offer)); holds = λ S sc z. holds_all S sc one_entry one_typed 1 (two_entries ∷ same_entry ∷ []) (entry_split S z) },
  record { listed = two_answered (without_case no_case_of_two no_offer); holds = λ S sc o. holds_all S sc two_entries two_typed 0 [] (two_split S o) },
  record { listed = alike_answered (with_case alike_by no_offer); holds = λ S sc o. holds_all S sc same_entry same_typed 0 (entry_alike ∷ []) (alike_split S o) },
)
