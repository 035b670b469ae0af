-- A shared instance of a case by number and a pattern makes block variables one, and the pattern has a place beside the case with these one.
use Rattle.std.proofs.Common.{◌≡◌, ℕ, zero, suc, ◌<◌, ◌≤◌, ◌⊎◌, List, [], ◌∷◌, length, inl, inr, refl, sym, ap, ◌∙◌, subst, arith}
use Rattle.std.specs.Prelude.{Bool, true, false, cond, Option, Some, None}
use Rattle.lf.specs.Substitution.{Image, keep}
use Rattle.lf.specs.AtOnce.{shift_by}
use Rattle.lf.specs.Typing.{Signature}
use Rattle.lf.specs.Subordination.{Block}
use Rattle.lf.specs.Variables.{same_number}
use Rattle.lf.proofs.Checker.{number_is, number_itself}
use Rattle.lf_unification.specs.Offering.{local_arguments}
use Rattle.lf_checks.specs.Clause.{Clause, entry_clause}
use Rattle.lf_cases.specs.Cover.{before}
use Rattle.lf_cases.specs.Pattern.{Origin, of_constant, of_entry, Pattern}
use Rattle.lf_coverage.proofs.Choices.{decided}
use Rattle.lf_coverage.proofs.Parts.{some_same}
use Rattle.lf_numbered.specs.EntryPatterns.{StandsByNumber, variable_images}
use Rattle.lf_numbered.specs.NewBlock.{with_new_block}
use Rattle.lf_numbered.specs.NumberedCallsMeeting.{SharesInstance}
use Rattle.lf_numbered.specs.NumberedCallsStores.{Identifies, IsPutBeside, constant_beside, entry_beside, new_beside, identified}
use Rattle.lf_numbered.specs.NumberedCase.{NumberedCase}
use Rattle.lf_numbered.specs.NumberedInstance.{block_at, moved_constant, move_spine}
use Rattle.lf_numbered.specs.NumberedMeets.{HasFirst, IsSharedAt, SharedHasPlace, NoPlaceSharesNone}
use Rattle.lf_numbered.specs.OwnTerms.{BlockVariable, blocks_of, rename_blocks}
use Rattle.lf_numbered.proofs.EntryPatternsNumbers.{inside_list, last_at}
use Rattle.lf_numbered.proofs.MovedConstants.{moved_at}
use Rattle.lf_numbered.proofs.NumberedMeetsMoved.{identified_instance}
use Rattle.lf_numbered.proofs.RenamedBlocks.{moved_length, renamed_length}

-- the first number below n for which ν is v, or else d
abbrev first_with : (ℕ → ℕ) → ℕ → ℕ → ℕ → ℕ
first_with ν zero v d = d
first_with ν (suc n) v d = first_with ν n v (cond (same_number (ν n) v) n d)

abbrev IsFound : (ℕ → ℕ) → ℕ → ℕ → Type 0
IsFound ν n v = (i : ℕ) × (i < n) × (ν i ≡ v) × ((d : ℕ) → first_with ν n v d ≡ i)

found_or_none : (ν : ℕ → ℕ) (n v : ℕ) → IsFound ν n v ⊎ (((i : ℕ) → i < n → ν i ≡ v → ⊥) × ((d : ℕ) → first_with ν n v d ≡ d))
found_or_none ν zero v = inr ((λ i l e. none i l), λ d. refl)
  where
    none : (i : ℕ) → i < 0 → ⊥
    none i l = omega (arith, l)
found_or_none ν (suc n) v = by (found_or_none ν n v)
  where
    more : (i : ℕ) → i < n → i < suc n
    more i l = omega (arith, l)

    itself : (m : ℕ) → m < suc m
    itself m = omega arith

    split : (i : ℕ) → i < suc n → (i < n) ⊎ (i ≡ n)
    split i l = decided (same_number i n) (λ e. inr (number_is i n e)) (λ e. inl (below (λ q. no (sym (number_itself n) ∙ ap (λ x. same_number x n) (sym q) ∙ e))))
      where
        no : true ≡ false → ⊥
        no e = cc

        below : (i ≡ n → ⊥) → i < n
        below f = omega (arith, l, f)

    by : IsFound ν n v ⊎ (((i : ℕ) → i < n → ν i ≡ v → ⊥) × ((d : ℕ) → first_with ν n v d ≡ d)) → IsFound ν (suc n) v ⊎ (((i : ℕ) → i < suc n → ν i ≡ v → ⊥) × ((d : ℕ) → first_with ν (suc n) v d ≡ d))
    by (inl (i, l, e, f)) = inl (i, more i l, e, λ d. f (cond (same_number (ν n) v) n d))
    by (inr (none, f)) = decided (same_number (ν n) v)
        (λ e. inl (n, itself n, number_is (ν n) v e, λ d. f (cond (same_number (ν n) v) n d) ∙ ap (λ b. cond b n d) e))
        (λ e. inr ((λ i l q. at i q e (split i l)), λ d. f (cond (same_number (ν n) v) n d) ∙ ap (λ b. cond b n d) e))
      where
        no : true ≡ false → ⊥
        no e = cc

        at : (i : ℕ) → ν i ≡ v → same_number (ν n) v ≡ false → (i < n) ⊎ (i ≡ n) → ⊥
        at i q e (inl l) = none i l q
        at i q e (inr s) = no (sym (number_itself v) ∙ ap (λ x. same_number x v) (sym q ∙ ap ν s) ∙ e)

-- It is the first one.
first_of : (ν : ℕ → ℕ) (n v d : ℕ) → n ≤ d → first_with ν n v d ≤ d
first_of ν n v d l = by (found_or_none ν n v)
  where
    less : (i x : ℕ) → i < n → x ≡ i → x ≤ d
    less i x h e = omega (arith, l, h, e)

    here : (x : ℕ) → x ≡ d → x ≤ d
    here x e = omega (arith, e)

    by : IsFound ν n v ⊎ (((i : ℕ) → i < n → ν i ≡ v → ⊥) × ((d : ℕ) → first_with ν n v d ≡ d)) → first_with ν n v d ≤ d
    by (inl (i, h, e, f)) = less i (first_with ν n v d) h (f d)
    by (inr (none, f)) = here (first_with ν n v d) (f d)

is_first : (ν : ℕ → ℕ) (n k d : ℕ) → k < n → first_with ν n (ν k) d ≤ k
is_first ν zero k d l = absurd (none l)
  where
    none : k < 0 → ⊥
    none l = omega (arith, l)
is_first ν (suc n) k d l = decided (same_number k n)
    (λ e. let q = number_is k n e in subst (λ x. x ≤ k) (sym (ap (λ b. first_with ν n (ν k) (cond b n d)) (ap (λ j. same_number (ν j) (ν k)) (sym q) ∙ number_itself (ν k)))) (subst (λ j. first_with ν n (ν k) n ≤ j) (sym q) (first_of ν n (ν k) n (itself n))))
    (λ e. is_first ν n k (cond (same_number (ν n) (ν k)) n d) (below (λ q. no (sym (number_itself n) ∙ ap (λ x. same_number x n) (sym q) ∙ e))))
  where
    no : true ≡ false → ⊥
    no e = cc

    itself : (m : ℕ) → m ≤ m
    itself m = omega arith

    below : (k ≡ n → ⊥) → k < n
    below f = omega (arith, l, f)

-- each number of a list is a block variable's
pub at_number : (bs : List BlockVariable) (k : ℕ) → k < length bs → (b : BlockVariable) × (block_at bs k ≡ Some b)
at_number [] k l = absurd (none k l)
  where
    none : (i : ℕ) → i < 0 → ⊥
    none i l = omega (arith, l)
at_number (b ∷ bs) zero l = (b, refl)
at_number (b ∷ bs) (suc k) l = at_number bs k (less l)
  where
    less : {m n : ℕ} → suc m < suc n → m < n
    less l = omega (arith, l)

past : (bs : List BlockVariable) → block_at bs (length bs) ≡ None
past [] = refl
past (b ∷ bs) = past bs

-- a block variable is the first one that is the same in the instance; other numbers stay
abbrev one_of : (ℕ → ℕ) → ℕ → ℕ → Option BlockVariable → ℕ
one_of ν n k None = k
one_of ν n k (Some b) = first_with ν n (ν k) k

module _ (Σ : Signature) (first : ℕ) (W : List Block) (C : NumberedCase) (p : Pattern) (has : HasFirst p.at_first C) (s : SharesInstance Σ first W C p) where
  abbrev ν : ℕ → ℕ
  ν = s.numbers

  abbrev n : ℕ
  n = length C.blocks

  abbrev π : ℕ → ℕ
  π k = one_of s.numbers (length C.blocks) k (block_at C.blocks k)

  π_is : (k : ℕ) (b : BlockVariable) → block_at C.blocks k ≡ Some b → π k ≡ first_with ν n (ν k) k
  π_is k b e = ap (one_of ν n k) e

  -- where it goes
  record Goes (k : ℕ) : Type 0 where
    to : ℕ
    inside : to < n
    value : ν to ≡ ν k
    all : (d : ℕ) → first_with ν n (ν k) d ≡ to
    is : π k ≡ to

  goes : (k : ℕ) (b : BlockVariable) → block_at C.blocks k ≡ Some b → Goes k
  goes k b e = by (found_or_none ν n (ν k))
    where
      by : IsFound ν n (ν k) ⊎ (((i : ℕ) → i < n → ν i ≡ ν k → ⊥) × ((d : ℕ) → first_with ν n (ν k) d ≡ d)) → Goes k
      by (inl (i, l, q, f)) = record { to = i; inside = l; value = q; all = f; is = π_is k b e ∙ f k }
      by (inr (none, f)) = absurd (none k (inside_list C.blocks k b e) refl)

  stays : (i k : ℕ) → i < n → ν i ≡ ν k → ((d : ℕ) → first_with ν n (ν k) d ≡ i) → π i ≡ i
  stays i k l q f = let (c, e) = at_number C.blocks i l in π_is i c e ∙ ap (λ v. first_with ν n v i) q ∙ f i

  pub identifies : Identifies C π
  identifies k b e =
      let g : Goes k = goes k b e in
      let (c, h) = at_number C.blocks g.to g.inside in (
        c,
        ap (block_at C.blocks) g.is ∙ h,
        ap (λ (d : BlockVariable). d.block) (some_same (sym (s.of_case.is_instance.blocks g.to c h) ∙ ap (block_at s.common.blocks) g.value ∙ s.of_case.is_instance.blocks k b e)),
        ap π g.is ∙ stays g.to k g.inside g.value g.all ∙ sym g.is,
      )

  pub same : (k : ℕ) → ν (π k) ≡ ν k
  same k = by (block_at C.blocks k) refl
    where
      by : (x : Option BlockVariable) → block_at C.blocks k ≡ x → ν (π k) ≡ ν k
      by None e = ap (λ y. ν (one_of ν n k y)) e
      by (Some b) e = let g : Goes k = goes k b e in ap ν g.is ∙ g.value

  pub oldest : (k : ℕ) → π k ≤ k
  oldest k = by (block_at C.blocks k) refl
    where
      itself : (m : ℕ) → m ≤ m
      itself m = omega arith

      by : (x : Option BlockVariable) → block_at C.blocks k ≡ x → π k ≤ k
      by None e = subst (λ y. one_of ν n k y ≤ k) (sym e) (itself k)
      by (Some b) e = subst (λ y. y ≤ k) (sym (π_is k b e)) (is_first ν n k k (inside_list C.blocks k b e))

  pub only : (j k : ℕ) (b c : BlockVariable) → block_at C.blocks j ≡ Some b → block_at C.blocks k ≡ Some c → ν j ≡ ν k → π j ≡ π k
  only j k b c e h q =
      let g : Goes k = goes k c h in
      π_is j b e ∙ ap (λ v. first_with ν n v j) q ∙ g.all j ∙ sym g.is

  abbrev D : NumberedCase
  D = identified first (λ k. one_of s.numbers (length C.blocks) k (block_at C.blocks k)) C

  abbrev γ : ℕ → ℕ
  γ = moved_constant first (blocks_of C.blocks) (blocks_of C.blocks) (λ k. one_of s.numbers (length C.blocks) k (block_at C.blocks k))

  abbrev Place : Bool → (c : Clause) → Origin c → Type 0
  Place b c o = (J : NumberedCase) × (φ : ℕ → Image) × IsPutBeside first D π b c o J φ

  place : (c : Clause) (o : Origin c) (b : Bool) → HasFirst b C → (τ : ℕ → Image) → StandsByNumber first s.common o b τ → Place b c o
  place c (of_constant U) b h τ t = (D, keep, constant_beside U)
  place c (of_entry B later E es e) b h τ (k, U, at, z, a) = by (found_or_none ν n k)
    where
      by : IsFound ν n k ⊎ (((i : ℕ) → i < n → ν i ≡ k → ⊥) × ((d : ℕ) → first_with ν n k d ≡ d)) → Place b (entry_clause B es E) (of_entry B later E es e)
      by (inl (i, l, q, f)) =
          let (d, x) = at_number C.blocks i l in
          let block : d.block ≡ B = ap (λ (d : BlockVariable). d.block) (some_same (sym (s.of_case.is_instance.blocks i d x) ∙ ap (block_at s.common.blocks) q ∙ at)) in
          let there : block_at D.blocks i ≡ Some (record { block = B; terms = move_spine γ d.terms }) = moved_at γ C.blocks i d x ∙ ap (λ V. Some (record { block = V; terms = move_spine γ d.terms })) block in (
            D,
            before later (variable_images first D.blocks i B (move_spine γ d.terms)),
            entry_beside B later E es e i (move_spine γ d.terms) there (stays i i l refl (λ x. ap (λ v. first_with ν n v x) q ∙ f x)) (λ r. zeroth r (h r)),
          )
        where
          zeroth : b ≡ true → (d : BlockVariable) × (block_at C.blocks zero ≡ Some d) → i ≡ π zero
          zeroth r (d, y) = sym (f zero) ∙ ap (λ v. first_with ν n v zero) (z r ∙ sym s.zeroth) ∙ sym (π_is zero d y)
      by (inr (none, f)) = decided b (λ r. absurd (first_one r (h r))) new
        where
          first_one : b ≡ true → (d : BlockVariable) × (block_at C.blocks zero ≡ Some d) → ⊥
          first_one r (d, y) = none zero (inside_list C.blocks zero d y) (s.zeroth ∙ sym (z r))

          new : b ≡ false → Place b (entry_clause B es E) (of_entry B later E es e)
          new r =
              let ρ : ℕ → ℕ = shift_by (length B.some) in
              let last : BlockVariable = record { block = B; terms = local_arguments B.some } in
              let there : block_at (with_new_block B D).blocks (length D.blocks) ≡ Some last = ap (block_at (with_new_block B D).blocks) (sym (renamed_length ρ D.blocks)) ∙ last_at (rename_blocks ρ D.blocks) last in
              let fixed : π (length D.blocks) ≡ length D.blocks = ap π (moved_length γ C.blocks) ∙ ap (one_of ν n (length C.blocks)) (past C.blocks) ∙ sym (moved_length γ C.blocks) in (
                with_new_block B D,
                before later (variable_images first (with_new_block B D).blocks (length D.blocks) B (local_arguments B.some)),
                new_beside B later E es e (local_arguments B.some) r fixed there,
              )

  pub shared : (π : ℕ → ℕ) × (J : NumberedCase) × (φ : ℕ → Image) × IsSharedAt Σ first W C p s π J φ
  shared =
      let (J, φ, i) = place p.clause p.origin p.at_first has s.of_pattern.values s.of_pattern.stands in (
        π,
        J,
        φ,
        record {
          identifies = identifies;
          oldest = oldest;
          same = same;
          only = only;
          of_identified = identified_instance Σ first s.common C s.numbers s.values π identifies same s.of_case;
          beside = i;
        },
      )

pub shared_has_place : SharedHasPlace
shared_has_place Σ first W C p has s = shared Σ first W C p has s

pub no_place_shares_none : NoPlaceSharesNone
no_place_shares_none Σ first W C p has none s = let (π, J, φ, x) = shared Σ first W C p has s in none π x.identifies J φ x.beside
