-- An instance's block variables, renumbered: those that stand for one of the case get the number of the oldest such, and all are also there behind the case's.
use Rattle.std.proofs.Common.{◌≡◌, ℕ, zero, suc, ◌+◌, ◌<◌, ◌⊎◌, List, [], ◌∷◌, ◌++◌, length, inl, inr, refl, sym, ap, ap₂, ◌∙◌, arith}
use Rattle.std.specs.Prelude.{true, false, Option, Some, None}
use Rattle.lf.specs.Syntax.{constant, variable, metavariable, Term, Spine, lambda, root, nil, app, LfType, pi, atom}
use Rattle.lf.specs.Typing.{Signature, IsSignature}
use Rattle.lf.specs.Variables.{same_number}
use Rattle.lf.proofs.Checker.{number_is, number_itself}
use Rattle.lf_coverage.proofs.Choices.{decided}
use Rattle.lf_coverage.proofs.Parts.{none_some, some_same}
use Rattle.lf_numbered.specs.EntryConstants.{EntryConstant, entry_constant, entry_type, with_entries, IsFreeFrom}
use Rattle.lf_numbered.specs.NumberedInstance.{block_at, first_constant, moved_constant, move, move_spine, move_type}
use Rattle.lf_numbered.specs.OwnTerms.{BlockVariable, blocks_of}
use Rattle.lf_numbered.proofs.EntryPatternsAmong.{first_earlier}
use Rattle.lf_numbered.proofs.EntryPatternsNumbers.{earlier_at, inside_list}
use Rattle.lf_numbered.proofs.EntrySignature.{else_cases}
use Rattle.lf_numbered.proofs.MovedBlocks.{KeepBlocks, AreTypedIn, old_stay, entry_moved}
use Rattle.lf_numbered.proofs.NumberedMeets.{at_number}
use Rattle.lf_numbered.proofs.Reading.{IsOld, OnlyConstants, SpineOnlyConstants, TypeOnlyConstants}
use Rattle.lf_numbered.proofs.WritingChoice.{from_is}

-- a number below n for which ν is m, or that there is none
abbrev pub Sought : (ℕ → ℕ) → ℕ → ℕ → Type 0
Sought ν n m = ((k : ℕ) × (k < n) × (ν k ≡ m)) ⊎ ((k : ℕ) → k < n → ν k ≡ m → ⊥)

pub sought : (ν : ℕ → ℕ) (n m : ℕ) → Sought ν n m
sought ν zero m = inr (λ k l e. none k l)
  where
    none : (k : ℕ) → k < 0 → ⊥
    none k l = omega (arith, l)
sought ν (suc n) m = decided (same_number (ν n) m) (λ e. inl (n, itself n, number_is (ν n) m e)) (λ e. by e (sought ν n m))
  where
    itself : (n : ℕ) → n < suc n
    itself n = omega arith

    more : (k : ℕ) → k < n → k < suc n
    more k l = omega (arith, l)

    no : true ≡ false → ⊥
    no e = cc

    below : (k : ℕ) → k < suc n → (k ≡ n → ⊥) → k < n
    below k l f = omega (arith, l, f)

    by : same_number (ν n) m ≡ false → Sought ν n m → Sought ν (suc n) m
    by e (inl (k, l, q)) = inl (k, more k l, q)
    by e (inr f) = inr (λ k l q. f k (below k l (λ r. no (sym (number_itself m) ∙ ap (λ x. same_number x m) (sym q ∙ ap ν r) ∙ e))) q)

abbrev pub renumbered : (π : ℕ → ℕ) (n m : ℕ) {ν : ℕ → ℕ} → Sought ν n m → ℕ
renumbered π n m (inl (k, l, e)) = π k
renumbered π n m (inr f) = n + m

abbrev pub renumbering : (ν π : ℕ → ℕ) → ℕ → ℕ → ℕ
renumbering ν π n m = renumbered π n m (sought ν n m)

later_at : (bs cs : List BlockVariable) (k : ℕ) → block_at (bs ++ cs) (length bs + k) ≡ block_at cs k
later_at [] cs k = ap (block_at cs) (none k)
  where
    none : (k : ℕ) → 0 + k ≡ k
    none k = omega arith
later_at (b ∷ bs) cs k = ap (block_at (b ∷ (bs ++ cs))) (next (length bs) k) ∙ later_at bs cs k
  where
    next : (n k : ℕ) → suc n + k ≡ suc (n + k)
    next n k = omega arith

module _ (bs ms : List BlockVariable) (ν π : ℕ → ℕ) (keeps : KeepBlocks bs ms ν) (ones : KeepBlocks bs bs π) (only : (j k : ℕ) (b c : BlockVariable) → block_at bs j ≡ Some b → block_at bs k ≡ Some c → ν j ≡ ν k → π j ≡ π k) where
  abbrev κ : ℕ → ℕ
  κ = renumbering ν π (length bs)

  pub number_is_one : (k : ℕ) (b : BlockVariable) → block_at bs k ≡ Some b → renumbering ν π (length bs) (ν k) ≡ π k
  number_is_one k b e = by (sought ν (length bs) (ν k))
    where
      by : (x : Sought ν (length bs) (ν k)) → renumbered π (length bs) (ν k) x ≡ π k
      by (inl (j, l, q)) = let (c, h) = at_number bs j l in only j k c b h e q
      by (inr f) = absurd (f k (inside_list bs k b e) refl)

  pub renumbering_keeps : KeepBlocks ms (bs ++ ms) (renumbering ν π (length bs))
  renumbering_keeps m d at = by (sought ν (length bs) m)
    where
      by : (x : Sought ν (length bs) m) → (c : BlockVariable) × (block_at (bs ++ ms) (renumbered π (length bs) m x) ≡ Some c) × (c.block ≡ d.block)
      by (inl (j, l, q)) =
          let (b, h) = at_number bs j l in
          let (c, r, s) = keeps j b h in
          let (f, t, u) = ones j b h in
          (f, earlier_at bs ms (π j) f t, u ∙ sym s ∙ ap (λ (x : BlockVariable). x.block) (some_same (sym r ∙ ap (block_at ms) q ∙ at)))
      by (inr f) = (d, later_at bs ms m ∙ at, refl)

  -- The constants of the case, in the instance and then with these numbers, are those of the case with block variables one.
  module _ (Σ : Signature) (ok : IsSignature Σ) (first : ℕ) (free : IsFreeFrom Σ first) (typed : AreTypedIn Σ bs) (typed_instance : AreTypedIn Σ ms) where
    abbrev ε : ℕ → ℕ
    ε = moved_constant first (blocks_of bs) (blocks_of ms) ν

    abbrev δ : ℕ → ℕ
    δ = moved_constant first (blocks_of ms) (blocks_of (bs ++ ms)) κ

    abbrev γ : ℕ → ℕ
    γ = moved_constant first (blocks_of bs) (blocks_of bs) π

    pub constants_agree : (c : ℕ) → IsOld (with_entries Σ first (blocks_of bs)) c → δ (ε c) ≡ γ c
    constants_agree c (A, t) = by (else_cases (Σ.types c) (entry_type (entry_constant zero first (blocks_of bs) c)) A t)
      where
        entry : (e : Option EntryConstant) → entry_constant zero first (blocks_of bs) c ≡ e → entry_type e ≡ Some A → δ (ε c) ≡ γ c
        entry None q r = absurd (none_some r)
        entry (Some e) q r =
            let (j, b, at, number, block, from, place, later, entries, rest) = from_is zero first bs c e q in
            let (d, there, same) = keeps j b at in
            let (f, one, alike) = ones j b at in
            let is : c ≡ first_constant first (blocks_of bs) j + length e.before = place ∙ ap (λ m. m + length e.before) from in
            ap (λ x. δ (ε x)) is
            ∙ ap δ (entry_moved Σ ok first free bs ms ν keeps typed j b at later e.entry e.before entries)
            ∙ entry_moved Σ ok first free ms (bs ++ ms) κ renumbering_keeps typed_instance (ν j) d there later e.entry e.before (entries ∙ ap (λ (B : Rattle.lf.specs.Subordination.Block). B.entries) (sym same))
            ∙ ap (λ k. first_constant first (blocks_of (bs ++ ms)) k + length e.before) (number_is_one j b at)
            ∙ ap (λ m. m + length e.before) (first_earlier first bs ms (π j) f one)
            ∙ sym (ap γ is ∙ entry_moved Σ ok first free bs bs π ones typed j b at later e.entry e.before entries)

        by : (Σ.types c ≡ Some A) ⊎ (entry_type (entry_constant zero first (blocks_of bs) c) ≡ Some A) → δ (ε c) ≡ γ c
        by (inl o) = ap δ (old_stay Σ ok first free bs ms ν keeps typed c (A, o)) ∙ old_stay Σ ok first free ms (bs ++ ms) κ renumbering_keeps typed_instance c (A, o) ∙ sym (old_stay Σ ok first free bs bs π ones typed c (A, o))
        by (inr o) = entry (entry_constant zero first (blocks_of bs) c) refl o

-- terms in which each constant is moved twice
module _ (P : ℕ → Type 0) (δ ε γ : ℕ → ℕ) (agree : (c : ℕ) → P c → δ (ε c) ≡ γ c) where
  mutual
    pub both_moved : (M : Term) → OnlyConstants P M → move δ (move ε M) ≡ move γ M
    both_moved (lambda M) p = ap lambda (both_moved M p)
    both_moved (root (constant c) S) (p, s) = ap₂ (λ d T. root (constant d) T) (agree c p) (both_moved_spine S s)
    both_moved (root (variable i) S) s = ap (root (variable i)) (both_moved_spine S s)
    both_moved (root (metavariable m) S) s = ap (root (metavariable m)) (both_moved_spine S s)

    pub both_moved_spine : (S : Spine) → SpineOnlyConstants P S → move_spine δ (move_spine ε S) ≡ move_spine γ S
    both_moved_spine nil s = refl
    both_moved_spine (app M S) (m, s) = ap₂ app (both_moved M m) (both_moved_spine S s)

  pub both_moved_type : (A : LfType) → TypeOnlyConstants P A → move_type δ (move_type ε A) ≡ move_type γ A
  both_moved_type (pi A B) (a, b) = ap₂ pi (both_moved_type A a) (both_moved_type B b)
  both_moved_type (atom a S) s = ap (atom a) (both_moved_spine S s)
