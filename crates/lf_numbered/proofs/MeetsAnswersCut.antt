-- Of the numbers by which block variables are one, only those of the case's own block variables matter: a place is one with the others left as they are, and
-- its store is the same.
use Rattle.std.proofs.Common.{◌≡◌, ℕ, zero, suc, ◌+◌, ◌<◌, ◌≤◌, ◌⊎◌, ◌++◌, List, [], ◌∷◌, length, inl, inr, refl, sym, ap, ap₂, ◌∙◌, subst, arith}
use Rattle.std.specs.Prelude.{Bool, true, false, cond, Option, Some, None}
use Rattle.lf.specs.Syntax.{LfType, Kind}
use Rattle.lf.specs.Substitution.{Image, substitute_type, reduce}
use Rattle.lf.specs.AtOnce.{shift_by, lift_renaming_by}
use Rattle.lf.specs.Entries.{quantifiers}
use Rattle.lf.specs.Variables.{same_number, binders, target_arguments}
use Rattle.lf.proofs.Checker.{number_is, number_itself}
use Rattle.lf_unification.specs.Lists.{followed}
use Rattle.lf_unification.specs.Unifiers.{Equation, Store}
use Rattle.lf_checks.specs.Clause.{Clause}
use Rattle.lf_cases.specs.Pattern.{Origin, Pattern}
use Rattle.lf_coverage.specs.MeetStore.{open_arguments, place_equations, given_equations}
use Rattle.lf_coverage.specs.SplitStore.{open_spine, open_locals, context_metavariables}
use Rattle.lf_coverage.proofs.Choices.{decided}
use Rattle.lf_numbered.specs.EntryConstants.{EntryConstant, entry_constant}
use Rattle.lf_numbered.specs.EntryPatternsMatching.{placed_type}
use Rattle.lf_numbered.specs.NumberedCallsStores.{Identifies, IsPutBeside, constant_beside, entry_beside, new_beside, identified, identity_equations, meet_store_by_number, move_blocks, terms_equations}
use Rattle.lf_numbered.specs.NumberedCase.{NumberedCase}
use Rattle.lf_numbered.specs.NumberedInstance.{block_at, first_constant, moved_constant, moved_entry, move_all, move_types}
use Rattle.lf_numbered.specs.OwnTerms.{BlockVariable, blocks_of, rename_blocks, terms_at}
use Rattle.lf_numbered.specs.NewBlock.{rename_all, with_new_block}
use Rattle.lf_numbered.proofs.EntryPatternsNumbers.{inside_list}
use Rattle.lf_numbered.proofs.RenamedBlocks.{renamed_length, moved_length}
use Rattle.lf_numbered.proofs.WritingChoice.{from_is}
use mathlib.Core.Path.{fun_ext}

-- a function with another value at one number; and one that is cut: from n on it leaves each number
abbrev pub extend : (ℕ → ℕ) → ℕ → ℕ → ℕ → ℕ
extend f n v k = cond (same_number k n) v (f k)

abbrev pub cut : (ℕ → ℕ) → ℕ → ℕ → ℕ
cut π zero = λ k. k
cut π (suc n) = extend (cut π n) n (π n)

pub extend_at : (f : ℕ → ℕ) (n v k : ℕ) → k ≡ n → extend f n v k ≡ v
extend_at f n v k e = ap (λ b. cond b v (f k)) (ap (λ j. same_number j n) e ∙ number_itself n)

pub extend_other : (f : ℕ → ℕ) (n v k : ℕ) → (k ≡ n → ⊥) → extend f n v k ≡ f k
extend_other f n v k h = decided (same_number k n) (λ e. absurd (h (number_is k n e))) (λ e. ap (λ b. cond b v (f k)) e)

pub cut_below : (π : ℕ → ℕ) (n k : ℕ) → k < n → cut π n k ≡ π k
cut_below π zero k l = absurd (none k l)
  where
    none : (k : ℕ) → k < 0 → ⊥
    none k l = omega (arith, l)
cut_below π (suc n) k l = decided (same_number k n)
    (λ e. extend_at (cut π n) n (π n) k (number_is k n e) ∙ ap π (sym (number_is k n e)))
    (λ e. let h : k ≡ n → ⊥ = other e in extend_other (cut π n) n (π n) k h ∙ cut_below π n k (below h))
  where
    no : true ≡ false → ⊥
    no e = cc

    other : same_number k n ≡ false → k ≡ n → ⊥
    other e q = no (sym (number_itself n) ∙ ap (λ x. same_number x n) (sym q) ∙ e)

    below : (k ≡ n → ⊥) → k < n
    below f = omega (arith, l, f)

pub cut_beyond : (π : ℕ → ℕ) (n k : ℕ) → n ≤ k → cut π n k ≡ k
cut_beyond π zero k l = refl
cut_beyond π (suc n) k l = extend_other (cut π n) n (π n) k other ∙ cut_beyond π n k less
  where
    other : k ≡ n → ⊥
    other e = omega (arith, l, e)

    less : n ≤ k
    less = omega (arith, l)

pub below_or_beyond : (n k : ℕ) → (k < n) ⊎ (n ≤ k)
below_or_beyond zero k = inr (least k)
  where
    least : (k : ℕ) → 0 ≤ k
    least k = omega arith
below_or_beyond (suc n) zero = inl (first n)
  where
    first : (n : ℕ) → 0 < suc n
    first n = omega arith
below_or_beyond (suc n) (suc k) = more (below_or_beyond n k)
  where
    more : (k < n) ⊎ (n ≤ k) → (suc k < suc n) ⊎ (suc n ≤ suc k)
    more (inl l) = inl (omega (arith, l))
    more (inr l) = inr (omega (arith, l))

-- the equations of block variables that are one
identity_agrees : (f π : ℕ → ℕ) (all : List BlockVariable) (m : ℕ) (cs : List BlockVariable) → ((k : ℕ) → k < length cs → f (k + m) ≡ π (k + m)) → identity_equations f all m cs ≡ identity_equations π all m cs
identity_agrees f π all m [] h = refl
identity_agrees f π all m (b ∷ cs) h = ap₂ (λ j es. followed (cond (same_number j m) [] (terms_equations b (terms_at all j))) es) (subst (λ j. f j ≡ π j) (none m) (h zero (first (length cs)))) (identity_agrees f π all (suc m) cs (λ k l. subst (λ j. f j ≡ π j) (next k m) (h (suc k) (more k l))))
  where
    none : (m : ℕ) → 0 + m ≡ m
    none m = omega arith

    next : (k m : ℕ) → suc k + m ≡ k + suc m
    next k m = omega arith

    first : (n : ℕ) → 0 < suc n
    first n = omega arith

    more : (k : ℕ) → k < length cs → suc k < suc (length cs)
    more k l = omega (arith, l)

module _ (first : ℕ) (C : NumberedCase) (π : ℕ → ℕ) (ids : Identifies C π) where
  abbrev n : ℕ
  n = length C.blocks

  abbrev f : ℕ → ℕ
  f = cut π (length C.blocks)

  agrees : (k : ℕ) → k < n → f k ≡ π k
  agrees = cut_below π n

  at_block : (k : ℕ) (b : BlockVariable) → block_at C.blocks k ≡ Some b → f k ≡ π k
  at_block k b e = agrees k (inside_list C.blocks k b e)

  pub cut_identifies : Identifies C (cut π (length C.blocks))
  cut_identifies k b e =
      let (c, to, same, fixed) = ids k b e in
      let q : f k ≡ π k = at_block k b e in
      (c, ap (block_at C.blocks) q ∙ to, same, ap f q ∙ at_block (π k) c to ∙ fixed ∙ sym q)

  moves_same : (c : ℕ) → moved_constant first (blocks_of C.blocks) (blocks_of C.blocks) f c ≡ moved_constant first (blocks_of C.blocks) (blocks_of C.blocks) π c
  moves_same c = by (entry_constant zero first (blocks_of C.blocks) c) refl
    where
      none : (j : ℕ) → zero + j ≡ j
      none j = omega arith

      by : (e : Option EntryConstant) → entry_constant zero first (blocks_of C.blocks) c ≡ e → moved_entry first (blocks_of C.blocks) f c e ≡ moved_entry first (blocks_of C.blocks) π c e
      by None q = refl
      by (Some e) q =
          let (j, b, at, number, block, from, place, later, entries, rest) = from_is zero first C.blocks c e q in
          ap (λ i. first_constant first (blocks_of C.blocks) i + length e.before) (ap f (number ∙ none j) ∙ at_block j b at ∙ ap π (sym (number ∙ none j)))

  pub cut_identified : identified first (cut π (length C.blocks)) C ≡ identified first π C
  cut_identified = ap (λ γ. made γ) (fun_ext moves_same)
    where
      made : (ℕ → ℕ) → NumberedCase
      made γ = record { blocks = move_blocks γ C.blocks; variables = move_types γ C.variables; given = move_all γ C.given; local = move_types γ C.local; family = C.family; arguments = move_all γ C.arguments }

  abbrev E : NumberedCase
  E = identified first π C

  length_is : length E.blocks ≡ n
  length_is = moved_length (moved_constant first (blocks_of C.blocks) (blocks_of C.blocks) π) C.blocks

  inside : (k : ℕ) (b : BlockVariable) → block_at E.blocks k ≡ Some b → k < n
  inside k b e = subst (λ m. k < m) length_is (inside_list E.blocks k b e)

  first_inside : (k : ℕ) → k < n → 0 < n
  first_inside k l = omega (arith, l)

  -- The place is one of the cut numbers
  place_of_cut : (b : Bool) (c : Clause) (o : Origin c) (J : NumberedCase) (φ : ℕ → Image) → IsPutBeside first E π b c o J φ → IsPutBeside first E f b c o J φ
  place_of_cut b c o J φ (constant_beside U) = constant_beside U
  place_of_cut b c o J φ (entry_beside B later F es e k U at fixed z) = let l : k < n = inside k _ at in entry_beside B later F es e k U at (agrees k l ∙ fixed) (λ r. z r ∙ sym (agrees 0 (first_inside k l)))
  place_of_cut b c o J φ (new_beside B later F es e U r fixed at) = new_beside B later F es e U r (cut_beyond π n (length E.blocks) (least (sym length_is))) at
    where
      least : {m k : ℕ} → m ≡ k → m ≤ k
      least e = omega (arith, e)

  pub cut_beside : (b : Bool) (c : Clause) (o : Origin c) (J : NumberedCase) (φ : ℕ → Image) → IsPutBeside first (identified first π C) π b c o J φ → IsPutBeside first (identified first (cut π (length C.blocks)) C) (cut π (length C.blocks)) b c o J φ
  cut_beside b c o J φ h = subst (λ D. IsPutBeside first D f b c o J φ) (sym cut_identified) (place_of_cut b c o J φ h)

  -- and its store is the same
  abbrev Agree : NumberedCase → Type 0
  Agree J = (k : ℕ) → k < length J.blocks → f k ≡ π k

  agree_at : (b : Bool) (c : Clause) (o : Origin c) (J : NumberedCase) (φ : ℕ → Image) → IsPutBeside first E π b c o J φ → Agree J
  agree_at b c o J φ (constant_beside U) k l = agrees k (subst (λ m. k < m) length_is l)
  agree_at b c o J φ (entry_beside B later F es e i U at fixed z) k l = agrees k (subst (λ m. k < m) length_is l)
  agree_at b c o J φ (new_beside B later F es e U r fixed at) k l = by (below_or_beyond n k)
    where
      count : (bs : List BlockVariable) (d : BlockVariable) → length (bs ++ d ∷ []) ≡ suc (length bs)
      count [] d = refl
      count (b ∷ bs) d = ap suc (count bs d)

      whole : length (with_new_block B E).blocks ≡ suc n
      whole = count (rename_blocks (shift_by (length B.some)) E.blocks) _ ∙ ap suc (renamed_length (shift_by (length B.some)) E.blocks ∙ length_is)

      last : n ≤ k → k < suc n → k ≡ n
      last h m = omega (arith, h, m)

      by : (k < n) ⊎ (n ≤ k) → f k ≡ π k
      by (inl h) = agrees k h
      by (inr h) = let q : k ≡ n = last h (subst (λ m. k < m) whole l) in cut_beyond π n k h ∙ q ∙ sym length_is ∙ sym fixed ∙ ap π (length_is ∙ sym q)

  pub cut_store : (p : Pattern) (J : NumberedCase) (φ : ℕ → Image) (K : Kind) → IsPutBeside first (identified first π C) π p.at_first p.clause p.origin J φ → meet_store_by_number (cut π (length C.blocks)) J p φ K ≡ meet_store_by_number π J p φ K
  cut_store p J φ K h =
      let X : List LfType = binders J.variables (substitute_type reduce φ p.clause.type) in
      let m : ℕ = quantifiers p.clause.type in
      let D : List LfType = binders [] (placed_type p φ) in
      let bs : List BlockVariable = rename_blocks (shift_by m) J.blocks in
      let rest : List Equation = followed (given_equations X zero (rename_all (shift_by m) J.given)) (place_equations (open_locals D) (open_arguments (length D) (rename_all (lift_renaming_by (length J.local) (shift_by m)) J.arguments)) (open_spine (length D) (target_arguments (placed_type p φ))) K) in
      ap (λ es. made es X rest) (identity_agrees f π bs zero bs (λ k l. subst (λ j. f j ≡ π j) (none k) (agree_at p.at_first p.clause p.origin J φ h k (subst (λ j. k < j) (renamed_length (shift_by m) J.blocks) l))))
    where
      none : (k : ℕ) → k ≡ k + 0
      none k = omega arith

      made : List Equation → List LfType → List Equation → Store
      made es X fs = record { metavariables = context_metavariables X; bindings = []; equations = followed es fs }
