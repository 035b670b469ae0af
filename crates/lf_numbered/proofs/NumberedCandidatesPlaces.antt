-- What is known of the variables and constants of a case by number, where its entries are read as variables behind the free ones.
use Rattle.std.proofs.Common.{◌≡◌, ℕ, zero, suc, ◌+◌, List, [], ◌∷◌, length, refl, sym, ap, ◌∙◌, subst, arith, true≢false, Option, Some, None}
use Rattle.std.specs.Prelude.{Bool, true, false}
use Rattle.lf.specs.Syntax.{Spine, LfType, Skeleton, arrow, skeleton, pi}
use Rattle.lf.specs.SkeletonTyping.{HeadSkeletons, SkeletonAt}
use Rattle.lf.specs.Skeletons.{context_skeletons}
use Rattle.lf.specs.Typing.{Signature, TypeAt}
use Rattle.lf.specs.Variables.{onto, nothing}
use Rattle.lf.specs.Subordination.{Block, Member}
use Rattle.lf.specs.Worlds.{under_all}
use Rattle.lf.proofs.TypeLaws.{skeleton_renamed}
use Rattle.lf_unification.specs.Offering.{pi_over}
use Rattle.lf_cases.specs.Candidates.{free_among, hide_all}
use Rattle.lf_cases.specs.Case.{Item}
use Rattle.lf_cases.specs.OutputGoal.{free_variables}
use Rattle.lf_cases.specs.Reached.{items_onto}
use Rattle.lf_cases.proofs.BlockEntries.{member_onto}
use Rattle.lf_coverage.proofs.Parts.{none_some, some_same}
use Rattle.lf_coverage.proofs.SameInstance.{behind_free as hidden_far}
use Rattle.lf_coverage.proofs.RootValues.{pair_second}
use Rattle.lf_numbered.specs.EntryConstants.{EntryConstant, entry_constant}
use Rattle.lf_numbered.specs.NumberedArguments.{read_over}
use Rattle.lf_numbered.specs.NumberedCallsReached.{among_items, block_items}
use Rattle.lf_numbered.specs.NumberedCase.{AreTypedBlockVariables}
use Rattle.lf_numbered.specs.NumberedInstance.{first_constant}
use Rattle.lf_numbered.specs.OwnTerms.{BlockVariable, blocks_of}
use Rattle.lf_numbered.specs.Reading.{entry_reading, read_entry}
use Rattle.lf_numbered.proofs.EntryFound.{EachBlock, PlacedAmong, entry_found, placed_among}
use Rattle.lf_numbered.proofs.NumberedCallsGoals.{none_free}
use Rattle.lf_numbered.proofs.NumberedCandidatesRead.{Elsewhere, weaken_none, weaken_some}
use Rattle.lf_numbered.proofs.NumberedCandidatesWalk.{Good, InBehind, Other, Takes}
use Rattle.lf_numbered.proofs.WritingLow.{skeleton_target}

next : (i n : ℕ) → i + suc n ≡ suc (i + n)
next i n = omega arith

-- Reading under a local context
over_some : (L : List LfType) (g : ℕ → Option (ℕ × ℕ)) (c m v : ℕ) → read_over L g c ≡ Some (m, v) → (w : ℕ) × (g c ≡ Some (m, w)) × (v ≡ w + length L)
over_some [] g c m v e = (v, e, none v)
  where
    none : (v : ℕ) → v ≡ v + 0
    none v = omega arith
over_some (A ∷ L) g c m v e =
    let (u, p, q) = weaken_some (read_over L g c) m v e in
    let (w, r, s) = over_some L g c m u p in
    (w, r, q ∙ ap suc s ∙ sym (next w (length L)))

over_none : (L : List LfType) (g : ℕ → Option (ℕ × ℕ)) (c : ℕ) → read_over L g c ≡ None → g c ≡ None
over_none [] g c e = e
over_none (A ∷ L) g c e = over_none L g c (weaken_none (read_over L g c) e)

-- Variables that are bound, and those that are free
bound_far : (D : List LfType) (w : ℕ) → under_all D nothing (w + length D) ≡ false
bound_far [] w = refl
bound_far (A ∷ D) w = ap (under_all (A ∷ D) nothing) (next w (length D)) ∙ bound_far D w

pub bound_apart : (D : List LfType) (U : ℕ → Bool) (i : ℕ) → under_all D nothing i ≡ true → hide_all D U i ≡ false
bound_apart [] U i e = absurd (true≢false (sym e))
bound_apart (A ∷ D) U zero e = refl
bound_apart (A ∷ D) U (suc i) e = bound_apart D U i e

behind_free : (V : List LfType) (J : List Item) (w : ℕ) → free_among (items_onto (free_variables V) J) (w + length V) ≡ free_among J w
behind_free [] J w = ap (free_among J) (none w)
  where
    none : (v : ℕ) → v + 0 ≡ v
    none v = omega arith
behind_free (A ∷ V) J w = ap (free_among (items_onto (free_variables (A ∷ V)) J)) (next w (length V)) ∙ behind_free V J w

free_here : (V : List LfType) (J : List Item) (i : ℕ) (u : Skeleton) → SkeletonAt (context_skeletons V) i u → free_among (items_onto (free_variables V) J) i ≡ true
free_here [] J i u g = absurd g
free_here (A ∷ V) J zero u g = refl
free_here (A ∷ V) J (suc i) u g = free_here V J i u g

type_here : (V Z : List LfType) (i : ℕ) (t : Skeleton) (X : LfType) → SkeletonAt (context_skeletons (onto V Z)) i t → TypeAt V i X → t ≡ skeleton X
type_here [] Z i t X g h = absurd h
type_here (A ∷ V) Z zero t X g h = sym g ∙ sym (skeleton_renamed suc A) ∙ ap skeleton (sym h)
type_here (A ∷ V) Z (suc i) t X g (B, h, e) = type_here V Z i t B g h ∙ sym (skeleton_renamed suc B) ∙ ap skeleton (sym e)

-- an entry is one of a block of the worlds
pub entry_of_worlds : (Σ : Signature) (W : List Block) (V : List LfType) (first : ℕ) (o : ℕ → Option Spine) (bs : List BlockVariable) → AreTypedBlockVariables Σ W V o bs → (c : ℕ) (e : EntryConstant) → entry_constant zero first (blocks_of bs) c ≡ Some e → Member e.block W × Member e.entry e.block.entries
entry_of_worlds Σ W V first o bs h c e q =
    let f = entry_found (λ k b. Member b.block W) zero first bs c e q (each zero bs h) in
    let p : PlacedAmong e.number f.variable.block e.from zero f.variable.block.entries c e = placed_among e.number f.variable.block e.from zero f.variable.block.entries c e f.among in
    (subst (λ D. Member D W) (sym p.block) f.fact, subst (λ (D : Block). Member e.entry D.entries) (sym p.block) (subst (Member e.entry) p.entries (member_onto p.later e.entry e.before)))
  where
    each : (k : ℕ) (bs : List BlockVariable) → AreTypedBlockVariables Σ W V o bs → EachBlock (λ k b. Member b.block W) k bs
    each k [] h = tt
    each k (b ∷ bs) (m, u, p, h) = (m, each (suc k) bs h)

module _ (first : ℕ) (bs : List BlockVariable) (V L D : List LfType) (same : length L ≡ length D) where
  abbrev pub entries_read : ℕ → Option (ℕ × ℕ)
  entries_read = read_over L (entry_reading first (blocks_of bs) (among_items (blocks_of bs)) (length V))

  abbrev pub free_in_text : ℕ → Bool
  free_in_text = hide_all D (free_among (items_onto (free_variables V) (block_items bs)))

  -- an entry is read as a variable behind the free ones
  pub read_as : (c m v : ℕ) → entries_read c ≡ Some (m, v) → (w : ℕ) × (e : EntryConstant) × (entry_constant zero first (blocks_of bs) c ≡ Some e) × (m ≡ length e.block.some) × (v ≡ (w + length V) + length D)
  read_as c m v z =
      let (u, p, q) = over_some L (entry_reading first (blocks_of bs) (among_items (blocks_of bs)) (length V)) c m v z in
      by (entry_constant zero first (blocks_of bs) c) refl u p (q ∙ ap (λ n. u + n) same)
    where
      by : (y : Option EntryConstant) → entry_constant zero first (blocks_of bs) c ≡ y → (u : ℕ) → read_entry (among_items (blocks_of bs)) (length V) y ≡ Some (m, u) → v ≡ u + length D → (w : ℕ) × (e : EntryConstant) × (entry_constant zero first (blocks_of bs) c ≡ Some e) × (m ≡ length e.block.some) × (v ≡ (w + length V) + length D)
      by None k u p q = absurd (none_some p)
      by (Some e) k u p q = (first_constant zero (blocks_of bs) e.number + e.place, e, k, sym (ap (λ (z : ℕ × ℕ). z.0) (some_same p)), q ∙ ap (λ n. n + length D) (sym (pair_second p)))

  pub entries_not_bound : Elsewhere (read_over L (entry_reading first (blocks_of bs) (among_items (blocks_of bs)) (length V))) (under_all D nothing)
  entries_not_bound c m v z = let (w, e, k, p, q) = read_as c m v z in ap (under_all D nothing) q ∙ bound_far D (w + length V)

  pub entries_not_free : Elsewhere (read_over L (entry_reading first (blocks_of bs) (among_items (blocks_of bs)) (length V))) (hide_all D (free_among (items_onto (free_variables V) (block_items bs))))
  entries_not_free c m v z = let (w, e, k, p, q) = read_as c m v z in ap free_in_text q ∙ hidden_far D (free_among (items_onto (free_variables V) (block_items bs))) (w + length V) ∙ behind_free V (block_items bs) w ∙ none_free bs w

  pub no_entry : (c : ℕ) → entries_read c ≡ None → entry_constant zero first (blocks_of bs) c ≡ None
  no_entry c z = by (entry_constant zero first (blocks_of bs) c) (over_none L (entry_reading first (blocks_of bs) (among_items (blocks_of bs)) (length V)) c z)
    where
      by : (y : Option EntryConstant) → read_entry (among_items (blocks_of bs)) (length V) y ≡ None → y ≡ None
      by None k = refl
      by (Some e) k = absurd cc

-- with a fact of skeletons
module _ (κ : HeadSkeletons) (Own : ℕ → Bool) (In : Skeleton → Type 0) (parts : (a b : Skeleton) → In (arrow a b) → In a × In b) (own : (t : Skeleton) → In t → Own (skeleton_target t) ≡ true) where
  -- the local types have it, where their own families are ones
  abbrev pub LocalHave : List LfType → Type 0
  LocalHave [] = Unit {0}
  LocalHave (A ∷ L) = (Own (skeleton_target (skeleton A)) ≡ true → In (skeleton A)) × LocalHave L

  pub free_are_good : (V Z : List LfType) (J : List Item) (L D : List LfType) → length L ≡ length D → Good κ Own In parts own (λ x. (X : LfType) → TypeAt V x X → Takes κ Own In parts own (skeleton X)) (hide_all D (free_among (items_onto (free_variables V) J))) (length D) (context_skeletons (onto L (onto V Z)))
  free_are_good V Z J [] [] s i t g f x e h X at = subst (Takes κ Own In parts own) (type_here V Z i t X g (subst (λ j. TypeAt V j X) (sym (some_same e)) at)) h
  free_are_good V Z J [] (E ∷ D) s i t g f x e h X at = absurd cc
  free_are_good V Z J (A ∷ L) [] s i t g f x e h X at = absurd cc
  free_are_good V Z J (A ∷ L) (E ∷ D) s zero t g f x e h X at = absurd (true≢false (sym f))
  free_are_good V Z J (A ∷ L) (E ∷ D) s (suc i) t g f x e h X at = free_are_good V Z J L D (less (length L) (length D) s) i t g f x e h X at
    where
      less : (m n : ℕ) → suc m ≡ suc n → m ≡ n
      less m n e = omega (arith, e)

  pub others_have : (V Z : List LfType) (J : List Item) (L D : List LfType) → length L ≡ length D → LocalHave L → Other κ Own In parts own (hide_all D (free_among (items_onto (free_variables V) J))) (context_skeletons (onto L (onto V Z))) (context_skeletons (onto L V))
  others_have V Z J [] [] s l i t u g h f o = absurd (true≢false (sym (free_here V J i u h) ∙ f))
  others_have V Z J [] (E ∷ D) s l i t u g h f o = absurd cc
  others_have V Z J (A ∷ L) [] s l i t u g h f o = absurd cc
  others_have V Z J (A ∷ L) (E ∷ D) s (a, l) zero t u g h f o = subst In g (a (subst (λ z. Own (skeleton_target z) ≡ true) (sym g) o))
  others_have V Z J (A ∷ L) (E ∷ D) s (a, l) (suc i) t u g h f o = others_have V Z J L D (less (length L) (length D) s) l i t u g h f o
    where
      less : (m n : ℕ) → suc m ≡ suc n → m ≡ n
      less m n e = omega (arith, e)

  -- a type closed over others, and what is left of it behind them
  behind_over : (O : List LfType) (P : LfType) (k : ℕ) → InBehind κ Own In parts own k (skeleton P) → InBehind κ Own In parts own (length O + k) (skeleton (pi_over O P))
  behind_over [] P k h = subst (λ n. InBehind κ Own In parts own n (skeleton P)) (none k) h
    where
      none : (n : ℕ) → n ≡ 0 + n
      none n = omega arith
  behind_over (A ∷ O) P k h = subst (λ n. InBehind κ Own In parts own n (skeleton (pi_over O (pi A P)))) (more (length O) k) (behind_over O (pi A P) (suc k) h)
    where
      more : (l n : ℕ) → l + suc n ≡ suc l + n
      more l n = omega arith

  pub behind_some : (O : List LfType) (P : LfType) → In (skeleton P) → InBehind κ Own In parts own (length O) (skeleton (pi_over O P))
  behind_some O P h = subst (λ n. InBehind κ Own In parts own n (skeleton (pi_over O P))) (none (length O)) (behind_over O P zero h)
    where
      none : (n : ℕ) → n + 0 ≡ n
      none n = omega arith
