-- A case holds a tuple where its numbered form does, with block variables apart where they are: so a split of a case is one of its numbered form, and a
-- run of the numbered form covers the case.
use Rattle.std.proofs.Common.{◌≡◌, ℕ, zero, suc, List, [], ◌∷◌, ◌++◌, length, ◌≤◌, refl, sym, ap, ◌∙◌, subst, inl, inr, arith}
use Rattle.std.specs.Prelude.{Bool, Option, Some, None}
use Rattle.lf.specs.Syntax.{Term, Spine, LfType}
use Rattle.lf.specs.Substitution.{Image, put, substitute, reduce}
use Rattle.lf.specs.Skeletons.{constant_skeletons, context_skeletons}
use Rattle.lf.specs.Typing.{Signature, IsSignature}
use Rattle.lf.specs.Subordination.{Block, AreTypedBlocks, Member, SelfContained}
use Rattle.lf_checks.specs.Below.{IsSubordination}
use Rattle.lf.specs.Worlds.{World, lift_over}
use Rattle.lf.specs.Extension.{Extends}
use Rattle.lf_cases.specs.Case.{Item, free_variable, block_variable, Case, items_context, covered_places}
use Rattle.lf_cases.specs.Missing.{put_in}
use Rattle.lf_cases.specs.Pattern.{Pattern, Known, Holds, given_at}
use Rattle.lf_cases.specs.Split.{HasNoBlockVariable, HasOneBlockVariable, HoldsDistinctly, OneHolds, IsLike, Ends, AllEnd, at_leaf, by_split, no_case, next_case}
use Rattle.lf_cases.proofs.Split.{one_covers_alike}
use Rattle.lf_coverage.specs.Heads.{IsTypedCase, SplitsByHeads}
use Rattle.lf_coverage.proofs.HeadSplit.{places_put_in as places_put}
use Rattle.lf_coverage.proofs.Leaves.{given_skeleton}
use Rattle.lf_coverage.proofs.Parts.{some_same}
use Rattle.lf_coverage.proofs.Runs.{head_split_is_split, split_cases_are_typed}
use Rattle.lf_numbered.specs.EntryConstants.{IsFreeFrom}
use Rattle.lf_numbered.specs.EntryPatternsRuns.{HoldsByNumber, HoldsApart, OneHoldsApart, IsLikeByNumber, IsNumberedSplit, IsNumberedLeaf}
use Rattle.lf_numbered.specs.EntryPatternsLaws.{NumberedRunCovers, NumberedCoversCase, NumberedRunCoversCase, SplitIsNumberedSplit, HeadRunIsByNumber, numbered_all}
use Rattle.lf_numbered.specs.NumberedArguments.{read_all}
use Rattle.lf_numbered.specs.NumberedCase.{NumberedCase}
use Rattle.lf_numbered.specs.Numbering.{numbering, numbered, own_spine}
use Rattle.lf_numbered.specs.OwnTerms.{BlockVariable, blocks_of}
use Rattle.lf_numbered.specs.Reading.{read, entry_reading}
use Rattle.lf_numbered.proofs.EntryPatternsLeaf.{numbered_leaf_is_covered}
use Rattle.lf_numbered.proofs.EntryPatternsNumbers.{distinct_apart, apart_distinct, zeroth_is, first_is}
use Rattle.lf_numbered.proofs.EntryPatternsRuns.{run_covers}
use Rattle.lf_numbered.proofs.NumberedArguments.{numbered_holds_same_tuples, under_same}
use Rattle.lf_numbered.proofs.Numbering.{to_number, from_number}
use Rattle.lf_numbered.proofs.NumberingSteps.{HasInstances}
use Rattle.lf_numbered.proofs.RenamedBlocks.{renamed_length}

longer_by_one : (bs : List BlockVariable) (b : BlockVariable) → length (bs ++ b ∷ []) ≡ suc (length bs)
longer_by_one [] b = refl
longer_by_one (c ∷ bs) b = ap suc (longer_by_one bs b)

-- given terms, read
pub given_from : (f : ℕ → Option (ℕ × ℕ)) (δ : ℕ → Image) (Ms : List (Option Term)) (i : ℕ) (M : Term) → given_at (read_all f (put_in δ Ms)) i ≡ Some M → (N : Term) × (given_at Ms i ≡ Some N) × (M ≡ read f (substitute reduce δ N))
given_from f δ [] i M e = absurd cc
given_from f δ (Some N ∷ Ms) zero M e = (N, refl, sym (some_same e))
given_from f δ (None ∷ Ms) zero M e = absurd cc
given_from f δ (Some N ∷ Ms) (suc i) M e = given_from f δ Ms i M e
given_from f δ (None ∷ Ms) (suc i) M e = given_from f δ Ms i M e

given_into : (f : ℕ → Option (ℕ × ℕ)) (δ : ℕ → Image) (Ms : List (Option Term)) (i : ℕ) (N : Term) → given_at Ms i ≡ Some N → given_at (read_all f (put_in δ Ms)) i ≡ Some (read f (substitute reduce δ N))
given_into f δ [] i N e = absurd cc
given_into f δ (Some M ∷ Ms) zero N e = ap (λ P. Some (read f (substitute reduce δ P))) (some_same e)
given_into f δ (None ∷ Ms) zero N e = absurd cc
given_into f δ (Some M ∷ Ms) (suc i) N e = given_into f δ Ms i N e
given_into f δ (None ∷ Ms) (suc i) N e = given_into f δ Ms i N e

-- at most one block variable
none_numbered : (first : ℕ) (I : List Item) → HasNoBlockVariable I → length (numbering first I).blocks ≡ 0
none_numbered first [] h = refl
none_numbered first (free_variable A ∷ I) h = renamed_length suc (numbering first I).blocks ∙ none_numbered first I h
none_numbered first (block_variable B υ ∷ I) h = absurd h

pub one_numbered : (first : ℕ) (I : List Item) → HasOneBlockVariable I → length (numbering first I).blocks ≤ 1
one_numbered first [] h = omega arith
one_numbered first (free_variable A ∷ I) h = let e = renamed_length suc (numbering first I).blocks in let l = one_numbered first I h in omega (arith, e, l)
one_numbered first (block_variable B υ ∷ I) h = let e = none_numbered first I h in let l = longer_by_one (numbering first I).blocks (record { block = B; terms = own_spine B υ (numbering first I) }) in omega (arith, e, l)

module _ (Σ : Signature) (ok : IsSignature Σ) (W : List Block) (typed : AreTypedBlocks Σ W) (S : ℕ → Bool) (first : ℕ) (free : IsFreeFrom Σ first) (C : Case) (tc : IsTypedCase Σ W C) (Σ' : Signature) (x : Extends S Σ Σ') {G : List LfType} (w : World Σ' W S G) (F : Known) (σ0 : ℕ → Image) (T : Spine) where
  abbrev δ : ℕ → Image
  δ = (numbering first C.items).images

  abbrev f : (ℕ → ℕ → Image) → ℕ → Option (ℕ × ℕ)
  f θ = entry_reading first (blocks_of (numbering first C.items).blocks) θ (length (numbering first C.items).variables)

  pub holds_by_number : (h : Holds w C F σ0 T) → (n : HoldsByNumber w first (numbered first C) F σ0 T) × HasInstances n.instances first w C.items h.values h.is_ground
  holds_by_number h =
      let (θ, ρ, inst, same, link) = to_number Σ Σ' ok S x W typed first free C tc.items w h.values h.is_ground in (
        record {
          instances = θ;
          values = ρ;
          is_ground = inst;
          zeroth = zeroth_is θ first w C h.values h.is_ground link F h.first;
          given = λ i M e.
              let (N, p, q) = given_from (f θ) δ C.given i M e in
              let (a, r) = h.given i N p in
              let (t, m) = given_skeleton (constant_skeletons Σ) (context_skeletons (items_context C.items)) C.given i N tc.given p in
              (a, r ∙ ap (put a) (under_same Σ Σ' ok S x W typed first free C tc.items w h.values h.is_ground θ ρ inst same [] N t m ∙ ap (substitute reduce ρ) (sym q)));
          has_arguments = (numbered_holds_same_tuples Σ Σ' ok S x W typed first free C tc.items tc.arguments G w h.values h.is_ground θ ρ inst same T).0 h.has_arguments;
        },
        link,
      )

  pub holds_apart : HoldsDistinctly w C F σ0 T → HoldsApart w first (numbered first C) F σ0 T
  holds_apart h = let (n, link) = holds_by_number h.holds in record { holds = n; are_apart = distinct_apart n.instances first w C.items h.holds.values h.holds.is_ground link h.is_distinct }

  pub holds_distinctly : HoldsApart w first (numbered first C) F σ0 T → HoldsDistinctly w C F σ0 T
  holds_distinctly h =
      let n = h.holds in
      let (σ, g, same, link) = from_number Σ Σ' ok S x W typed first free C tc.items w n.instances n.values n.is_ground in
      record {
        holds = record {
          values = σ;
          is_ground = g;
          first = first_is n.instances first w C σ g link F n.zeroth;
          given = λ i N p.
              let (a, r) = n.given i (read (f n.instances) (substitute reduce δ N)) (given_into (f n.instances) δ C.given i N p) in
              let (t, m) = given_skeleton (constant_skeletons Σ) (context_skeletons (items_context C.items)) C.given i N tc.given p in
              (a, r ∙ ap (put a) (sym (under_same Σ Σ' ok S x W typed first free C tc.items w σ g n.instances n.values n.is_ground same [] N t m)));
          has_arguments = (numbered_holds_same_tuples Σ Σ' ok S x W typed first free C tc.items tc.arguments G w σ g n.instances n.values n.is_ground same T).1 n.has_arguments;
        };
        is_distinct = apart_distinct n.instances first w C.items σ g link h.are_apart;
      }

pub numbered_covers_case : NumberedCoversCase
numbered_covers_case Σ ok W typed S first free ps C tc cov Σ' x G w F σ T h = one_covers_alike w ps (covered_places C.arguments) (covered_places (numbered first C).arguments) F C.given (numbered first C).given σ T (places_put (lift_over C.local (numbering first C.items).images) C.arguments) (places_put (numbering first C.items).images C.given) (cov Σ' x G w F σ T (holds_by_number Σ ok W typed S first free C tc Σ' x w F σ T h).0)

pub numbered_run_covers : NumberedRunCovers
numbered_run_covers Σ ok W typed S first free ps C n e = run_covers Σ first W S ps (IsNumberedLeaf Σ first W ps) (λ D l. numbered_leaf_is_covered Σ ok W typed S first free ps D l) C n e

pub numbered_run_covers_case : NumberedRunCoversCase
numbered_run_covers_case Σ ok W typed S first free ps C n tc e = numbered_covers_case Σ ok W typed S first free ps C tc (numbered_run_covers Σ ok W typed S first free ps (numbered first C) (one_numbered first C.items n) e)

pub split_is_numbered_split : SplitIsNumberedSplit
split_is_numbered_split Σ ok W typed S first free C Cs tc tcs s = record {
  like = λ D m. like Cs (λ E k. s.like E k) D m;
  holds = λ Σ' x G w F σ T h. one Cs tcs Σ' x w F σ T (s.holds Σ' x G w F σ T (holds_distinctly Σ ok W typed S first free C tc Σ' x w F σ T h));
}
  where
    like : (Ds : List Case) → ((E : Case) → Member E Ds → IsLike C E) → (D : NumberedCase) → Member D (numbered_all first Ds) → IsLikeByNumber (numbered first C) D
    like [] l D m = absurd m
    like (E ∷ Ds) l D (inl q) = subst (IsLikeByNumber (numbered first C)) (sym q) (let k = l E (inl refl) in record {
      family = k.family;
      places = places_put (lift_over E.local (numbering first E.items).images) E.arguments ∙ k.places ∙ sym (places_put (lift_over C.local (numbering first C.items).images) C.arguments);
      given = places_put (numbering first E.items).images E.given ∙ k.given ∙ sym (places_put (numbering first C.items).images C.given);
    })
    like (E ∷ Ds) l D (inr m) = like Ds (λ K k. l K (inr k)) D m

    one : (Ds : List Case) → ((D : Case) → Member D Ds → IsTypedCase Σ W D) → (Σ' : Signature) (x : Extends S Σ Σ') {G : List LfType} (w : World Σ' W S G) (F : Known) (σ : ℕ → Image) (T : Spine) → OneHolds w Ds F σ T → OneHoldsApart w first (numbered_all first Ds) F σ T
    one [] t Σ' x w F σ T h = absurd h
    one (D ∷ Ds) t Σ' x w F σ T (inl h) = inl (holds_apart Σ ok W typed S first free D (t D (inl refl)) Σ' x w F σ T h)
    one (D ∷ Ds) t Σ' x w F σ T (inr h) = inr (one Ds (λ E m. t E (inr m)) Σ' x w F σ T h)

module _ (Σ : Signature) (ok : IsSignature Σ) (W : List Block) (typed : AreTypedBlocks Σ W) (below : ℕ → ℕ → Bool) (sub : IsSubordination Σ W below) (S : ℕ → Bool) (sc : SelfContained Σ W S) (first : ℕ) (free : IsFreeFrom Σ first) (ps : List Pattern) (Ls : List Case) (leaf : (D : Case) → Member D Ls → IsNumberedLeaf Σ first W ps (numbered first D)) where
  mutual
    head_run : {C : Case} → IsTypedCase Σ W C → Ends (λ D. Member D Ls) (SplitsByHeads Σ W S below) C → Ends (IsNumberedLeaf Σ first W ps) (IsNumberedSplit Σ first W S) (numbered first C)
    head_run t (at_leaf {C = C} m) = at_leaf (leaf C m)
    head_run t (by_split {C = C} Cs (x, s) r) =
        let ts = split_cases_are_typed Σ ok W below S C t x Cs s in
        by_split (numbered_all first Cs) (split_is_numbered_split Σ ok W typed S first free C Cs t ts (head_split_is_split Σ ok W typed below sub S sc C t x Cs s)) (head_runs ts r)

    head_runs : {Cs : List Case} → ((D : Case) → Member D Cs → IsTypedCase Σ W D) → AllEnd (λ D. Member D Ls) (SplitsByHeads Σ W S below) Cs → AllEnd (IsNumberedLeaf Σ first W ps) (IsNumberedSplit Σ first W S) (numbered_all first Cs)
    head_runs ts no_case = no_case
    head_runs ts (next_case {C = C} e r) = next_case (head_run (ts C (inl refl)) e) (head_runs (λ D m. ts D (inr m)) r)

pub head_run_is_by_number : HeadRunIsByNumber
head_run_is_by_number Σ ok W typed below sub S sc first free ps C t Ls leaf r = head_run Σ ok W typed below sub S sc first free ps Ls leaf t r
