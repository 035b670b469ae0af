-- The arguments of a case and the tuple of a linear and full clause: without a candidate values make the one the other.
use Rattle.std.proofs.Common.{◌≡◌, ℕ, zero, List, [], ◌∷◌, length, inl, inr, refl, sym, ap₂, ◌∙◌, subst}
use Rattle.std.specs.Prelude.{◌≤◌, ◌++◌, Bool, true, Option, Some, None}
use Rattle.lf.specs.Syntax.{Term, Spine, nil, app, LfType, Kind, pi, atom, kind_pi, star, Skeleton, skeleton, kind_skeleton}
use Rattle.lf.specs.Substitution.{Image, lift, single, substitute, substitute_spine, substitute_kind, reduce}
use Rattle.lf.specs.AtOnce.{lift_by}
use Rattle.lf.specs.SkeletonTyping.{TermSkeleton}
use Rattle.lf.specs.Skeletons.{constant_skeletons, context_skeletons}
use Rattle.lf.specs.Typing.{Signature, SpineFitsKind, instantiate_kind}
use Rattle.lf.specs.Variables.{onto, target, Within}
use Rattle.lf.specs.Subordination.{Quantifies, KindQuantifies, below_in_constant, below_in_kind}
use Rattle.lf.proofs.ToSkeletons.{typed_has_skeleton, kind_skeleton_substituted}
use Rattle.lf_checks.specs.Below.{IsSubordination}
use Rattle.lf_checks.specs.Marks.{SamePlaces}
use Rattle.lf_cases.specs.Case.{HasArguments, covered_places}
use Rattle.lf_cases.specs.Candidates.{candidates, candidates_at}
use Rattle.lf_cases.specs.Full.{occurrences, occurrences_at, AreFullPlaces}
use Rattle.lf_cases.proofs.Subordinate.{below_is_subordination}
use Rattle.lf_coverage.specs.Subordinate.{QuantifiersAreBelow, AllQuantifiersAreBelow}
use Rattle.lf_coverage.specs.TypedCase.{TypedArguments}
use Rattle.lf_coverage.specs.TermMatching.{TakesBound, bound, hidden, over, Stay, TakesBack, GivesSkeletons, HasMatch}
use Rattle.lf_coverage.specs.FullMatching.{AllHavePatterns, PlacesHavePatterns, PlacesMatch, FullPlacesMatch}
use Rattle.lf_coverage.proofs.Choices.{then_first, then_second}
use Rattle.lf_coverage.proofs.UnderBound.{takes_back, kept_outside}
use Rattle.lf_coverage.proofs.Occurring.{stays, other_part, at_most_first, at_most_second, sum_first, sum_second}
use Rattle.lf_coverage.proofs.TermMatching.{match_terms, gives_still}
use Rattle.lf_coverage.proofs.LowTerms.{below_substituted}
use Rattle.lf_coverage.proofs.FullTakes.{HasSkeletons, full_takes}
use Rattle.lf_coverage.proofs.Parts.{second_same, first_same}
use Rattle.lf_coverage.proofs.PatternDistinct.{length_context as length_own}

-- the types of the places quantify over what is below
abbrev PlacesQuantify : (ℕ → ℕ → Bool) → Kind → Type 0
PlacesQuantify below (kind_pi A K) = QuantifiersAreBelow below A × PlacesQuantify below K
PlacesQuantify below star = Unit {0}

skeletons_onto : (D : List LfType) (Ds : List Skeleton) (C : List LfType) → HasSkeletons D Ds → context_skeletons (onto D C) ≡ Ds ++ context_skeletons C
skeletons_onto [] [] C h = refl
skeletons_onto [] (a ∷ Ds) C h = absurd h
skeletons_onto (A ∷ D) [] C h = absurd h
skeletons_onto (A ∷ D) (a ∷ Ds) C (e, h) = ap₂ (λ x xs. x ∷ xs) e (skeletons_onto D Ds C h)

has_own : (D : List LfType) → HasSkeletons D (context_skeletons D)
has_own [] = tt
has_own (A ∷ D) = (refl, has_own D)

quantified : (below : ℕ → ℕ → Bool) (A : LfType) → ((a b : ℕ) → Quantifies a b A → below b a ≡ true) → QuantifiersAreBelow below A
quantified below (pi A B) h = (h (target A) (target B) (inl (refl, refl)), quantified below A (λ a b q. h a b (inr (inl q))), quantified below B (λ a b q. h a b (inr (inr q))))
quantified below (atom a T) h = tt

places_quantify : (below : ℕ → ℕ → Bool) (f : ℕ) (K : Kind) → ((a b : ℕ) → KindQuantifies f a b K → below b a ≡ true) → PlacesQuantify below K
places_quantify below f (kind_pi A K) h = (quantified below A (λ a b q. h a b (inr (inl q))), places_quantify below f K (λ a b q. h a b (inr (inr q))))
places_quantify below f star h = tt

module _ (Σ : Signature) (below : ℕ → ℕ → Bool) (through : (f g : ℕ) → below f g ≡ true → Within (below g) (below f)) (itself : (f : ℕ) → below f f ≡ true) (constants : (c : ℕ) (U : LfType) → Σ.types c ≡ Some U → QuantifiersAreBelow below U) (C Δ : List LfType) (F P : ℕ → Bool) (σ τ : ℕ → Image) (fs : Stay (context_skeletons Δ) F σ) (ps : Stay (context_skeletons C) P τ) where
  places_substituted : (υ : ℕ → Image) (K : Kind) → PlacesQuantify below K → PlacesQuantify below (substitute_kind reduce υ K)
  places_substituted υ (kind_pi A K) (q, k) = (below_substituted Σ below through itself constants reduce υ A q, places_substituted (lift υ) K k)
  places_substituted υ star k = tt

  match_places : (Ds : List Skeleton) (D D' : List LfType) (θ : ℕ → Image) (Ms : List (Option Term)) (T O V : Spine) (K' K : Kind) → HasSkeletons D Ds → HasSkeletons D' Ds → AllQuantifiersAreBelow below (onto D' Δ) → TakesBack F P σ τ θ → GivesSkeletons Σ (context_skeletons Δ) (context_skeletons C) P θ → PlacesQuantify below K' → kind_skeleton zero K' ≡ kind_skeleton zero K → TypedArguments Σ (onto D' Δ) Ms O K' → SpineFitsKind Σ (onto D C) T K → AllHavePatterns (bound (length Ds)) (hidden (length Ds) F) Ms → PlacesHavePatterns (bound (length Ds)) (hidden (length Ds) P) (covered_places Ms) T → ((x : ℕ) → P x ≡ true → occurrences_at (covered_places Ms) (over (length Ds) x) T ≤ 1) → AreFullPlaces Σ below C (hidden (length Ds) P) D (covered_places Ms) T K → HasArguments (lift_by (length Ds) σ) Ms V → SamePlaces (covered_places Ms) V (substitute_spine reduce (lift_by (length Ds) τ) T) → candidates_at (bound (length Ds)) (hidden (length Ds) F) (hidden (length Ds) P) (length Ds) Ms T ≡ [] → PlacesMatch Σ Δ C P (length Ds) θ Ms T
  match_places Ds D D' θ [] nil O V K' K h h' g b w q e m n hm hn o f a s k = record { values = θ; skeletons = λ z. z; others = λ x z. refl; same = tt }
  match_places Ds D D' θ [] (app N T) O nil K' K h h' g b w q e m n hm hn o f a s k = absurd s
  match_places Ds D D' θ [] (app N T) O (app V1 V) K' K h h' g b w q e m n hm hn o f a s k = absurd s
  match_places Ds D D' θ (M ∷ Ms) nil O nil K' K h h' g b w q e m n hm hn o f a s k = absurd a
  match_places Ds D D' θ (Some M ∷ Ms) nil O (app V1 V) K' K h h' g b w q e m n hm hn o f a s k = absurd s
  match_places Ds D D' θ (None ∷ Ms) nil O (app V1 V) K' K h h' g b w q e m n hm hn o f a s k = absurd s
  match_places Ds D D' θ (M ∷ Ms) (app N T) O nil K' K h h' g b w q e m n hm hn o f a s k = absurd a
  match_places Ds D D' θ (M ∷ Ms) (app N T) nil (app V1 V) K' K h h' g b w q e m n hm hn o f a s k = absurd m
  match_places Ds D D' θ (M ∷ Ms) (app N T) (app O1 O) (app V1 V) star K h h' g b w q e m n hm hn o f a s k = absurd m
  match_places Ds D D' θ (M ∷ Ms) (app N T) (app O1 O) (app V1 V) (kind_pi A' K') star h h' g b w q e m n hm hn o f a s k = absurd n
  match_places Ds D D' θ (None ∷ Ms) (app N T) (app O1 O) (app V1 V) (kind_pi A' K') (kind_pi A K) h h' g b w (qa, q) e m (n, ns) hm hn o f a s k =
      let r : PlacesMatch Σ Δ C P (length Ds) θ Ms T = match_places Ds D D' θ Ms T O V (instantiate_kind A' O1 K') (instantiate_kind A N K) h h' g b w (places_substituted (single (skeleton A') O1) K' q) (kind_skeleton_substituted zero reduce (single (skeleton A') O1) K' ∙ second_same e ∙ sym (kind_skeleton_substituted zero reduce (single (skeleton A) N) K)) m ns hm hn o f a s k in
      record { values = r.values; skeletons = r.skeletons; others = r.others; same = r.same }
  match_places Ds D D' θ (Some M ∷ Ms) (app N T) (app O1 O) (app V1 V) (kind_pi A' K') (kind_pi A K) h h' g b w (qa, q) e (m, ms) (n, ns) (hm, hms) (hn, hns) o (f, fs') (a, ar) (s, ss) k =
      let l : ℕ = length Ds in
      let places : List Bool = covered_places Ms in
      let here : List ℕ = candidates (bound l) (hidden l F) (hidden l P) l M N in
      let rest : List ℕ = candidates_at (bound l) (hidden l F) (hidden l P) l Ms T in
      let same : substitute reduce (lift_by l σ) M ≡ substitute reduce (lift_by l τ) N = sym a ∙ s in
      let takes : TakesBound (bound l) (hidden l P) M N = full_takes Σ below through itself constants C Δ F P σ τ θ fs ps b w Ds D D' M N A' A h h' g qa (first_same e) m n f hm same (then_first here rest k) in
      let m' : TermSkeleton (constant_skeletons Σ) (Ds ++ context_skeletons Δ) M (skeleton A) = subst (λ z. TermSkeleton (constant_skeletons Σ) (Ds ++ context_skeletons Δ) M z) (first_same e) (subst (λ G. TermSkeleton (constant_skeletons Σ) G M (skeleton A')) (skeletons_onto D' Ds Δ h') (typed_has_skeleton Σ (onto D' Δ) M A' m)) in
      let n' : TermSkeleton (constant_skeletons Σ) (Ds ++ context_skeletons C) N (skeleton A) = subst (λ G. TermSkeleton (constant_skeletons Σ) G N (skeleton A)) (skeletons_onto D Ds C h) (typed_has_skeleton Σ (onto D C) N A n) in
      let r : HasMatch Σ (context_skeletons Δ) (context_skeletons C) P l θ M N = match_terms Σ (context_skeletons Δ) (context_skeletons C) F P Ds σ τ θ M N (skeleton A) fs ps b w m' n' hm hn (λ x p. at_most_first (occurrences (over l x) N) (occurrences_at places (over l x) T) (o x p)) takes same (then_first here rest k) in
      let b' : TakesBack F P σ τ r.values = takes_back F P σ τ θ r.values (kept_outside P θ r.values (λ x. occurrences (over l x) N ≡ 0) r.others) b in
      let v : PlacesMatch Σ Δ C P l r.values Ms T = match_places Ds D D' r.values Ms T O V (instantiate_kind A' M K') (instantiate_kind A N K) h h' g b' (gives_still Σ (context_skeletons Δ) (context_skeletons C) F P θ r.values (kept_outside P θ r.values (λ x. occurrences (over l x) N ≡ 0) r.others) w) (places_substituted (single (skeleton A') M) K' q) (kind_skeleton_substituted zero reduce (single (skeleton A') M) K' ∙ second_same e ∙ sym (kind_skeleton_substituted zero reduce (single (skeleton A) N) K)) ms ns hms hns (λ x p. at_most_second (occurrences (over l x) N) (occurrences_at places (over l x) T) (o x p)) fs' ar ss (then_second here rest k) in
      record {
        values = v.values;
        skeletons = λ z. v.skeletons (r.skeletons z);
        others = λ x z. v.others x (λ p. sum_second (occurrences (over l x) N) (occurrences_at places (over l x) T) (z p)) ∙ r.others x (λ p. sum_first (occurrences (over l x) N) (occurrences_at places (over l x) T) (z p));
        same = (sym (stays P l r.values v.values N (λ x z. v.others x (λ p. other_part (occurrences (over l x) N) (occurrences_at places (over l x) T) (o x p) (z p))) ∙ r.same), v.same);
      }

pub full_places_match : FullPlacesMatch
full_places_match Σ ok W bs below t C Δ D D' F P σ τ θ fs ps b w a K e Ms T O V h g m n hm hn o f ar s k =
    let sub : IsSubordination Σ W below = below_is_subordination Σ ok W bs below t in
    let Ds : List Skeleton = context_skeletons D in
    let l : length Ds ≡ length D = length_own D in
    let r : PlacesMatch Σ Δ C P (length Ds) θ Ms T = match_places Σ below sub.through sub.itself (λ c U z. quantified below U (λ x y q. (t y x).1 (below_in_constant c U z q))) C Δ F P σ τ fs ps Ds D D' θ Ms T O V K K (has_own D) (subst (HasSkeletons D') (sym h) (has_own D')) g b w (places_quantify below a K (λ x y q. (t y x).1 (below_in_kind a K e q))) refl m n
    (subst (λ i. AllHavePatterns (bound i) (hidden i F) Ms) (sym l) hm)
    (subst (λ i. PlacesHavePatterns (bound i) (hidden i P) (covered_places Ms) T) (sym l) hn)
    (subst (λ i. (x : ℕ) → P x ≡ true → occurrences_at (covered_places Ms) (over i x) T ≤ 1) (sym l) o)
    (subst (λ i. AreFullPlaces Σ below C (hidden i P) D (covered_places Ms) T K) (sym l) f)
    (subst (λ i. HasArguments (lift_by i σ) Ms V) (sym l) ar)
    (subst (λ i. SamePlaces (covered_places Ms) V (substitute_spine reduce (lift_by i τ) T)) (sym l) s)
    (subst (λ i. candidates_at (bound i) (hidden i F) (hidden i P) i Ms T ≡ []) (sym l) k) in
    subst (λ i. PlacesMatch Σ Δ C P i θ Ms T) l r
