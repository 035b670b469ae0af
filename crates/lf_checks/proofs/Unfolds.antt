-- A clause is well-moded exactly where it is moded and its hypotheses are well-moded.
use Rattle.std.proofs.Common.{ℕ, zero, suc, List, ◌∷◌}
use Rattle.std.specs.Prelude.{Bool, true, false, ◌↔◌}
use Rattle.lf.specs.Syntax.{LfType, pi, atom}
use Rattle.lf.specs.Typing.{Signature}
use Rattle.lf.specs.Entries.{quantifiers}
use Rattle.lf.specs.Variables.{target, under}
use Rattle.lf_checks.specs.Tests.{choose}
use Rattle.lf_checks.specs.Clause.{Clause, scope, variables, outside}
use Rattle.lf_checks.specs.Marks.{Mark, HasSoundMarks, input_places}
use Rattle.lf_checks.specs.Ground.{EachSubgoal, ground_after, ground_from, UsesGoal}
use Rattle.lf_checks.specs.Modes.{EachHypothesis, AllGround, IsModed, WellModedTo, WellModedFrom}

choose_map : (b : Bool) {A A' B B' : Type 0} → (A → A') → (B → B') → choose b A B → choose b A' B'
choose_map true f g h = f h
choose_map false f g h = g h

choose_collect : (b : Bool) (A B : ℕ → Type 0) → ((n : ℕ) → choose b (A n) (B n)) → choose b ((n : ℕ) → A n) ((n : ℕ) → B n)
choose_collect true A B h = h
choose_collect false A B h = h

hypotheses_map : (P P' : (ℕ → Bool) → Clause → Type 0) → ((V : ℕ → Bool) (c : Clause) → P V c → P' V c) → (moded : ℕ → Bool) (C : List LfType) (F U : ℕ → Bool) (A : LfType) → EachHypothesis P moded C F U A → EachHypothesis P' moded C F U A
hypotheses_map P P' f moded C F U (pi A B) (h, k) = (choose_map (moded (target A)) (f U (record { outer = C; fixed = F; type = A })) (λ t. t) h, hypotheses_map P P' f moded (A ∷ C) (under F) (under U) B k)
hypotheses_map P P' f moded C F U (atom a S) h = tt

hypotheses_collect : (P : ℕ → (ℕ → Bool) → Clause → Type 0) (moded : ℕ → Bool) (C : List LfType) (F U : ℕ → Bool) (A : LfType) → ((n : ℕ) → EachHypothesis (P n) moded C F U A) → EachHypothesis (λ V c. (n : ℕ) → P n V c) moded C F U A
hypotheses_collect P moded C F U (pi A B) h = (choose_map (moded (target A)) (λ k. k) (λ k. tt) (choose_collect (moded (target A)) _ _ (λ n. (h n).0)), hypotheses_collect P moded (A ∷ C) (under F) (under U) B (λ n. (h n).1))
hypotheses_collect P moded C F U (atom a S) h = tt

subgoals_map : (m : ℕ → List Mark) (c : Clause) (P P' : (ℕ → Bool) → LfType → Type 0) (Q : (ℕ → Bool) → Type 0) → ((U : ℕ → Bool) (A : LfType) → P U A → P' U A) → (n i : ℕ) (U : ℕ → Bool) → EachSubgoal m c P Q n i U → EachSubgoal m c P' Q n i U
subgoals_map m c P P' Q f zero i U h = h
subgoals_map m c P P' Q f (suc n) i U h = choose_map (variables c i) (λ k. subgoals_map m c P P' Q f n (suc i) U k) (λ k A g. (f U A (k A g).0, subgoals_map m c P P' Q f n (suc i) (ground_after m c A U) (k A g).1)) h

subgoals_collect : (m : ℕ → List Mark) (c : Clause) (P : ℕ → (ℕ → Bool) → LfType → Type 0) (Q : (ℕ → Bool) → Type 0) (n i : ℕ) (U : ℕ → Bool) → ((j : ℕ) → EachSubgoal m c (P j) Q n i U) → EachSubgoal m c (λ V A. (j : ℕ) → P j V A) Q n i U
subgoals_collect m c P Q zero i U h = h 0
subgoals_collect m c P Q (suc n) i U h = choose_map (variables c i) (λ k. subgoals_collect m c P Q n (suc i) U k) (λ k A g. ((λ j. (k j A g).0), subgoals_collect m c P Q n (suc i) (ground_after m c A U) (λ j. (k j A g).1))) (choose_collect (variables c i) _ _ h)

pub unfolds : (Σ : Signature) (m : ℕ → List Mark) (moded V : ℕ → Bool) (c : Clause) → WellModedFrom Σ m moded V c → IsModed (WellModedFrom Σ m moded) Σ m moded V c
unfolds Σ m moded V c h =
    let P : ℕ → (ℕ → Bool) → LfType → Type 0 = λ j U A. HasSoundMarks Σ (target A) (m (target A)) × UsesGoal U (input_places (m (target A))) A × EachHypothesis (WellModedTo j Σ m moded) moded (scope c) (outside c.type c.fixed) U A in
    let P' : (ℕ → Bool) → LfType → Type 0 = λ U A. HasSoundMarks Σ (target A) (m (target A)) × UsesGoal U (input_places (m (target A))) A × EachHypothesis (WellModedFrom Σ m moded) moded (scope c) (outside c.type c.fixed) U A in
    ((h 1).0, subgoals_map m c (λ U A. (j : ℕ) → P j U A) P' (λ U. AllGround m c U) (λ U A k. ((k 0).0, (k 0).1, hypotheses_collect (λ j. WellModedTo j Σ m moded) moded (scope c) (outside c.type c.fixed) U A (λ j. (k j).2))) (quantifiers c.type) zero (ground_from V m c) (subgoals_collect m c P (λ U. AllGround m c U) (quantifiers c.type) zero (ground_from V m c) (λ j. (h (suc j)).1)))

pub folds : (Σ : Signature) (m : ℕ → List Mark) (moded V : ℕ → Bool) (c : Clause) → IsModed (WellModedFrom Σ m moded) Σ m moded V c → WellModedFrom Σ m moded V c
folds Σ m moded V c (s, h) zero = tt
folds Σ m moded V c (s, h) (suc n) =
    let P' : (ℕ → Bool) → LfType → Type 0 = λ U A. HasSoundMarks Σ (target A) (m (target A)) × UsesGoal U (input_places (m (target A))) A × EachHypothesis (WellModedTo n Σ m moded) moded (scope c) (outside c.type c.fixed) U A in
    let P : (ℕ → Bool) → LfType → Type 0 = λ U A. HasSoundMarks Σ (target A) (m (target A)) × UsesGoal U (input_places (m (target A))) A × EachHypothesis (WellModedFrom Σ m moded) moded (scope c) (outside c.type c.fixed) U A in
    (s, subgoals_map m c P P' (λ U. AllGround m c U) (λ U A k. (k.0, k.1, hypotheses_map (WellModedFrom Σ m moded) (WellModedTo n Σ m moded) (λ W d k. k n) moded (scope c) (outside c.type c.fixed) U A k.2)) (quantifiers c.type) zero (ground_from V m c) h)

pub both_ways : (Σ : Signature) (m : ℕ → List Mark) (moded V : ℕ → Bool) (c : Clause) → WellModedFrom Σ m moded V c ↔ IsModed (WellModedFrom Σ m moded) Σ m moded V c
both_ways Σ m moded V c = (unfolds Σ m moded V c, folds Σ m moded V c)
